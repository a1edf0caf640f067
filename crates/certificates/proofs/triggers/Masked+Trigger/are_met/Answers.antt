-- A register whose bit isn't in the mask is that of no event.
use Rattle.std.proofs.Common.{◌==◌, ◌∙◌, ap, sym}
use Rattle.model.specs.Design.{Trigger}
use Rattle.design.specs.ControlWaking.{wakes_by}
use Rattle.certificates.specs.Masks.{has_number}
use Rattle.certificates.proofs.Tests.{any_mapped}
use Rattle.certificates.proofs.Masks.{unawaited}
use Rattle.certificates.proofs.triggers.Masked+Trigger.are_met.Goals as goal

pub returns-then-may_have : goal.returns-then-may_have
returns-then-may_have c = c.is_any_met.ensures ∙ ap (λ ts. wakes_by ts c.args.register c.args.edge) c.as_slice.ensures

pub returns-else-may_have : goal.returns-else-may_have
returns-else-may_have c =
    let ts = c.args.self.now in
    let r = c.args.register in
    c.if-may_have.false
    ∙ sym (unawaited ts r c.args.edge
    (any_mapped (λ q. q == r) (λ (t : Trigger). t.1) ts ∙ c.may_have.ensures (has_number (λ (t : Trigger). t.1) ts) c.mask.ensures c.if-may_have.false))
