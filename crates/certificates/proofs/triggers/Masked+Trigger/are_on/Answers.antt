-- A register whose bit isn't in the mask is that of no event.
use Rattle.std.proofs.Common.{◌==◌, ◌∙◌, ap, sym}
use Rattle.std.specs.List.{list_any}
use Rattle.model.specs.Design.{Trigger}
use Rattle.certificates.specs.Masks.{has_number}
use Rattle.certificates.proofs.Tests.{any_mapped}
use Rattle.certificates.proofs.triggers.Masked+Trigger.are_on.Goals as goal

pub returns-then-may_have : goal.returns-then-may_have
returns-then-may_have c =
    let r = c.args.register in
    c.is_any_on.ensures ∙ ap (λ ts. list_any (λ (t : Trigger). t.1 == r) ts) c.as_slice.ensures
    ∙ sym (any_mapped (λ q. q == r) (λ (t : Trigger). t.1) c.args.self.now)

pub returns-else-may_have : goal.returns-else-may_have
returns-else-may_have c =
    let ts = c.args.self.now in
    let r = c.args.register in
    c.if-may_have.false
    ∙ sym (any_mapped (λ q. q == r) (λ (t : Trigger). t.1) ts ∙ c.may_have.ensures (has_number (λ (t : Trigger). t.1) ts) c.mask.ensures c.if-may_have.false)
