-- The registers are those of the events.
use Rattle.std.proofs.Common.{◌||◌, ◌==◌, ◌∙◌, ap, sym}
use Rattle.model.specs.Design.{Trigger}
use Rattle.certificates.specs.Marks.{is_marked}
use Rattle.certificates.proofs.Tests.{any_mapped}
use Rattle.certificates.proofs.triggers.Masked+Trigger.mark_registers.Goals as goal

pub returns : goal.returns
returns c =
    λ r. c.in_ok-mark_all.ensures r ∙ ap (λ b. is_marked c.args.marks.now.items r || b) (sym (any_mapped (λ q. q == r) (λ (t : Trigger). t.1) c.args.self.now))
