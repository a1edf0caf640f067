-- The registers are those of the events.
use Rattle.std.proofs.Common.{◌∙◌, sym}
use Rattle.model.specs.Design.{Trigger}
use Rattle.certificates.specs.Marks.{is_marked}
use Rattle.certificates.proofs.Tests.{any_mapped}
use Rattle.certificates.proofs.triggers.Masked+Trigger.is_any_register_marked.Goals as goal

pub returns : goal.returns
returns c = c.is_any_marked.ensures ∙ sym (any_mapped (λ r. is_marked c.args.marks.now r) (λ (t : Trigger). t.1) c.args.self.now)
