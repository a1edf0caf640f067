-- The registers are those of the changes as they are noted.
use Rattle.std.proofs.Common.{◌||◌, ◌==◌, ◌∙◌, ap, sym}
use Rattle.model.specs.Turns.{contains}
use Rattle.footprints.specs.Footprints.{changed_registers}
use Rattle.certificates.specs.Marks.{is_marked}
use Rattle.certificates.proofs.Masks.{any_changed}
use Rattle.certificates.proofs.changes.Changes.mark_all.Goals as goal

pub returns : goal.returns
returns c =
    λ r. c.in_ok-mark_all.ensures r
    ∙ ap (λ b. is_marked c.args.marks.now.items r || b) (sym (any_changed (λ q. q == r) c.self.inside.list) ∙ ap (λ cs. contains (changed_registers cs) r) c.self.view_is)
