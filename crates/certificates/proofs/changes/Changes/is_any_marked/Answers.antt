-- The registers are those of the changes as they are noted.
use Rattle.std.proofs.Common.{◌∙◌, ap, sym}
use Rattle.std.specs.List.{list_any}
use Rattle.footprints.specs.Footprints.{changed_registers}
use Rattle.certificates.specs.Marks.{is_marked}
use Rattle.certificates.proofs.Masks.{any_changed}
use Rattle.certificates.proofs.changes.Changes.is_any_marked.Goals as goal

pub returns : goal.returns
returns c =
    let marks = c.args.marks.now in
    c.is_any_marked.ensures ∙ sym (any_changed (λ r. is_marked marks r) c.self.inside.list) ∙ ap (λ cs. list_any (λ r. is_marked marks r) (changed_registers cs)) c.self.view_is
