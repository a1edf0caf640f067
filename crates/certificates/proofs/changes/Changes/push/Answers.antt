-- The list has one change more, where there is room for it.
use Rattle.std.proofs.Common.{map, if◌then◌else◌, [], ◌∷◌, ◌++◌, ◌∙◌, ap}
use Rattle.std.specs.Prelude.{is_ok}
use Rattle.certificates.specs.Changes.{register_change_of}
use Rattle.certificates.proofs.Masks.{changes_pushed}
use Rattle.certificates.proofs.changes.Changes.push.Goals as goal

pub returns : goal.returns
returns c =
    ap (map register_change_of) c.push.ensures ∙ changes_pushed (is_ok c.push.result) c.self.inside.list c.args.change
    ∙ ap (λ cs. if is_ok c.push.result then cs ++ register_change_of c.args.change ∷ [] else cs) c.self.view_is
