-- The title and both sides were put.
use Rattle.std.proofs.Common.{refl, codes}
use Rattle.differences.proofs.Told.{parting_put}
use Rattle.differences.proofs.comparison.push_parting.Goals as goal

pub returns-in-Ok-push_side-clause-put : goal.returns-in-Ok-push_side-clause-put
returns-in-Ok-push_side-clause-put c =
    parting_put c.args.names.now c.args.first.now c.args.second.now c.args.count _ _ c.args.text.now.items c.push_title.new.text.items c.push_side.new.text.items c.push_side-2.new.text.items
    refl refl c.in_ok-push_title.ensures (codes "  first: ") (codes "  second: ") c.in-Ok.ensures.put c.in-Ok-push_side.ensures.put refl refl
