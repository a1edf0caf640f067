-- What is left was there.
use Rattle.std.proofs.Common.{subst}
use Rattle.std.specs.List.{Contains}
use Rattle.looseparts.proofs.Lists.{removed_from}
use Rattle.looseparts.proofs.find.take_meeting.Goals as goal

pub returns : goal.returns
returns c = λ part there. removed_from c.args.parts.now.items c.in_ok-place.place part (subst (λ z. Contains z part) c.remove.ensures.items there)
