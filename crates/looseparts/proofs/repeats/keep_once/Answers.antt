-- It was there, or is the last.
use Rattle.std.proofs.Common.{subst}
use Rattle.looseparts.specs.GoneWays.{HasSame}
use Rattle.looseparts.proofs.GoneAgain.{known_once, new_once}
use Rattle.looseparts.proofs.repeats.keep_once.Goals as goal

pub returns-then-is_kept : goal.returns-then-is_kept
returns-then-is_kept c = known_once c.args.kept.now.items c.args.gone (subst (λ l. HasSame l c.args.gone) c.deref.ensures.value (c.is_kept.ensures c.if-is_kept.true))

pub returns : goal.returns
returns c = new_once c.args.kept.now.items c.push.new.self.items c.args.gone c.in_ok-push.ensures.items
