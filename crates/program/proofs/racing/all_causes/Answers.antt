-- Texts behind so many, or so many themselves.
use Rattle.std.proofs.Common.{length}
use Rattle.causes.specs.Causes.{HasAnswer}
use Rattle.program.proofs.Causing.{answered_all}
use Rattle.program.proofs.racing.all_causes.Goals as goal

pub returns-clause-answered : goal.returns-clause-answered
returns-clause-answered g c =
    answered_all c.args.texts (length c.args.shown.now) c.place_behind.result (HasAnswer c.args.search.found.now c.args.causes) (HasAnswer c.args.search.found.now c.explain.new.self)
    (c.place_behind.ensures (length c.args.shown.now)) c.requires.answered c.explain.ensures.answered
