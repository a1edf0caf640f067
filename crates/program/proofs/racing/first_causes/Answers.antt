-- All texts but the first one.
use Rattle.std.proofs.Common.{inl}
use Rattle.program.proofs.racing.first_causes.Goals as goal

pub returns-clause-answered : goal.returns-clause-answered
returns-clause-answered g c = λ many. c.explain.ensures.answered (inl many)

pub explain-requires-clause-are : goal.explain-requires-clause-are
explain-requires-clause-are g c κs within = c.new-causes.ensures.are c.args.search.design.now c.args.search.limits c.args.search.found.now
