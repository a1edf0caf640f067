-- It made moves since its checkpoint, if it made none up to that.
use Rattle.loosewalks.proofs.PassingFirst.{some_since}
use Rattle.loosewalks.proofs.checkpoint.Walk.has_moved.Goals as goal

pub returns : goal.returns
returns c = λ some. some_since c.args.self.now.moves c.args.self.now.since c.is_empty.result c.is_empty-2.result c.is_empty.ensures c.is_empty-2.ensures c.if-not-is_empty.false some
