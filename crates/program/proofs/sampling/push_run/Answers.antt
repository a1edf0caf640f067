-- The text is behind the others, or none is.
use Rattle.program.proofs.Sampled.{left_out, put_behind}
use Rattle.program.proofs.sampling.push_run.Goals as goal

pub returns-then-not-is_wanted : goal.returns-then-not-is_wanted
returns-then-not-is_wanted c = left_out c.args.all c.is_wanted.result c.args.run c.args.shown.now.items c.if-not-is_wanted.true c.is_wanted.ensures

pub returns : goal.returns
returns c =
    put_behind c.args.all c.is_wanted.result c.args.run c.shown_as.result c.args.shown.now.items c.push.new.self.items c.if-not-is_wanted.false c.is_wanted.ensures c.shown_as.ensures c.in_ok-push.ensures.items
