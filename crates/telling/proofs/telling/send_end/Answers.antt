-- One part behind another.
use Rattle.std.proofs.Common.{[], ◌∷◌}
use Rattle.telling.proofs.Sent.{sends_then, sends_broken}
use Rattle.telling.proofs.telling.send_end.Goals as goal

pub returns-then-send : goal.returns-then-send
returns-then-send g c =
    sends_then g.E.Write.contents c.args.err.now c.send.new.err c.send-then-send.new.err c.args.line.now.tail.now (10 ∷ []) c.send.result c.send-then-send.result c.if-send.true
    c.send.ensures c.send-then-send.ensures

pub returns-else-send : goal.returns-else-send
returns-else-send g c = sends_broken g.E.Write.contents c.args.err.now c.send.new.err c.args.line.now.tail.now (10 ∷ []) c.send.result c.if-send.false c.send.ensures
