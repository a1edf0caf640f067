-- One part behind another.
use Rattle.telling.specs.FaultLines.{shown_path}
use Rattle.telling.proofs.Sent.{sends_then, sends_broken}
use Rattle.telling.proofs.telling.show_path.Goals as goal

pub returns-then-send_as_shown : goal.returns-then-send_as_shown
returns-then-send_as_shown g c =
    sends_then g.O.Write.contents c.args.out.now c.send_as_shown.new.err c.send.new.err (shown_path c.args.path.now) c.args.text.now c.send_as_shown.result c.send.result c.if-send_as_shown.true
    c.send_as_shown.ensures c.send.ensures

pub returns-else-send_as_shown : goal.returns-else-send_as_shown
returns-else-send_as_shown g c =
    sends_broken g.O.Write.contents c.args.out.now c.send_as_shown.new.err (shown_path c.args.path.now) c.args.text.now c.send_as_shown.result c.if-send_as_shown.false c.send_as_shown.ensures
