-- The line, up to its subject and from it on.
use Rattle.std.proofs.Common.{◌≡◌, List, ℕ, codes, ◌++◌, append_assoc, subst}
use Rattle.telling.specs.FaultLines.{Tells, head_of, line_of, rest_of}
use Rattle.telling.proofs.Sent.{sends_then, sends_broken, tells_sent}
use Rattle.telling.proofs.telling.tell.Goals as goal

pub returns-then-send_head : goal.returns-then-send_head
returns-then-send_head g c =
    let line = c.args.line.now in
    let both : ◌≡◌ {A = List ℕ} (head_of line ++ rest_of line) (line_of line) = append_assoc (codes "vsimtx: ") line.head.now (rest_of line) in
    subst (Tells g.E.Write.contents c.args.err.now c.send_rest-whole.new.err) both
    (tells_sent g.E.Write.contents c.args.err.now c.send_rest-whole.new.err (head_of line ++ rest_of line) c.send_rest-whole.result
    (sends_then g.E.Write.contents c.args.err.now c.send_head.new.err c.send_rest-whole.new.err (head_of line) (rest_of line) c.send_head.result c.send_rest-whole.result
    c.if-send_head.true c.send_head.ensures c.send_rest-whole.ensures))

pub returns-else-send_head : goal.returns-else-send_head
returns-else-send_head g c =
    let line = c.args.line.now in
    let both : ◌≡◌ {A = List ℕ} (head_of line ++ rest_of line) (line_of line) = append_assoc (codes "vsimtx: ") line.head.now (rest_of line) in
    subst (Tells g.E.Write.contents c.args.err.now c.send_head.new.err) both
    (tells_sent g.E.Write.contents c.args.err.now c.send_head.new.err (head_of line ++ rest_of line) c.send_head.result
    (sends_broken g.E.Write.contents c.args.err.now c.send_head.new.err (head_of line) (rest_of line) c.send_head.result c.if-send_head.false c.send_head.ensures))
