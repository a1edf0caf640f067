-- One character more, or the end.
use Rattle.std.proofs.Common.{◌≡◌, true, false, length, rules}
use Rattle.std.proofs.lemmas.Iterator.{YieldsList-from_chars}
use Rattle.std.proofs.lemmas.Iterator.Consumers.{YieldsList-turn, YieldsList-end}
use Rattle.std.specs.Str.{chars}
use Rattle.telling.specs.FaultLines.{shown_by}
use Rattle.telling.proofs.Sent.{one_broken, all_sent, whole_sent}
use Rattle.telling.proofs.telling.send_as_shown.Goals as goal

pub returns-then-not-send_by : goal.returns-then-not-send_by
returns-then-not-send_by g c =
    let t = YieldsList-turn (YieldsList-from_chars c.args.text.now c.utf8.text cc) c.loop-letter.yielded _ c.loop-letter.yielded_by _ _ c.in-Some.letter c.in-Some.is c.next.ensures.steps in
    let failed : c.send_by.result ≡ false = search rules in
    one_broken g.E.Write.contents c.args.err.now c.loop-letter.err c.send_by.new.err (shown_by c.args.showing) (chars c.args.text.now) (length c.loop-letter.yielded) c.in-Some.letter
    c.send_by.result t.0 t.1 c.loop-letter.invariant c.send_by.ensures failed

pub loop-letter-preserved : goal.loop-letter-preserved
loop-letter-preserved g c =
    let t = YieldsList-turn (YieldsList-from_chars c.args.text.now c.utf8.text cc) c.loop-letter.yielded _ c.loop-letter.yielded_by _ _ c.in-Some.letter c.in-Some.is c.next.ensures.steps in
    let sent : c.send_by.result ≡ true = search rules in
    whole_sent g.E.Write.contents c.args.err.now c.loop-letter.err c.send_by.new.err (shown_by c.args.showing) (chars c.args.text.now) c.loop-letter.yielded c.in-Some.letter
    c.send_by.result t.0 t.1 c.loop-letter.invariant c.send_by.ensures sent

pub returns : goal.returns
returns g c =
    let t = YieldsList-end (YieldsList-from_chars c.args.text.now c.utf8.text cc) c.loop-letter.yielded _ c.loop-letter.yielded_by _ _ c.in-None.is c.next.ensures.steps in
    all_sent g.E.Write.contents c.args.err.now c.loop-letter.err (shown_by c.args.showing) (chars c.args.text.now) (length c.loop-letter.yielded) t.1 c.loop-letter.invariant
