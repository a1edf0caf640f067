-- One character more of the escape, or the end.
use Rattle.std.proofs.Common.{◌≡◌, true, false, length, rules}
use Rattle.std.proofs.lemmas.Iterator.Consumers.{YieldsList-turn, YieldsList-end}
use Rattle.std.specs.Char.{encode_utf8}
use Rattle.std.specs.Char.Escape.{escape_default}
use Rattle.telling.proofs.Sent.{one_broken, all_sent, whole_sent, escape_yields}
use Rattle.telling.proofs.telling.send_escape.Goals as goal

pub returns-then-not-send_letter : goal.returns-then-not-send_letter
returns-then-not-send_letter g c =
    let t = YieldsList-turn (escape_yields c.args.letter cc) c.loop-part.yielded _ c.loop-part.yielded_by _ _ c.in-Some.part c.in-Some.is c.next.ensures.steps in
    let failed : c.send_letter.result ≡ false = search rules in
    one_broken g.E.Write.contents c.args.err.now c.loop-part.err c.send_letter.new.err encode_utf8 (escape_default c.args.letter) (length c.loop-part.yielded) c.in-Some.part
    c.send_letter.result t.0 t.1 c.loop-part.invariant c.send_letter.ensures failed

pub loop-part-preserved : goal.loop-part-preserved
loop-part-preserved g c =
    let t = YieldsList-turn (escape_yields c.args.letter cc) c.loop-part.yielded _ c.loop-part.yielded_by _ _ c.in-Some.part c.in-Some.is c.next.ensures.steps in
    let sent : c.send_letter.result ≡ true = search rules in
    whole_sent g.E.Write.contents c.args.err.now c.loop-part.err c.send_letter.new.err encode_utf8 (escape_default c.args.letter) c.loop-part.yielded c.in-Some.part
    c.send_letter.result t.0 t.1 c.loop-part.invariant c.send_letter.ensures sent

pub returns : goal.returns
returns g c =
    let t = YieldsList-end (escape_yields c.args.letter cc) c.loop-part.yielded _ c.loop-part.yielded_by _ _ c.in-None.is c.next.ensures.steps in
    all_sent g.E.Write.contents c.args.err.now c.loop-part.err encode_utf8 (escape_default c.args.letter) (length c.loop-part.yielded) t.1 c.loop-part.invariant
