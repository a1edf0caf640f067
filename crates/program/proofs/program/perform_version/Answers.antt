-- Three texts, one behind another.
use Rattle.std.proofs.Common.{codes, [], ◌∷◌}
use Rattle.program.proofs.Ended.{appends_then}
use Rattle.program.proofs.program.perform_version.Goals as goal

pub returns-clause-shown : goal.returns-clause-shown
returns-clause-shown g c =
    let start = g.O.Write.contents c.args.out.now in
    let named = g.O.Write.contents c.show.new.out in
    let numbered = g.O.Write.contents c.show-2.new.out in
    let end = g.O.Write.contents c.show-3.new.out in
    appends_then start numbered end (codes "vsimtx 0.1.0") (10 ∷ [])
    (appends_then start named numbered (codes "vsimtx ") (codes "0.1.0") c.in_ok-show.ensures.written c.in_ok-show-2.ensures.written) c.in_ok-show-3.ensures.written
