use Rattle.std.proofs.Common.{◌∙◌, ◌++◌, ap, append_assoc, get_or, sym, take}
use Rattle.verdict.specs.RaceLines.{unnamed_text}
use Rattle.naming.specs.Naming.{unnamed_lines}
use Rattle.naming.proofs.Races.{unnamed_more}
use Rattle.naming.proofs.naming.push_unnamed_texts.Goals as goal

pub loop-place-preserved : goal.loop-place-preserved
loop-place-preserved c =
    let numbers = c.args.numbers.now in
    let at = c.loop-place.place in
    let old = c.args.text.now.items in
    let before = unnamed_lines (take at numbers) in
    let line = unnamed_text (get_or numbers at 0) in
    c.in_ok-push_unnamed.ensures ∙ (ap (λ l. l ++ line) c.loop-place.invariant ∙ (append_assoc old before line ∙ ap (λ l. old ++ l) (sym (unnamed_more at numbers 0 c.loop-place-test.true))))
