-- The first line of a text that isn't empty.
use Rattle.std.proofs.Common.{◌≡◌, ◌≢◌, ◌∙◌, ap, sym, ℕ, List, [], ◌∷◌, length, take, drop, arith, rules}
use Rattle.verdict.specs.VerdictLines.{behind_line, first_line, line_length}
use Rattle.wavetexts.specs.AtTimes.{lines_of}
use Rattle.wavetexts.proofs.TextLines.{lines_more, none_left, some_left, some_line}
use Rattle.wavetexts.proofs.lines.split_line.Goals as goal

pub returns-clause-some : goal.returns-clause-some
returns-clause-some c =
    let text = c.args.text.now in
    let some : text ≢ [] = some_left text (sym c.is_empty.ensures ∙ c.if-is_empty.false) in
    let first : c.split_at.result.0.now ≡ first_line text = c.split_at.ensures.front ∙ ap (λ (n : ℕ). take n text) c.line_length.ensures.value in
    let behind : c.split_at.result.1.now ≡ behind_line text = c.split_at.ensures.back ∙ ap (λ (n : ℕ). drop n text) c.line_length.ensures.value in
    lines_more text some ∙ (ap (λ (l : List ℕ). l ∷ lines_of (behind_line text)) (sym first) ∙ ap (λ (l : List ℕ). c.split_at.result.0.now ∷ lines_of l) (sym behind))

pub returns-clause-shorter : goal.returns-clause-shorter
returns-clause-shorter c =
    let text = c.args.text.now in
    let some : text ≢ [] = some_left text (sym c.is_empty.ensures ∙ c.if-is_empty.false) in
    omega (arith, c.split_at.ensures.back_len, some_line text some, c.line_length.ensures.value)

pub returns-then-is_empty-clause-none : goal.returns-then-is_empty-clause-none
returns-then-is_empty-clause-none c = ap lines_of (none_left c.args.text.now (sym c.is_empty.ensures ∙ c.if-is_empty.true))
