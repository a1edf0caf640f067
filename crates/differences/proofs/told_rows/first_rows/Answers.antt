-- One more, until none is left.
use Rattle.std.proofs.Common.{◌≡◌, ◌≤◌, ◌∙◌, ap, sym, subst, ℕ, ◌++◌, List, [], length, drop, arith}
use Rattle.std.proofs.lemmas.List.{append-nil, drop_all}
use Rattle.differences.specs.declared.value_difference.ValueDifference.{ValueDifference}
use Rattle.differences.specs.ToldRows.{first_rows, has_row, row_unless}
use Rattle.differences.proofs.FirstRows.{beside, beside_none, first_more}
use Rattle.differences.proofs.told_rows.first_rows.Goals as goal

pub loop-place-init : goal.loop-place-init
loop-place-init c =
    let rows : List ValueDifference = c.args.rows.now in
    ap (λ (l : List ValueDifference). l ++ beside l (first_rows rows)) c.new-kept.ensures.items ∙ beside_none (first_rows rows)

pub loop-place-preserved : goal.loop-place-preserved
loop-place-preserved c =
    let rows : List ValueDifference = c.args.rows.now in
    let place : ℕ = c.loop-place.place in
    let old : List ValueDifference = c.loop-place.kept.items in
    let new : List ValueDifference = c.keep_first.new.kept.items in
    first_more rows place c.index-rows-place.result old new (first_rows rows) c.loop-place-test.true
    (subst (λ (d : ValueDifference). new ≡ old ++ row_unless (has_row d.register old) d) c.index-rows-place.is c.in_ok-keep_first.ensures) c.loop-place.invariant

pub returns : goal.returns
returns c =
    let rows : List ValueDifference = c.args.rows.now in
    let kept : List ValueDifference = c.loop-place.kept.items in
    let past : length rows ≤ c.loop-place.place = omega (arith, c.loop-place-test.false) in
    let none : drop c.loop-place.place rows ≡ [] = drop_all c.loop-place.place rows past in
    sym (append-nil kept) ∙ (ap (λ (l : List ValueDifference). kept ++ beside kept (first_rows l)) (sym none) ∙ c.loop-place.invariant)
