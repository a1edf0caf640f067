-- What is seen at the first transition stands before the lines.
use Rattle.std.proofs.Common.{List, ℕ, ◌++◌, sym, ap, ◌∙◌}
use Rattle.looseruns.specs.ObservedMoves.{seen_first}
use Rattle.lawful.proofs.observed_ways.told_on.Goals as goal

pub returns-then-not-begins_with_time-clause-told : goal.returns-then-not-begins_with_time-clause-told
returns-then-not-begins_with_time-clause-told c observe s same =
    sym (ap (λ (l : List ℕ). l ++ c.args.printed.items) (c.begins_with_time.ensures.unseen c.if-not-begins_with_time.true observe s))

pub returns-clause-told : goal.returns-clause-told
returns-clause-told c observe s same =
    let begun = c.in_ok-extend_from_slice.ensures.items ∙ ap (λ (l : List ℕ). l ++ c.args.seen.now) c.new-told.ensures.items in
    let first = same ∙ sym (c.begins_with_time.ensures.seen c.if-not-begins_with_time.false observe s) in
    c.in_ok-extend_from_slice-2.ensures.items
    ∙ (ap (λ (l : List ℕ). l ++ c.deref.result.now) (begun ∙ first) ∙ ap (λ (l : List ℕ). seen_first observe s c.args.moves.now ++ l) c.deref.ensures.value)
