-- Nothing is seen where the run has finished, and else what is seen of the state.
use Rattle.std.proofs.Common.{◌≡◌, ◌++◌, List, ℕ, length, true, false, sym, ap, ◌∙◌}
use Rattle.std.proofs.lemmas.Bool.{eqb-true}
use Rattle.lawful.proofs.ObservedWays.{no_moves, never_both}
use Rattle.lawful.proofs.observed_ways.seen_at_end.Goals as goal

pub returns-then-is_finish-clause-here : goal.returns-then-is_finish-clause-here
returns-then-is_finish-clause-here c = λ not_over. absurd (not_over (c.is_finish.ensures.0 c.if-is_finish.true))

pub returns-clause-finished : goal.returns-clause-finished
returns-clause-finished c = λ over. absurd (never_both c.is_finish.result (c.is_finish.ensures.1 over) c.if-is_finish.false)

pub returns-clause-here : goal.returns-clause-here
returns-clause-here c = λ not_over.
    let none : length c.args.moves.now ≡ 0 = eqb-true (length c.args.moves.now) 0 (sym c.is_empty.ensures ∙ c.if-not-is_empty.false) in
    (no_moves c.args.moves.now none, c.in_ok-extend_from_slice.ensures.items ∙ ap (λ (l : List ℕ). l ++ c.args.seen.now) c.new-sight.ensures.items)
