-- The turn that was evaluated on values makes the writes of its log.
use Rattle.std.proofs.Common.{◌≡◌, ℕ, List, Option, Some, None, length, ap, ◌∙◌}
use Rattle.std.specs.Option.{IsSomeAnd}
use Rattle.logic4.specs.Vector.{Vector}
use Rattle.model.specs.Design.{Trigger}
use Rattle.model.specs.Expressions.{Store}
use Rattle.model.specs.Turns.{Remainder, short_turn}
use Rattle.model.specs.Turns as turns
use Rattle.design.specs.Compiled.{Compiled, design_of}
use Rattle.design.specs.declared.code.ProcState.{ProcState}
use Rattle.design.specs.DesignInvariant.{remainder_of_state, controls_of, IsStateOf}
use Rattle.turn.specs.TurnLogs.{LogView, IsLogOf}
use Rattle.regions.specs.Reader.{IsTurnOn}

logged : (rem : ProcState → Remainder) (controls : List (List Trigger)) (log : LogView) (o : Option turns.Turn) (turn : turns.Turn) → IsSomeAnd o (IsLogOf rem controls log) → o ≡ Some turn → log.writes ≡ turn.writes
logged rem controls log None turn h is = absurd h
logged rem controls log (Some t) turn h is =
    let same : t ≡ turn = cc in
    h.writes ∙ ap (λ (x : turns.Turn). x.writes) same

pub turn_writes : (code : Compiled) (place : ProcState) (values : Store) (now : ℕ) (log : LogView) (writes : List (ℕ × Vector)) (p : ℕ) (turn : turns.Turn) → length values ≡ length code.widths → IsTurnOn code place values now log → writes ≡ log.writes
    → IsStateOf code p place → short_turn (design_of code) p (remainder_of_state code place) values now ≡ Some turn → writes ≡ turn.writes
turn_writes code place values now log writes p turn count is are own at =
    are ∙ logged (remainder_of_state code) (controls_of code) log (short_turn (design_of code) p (remainder_of_state code place) values now) turn (is.is_log.turn p own values count (is.agrees p own)) at
