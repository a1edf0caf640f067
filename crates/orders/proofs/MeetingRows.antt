-- Two orders that meet in states that are alike though not the same, and two that don't meet.
use Rattle.std.proofs.Common.{◌≡◌, ℕ, false, [], ◌∷◌, Some, refl, ap, arith}
use Rattle.logic4.specs.declared.digit.Digit.TheVariants.{Zero, One}
use Rattle.logic4.specs.Vector.{Vector}
use Rattle.model.specs.declared.entry.Entry.TheVariants.{Turn}
use Rattle.model.specs.Syntax.{Literal}
use Rattle.model.specs.Design.{Design, Process, Statement, Assign, Delay, End, Then}
use Rattle.model.specs.Turns as turns
use Rattle.model.specs.Turns.{Inactive, Ended, At, turn_within}
use Rattle.model.specs.States.{start, turned}
use Rattle.model.specs.Runs.{Effect, run, action_in}
use Rattle.orders.specs.SearchLaws.{IsOneNode}
use Rattle.orders.proofs.EventLists.{alike-same}
use Rattle.orders.proofs.FutureLists.{alike_future-same}

abbrev high : Vector
high = One ∷ []

abbrev low : Vector
low = Zero ∷ []

abbrev initial : Statement → Process
initial s = record { repeats = false; body = Then s End }

abbrev sets : ℕ → Vector → Statement
sets r v = Assign r (Literal v)

-- reg a, b; initial #0 a=1'b1; initial #0 b=1'b1;
abbrev pub apart : Design
apart = record { widths = 1 ∷ 1 ∷ []; processes = initial (Delay 0 (Then (sets 0 high) End)) ∷ initial (Delay 0 (Then (sets 1 high) End)) ∷ [] }

abbrev waits_at : ℕ → turns.Turn
waits_at place = record { uses = []; writes = []; nbas = []; lines = []; strobes = []; rest = At place ∷ []; wait = Inactive; finish = false; count = 1 }

abbrev apart_one_way : Effect
apart_one_way = record { state = turned (turned (start apart) 0 0 (waits_at 1)) 1 1 (waits_at 3); lines = []; changes = [] }

abbrev apart_other_way : Effect
apart_other_way = record { state = turned (turned (start apart) 1 1 (waits_at 3)) 0 0 (waits_at 1); lines = []; changes = [] }

apart_runs : (run apart (Turn 0 ∷ Turn 1 ∷ []) ≡ Some apart_one_way) × (run apart (Turn 1 ∷ Turn 0 ∷ []) ≡ Some apart_other_way)
unfolding turn_within
apart_runs = (refl, refl)

-- both processes are inactive after either order, and one of them has the smaller number
pub orders_meet : IsOneNode apart_one_way apart_other_way × (apart_one_way.state ≡ apart_other_way.state → ⊥)
orders_meet = (
  (refl, record { time = refl; store = refl; processes = refl; active = alike-same []; inactive = record { updates = refl; evaluations = λ p. omega arith }; nonblocking = alike-same []; monitor = refl; future_inactive = alike_future-same []; future_nonblocking = alike_future-same []; finished = refl }),
  λ same. let bad = ap (λ s. action_in s.inactive 2) same in cc,
)

-- reg a; initial a=1'b0; initial a=1'b1;
abbrev pub race : Design
race = record { widths = 1 ∷ []; processes = initial (sets 0 low) ∷ initial (sets 0 high) ∷ [] }

abbrev writes : Vector → turns.Turn
writes v = record { uses = []; writes = (0, v) ∷ []; nbas = []; lines = []; strobes = []; rest = []; wait = Ended; finish = false; count = 1 }

abbrev race_one_way : Effect
race_one_way = record { state = turned (turned (start race) 0 0 (writes low)) 1 1 (writes high); lines = []; changes = (0, low) ∷ (0, high) ∷ [] }

abbrev race_other_way : Effect
race_other_way = record { state = turned (turned (start race) 1 1 (writes high)) 0 0 (writes low); lines = []; changes = (0, high) ∷ (0, low) ∷ [] }

race_runs : (run race (Turn 0 ∷ Turn 1 ∷ []) ≡ Some race_one_way) × (run race (Turn 1 ∷ Turn 0 ∷ []) ≡ Some race_other_way)
unfolding turn_within
race_runs = (refl, refl)

-- the last write stands
pub orders_differ : IsOneNode race_one_way race_other_way → ⊥
orders_differ (lines, alike) = let bad = alike.store in cc
