-- Two active updates, of register 0 and of register 1, each of which wakes a process: by a class function that tells the registers
-- apart they may be taken in either order, by one that doesn't in one order alone.
use Rattle.std.proofs.Common.{◌≡◌, ℕ, Bool, true, false, List, [], ◌∷◌, Some, None, refl, ap, ◌==◌, arith}
use Rattle.std.proofs.lemmas.Bool.{eqb-true}
use Rattle.logic4.specs.declared.digit.Digit.TheVariants.{Zero, One}
use Rattle.logic4.specs.Vector.{Vector}
use Rattle.model.specs.declared.tree.Change.TheVariants.{Any}
use Rattle.model.specs.declared.entry.Entry.TheVariants.{Update}
use Rattle.model.specs.Design.{Design}
use Rattle.model.specs.States.{Action, Evaluate, Event, Continuation, State, start}
use Rattle.model.specs.Runs.{Effect, silent, step}
use Rattle.loose.specs.Loose.{of_class, AreAlikeIn, AlikeIn, loose_step, loose_run_from}
use Rattle.loose.proofs.ClassLists.{alike_in-same}
use Rattle.loose.proofs.ClassFutures.{alike_future_in-same}

abbrev low : Vector
low = Zero ∷ []

abbrev high : Vector
high = One ∷ []

-- each register is a class of its own, and all registers are one class
abbrev apart : ℕ → ℕ
apart r = r

abbrev together : ℕ → ℕ
together r = 0

abbrev set : ℕ → ℕ → Event
set n r = (n, Action.Update r high)

abbrev two : Design
two = record { widths = 1 ∷ 1 ∷ []; processes = [] }

abbrev waits : ℕ → Continuation
waits r = record { remainder = []; triggers = (Any, r) ∷ [] }

abbrev woken : Continuation
woken = record { remainder = []; triggers = [] }

abbrev with_updates : List Event → State
with_updates es = record (start two) { processes = waits 0 ∷ waits 1 ∷ []; active = es; next_event = 3 }

abbrev both : State
both = with_updates (set 0 0 ∷ set 1 1 ∷ [])

-- what comes of them, in the order of their numbers and in the other
abbrev forth : Effect
forth =
    record {
      state = record both { store = high ∷ high ∷ []; processes = woken ∷ woken ∷ []; active = (3, Evaluate 0) ∷ (4, Evaluate 1) ∷ []; next_event = 5 };
      lines = [];
      changes = (0, high) ∷ (1, high) ∷ [];
    }

abbrev back : Effect
back =
    record {
      state = record both { store = high ∷ high ∷ []; processes = woken ∷ woken ∷ []; active = (3, Evaluate 1) ∷ (4, Evaluate 0) ∷ []; next_event = 5 };
      lines = [];
      changes = (1, high) ∷ (0, high) ∷ [];
    }

pub either_order : (loose_run_from apart two (silent both) (Update 0 ∷ Update 1 ∷ []) ≡ Some forth) × (loose_run_from apart two (silent both) (Update 1 ∷ Update 0 ∷ []) ≡ Some back) × AlikeIn apart forth.state back.state
either_order = (
  refl,
  refl,
  record { time = refl; store = refl; processes = refl; active = record { updates = λ c. refl; evaluations = λ p. omega arith }; inactive = alike_in-same apart []; nonblocking = alike_in-same apart []; monitor = refl; future_inactive = alike_future_in-same apart []; future_nonblocking = alike_future_in-same apart []; finished = refl },
)

-- as the rules have it, and where the registers are of one class, the second waits for the first
pub one_order : (step two both (Update 1) ≡ None) × (loose_step together two both (Update 1) ≡ None) × (loose_run_from together two (silent both) (Update 0 ∷ Update 1 ∷ []) ≡ Some forth)
one_order = (refl, refl, refl)

-- an update waits for an earlier one of its register, though one of another stands between and needn't wait
pub own_register_waits : (loose_step apart two (with_updates (set 0 0 ∷ set 1 1 ∷ set 2 0 ∷ [])) (Update 2) ≡ None)
    × (loose_run_from apart two (silent (with_updates (set 0 0 ∷ set 1 1 ∷ set 2 0 ∷ []))) (Update 0 ∷ Update 2 ∷ Update 1 ∷ []) ≡ Some forth)
own_register_waits = (refl, refl)

-- the order of updates of different classes is forgotten, that of updates of one class isn't

registers_if : (c : ℕ) (b d : Bool) → (0 == c) ≡ b → (1 == c) ≡ d → of_class apart c ((0, high) ∷ (1, high) ∷ []) ≡ of_class apart c ((1, high) ∷ (0, high) ∷ [])
registers_if c true true is is' = absurd (omega (arith, eqb-true 0 c is, eqb-true 1 c is'))
registers_if c true false is is' = rw (is, is') refl
registers_if c false true is is' = rw (is, is') refl
registers_if c false false is is' = rw (is, is') refl

pub order_of_two_classes : AreAlikeIn apart (set 0 0 ∷ set 1 1 ∷ []) (set 0 1 ∷ set 1 0 ∷ [])
order_of_two_classes = record { updates = λ c. registers_if c (0 == c) (1 == c) refl refl; evaluations = λ p. refl }

pub order_of_one_class : AreAlikeIn together (set 0 0 ∷ set 1 1 ∷ []) (set 0 1 ∷ set 1 0 ∷ []) → ⊥
order_of_one_class h =
    let bad : ◌≡◌ {A = List (ℕ × Vector)} ((0, high) ∷ (1, high) ∷ []) ((1, high) ∷ (0, high) ∷ []) = h.updates 0 in
    let first : ◌≡◌ {A = ℕ × Vector} (0, high) (1, high) = cc in
    omega (arith, ap (λ x. x.0) first)

pub order_of_one_register : AreAlikeIn apart ((0, Action.Update 0 low) ∷ (1, Action.Update 0 high) ∷ []) ((0, Action.Update 0 high) ∷ (1, Action.Update 0 low) ∷ []) → ⊥
order_of_one_register h =
    let bad : ◌≡◌ {A = List (ℕ × Vector)} ((0, low) ∷ (0, high) ∷ []) ((0, high) ∷ (0, low) ∷ []) = h.updates 0 in
    let first : ◌≡◌ {A = ℕ × Vector} (0, low) (0, high) = cc in
    let value : low ≡ high = ap (λ x. x.1) first in
    cc
