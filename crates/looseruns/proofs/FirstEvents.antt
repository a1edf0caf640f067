-- The first event of a kind, in a list of events whose numbers rise.
use Rattle.std.proofs.Common.{◌≡◌, ℕ, suc, ◌+◌, ◌≤◌, Bool, true, false, List, [], ◌∷◌, Some, refl, sym, ap, ◌∙◌, subst, arith, if◌then◌else◌, ◌==◌, ◌&&◌, nat_lt, eq-eqb}
use Rattle.std.specs.Prelude.{cond, find}
use Rattle.std.proofs.lemmas.Bool.{eqb-true}
use Rattle.std.proofs.lemmas.Bool.Decides.{eqb_tells, leb_tells}
use Rattle.logic4.specs.Vector.{Vector}
use Rattle.model.specs.States.{Event, Action, Evaluate}
use Rattle.model.specs.Runs.{action_in}
use Rattle.model.specs.Laws.{evaluates}
use Rattle.model.proofs.RunLaws.{either_false}
use Rattle.orders.specs.Alike.{EventsRise}
use Rattle.orders.proofs.EventLists.{present_from}
use Rattle.loose.specs.Loose.{updates_class, has_earlier_of_class}

-- an event is there under its number, and passes a test
abbrev pub IsThere : (Action → Bool) → List Event → Event → Type 0
IsThere test es x = (action_in es x.0 ≡ Some x.1) × (test x.1 ≡ true)

there_first : (test : Action → Bool) (to : ℕ) (e x : Event) (es : List Event) (b : Bool) → test e.1 ≡ b → EventsRise (e.0 + 1) es to → cond b (Some e) (find (λ d. test d.1) es) ≡ Some x
    → (find (λ d. test d.1) es ≡ Some x → IsThere test es x) → IsThere test (e ∷ es) x
there_first test to e x es true is rises found later =
    let same : e ≡ x = cc in
    let here : (if e.0 == e.0 then Some e.1 else action_in es e.0) ≡ Some e.1 = rw (eq-eqb e.0 e.0 refl) refl in
    let first : IsThere test (e ∷ es) e = (here, is) in
    subst (λ y. IsThere test (e ∷ es) y) same first
there_first test to e x es false is rises found later =
    let (at_x, passes) = later found in
    let above : e.0 + 1 ≤ x.0 = present_from x.0 (e.0 + 1) to x.1 es rises at_x in
    let other : (e.0 == x.0) ≡ false = grind (arith, eqb_tells e.0 x.0, above) in
    (rw other at_x, passes)

-- what is found is there
pub found_there : (test : Action → Bool) (from to : ℕ) (x : Event) (es : List Event) → EventsRise from es to → find (λ d. test d.1) es ≡ Some x → IsThere test es x
found_there test from to x [] rises found = cc
found_there test from to x (e ∷ es) rises found =
    there_first test to e x es (test e.1) refl rises.1 found (found_there test (e.0 + 1) to x es rises.1)

absurd_test : {P : Type 0} (test : Action → Bool) (a b : Action) → test a ≡ false → a ≡ b → test b ≡ true → P
absurd_test test a b fails same passes =
    let bad : false ≡ true = sym fails ∙ (ap test same ∙ passes) in
    cc

some_first : (test : Action → Bool) (n : ℕ) (a : Action) (e : Event) (es : List Event) (b d : Bool) → test e.1 ≡ b → (if d then Some e.1 else action_in es n) ≡ Some a → test a ≡ true
    → (action_in es n ≡ Some a → (x : Event) × (find (λ f. test f.1) es ≡ Some x)) → (x : Event) × (cond b (Some e) (find (λ f. test f.1) es) ≡ Some x)
some_first test n a e es true d is at_n passes later = (e, refl)
some_first test n a e es false true is at_n passes later =
    let same : e.1 ≡ a = cc in
    absurd_test test e.1 a is same passes
some_first test n a e es false false is at_n passes later = later at_n

-- where one is there, some is found
pub some_found : (test : Action → Bool) (n : ℕ) (a : Action) (es : List Event) → action_in es n ≡ Some a → test a ≡ true → (x : Event) × (find (λ f. test f.1) es ≡ Some x)
some_found test n a [] at_n passes = cc
some_found test n a (e ∷ es) at_n passes =
    some_first test n a e es (test e.1) (e.0 == n) refl at_n passes (λ rest. some_found test n a es rest passes)

-- an evaluation is that of its process
pub is_evaluation_of : (p : ℕ) (a : Action) → evaluates p a ≡ true → a ≡ Evaluate p
is_evaluation_of p (Evaluate q) is = ap Evaluate (eqb-true q p is)
is_evaluation_of p (Action.Update r v) is = cc

pub evaluates_own : (p : ℕ) → evaluates p (Evaluate p) ≡ true
evaluates_own p = eq-eqb p p refl

-- an update is one of its class
abbrev pub IsUpdateOf : (ℕ → ℕ) → ℕ → Action → Type 0
IsUpdateOf class c a = (r : ℕ) × (v : Vector) × (a ≡ Action.Update r v) × (class r ≡ c)

pub is_update_of : (class : ℕ → ℕ) (c : ℕ) (a : Action) → updates_class class c a ≡ true → IsUpdateOf class c a
is_update_of class c (Evaluate p) is = cc
is_update_of class c (Action.Update r v) is = (r, v, refl, eqb-true (class r) c is)

pub updates_own : (class : ℕ → ℕ) (r : ℕ) (v : Vector) → updates_class class (class r) (Action.Update r v) ≡ true
updates_own class r v = eq-eqb (class r) (class r) refl

-- an update before which none of its class stands is the first that is found

early_one : (b : Bool) (m n : ℕ) → b ≡ true → m + 1 ≤ n → (b && nat_lt m n) ≡ false → ⊥
early_one b m n is above late =
    let earlier : nat_lt m n ≡ true = grind (arith, leb_tells (suc m) n, above) in
    let both : (b && nat_lt m n) ≡ true = rw (is, earlier) refl in
    let bad : true ≡ false = sym both ∙ late in
    cc

own_first : (class : ℕ → ℕ) (c n to : ℕ) (a : Action) (e : Event) (es : List Event) (b d : Bool) → updates_class class c e.1 ≡ b → (e.0 == n) ≡ d → EventsRise (e.0 + 1) es to
    → (if d then Some e.1 else action_in es n) ≡ Some a → updates_class class c a ≡ true → has_earlier_of_class class c (e ∷ es) n ≡ false
    → (action_in es n ≡ Some a → has_earlier_of_class class c es n ≡ false → (x : Event) × (find (λ f. updates_class class c f.1) es ≡ Some x) × (x.0 ≡ n))
    → (x : Event) × (cond b (Some e) (find (λ f. updates_class class c f.1) es) ≡ Some x) × (x.0 ≡ n)
own_first class c n to a e es true true is here rises at_n passes first later = (e, refl, eqb-true e.0 n here)
own_first class c n to a e es true false is here rises at_n passes first later =
    let (now, rest) = either_false (updates_class class c e.1 && nat_lt e.0 n) (has_earlier_of_class class c es n) first in
    absurd (early_one (updates_class class c e.1) e.0 n is (present_from n (e.0 + 1) to a es rises at_n) now)
own_first class c n to a e es false true is here rises at_n passes first later =
    let same : e.1 ≡ a = cc in
    absurd_test (updates_class class c) e.1 a is same passes
own_first class c n to a e es false false is here rises at_n passes first later =
    later at_n (either_false (updates_class class c e.1 && nat_lt e.0 n) (has_earlier_of_class class c es n) first).1

pub first_found : (class : ℕ → ℕ) (c n from to : ℕ) (a : Action) (es : List Event) → EventsRise from es to → action_in es n ≡ Some a → updates_class class c a ≡ true → has_earlier_of_class class c es n ≡ false
    → (x : Event) × (find (λ f. updates_class class c f.1) es ≡ Some x) × (x.0 ≡ n)
first_found class c n from to a [] rises at_n passes first = cc
first_found class c n from to a (e ∷ es) rises at_n passes first =
    own_first class c n to a e es (updates_class class c e.1) (e.0 == n) refl refl rises.1 at_n passes first
    (λ rest rest_first. first_found class c n (e.0 + 1) to a es rises.1 rest passes rest_first)
