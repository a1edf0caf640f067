-- Where the first update of a class is brought before those in front of it, the events are alike in classes.
use Rattle.std.proofs.Common.{◌≡◌, ℕ, zero, suc, ◌+◌, Bool, true, false, List, [], ◌∷◌, map, get_or, refl, sym, ap, ◌∙◌, arith, if◌then◌else◌, ◌==◌, eq-eqb}
use Rattle.std.specs.Prelude.{cond, remove}
use Rattle.std.proofs.lemmas.Bool.{eqb-true}
use Rattle.logic4.specs.Vector.{Vector}
use Rattle.model.specs.States.{Event, Action, Evaluate}
use Rattle.model.specs.Laws.{evaluates, evaluations_in}
use Rattle.orders.specs.Alike.{with_update, updates_in}
use Rattle.loose.specs.Loose.{of_class, AreAlikeIn, updates_class}
use Rattle.loosesteps.specs.Classes.{IsFirstAt}

-- the updates among actions, and how many evaluations of a process are among them

abbrev updates_of : List Action → List (ℕ × Vector)
updates_of [] = []
updates_of (a ∷ others) = with_update a (updates_of others)

abbrev evaluations_of : ℕ → List Action → ℕ
evaluations_of p [] = 0
evaluations_of p (a ∷ others) = (if evaluates p a then 1 else 0) + evaluations_of p others

updates_are : (es : List Event) → updates_in es ≡ updates_of (map (λ e. e.1) es)
updates_are [] = refl
updates_are (e ∷ es) = ap (with_update e.1) (updates_are es)

evaluations_are : (p : ℕ) (es : List Event) → evaluations_in p es ≡ evaluations_of p (map (λ e. e.1) es)
evaluations_are p [] = refl
evaluations_are p (e ∷ es) = ap (λ n. (if evaluates p e.1 then 1 else 0) + n) (evaluations_are p es)

-- the action at the place passes the test
pub first_passes : (test : Action → Bool) (es : List Event) (at : ℕ) (d : Action) → IsFirstAt test es at → test (get_or (map (λ e. e.1) es) at d) ≡ true
first_passes test [] at d h = absurd h
first_passes test (e ∷ es) zero d h = h
first_passes test (e ∷ es) (suc at) d h = first_passes test es at d h.1

-- an update may stand before another that isn't of its class, as far as one class shows it
exchanged : (q r : ℕ) (w v : Vector) (xs ys : List (ℕ × Vector)) (b d : Bool) → (b ≡ true → d ≡ true → ⊥) → xs ≡ cond d ((r, v) ∷ ys) ys
    → cond b ((q, w) ∷ xs) xs ≡ cond d ((r, v) ∷ cond b ((q, w) ∷ ys) ys) (cond b ((q, w) ∷ ys) ys)
exchanged q r w v xs ys true true other h = absurd (other refl refl)
exchanged q r w v xs ys true false other h = ap (λ us. (q, w) ∷ us) h
exchanged q r w v xs ys false true other h = h
exchanged q r w v xs ys false false other h = h

apart : (a b c k : ℕ) → (a == c) ≡ false → (b == c) ≡ true → (a == k) ≡ true → (b == k) ≡ true → ⊥
apart a b c k other is left right =
    let same : a ≡ c = eqb-true a k left ∙ sym (eqb-true b k right) ∙ eqb-true b c is in
    let bad : true ≡ false = sym (eq-eqb a c same) ∙ other in
    cc

passed : (class : ℕ → ℕ) (c k : ℕ) (a e : Action) (us vs : List (ℕ × Vector)) → updates_class class c a ≡ true → updates_class class c e ≡ false → of_class class k us ≡ of_class class k (with_update a vs)
    → of_class class k (with_update e us) ≡ of_class class k (with_update a (with_update e vs))
passed class c k (Evaluate p) (Evaluate q) us vs is other h = h
passed class c k (Action.Update r v) (Evaluate p) us vs is other h = h
passed class c k (Evaluate p) (Action.Update q w) us vs is other h = cc
passed class c k (Action.Update r v) (Action.Update q w) us vs is other h =
    exchanged q r w v (of_class class k us) (of_class class k vs) (class q == k) (class r == k) (apart (class q) (class r) c k other is) h

first_updates : (class : ℕ → ℕ) (c k : ℕ) (es : List Event) (at : ℕ) (d : Action) → IsFirstAt (updates_class class c) es at
    → of_class class k (updates_of (map (λ e. e.1) es)) ≡ of_class class k (with_update (get_or (map (λ e. e.1) es) at d) (updates_of (remove (map (λ e. e.1) es) at)))
first_updates class c k [] at d h = absurd h
first_updates class c k (e ∷ es) zero d h = refl
first_updates class c k (e ∷ es) (suc at) d h =
    passed class c k (get_or (map (λ x. x.1) es) at d) e.1 (updates_of (map (λ x. x.1) es)) (updates_of (remove (map (λ x. x.1) es) at))
    (first_passes (updates_class class c) es at d h.1) h.0 (first_updates class c k es at d h.1)

first_evaluations : (test : Action → Bool) (p : ℕ) (es : List Event) (at : ℕ) (d : Action) → IsFirstAt test es at
    → evaluations_of p (map (λ e. e.1) es) ≡ (if evaluates p (get_or (map (λ e. e.1) es) at d) then 1 else 0) + evaluations_of p (remove (map (λ e. e.1) es) at)
first_evaluations test p [] at d h = absurd h
first_evaluations test p (e ∷ es) zero d h = refl
first_evaluations test p (e ∷ es) (suc at) d h = omega (arith, first_evaluations test p es at d h.1)

-- events of which the first update of a class is brought before all others are alike in classes to those before
pub forward_alike : (class : ℕ → ℕ) (c at : ℕ) (d : Action) (xs ys : List Event) → IsFirstAt (updates_class class c) xs at
    → map (λ e. e.1) ys ≡ get_or (map (λ e. e.1) xs) at d ∷ remove (map (λ e. e.1) xs) at → AreAlikeIn class xs ys
forward_alike class c at d xs ys first is =
    record {
      updates = λ k.
          ap (of_class class k) (updates_are xs) ∙ first_updates class c k xs at d first
          ∙ ap (λ actions. of_class class k (updates_of actions)) (sym is) ∙ ap (of_class class k) (sym (updates_are ys));
      evaluations = λ p.
          evaluations_are p xs ∙ first_evaluations (updates_class class c) p xs at d first
          ∙ ap (evaluations_of p) (sym is) ∙ sym (evaluations_are p ys);
    }
