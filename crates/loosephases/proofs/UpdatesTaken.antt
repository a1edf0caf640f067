-- An update that is taken loosely is the first of its register, so that what the active updates give is the same once it stands first.
use Rattle.std.proofs.Common.{◌≡◌, ℕ, suc, ◌+◌, Bool, true, false, not, List, [], ◌∷◌, map, length, Some, refl, sym, ap, ◌∙◌, arith, if◌then◌else◌, ◌==◌, ◌||◌, eq-eqb}
use Rattle.std.specs.Prelude.{cond}
use Rattle.std.proofs.lemmas.Bool.{eqb-true}
use Rattle.logic4.specs.Vector.{Vector}
use Rattle.model.specs.Turns.{contains}
use Rattle.model.specs.States.{Action, Evaluate, Event, without}
use Rattle.model.specs.Runs.{action_in, has_any}
use Rattle.orders.specs.Alike.{with_update, updates_in, EventsRise}
use Rattle.orders.specs.Apart.{of_register}
use Rattle.orders.proofs.EventLists.{absent}
use Rattle.loose.specs.Loose.{of_class, has_earlier_of_class}
use Rattle.loose.proofs.ClassLists.{class_taken}

-- writes of one register are of one class

one_more : (class : ℕ → ℕ) (q : ℕ) (w : ℕ × Vector) (xs us : List (ℕ × Vector)) (here own : Bool) → (class w.0 == class q) ≡ here → (w.0 == q) ≡ own → of_register q xs ≡ us
    → of_register q (cond here (w ∷ xs) xs) ≡ cond own (w ∷ us) us
one_more class q w xs us true true is is' h = rw is' (ap (λ ws. w ∷ ws) h)
one_more class q w xs us true false is is' h = rw is' h
one_more class q w xs us false true is is' h =
    let bad : (class w.0 == class q) ≡ true = eq-eqb (class w.0) (class q) (ap class (eqb-true w.0 q is')) in
    cc
one_more class q w xs us false false is is' h = h

by_class : (class : ℕ → ℕ) (q : ℕ) (ws : List (ℕ × Vector)) → of_register q (of_class class (class q) ws) ≡ of_register q ws
by_class class q [] = refl
by_class class q (w ∷ ws) =
    one_more class q w (of_class class (class q) ws) (of_register q ws) (class w.0 == class q) (w.0 == q) refl refl (by_class class q ws)

pub register_taken : (class : ℕ → ℕ) (q n r from to : ℕ) (v : Vector) (es : List Event) → EventsRise from es to → action_in es n ≡ Some (Action.Update r v) → has_earlier_of_class class (class r) es n ≡ false
    → of_register q (updates_in es) ≡ of_register q ((r, v) ∷ updates_in (without n es))
register_taken class q n r from to v es rises at first =
    sym (by_class class q (updates_in es)) ∙ ap (of_register q) (class_taken class (class q) n r from to v es rises at first) ∙ by_class class q ((r, v) ∷ updates_in (without n es))

-- a register is written where some write is of it

listed_first : (q : ℕ) (w : ℕ × Vector) (us : List (ℕ × Vector)) (there own : Bool) → (w.0 == q) ≡ own → there ≡ has_any us → (own || there) ≡ has_any (cond own (w ∷ us) us)
listed_first q w us there true is h = refl
listed_first q w us there false is h = h

listed : (q : ℕ) (ws : List (ℕ × Vector)) → contains (map (λ (w : ℕ × Vector). w.0) ws) q ≡ has_any (of_register q ws)
listed q [] = refl
listed q (w ∷ ws) = listed_first q w (of_register q ws) (contains (map (λ (w : ℕ × Vector). w.0) ws) q) (w.0 == q) refl (listed q ws)

pub listed_same : (q : ℕ) (us ws : List (ℕ × Vector)) → of_register q us ≡ of_register q ws → contains (map (λ (w : ℕ × Vector). w.0) us) q ≡ contains (map (λ (w : ℕ × Vector). w.0) ws) q
listed_same q us ws h = listed q us ∙ ap has_any h ∙ sym (listed q ws)

-- there is one update less

counted : (a : Action) (us vs : List (ℕ × Vector)) → length us ≡ suc (length vs) → length (with_update a us) ≡ suc (length (with_update a vs))
counted (Evaluate p) us vs h = h
counted (Action.Update r v) us vs h = ap suc h

fewer_first : (n r to : ℕ) (v : Vector) (e : Event) (es : List Event) (b : Bool) → (e.0 == n) ≡ b → (if b then Some e.1 else action_in es n) ≡ Some (Action.Update r v) → EventsRise (e.0 + 1) es to
    → (action_in es n ≡ Some (Action.Update r v) → length (updates_in es) ≡ suc (length (updates_in (without n es))))
    → length (with_update e.1 (updates_in es)) ≡ suc (length (updates_in (cond (not b) (e ∷ without n es) (without n es))))
fewer_first n r to v e es true is h rises later =
    let same : e.1 ≡ Action.Update r v = cc in
    let gone : without n es ≡ es = absent n (e.0 + 1) to es rises (omega (arith, eqb-true e.0 n is)) in
    rw (same, gone) refl
fewer_first n r to v e es false is h rises later = counted e.1 (updates_in es) (updates_in (without n es)) (later h)

pub fewer_updates : (n r from to : ℕ) (v : Vector) (es : List Event) → EventsRise from es to → action_in es n ≡ Some (Action.Update r v) → length (updates_in es) ≡ suc (length (updates_in (without n es)))
fewer_updates n r from to v [] rises is = cc
fewer_updates n r from to v (e ∷ es) rises is =
    fewer_first n r to v e es (e.0 == n) refl is rises.1 (fewer_updates n r (e.0 + 1) to v es rises.1)
