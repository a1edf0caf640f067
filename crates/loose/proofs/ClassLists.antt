-- Lists of events that are alike but for the order of updates of different classes.
use Rattle.std.proofs.Common.{◌≡◌, ℕ, suc, ◌+◌, ◌≤◌, Bool, true, false, not, List, [], ◌∷◌, ◌++◌, Some, refl, sym, ap, ◌∙◌, arith, if◌then◌else◌, ◌==◌, ◌||◌, ◌&&◌, nat_lt, eq-eqb}
use Rattle.std.specs.Prelude.{cond}
use Rattle.std.specs.List.{enumerate_from}
use Rattle.std.proofs.lemmas.Bool.{eqb-true}
use Rattle.std.proofs.lemmas.Bool.Decides.{eqb_tells, leb_tells}
use Rattle.std.proofs.lemmas.List.Elements.{filter-append}
use Rattle.logic4.specs.Vector.{Vector}
use Rattle.model.specs.States.{Event, Action, Evaluate, without}
use Rattle.model.specs.Runs.{action_in, has_any, has_earlier_update}
use Rattle.model.proofs.RunLaws.{either_false}
use Rattle.orders.specs.Alike.{with_update, updates_in, AreAlike, EventsRise}
use Rattle.orders.proofs.EventLists.{both_ways, updates-append, evaluations-append, alike-same, alike-grown, absent, present_from, evaluations-taken, updates_left, own_evaluation}
use Rattle.loose.specs.Loose.{of_class, updates_of_class, AreAlikeIn, updates_class, has_earlier_of_class}

-- where all registers are of one class, those of that class are all

one_class : (ws : List (ℕ × Vector)) → of_class (λ r. 0) 0 ws ≡ ws
one_class [] = refl
one_class (w ∷ ws) = ap (λ us. w ∷ us) (one_class ws)

pub one_class_alike : (xs ys : List Event) → AreAlikeIn (λ r. 0) xs ys → AreAlike xs ys
one_class_alike xs ys h =
    record {
      updates = sym (one_class (updates_in xs)) ∙ h.updates 0 ∙ one_class (updates_in ys);
      evaluations = h.evaluations;
    }

-- one after the other

pub class-append : (class : ℕ → ℕ) (c : ℕ) (xs ys : List Event) → updates_of_class class c (xs ++ ys) ≡ updates_of_class class c xs ++ updates_of_class class c ys
class-append class c xs ys =
    ap (of_class class c) (updates-append xs ys) ∙ filter-append {X = ℕ × Vector} (λ w. class w.0 == c) (updates_in xs) (updates_in ys)

pub alike_lists_in : (class : ℕ → ℕ) (xs ys : List Event) → AreAlike xs ys → AreAlikeIn class xs ys
alike_lists_in class xs ys h = record { updates = λ c. ap (of_class class c) h.updates; evaluations = h.evaluations }

pub alike_in-same : (class : ℕ → ℕ) (xs : List Event) → AreAlikeIn class xs xs
alike_in-same class xs = record { updates = λ c. refl; evaluations = λ p. refl }

pub alike_in-sym : (class : ℕ → ℕ) (xs ys : List Event) → AreAlikeIn class xs ys → AreAlikeIn class ys xs
alike_in-sym class xs ys h = record { updates = λ c. sym (h.updates c); evaluations = λ p. sym (h.evaluations p) }

pub alike_in-trans : (class : ℕ → ℕ) (xs ys zs : List Event) → AreAlikeIn class xs ys → AreAlikeIn class ys zs → AreAlikeIn class xs zs
alike_in-trans class xs ys zs g h =
    record { updates = λ c. g.updates c ∙ h.updates c; evaluations = λ p. g.evaluations p ∙ h.evaluations p }

pub alike_in-append : (class : ℕ → ℕ) (xs ys us vs : List Event) → AreAlikeIn class xs ys → AreAlikeIn class us vs → AreAlikeIn class (xs ++ us) (ys ++ vs)
alike_in-append class xs ys us vs g h =
    record {
      updates = λ c. class-append class c xs us ∙ ap (λ x. x ++ updates_of_class class c us) (g.updates c) ∙ ap (λ x. updates_of_class class c ys ++ x) (h.updates c) ∙ sym (class-append class c ys vs);
      evaluations = λ p. omega (arith, evaluations-append p xs us, evaluations-append p ys vs, g.evaluations p, h.evaluations p);
    }

-- new events with the same actions
pub alike_in-grown : (class : ℕ → ℕ) (xs ys : List Event) (k j : ℕ) (actions others : List Action) → actions ≡ others → AreAlikeIn class xs ys
    → AreAlikeIn class (xs ++ enumerate_from k actions) (ys ++ enumerate_from j others)
alike_in-grown class xs ys k j actions others same h =
    alike_in-append class xs ys (enumerate_from k actions) (enumerate_from j others) h
    (alike_lists_in class (enumerate_from k actions) (enumerate_from j others) (alike-grown [] [] k j actions others same (alike-same [])))

-- an evaluation is taken
pub alike_in-evaluated : (class : ℕ → ℕ) (xs ys : List Event) (p n m a b c d : ℕ) → AreAlikeIn class xs ys → EventsRise a xs b → EventsRise c ys d → action_in xs n ≡ Some (Evaluate p) → action_in ys m ≡ Some (Evaluate p)
    → AreAlikeIn class (without n xs) (without m ys)
alike_in-evaluated class xs ys p n m a b c d h g i at_n at_m =
    record {
      updates = λ k. ap (of_class class k) (sym (updates_left n p a b xs g at_n)) ∙ h.updates k ∙ ap (of_class class k) (updates_left m p c d ys i at_m);
      evaluations = λ q. omega (
        arith,
        h.evaluations q,
        evaluations-taken n q a b (Evaluate p) xs g at_n,
        evaluations-taken m q c d (Evaluate p) ys i at_m,
      );
    }

-- the first update of a class is taken

both_not : (b c : Bool) → c ≡ true → (b && c) ≡ false → b ≡ false
both_not true c is h = sym is ∙ h
both_not false c is h = refl

-- an update may stand before another that isn't of its class, as far as one class shows it
exchanged : (q r : ℕ) (w v : Vector) (xs ys : List (ℕ × Vector)) (b d : Bool) → (b ≡ true → d ≡ true → ⊥) → xs ≡ cond d ((r, v) ∷ ys) ys
    → cond b ((q, w) ∷ xs) xs ≡ cond d ((r, v) ∷ cond b ((q, w) ∷ ys) ys) (cond b ((q, w) ∷ ys) ys)
exchanged q r w v xs ys true true other h = absurd (other refl refl)
exchanged q r w v xs ys true false other h = ap (λ us. (q, w) ∷ us) h
exchanged q r w v xs ys false true other h = h
exchanged q r w v xs ys false false other h = h

not_one : (a b c : ℕ) → (a == b) ≡ false → (a == c) ≡ true → (b == c) ≡ true → ⊥
not_one a b c other is is' = both_ways (a == b) (eq-eqb a b (eqb-true a c is ∙ sym (eqb-true b c is'))) other

passed : (class : ℕ → ℕ) (c n r to m : ℕ) (v : Vector) (a : Action) (es : List Event) → EventsRise (m + 1) es to → action_in es n ≡ Some (Action.Update r v) → has_earlier_of_class class (class r) ((m, a) ∷ es) n ≡ false
    → (has_earlier_of_class class (class r) es n ≡ false → updates_of_class class c es ≡ of_class class c ((r, v) ∷ updates_in (without n es)))
    → of_class class c (with_update a (updates_in es)) ≡ of_class class c ((r, v) ∷ with_update a (updates_in (without n es)))
passed class c n r to m v (Evaluate p) es rises is first later = later first
passed class c n r to m v (Action.Update q w) es rises is first later =
    let above : m + 1 ≤ n = present_from n (m + 1) to (Action.Update r v) es rises is in
    let earlier : nat_lt m n ≡ true = grind (arith, leb_tells (suc m) n, above) in
    let (now, rest) = either_false ((class q == class r) && nat_lt m n) (has_earlier_of_class class (class r) es n) first in
    let other : (class q == class r) ≡ false = both_not (class q == class r) (nat_lt m n) earlier now in
    exchanged q r w v (updates_of_class class c es) (updates_of_class class c (without n es)) (class q == c) (class r == c) (not_one (class q) (class r) c other) (later rest)

taken_first : (class : ℕ → ℕ) (c n r to : ℕ) (v : Vector) (e : Event) (es : List Event) (b : Bool) → (e.0 == n) ≡ b → (if b then Some e.1 else action_in es n) ≡ Some (Action.Update r v) → EventsRise (e.0 + 1) es to
    → has_earlier_of_class class (class r) (e ∷ es) n ≡ false
    → (action_in es n ≡ Some (Action.Update r v) → has_earlier_of_class class (class r) es n ≡ false → updates_of_class class c es ≡ of_class class c ((r, v) ∷ updates_in (without n es)))
    → of_class class c (with_update e.1 (updates_in es)) ≡ of_class class c ((r, v) ∷ updates_in (cond (not b) (e ∷ without n es) (without n es)))
taken_first class c n r to v e es true is h rises first later =
    let same : e.1 ≡ Action.Update r v = cc in
    let gone : without n es ≡ es = absent n (e.0 + 1) to es rises (omega (arith, eqb-true e.0 n is)) in
    let here : with_update e.1 (updates_in es) ≡ (r, v) ∷ updates_in (without n es) = rw (same, gone) refl in
    ap (of_class class c) here
taken_first class c n r to v e es false is h rises first later = passed class c n r to e.0 v e.1 es rises h first (later h)

-- an update before which none of its class stands may as well stand before all, whichever class is looked at
pub class_taken : (class : ℕ → ℕ) (c n r from to : ℕ) (v : Vector) (es : List Event) → EventsRise from es to → action_in es n ≡ Some (Action.Update r v) → has_earlier_of_class class (class r) es n ≡ false
    → updates_of_class class c es ≡ of_class class c ((r, v) ∷ updates_in (without n es))
class_taken class c n r from to v [] rises is first = cc
class_taken class c n r from to v (e ∷ es) rises is first =
    taken_first class c n r to v e es (e.0 == n) refl is rises.1 first (class_taken class c n r (e.0 + 1) to v es rises.1)

pub own_first : (class : ℕ → ℕ) (c r : ℕ) (v : Vector) (us : List (ℕ × Vector)) → class r ≡ c → of_class class c ((r, v) ∷ us) ≡ (r, v) ∷ of_class class c us
own_first class c r v us own = rw (eq-eqb (class r) c own) refl

-- it is the first of its own class
pub first_taken : (class : ℕ → ℕ) (c n r from to : ℕ) (v : Vector) (es : List Event) → class r ≡ c → EventsRise from es to → action_in es n ≡ Some (Action.Update r v) → has_earlier_of_class class (class r) es n ≡ false
    → updates_of_class class c es ≡ (r, v) ∷ updates_of_class class c (without n es)
first_taken class c n r from to v es own rises is first =
    class_taken class c n r from to v es rises is first ∙ own_first class c r v (updates_in (without n es)) own

others_same : (w : ℕ × Vector) (xs ys : List (ℕ × Vector)) (b : Bool) → cond b (w ∷ xs) xs ≡ cond b (w ∷ ys) ys → xs ≡ ys
others_same w xs ys true h = cc
others_same w xs ys false h = h

pub alike_in-updated : (class : ℕ → ℕ) (xs ys : List Event) (r n m a b c d : ℕ) (v : Vector) → AreAlikeIn class xs ys → EventsRise a xs b → EventsRise c ys d → action_in xs n ≡ Some (Action.Update r v) → action_in ys m ≡ Some (Action.Update r v)
    → has_earlier_of_class class (class r) xs n ≡ false → has_earlier_of_class class (class r) ys m ≡ false → AreAlikeIn class (without n xs) (without m ys)
alike_in-updated class xs ys r n m a b c d v h g i at_n at_m first_n first_m =
    record {
      updates = λ k. others_same (r, v) (updates_of_class class k (without n xs)) (updates_of_class class k (without m ys)) (class r == k) (sym (class_taken class k n r a b v xs g at_n first_n) ∙ h.updates k ∙ class_taken class k m r c d v ys i at_m first_m);
      evaluations = λ p. omega (
        arith,
        h.evaluations p,
        evaluations-taken n p a b (Action.Update r v) xs g at_n,
        evaluations-taken m p c d (Action.Update r v) ys i at_m,
      );
    }

-- the first update of a class is found

none_and : (b c d : Bool) → c ≡ false → d ≡ false → (b && c || d) ≡ false
none_and true c d g h = rw (g, h) refl
none_and false c d g h = h

none_earlier : (class : ℕ → ℕ) (c n from to : ℕ) (es : List Event) → EventsRise from es to → n ≤ from → has_earlier_of_class class c es n ≡ false
none_earlier class c n from to [] rises less = refl
none_earlier class c n from to (e ∷ es) rises less =
    let late : nat_lt e.0 n ≡ false = grind (arith, leb_tells (suc e.0) n, rises.0, less) in
    none_and (updates_class class c e.1) (nat_lt e.0 n) (has_earlier_of_class class c es n) late (none_earlier class c n (e.0 + 1) to es rises.1 (omega (arith, rises.0, less)))

-- an update is there, and none of a class is before it
abbrev pub HasFirstOf : (ℕ → ℕ) → ℕ → List Event → ℕ → Vector → Type 0
HasFirstOf class c es r v =
    (n : ℕ) × (action_in es n ≡ Some (Action.Update r v)) × (has_earlier_of_class class c es n ≡ false)

class_here : (class : ℕ → ℕ) (c m to q r : ℕ) (w v : Vector) (es : List Event) (us : List (ℕ × Vector)) (b : Bool) → (class q == c) ≡ b → EventsRise (m + 1) es to
    → cond b ((q, w) ∷ updates_of_class class c es) (updates_of_class class c es) ≡ (r, v) ∷ us → (updates_of_class class c es ≡ (r, v) ∷ us → HasFirstOf class c es r v)
    → HasFirstOf class c ((m, Action.Update q w) ∷ es) r v
class_here class c m to q r w v es us true of rises is later =
    let pair : ◌≡◌ {A = ℕ × Vector} (q, w) (r, v) = cc in
    let register : q ≡ r = ap (λ x. x.0) pair in
    let value : w ≡ v = ap (λ x. x.1) pair in
    let late : nat_lt m m ≡ false = grind (arith, leb_tells (suc m) m) in
    let here : (if m == m then Some (Action.Update q w) else action_in es m) ≡ Some (Action.Update r v) = rw (eq-eqb m m refl, register, value) refl in
    (m, here, none_and (class q == c) (nat_lt m m) (has_earlier_of_class class c es m) late (none_earlier class c m (m + 1) to es rises (omega arith)))
class_here class c m to q r w v es us false of rises is later =
    let (n, at_n, first) = later is in
    let above : m + 1 ≤ n = present_from n (m + 1) to (Action.Update r v) es rises at_n in
    let other : (m == n) ≡ false = grind (arith, eqb_tells m n, above) in
    let still : ((class q == c) && nat_lt m n || has_earlier_of_class class c es n) ≡ false = rw of first in
    (n, rw other at_n, still)

first_here : (class : ℕ → ℕ) (c m to r : ℕ) (v : Vector) (a : Action) (es : List Event) (us : List (ℕ × Vector)) → EventsRise (m + 1) es to → of_class class c (with_update a (updates_in es)) ≡ (r, v) ∷ us
    → (updates_of_class class c es ≡ (r, v) ∷ us → HasFirstOf class c es r v) → HasFirstOf class c ((m, a) ∷ es) r v
first_here class c m to r v (Evaluate p) es us rises is later =
    let (n, at_n, first) = later is in
    let above : m + 1 ≤ n = present_from n (m + 1) to (Action.Update r v) es rises at_n in
    let other : (m == n) ≡ false = grind (arith, eqb_tells m n, above) in
    (n, rw other at_n, first)
first_here class c m to r v (Action.Update q w) es us rises is later =
    class_here class c m to q r w v es us (class q == c) refl rises is later

pub find_first : (class : ℕ → ℕ) (c r from to : ℕ) (v : Vector) (es : List Event) (us : List (ℕ × Vector)) → EventsRise from es to → updates_of_class class c es ≡ (r, v) ∷ us → HasFirstOf class c es r v
find_first class c r from to v [] us rises is = cc
find_first class c r from to v (e ∷ es) us rises is =
    first_here class c e.0 to r v e.1 es us rises.1 is (find_first class c r (e.0 + 1) to v es us rises.1)

-- what is before an update in any class is before it

pub fewer_earlier : (class : ℕ → ℕ) (c n : ℕ) (es : List Event) → has_earlier_update es n ≡ false → has_earlier_of_class class c es n ≡ false
fewer_earlier class c n [] none = refl
fewer_earlier class c n ((m, Evaluate p) ∷ es) none = fewer_earlier class c n es none
fewer_earlier class c n ((m, Action.Update q w) ∷ es) none =
    let (now, later) = either_false (nat_lt m n) (has_earlier_update es n) none in
    none_and (class q == c) (nat_lt m n) (has_earlier_of_class class c es n) now (fewer_earlier class c n es later)

-- where all registers are of one class, these are the same
pub one_class_earlier : (n : ℕ) (es : List Event) → has_earlier_of_class (λ r. 0) 0 es n ≡ has_earlier_update es n
one_class_earlier n [] = refl
one_class_earlier n ((m, Evaluate p) ∷ es) = one_class_earlier n es
one_class_earlier n ((m, Action.Update q w) ∷ es) = ap (λ b. nat_lt m n || b) (one_class_earlier n es)

-- of two lists that are alike, one is empty where the other is

none_alike : (class : ℕ → ℕ) (m : ℕ) (a : Action) (es : List Event) → AreAlikeIn class [] ((m, a) ∷ es) → ⊥
none_alike class m (Evaluate p) es h = omega (arith, own_evaluation p, h.evaluations p)
none_alike class m (Action.Update r v) es h =
    let none : [] ≡ (r, v) ∷ updates_of_class class (class r) es = h.updates (class r) ∙ own_first class (class r) r v (updates_in es) refl in
    cc

pub alike_in-has_any : (class : ℕ → ℕ) (xs ys : List Event) → AreAlikeIn class xs ys → has_any xs ≡ has_any ys
alike_in-has_any class [] [] h = refl
alike_in-has_any class [] (y ∷ ys) h = absurd (none_alike class y.0 y.1 ys h)
alike_in-has_any class (x ∷ xs) [] h = absurd (none_alike class x.0 x.1 xs (alike_in-sym class (x ∷ xs) [] h))
alike_in-has_any class (x ∷ xs) (y ∷ ys) h = refl
