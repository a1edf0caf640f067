-- Future events that are alike but for the order of updates of different classes.
use Rattle.std.proofs.Common.{◌≡◌, ℕ, Bool, true, false, not, List, [], ◌∷◌, ◌++◌, map, filter, refl, sym, ap, ◌∙◌, arith, ◌==◌}
use Rattle.std.specs.Prelude.{cond}
use Rattle.std.proofs.lemmas.Bool.{eqb-true}
use Rattle.std.proofs.lemmas.Bool.Decides.{eqb_tells}
use Rattle.model.specs.States.{Event, Action, with_due, due_at, due_else}
use Rattle.model.specs.Runs.{has_any}
use Rattle.orders.specs.Alike.{times, IsAlikeFuture, TimesRise}
use Rattle.orders.proofs.FutureLists.{with_time, times-with_due, due-with_due, due_not}
use Rattle.loose.specs.Loose.{AreAlikeIn, IsAlikeFutureIn}
use Rattle.loose.proofs.ClassLists.{alike_lists_in, one_class_alike, alike_in-same, alike_in-sym, alike_in-trans, alike_in-append}

pub alike_futures_in : (class : ℕ → ℕ) (xs ys : List (ℕ × Event)) → IsAlikeFuture xs ys → IsAlikeFutureIn class xs ys
alike_futures_in class xs ys h =
    record { times = h.times; due = λ t. alike_lists_in class (due_at t xs) (due_at t ys) (h.due t) }

pub one_class_futures : (xs ys : List (ℕ × Event)) → IsAlikeFutureIn (λ r. 0) xs ys → IsAlikeFuture xs ys
one_class_futures xs ys h =
    record { times = h.times; due = λ t. one_class_alike (due_at t xs) (due_at t ys) (h.due t) }

pub alike_future_in-same : (class : ℕ → ℕ) (xs : List (ℕ × Event)) → IsAlikeFutureIn class xs xs
alike_future_in-same class xs = record { times = refl; due = λ t. alike_in-same class (due_at t xs) }

pub alike_future_in-sym : (class : ℕ → ℕ) (xs ys : List (ℕ × Event)) → IsAlikeFutureIn class xs ys → IsAlikeFutureIn class ys xs
alike_future_in-sym class xs ys h =
    record { times = sym h.times; due = λ t. alike_in-sym class (due_at t xs) (due_at t ys) (h.due t) }

pub alike_future_in-trans : (class : ℕ → ℕ) (xs ys zs : List (ℕ × Event)) → IsAlikeFutureIn class xs ys → IsAlikeFutureIn class ys zs → IsAlikeFutureIn class xs zs
alike_future_in-trans class xs ys zs g h =
    record {
      times = g.times ∙ h.times;
      due = λ t. alike_in-trans class (due_at t xs) (due_at t ys) (due_at t zs) (g.due t) (h.due t);
    }

-- one more event, with the same action and time

alike_one : (class : ℕ → ℕ) (k j due : ℕ) (a : Action) (b : Bool) → AreAlikeIn class (map (λ (f : ℕ × Event). f.1) (cond b ((due, (k, a)) ∷ []) [])) (map (λ (f : ℕ × Event). f.1) (cond b ((due, (j, a)) ∷ []) []))
alike_one class k j due a true = record { updates = λ c. refl; evaluations = λ p. refl }
alike_one class k j due a false = record { updates = λ c. refl; evaluations = λ p. refl }

pub alike_future_in-with_due : (class : ℕ → ℕ) (k j due : ℕ) (a : Action) (xs ys : List (ℕ × Event)) → TimesRise 0 (times xs) → TimesRise 0 (times ys) → IsAlikeFutureIn class xs ys
    → IsAlikeFutureIn class (with_due (due, (k, a)) xs) (with_due (due, (j, a)) ys)
alike_future_in-with_due class k j due a xs ys g i h =
    record {
      times = times-with_due (due, (k, a)) xs ∙ ap (with_time due) h.times ∙ sym (times-with_due (due, (j, a)) ys);
      due = λ t. rw (due-with_due t 0 (due, (k, a)) xs g, due-with_due t 0 (due, (j, a)) ys i) (alike_in-append class (due_at t xs) (due_at t ys) (due_at t ((due, (k, a)) ∷ [])) (due_at t ((due, (j, a)) ∷ [])) (h.due t) (alike_one class k j due a (due == t)));
    }

-- those of a time are taken

times_else_first : (f : ℕ × Event) (us : List (ℕ × Event)) (ts : List ℕ) (b : Bool) → times us ≡ ts → times (cond b (f ∷ us) us) ≡ cond b (f.0 ∷ ts) ts
times_else_first f us ts true h = ap (λ xs. f.0 ∷ xs) h
times_else_first f us ts false h = h

-- the other times
abbrev other_times : ℕ → List ℕ → List ℕ
other_times t ts = filter (λ u. not (u == t)) ts

times-due_else : (t : ℕ) (fs : List (ℕ × Event)) → times (due_else t fs) ≡ other_times t (times fs)
times-due_else t [] = refl
times-due_else t (f ∷ fs) = times_else_first f (due_else t fs) (other_times t (times fs)) (not (f.0 == t)) (times-due_else t fs)

none_of_first : (u : ℕ) (f : ℕ × Event) (fs : List (ℕ × Event)) (b : Bool) → (f.0 == u) ≡ b → due_at u fs ≡ [] → due_at u (cond (not b) (f ∷ fs) fs) ≡ []
none_of_first u f fs true is h = h
none_of_first u f fs false is h = due_not f fs u is ∙ h

none_of : (u : ℕ) (fs : List (ℕ × Event)) → due_at u (due_else u fs) ≡ []
none_of u [] = refl
none_of u (f ∷ fs) = none_of_first u f (due_else u fs) (f.0 == u) refl (none_of u fs)

due_cons : (g : ℕ × Event) (us : List (ℕ × Event)) (b : Bool) → map (λ f. f.1) (cond b (g ∷ us) us) ≡ map (λ f. f.1) (cond b (g ∷ []) []) ++ map (λ f. f.1) us
due_cons g us true = refl
due_cons g us false = refl

due-first : (t : ℕ) (g : ℕ × Event) (gs : List (ℕ × Event)) → due_at t (g ∷ gs) ≡ due_at t (g ∷ []) ++ due_at t gs
due-first t g gs = due_cons g (filter (λ f. f.0 == t) gs) (g.0 == t)

all_of_first : (t u : ℕ) (f : ℕ × Event) (fs gs : List (ℕ × Event)) (b : Bool) → (f.0 == u) ≡ b → (t == u) ≡ false → due_at t fs ≡ due_at t gs → due_at t (cond (not b) (f ∷ fs) fs) ≡ due_at t (f ∷ gs)
all_of_first t u f fs gs true is other h =
    let late : (f.0 == t) ≡ false = grind (arith, eqb_tells f.0 t, eqb_tells t u, other, eqb-true f.0 u is) in
    h ∙ sym (due_not f gs t late)
all_of_first t u f fs gs false is other h = due-first t f fs ∙ ap (λ es. due_at t (f ∷ []) ++ es) h ∙ sym (due-first t f gs)

all_of : (t u : ℕ) (fs : List (ℕ × Event)) → (t == u) ≡ false → due_at t (due_else u fs) ≡ due_at t fs
all_of t u [] other = refl
all_of t u (f ∷ fs) other = all_of_first t u f (due_else u fs) fs (f.0 == u) refl other (all_of t u fs other)

alike_else : (class : ℕ → ℕ) (t u : ℕ) (xs ys : List (ℕ × Event)) (b : Bool) → (t == u) ≡ b → AreAlikeIn class (due_at t xs) (due_at t ys) → AreAlikeIn class (due_at t (due_else u xs)) (due_at t (due_else u ys))
alike_else class t u xs ys true is h =
    let same : t ≡ u = eqb-true t u is in
    let none : due_at t (due_else u xs) ≡ [] = ap (λ v. due_at v (due_else u xs)) same ∙ none_of u xs in
    let none' : due_at t (due_else u ys) ≡ [] = ap (λ v. due_at v (due_else u ys)) same ∙ none_of u ys in
    rw (none, none') (alike_in-same class [])
alike_else class t u xs ys false is h = rw (all_of t u xs is, all_of t u ys is) h

pub alike_future_in-due_else : (class : ℕ → ℕ) (u : ℕ) (xs ys : List (ℕ × Event)) → IsAlikeFutureIn class xs ys → IsAlikeFutureIn class (due_else u xs) (due_else u ys)
alike_future_in-due_else class u xs ys h =
    record {
      times = times-due_else u xs ∙ ap (other_times u) h.times ∙ sym (times-due_else u ys);
      due = λ t. alike_else class t u xs ys (t == u) refl (h.due t);
    }

-- one is empty where the other is

times-has_any : (xs : List (ℕ × Event)) → has_any xs ≡ has_any (times xs)
times-has_any [] = refl
times-has_any (x ∷ xs) = refl

pub alike_future_in-has_any : (class : ℕ → ℕ) (xs ys : List (ℕ × Event)) → IsAlikeFutureIn class xs ys → has_any xs ≡ has_any ys
alike_future_in-has_any class xs ys h = times-has_any xs ∙ ap has_any h.times ∙ sym (times-has_any ys)

times-append : (xs ys : List (ℕ × Event)) → times (xs ++ ys) ≡ times xs ++ times ys
times-append [] ys = refl
times-append (x ∷ xs) ys = ap (λ ts. x.0 ∷ ts) (times-append xs ys)

pub alike_future_in-times : (class : ℕ → ℕ) (xs ys us vs : List (ℕ × Event)) → IsAlikeFutureIn class xs ys → IsAlikeFutureIn class us vs → times (xs ++ us) ≡ times (ys ++ vs)
alike_future_in-times class xs ys us vs g h =
    times-append xs us ∙ ap (λ ts. ts ++ times us) g.times ∙ ap (λ ts. times ys ++ ts) h.times ∙ sym (times-append ys vs)
