-- The first active update of a class, and the first active evaluation of a process.
use Rattle.std.proofs.Common.{◌≡◌, ℕ, suc, ◌+◌, ◌<◌, ◌≤◌, Bool, true, false, not, List, [], ◌∷◌, ◌++◌, map, length, Option, Some, None, refl, sym, ap, ◌∙◌, subst, arith, if◌then◌else◌, ◌==◌, ltb, eq-eqb}
use Rattle.std.specs.Prelude.{cond, find, MatchOption}
use Rattle.std.specs.List.{list_any, position_or_len}
use Rattle.std.proofs.lemmas.Bool.{eqb-true, ltb-true, ltb-false}
use Rattle.std.proofs.lemmas.Bool.Decides.{eqb_tells}
use Rattle.model.specs.States.{Event, Action, Evaluate}
use Rattle.model.specs.Runs.{action_in}
use Rattle.model.specs.Laws.{evaluates}
use Rattle.model.proofs.RunLaws.{either_false}
use Rattle.orders.specs.Alike.{EventsRise}
use Rattle.orders.proofs.EventLists.{present_from}
use Rattle.loose.specs.Loose.{updates_class}
use Rattle.regions.specs.declared.queue.Update.{Update}
use Rattle.regions.specs.declared.queue.Evaluation.{Evaluation}
use Rattle.regions.specs.Queue.{update_event, evaluation_event}
use Rattle.regions.specs.Find.{update_numbers}
use Rattle.regions.proofs.BroughtForward.{counted_numbers}
use Rattle.loosesteps.specs.Classes.{IsFirstAt}

-- where no event passes a test, none that does is there under a number

fails_here : (test : Action → Bool) (n : ℕ) (a : Action) (e : Event) (es : List Event) (here : Bool) → test e.1 ≡ false → (if here then Some e.1 else action_in es n) ≡ Some a → test a ≡ true
    → (action_in es n ≡ Some a → ⊥) → ⊥
fails_here test n a e es true fails at_n passes later =
    let same : e.1 ≡ a = cc in
    let bad : false ≡ true = sym fails ∙ (ap test same ∙ passes) in
    cc
fails_here test n a e es false fails at_n passes later = later at_n

pub none_there : (test : Action → Bool) (n : ℕ) (a : Action) (es : List Event) → list_any (λ e. test e.1) es ≡ false → action_in es n ≡ Some a → test a ≡ true → ⊥
none_there test n a [] none at_n passes = cc
none_there test n a (e ∷ es) none at_n passes =
    let (here, rest) = either_false (test e.1) (list_any (λ f. test f.1) es) none in
    fails_here test n a e es (e.0 == n) here at_n passes (λ later. none_there test n a es rest later passes)

-- the active events, of which the updates stand first
abbrev active_of : List Update → List Evaluation → List Event
active_of us es = map update_event us ++ map evaluation_event es

-- whether an update is of a class
abbrev is_of : (ℕ → ℕ) → ℕ → Update → Bool
is_of class c u = class u.register == c

no_update : (class : ℕ → ℕ) (c : ℕ) (es : List Evaluation) → list_any (λ e. updates_class class c e.1) (map evaluation_event es) ≡ false
no_update class c [] = refl
no_update class c (e ∷ es) = no_update class c es

place_here : (class : ℕ → ℕ) (c : ℕ) (u : Update) (us : List Update) (es : List Evaluation) (b : Bool) → is_of class c u ≡ b
    → cond (not b) (1 + position_or_len (is_of class c) us) 0 < length (u ∷ us)
    → (position_or_len (is_of class c) us < length us → IsFirstAt (updates_class class c) (active_of us es) (position_or_len (is_of class c) us))
    → IsFirstAt (updates_class class c) (active_of (u ∷ us) es) (cond (not b) (1 + position_or_len (is_of class c) us) 0)
place_here class c u us es true is below later = is
place_here class c u us es false is below later =
    let more : suc (position_or_len (is_of class c) us) ≡ 1 + position_or_len (is_of class c) us = omega arith in
    let first : IsFirstAt (updates_class class c) (active_of (u ∷ us) es) (suc (position_or_len (is_of class c) us)) = (is, later (omega (arith, below))) in
    subst (λ (at : ℕ). IsFirstAt (updates_class class c) (active_of (u ∷ us) es) at) more first

place_first : (class : ℕ → ℕ) (c : ℕ) (us : List Update) (es : List Evaluation) → position_or_len (is_of class c) us < length us → IsFirstAt (updates_class class c) (active_of us es) (position_or_len (is_of class c) us)
place_first class c [] es below = absurd (omega (arith, below))
place_first class c (u ∷ us) es below =
    place_here class c u us es (is_of class c u) refl below (place_first class c us es)

place_none_here : (class : ℕ → ℕ) (c : ℕ) (u : Update) (us : List Update) (es : List Evaluation) (b : Bool) → is_of class c u ≡ b
    → length (u ∷ us) ≤ cond (not b) (1 + position_or_len (is_of class c) us) 0
    → (length us ≤ position_or_len (is_of class c) us → list_any (λ e. updates_class class c e.1) (active_of us es) ≡ false)
    → list_any (λ e. updates_class class c e.1) (active_of (u ∷ us) es) ≡ false
place_none_here class c u us es true is above later = absurd (omega (arith, above))
place_none_here class c u us es false is above later = rw (is, later (omega (arith, above))) refl

place_none : (class : ℕ → ℕ) (c : ℕ) (us : List Update) (es : List Evaluation) → length us ≤ position_or_len (is_of class c) us → list_any (λ e. updates_class class c e.1) (active_of us es) ≡ false
place_none class c [] es above = no_update class c es
place_none class c (u ∷ us) es above =
    place_none_here class c u us es (is_of class c u) refl above (place_none class c us es)

-- the place of the first update of a class among the updates, where there is one
abbrev pub place_of : (ℕ → ℕ) → ℕ → List Update → Option ℕ
place_of class c us =
    cond (ltb (position_or_len (λ u. class u.register == c) us) (length us)) (Some (position_or_len (λ u. class u.register == c) us)) None

first_by : (class : ℕ → ℕ) (c at : ℕ) (us : List Update) (es : List Evaluation) (b : Bool) → ltb at (length us) ≡ b → at ≡ position_or_len (is_of class c) us
    → MatchOption (cond b (Some at) None) (list_any (λ e. updates_class class c e.1) (active_of us es) ≡ false) (IsFirstAt (updates_class class c) (active_of us es))
first_by class c at us es true is same =
    let below : position_or_len (is_of class c) us < length us = omega (arith, ltb-true at (length us) is, same) in
    subst (λ (n : ℕ). IsFirstAt (updates_class class c) (active_of us es) n) (sym same) (place_first class c us es below)
first_by class c at us es false is same = place_none class c us es (omega (arith, ltb-false at (length us) is, same))

-- it is the first of its class among all that is active
pub first_placed : (class : ℕ → ℕ) (c : ℕ) (r : Option ℕ) (us : List Update) (es : List Evaluation) (active : List Event) → r ≡ place_of class c us → map update_event us ++ map evaluation_event es ≡ active
    → MatchOption r (list_any (λ e. updates_class class c e.1) active ≡ false) (IsFirstAt (updates_class class c) active)
first_placed class c r us es active is all =
    rw (is, ← all) (first_by class c (position_or_len (is_of class c) us) us es (ltb (position_or_len (is_of class c) us) (length us)) refl refl)

within_by : (class : ℕ → ℕ) (c at : ℕ) (us : List Update) (es : List Evaluation) (b : Bool) → ltb at (length us) ≡ b → at ≡ position_or_len (is_of class c) us
    → MatchOption (cond b (Some at) None) (list_any (λ e. updates_class class c e.1) (active_of us es) ≡ false) (λ k. k < length (update_numbers (active_of us es)))
within_by class c at us es true is same = omega (arith, ltb-true at (length us) is, counted_numbers us es)
within_by class c at us es false is same = place_none class c us es (omega (arith, ltb-false at (length us) is, same))

-- and a place among the active updates
pub first_within : (class : ℕ → ℕ) (c : ℕ) (r : Option ℕ) (us : List Update) (es : List Evaluation) (active : List Event) → r ≡ place_of class c us → map update_event us ++ map evaluation_event es ≡ active
    → MatchOption r (list_any (λ e. updates_class class c e.1) active ≡ false) (λ at. at < length (update_numbers active))
first_within class c r us es active is all =
    rw (is, ← all) (within_by class c (position_or_len (is_of class c) us) us es (ltb (position_or_len (is_of class c) us) (length us)) refl refl)

-- evaluations

-- whether an evaluation is of a process
abbrev is_by : ℕ → Evaluation → Bool
is_by p e = e.process == p

none_by_here : (p : ℕ) (e : Evaluation) (es : List Evaluation) (b : Bool) → is_by p e ≡ b → cond b (Some e) (find (is_by p) es) ≡ None
    → (find (is_by p) es ≡ None → list_any (λ f. evaluates p f.1) (map evaluation_event es) ≡ false)
    → list_any (λ f. evaluates p f.1) (map evaluation_event (e ∷ es)) ≡ false
none_by_here p e es true is none later = cc
none_by_here p e es false is none later = rw (is, later none) refl

none_by : (p : ℕ) (us : List Update) (es : List Evaluation) → find (is_by p) es ≡ None → list_any (λ e. evaluates p e.1) (active_of us es) ≡ false
none_by p (u ∷ us) es none = none_by p us es none
none_by p [] [] none = refl
none_by p [] (e ∷ es) none = none_by_here p e es (is_by p e) refl none (none_by p [] es)

-- an event that is among later ones is there behind an earlier one
pub behind_one : (n from to : ℕ) (a : Action) (e : Event) (es : List Event) → EventsRise (e.0 + 1) es to → action_in es n ≡ Some a → action_in (e ∷ es) n ≡ Some a
behind_one n from to a e es rises at_n =
    let above : e.0 + 1 ≤ n = present_from n (e.0 + 1) to a es rises at_n in
    let other : (e.0 == n) ≡ false = grind (arith, eqb_tells e.0 n, above) in
    rw other at_n

found_here : (p to : ℕ) (e x : Evaluation) (es : List Evaluation) (b : Bool) → is_by p e ≡ b → EventsRise (e.number + 1) (map evaluation_event es) to → cond b (Some e) (find (is_by p) es) ≡ Some x
    → (find (is_by p) es ≡ Some x → action_in (map evaluation_event es) x.number ≡ Some (Evaluate p))
    → action_in (map evaluation_event (e ∷ es)) x.number ≡ Some (Evaluate p)
found_here p to e x es true is rises found later =
    let same : e ≡ x = cc in
    let own : e.process ≡ p = eqb-true e.process p is in
    let here : (if e.number == e.number then Some (Evaluate e.process) else action_in (map evaluation_event es) e.number) ≡ Some (Evaluate p) = rw (eq-eqb e.number e.number refl, own) refl in
    subst (λ (y : Evaluation). action_in (map evaluation_event (e ∷ es)) y.number ≡ Some (Evaluate p)) same here
found_here p to e x es false is rises found later =
    behind_one x.number 0 to (Evaluate p) (evaluation_event e) (map evaluation_event es) rises (later found)

found_by : (p from to : ℕ) (x : Evaluation) (us : List Update) (es : List Evaluation) → EventsRise from (active_of us es) to → find (is_by p) es ≡ Some x → action_in (active_of us es) x.number ≡ Some (Evaluate p)
found_by p from to x (u ∷ us) es rises found =
    behind_one x.number from to (Evaluate p) (update_event u) (active_of us es) rises.1 (found_by p (u.number + 1) to x us es rises.1 found)
found_by p from to x [] [] rises found = cc
found_by p from to x [] (e ∷ es) rises found =
    found_here p to e x es (is_by p e) refl rises.1 found (found_by p (e.number + 1) to x [] es rises.1)

-- where none is found, no evaluation of the process is active
pub none_evaluates : (p : ℕ) (us : List Update) (es : List Evaluation) (active : List Event) → find (λ e. e.process == p) es ≡ None → map update_event us ++ map evaluation_event es ≡ active
    → list_any (λ e. evaluates p e.1) active ≡ false
none_evaluates p us es active none all = rw (← all) (none_by p us es none)

-- one that is found is active under its number
pub found_evaluates : (p to : ℕ) (x : Evaluation) (us : List Update) (es : List Evaluation) (active : List Event) → EventsRise 0 active to → find (λ e. e.process == p) es ≡ Some x → map update_event us ++ map evaluation_event es ≡ active
    → action_in active x.number ≡ Some (Evaluate p)
found_evaluates p to x us es active rises found all =
    let in_order : EventsRise 0 (active_of us es) to = subst (λ (events : List Event). EventsRise 0 events to) (sym all) rises in
    rw (← all) (found_by p 0 to x us es in_order found)
