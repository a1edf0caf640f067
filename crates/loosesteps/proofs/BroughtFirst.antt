-- The first of the active updates, where the first update of a class was brought before the others.
use Rattle.std.proofs.Common.{◌≡◌, ℕ, ◌+◌, ◌≤◌, Bool, true, false, List, [], ◌∷◌, map, get_or, Option, Some, None, refl, ap, ◌∙◌, subst, arith, eq-eqb}
use Rattle.std.specs.Prelude.{remove, MatchOption}
use Rattle.std.proofs.lemmas.Bool.{eqb-true}
use Rattle.logic4.specs.Vector.{Vector}
use Rattle.model.specs.States.{Event, Action, Evaluate, is_evaluation}
use Rattle.model.specs.Runs.{action_in, least}
use Rattle.orders.specs.Alike.{EventsRise}
use Rattle.loose.specs.Loose.{updates_class}
use Rattle.regions.specs.Find.{update_numbers}
use Rattle.regions.specs.Order.{IsAscending}
use Rattle.regions.proofs.Timed.{IsAscending-low, least_first}
use Rattle.loosesteps.specs.Classes.{IsFirstAt, HasClassAt}
use Rattle.loosesteps.proofs.Forward.{first_passes}

-- the numbers of the updates rise with those of all events

rising_here : (from to : ℕ) (e : Event) (es : List Event) (b : Bool) → is_evaluation e.1 ≡ b → from ≤ e.0 → IsAscending (e.0 + 1) (update_numbers es) → IsAscending from (update_numbers (e ∷ es))
rising_here from to e es true is above later = rw is (IsAscending-low (e.0 + 1) from (update_numbers es) (omega (arith, above)) later)
rising_here from to e es false is above later = rw is (above, IsAscending-low (e.0 + 1) e.0 (update_numbers es) (omega arith) later)

rising_numbers : (from to : ℕ) (es : List Event) → EventsRise from es to → IsAscending from (update_numbers es)
rising_numbers from to [] rises = tt
rising_numbers from to (e ∷ es) rises =
    rising_here from to e es (is_evaluation e.1) refl rises.0 (rising_numbers (e.0 + 1) to es rises.1)

-- an update before all others has the least number
least_is : (n r to : ℕ) (v : Vector) (es : List Event) → EventsRise (n + 1) es to → least (update_numbers ((n, Action.Update r v) ∷ es)) ≡ Some n
least_is n r to v es rises =
    least_first n (update_numbers es) (IsAscending-low (n + 1) n (update_numbers es) (omega arith) (rising_numbers (n + 1) to es rises))

-- a number is the least, and that of an update of a class
abbrev IsLeastOf : (ℕ → ℕ) → ℕ → List Event → Type 0
IsLeastOf class c es = (n : ℕ) × (least (update_numbers es) ≡ Some n) × HasClassAt class c es n

least_of : (class : ℕ → ℕ) (c n to : ℕ) (a : Action) (es : List Event) → updates_class class c a ≡ true → EventsRise (n + 1) es to → IsLeastOf class c ((n, a) ∷ es)
least_of class c n to (Evaluate p) es passes rises = cc
least_of class c n to (Action.Update r v) es passes rises =
    let here : action_in ((n, Action.Update r v) ∷ es) n ≡ Some (Action.Update r v) = rw (eq-eqb n n refl) refl in
    (n, least_is n r to v es rises, (r, v, here, eqb-true (class r) c passes))

least_brought : (class : ℕ → ℕ) (c to : ℕ) (a : Action) (others : List Action) (new : List Event) → updates_class class c a ≡ true → map (λ e. e.1) new ≡ a ∷ others → EventsRise 0 new to → IsLeastOf class c new
least_brought class c to a others [] passes is rises = cc
least_brought class c to a others (e ∷ es) passes is rises =
    let same : e.1 ≡ a = cc in
    let own : updates_class class c e.1 ≡ true = ap (updates_class class c) same ∙ passes in
    least_of class c e.0 to e.1 es own rises.1

least_matched : (P : Type 0) (class : ℕ → ℕ) (c : ℕ) (o : Option ℕ) (es : List Event) → o ≡ least (update_numbers es) → IsLeastOf class c es → MatchOption o P (HasClassAt class c es)
least_matched P class c None es is (n, least_n, has) =
    let bad : None ≡ Some n = is ∙ least_n in
    cc
least_matched P class c (Some m) es is (n, least_n, has) =
    let both : Some m ≡ Some n = is ∙ least_n in
    let same : n ≡ m = cc in
    subst (λ (k : ℕ). HasClassAt class c es k) same has

-- the first update is the one that was brought forward
pub brought_first : (P : Type 0) (class : ℕ → ℕ) (c at to : ℕ) (d : Action) (o : Option ℕ) (old new : List Event) → o ≡ least (update_numbers new) → IsFirstAt (updates_class class c) old at
    → map (λ e. e.1) new ≡ get_or (map (λ e. e.1) old) at d ∷ remove (map (λ e. e.1) old) at → EventsRise 0 new to → MatchOption o P (HasClassAt class c new)
brought_first P class c at to d o old new is first brought rises =
    least_matched P class c o new is
    (least_brought class c to (get_or (map (λ e. e.1) old) at d) (remove (map (λ e. e.1) old) at) new (first_passes (updates_class class c) old at d first) brought rises)
