-- How lists grow from one another.
use Rattle.std.proofs.Common.{◌≡◌, ℕ, zero, suc, ◌+◌, ◌-◌, ◌*◌, ◌<◌, ◌≤◌, List, [], ◌∷◌, ◌++◌, length, get_or, refl, sym, ap, ◌∙◌, append_assoc, arith, length-append, Some, None, Option, ◌⊎◌, inl, inr}
use Rattle.std.proofs.lemmas.List.{append-nil, get_or_append_left}
use Rattle.std.proofs.Math.Seq.{get_or-append_seam}
use Rattle.std.specs.Prelude.{slice_get}
use Rattle.sharing.specs.Parts.{Extends}
use Rattle.explore.specs.Grown.{grown, grown_all}

-- no number is less than itself
pub not_less : (n : ℕ) → n < n → ⊥
not_less n less = omega (arith, less)

-- a list extends itself
pub Extends-itself : {X : Type 0} (xs : List X) → Extends xs xs
Extends-itself xs = ([], sym (append-nil xs))

-- what extends what extends a list extends it
pub Extends-through : {X : Type 0} (xs ys zs : List X) → Extends xs ys → Extends ys zs → Extends xs zs
Extends-through xs ys zs first second =
    (first.0 ++ second.0, second.1 ∙ (ap (λ l. l ++ second.0) first.1 ∙ append_assoc xs first.0 second.0))

-- a list that extends another is no shorter
pub length-extends : {X : Type 0} (xs ys : List X) → Extends xs ys → length xs ≤ length ys
length-extends xs ys more = omega (arith, ap length more.1, length-append xs more.0)

-- what has a number keeps it where more is added
pub get_or-extends : {X : Type 0} (xs ys : List X) (k : ℕ) (d : X) → Extends xs ys → k < length xs → get_or ys k d ≡ get_or xs k d
get_or-extends {X} xs ys k d more less = ap (λ (l : List X). get_or l k d) more.1 ∙ get_or_append_left xs more.0 d k less

-- growing adds one
pub length-grown : {X : Type 0} (lists : List (List X)) (from : ℕ) (piece : List X) → length (grown lists from piece) ≡ suc (length lists)
length-grown lists from piece = omega (arith, length-append lists ((get_or lists from [] ++ piece) ∷ []))

-- the list that was added last
pub get_or-grown : {X : Type 0} (lists : List (List X)) (from : ℕ) (piece : List X) → get_or (grown lists from piece) (length lists) [] ≡ get_or lists from [] ++ piece
get_or-grown lists from piece = get_or-append_seam lists (get_or lists from [] ++ piece) [] []

-- all that grow extend what was there
pub grown_all-extends : {X : Type 0} (lists : List (List X)) (steps : List (ℕ × List X)) → Extends lists (grown_all lists steps)
grown_all-extends lists [] = Extends-itself lists
grown_all-extends lists (step ∷ steps) =
    Extends-through lists (grown lists step.0 step.1) (grown_all (grown lists step.0 step.1) steps)
    ((get_or lists step.0 [] ++ step.1) ∷ [], refl) (grown_all-extends (grown lists step.0 step.1) steps)

-- one more step grows from all that came before
pub grown_all-push : {X : Type 0} (lists : List (List X)) (steps : List (ℕ × List X)) (step : ℕ × List X) → grown_all lists (steps ++ step ∷ []) ≡ grown (grown_all lists steps) step.0 step.1
grown_all-push lists [] step = refl
grown_all-push lists (s ∷ steps) step = grown_all-push (grown lists s.0 s.1) steps step

-- each step adds one list
pub length-grown_all : {X : Type 0} (lists : List (List X)) (steps : List (ℕ × List X)) → length (grown_all lists steps) ≡ length lists + length steps
length-grown_all lists [] = omega arith
length-grown_all lists (s ∷ steps) = omega (arith, length-grown_all (grown lists s.0 s.1) steps, length-grown lists s.0 s.1)

pub some_same : {X : Type 0} (x y : X) → ◌≡◌ {A = Option X} (Some x) (Some y) → x ≡ y
some_same x y e = cc

pub none_some : {X : Type 0} (y : X) → ◌≡◌ {A = Option X} None (Some y) → ⊥
none_some y e = cc

-- after a push, what has a number had it before or is what was pushed
pub slice_get_push : {X : Type 0} (xs : List X) (x y : X) (k : ℕ) → slice_get (xs ++ x ∷ []) k ≡ Some y → ((k < length xs) × (slice_get xs k ≡ Some y)) ⊎ ((k ≡ length xs) × (x ≡ y))
slice_get_push [] x y zero e = inr (refl, some_same x y e)
slice_get_push [] x y (suc k) e = absurd (none_some y e)
slice_get_push (a ∷ xs) x y zero e = inl (omega arith, e)
slice_get_push (a ∷ xs) x y (suc k) e = elim (slice_get_push xs x y k e) [ inl h ↦ inl (omega (arith, h.0), h.1) | inr h ↦ inr (ap (λ n. suc n) h.0, h.1) ]

-- what a step adds is the list that it goes on from, and its piece
pub get_or-grown_all : {X : Type 0} (lists : List (List X)) (steps : List (ℕ × List X)) (k : ℕ) (step : ℕ × List X) → slice_get steps k ≡ Some step → step.0 < length lists + k →
    get_or (grown_all lists steps) (length lists + k) [] ≡ get_or (grown_all lists steps) step.0 [] ++ step.1
get_or-grown_all lists [] k step e less = absurd (none_some step e)
get_or-grown_all {X} lists (s ∷ steps) zero step e less =
    let same : s ≡ step = some_same s step e in
    let more = grown_all-extends (grown lists s.0 s.1) steps in
    let one = length-grown lists s.0 s.1 in
    let at : get_or (grown_all (grown lists s.0 s.1) steps) (length lists + 0) [] ≡ get_or lists s.0 [] ++ s.1 =
    ap (λ n. get_or (grown_all (grown lists s.0 s.1) steps) n []) (omega arith)
    ∙ (get_or-extends (grown lists s.0 s.1) (grown_all (grown lists s.0 s.1) steps) (length lists) [] more (omega (arith, one)) ∙ get_or-grown lists s.0 s.1) in
    let low : s.0 < length lists = omega (arith, ap (λ x. x.0) same) in
    let first : get_or (grown_all (grown lists s.0 s.1) steps) s.0 [] ≡ get_or lists s.0 [] =
    get_or-extends lists (grown_all (grown lists s.0 s.1) steps) s.0 [] (grown_all-extends lists (s ∷ steps)) low in
    at ∙ (ap (λ l. l ++ s.1) (sym first) ∙ ap (λ (x : ℕ × List X). get_or (grown_all (grown lists s.0 s.1) steps) x.0 [] ++ x.1) same)
get_or-grown_all lists (s ∷ steps) (suc k) step e less =
    let one = length-grown lists s.0 s.1 in
    ap (λ n. get_or (grown_all (grown lists s.0 s.1) steps) n []) (omega (arith, one))
    ∙ get_or-grown_all (grown lists s.0 s.1) steps k step e (omega (arith, one))

before_added : {X : Type 0} (xs added : List X) (k : ℕ) (x : X) → slice_get xs k ≡ Some x → slice_get (xs ++ added) k ≡ Some x
before_added [] added k x at = absurd (none_some x at)
before_added (y ∷ xs) added zero x at = at
before_added (y ∷ xs) added (suc k) x at = before_added xs added k x at

-- what stands at a place stands there where more is added
pub slice_get-extends : {X : Type 0} (xs ys : List X) (k : ℕ) (x : X) → Extends xs ys → slice_get xs k ≡ Some x → slice_get ys k ≡ Some x
slice_get-extends {X} xs ys k x more at = ap (λ (l : List X). slice_get l k) more.1 ∙ before_added xs more.0 k x at

-- where the last of what is pending is taken, and for each that is added there is one more of those of which there may be so many, less is left to do
pub fewer_left : {X : Type 0} (most : ℕ) (pending popped : List X) (last : X) (old new left : ℕ) → pending ≡ popped ++ last ∷ [] → left + old ≡ length popped + new → new ≤ most → old ≤ new → 2 * (most - new) + left < 2 * (most - old) + length pending
fewer_left most pending popped last old new left taken count room longer = omega (arith, ap length taken, length-append popped (last ∷ []), count, room, longer)

-- what is left is shorter without the last of it
pub popped_shorter : {X : Type 0} (whole left : List X) (last : X) → whole ≡ left ++ last ∷ [] → length left < length whole
popped_shorter whole left last taken = omega (arith, ap length taken, length-append left (last ∷ []))

-- where as many as there may be are there, and no more, it is so many
pub all_there : (number there most : ℕ) → number ≡ there → most ≤ number → there ≤ most → there ≡ most
all_there number there most same many few = omega (arith, same, many, few)
