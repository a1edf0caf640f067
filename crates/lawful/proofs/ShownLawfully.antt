-- What is shown with lawful journals has the texts and the ends that loose runs showed.
use Rattle.std.proofs.Common.{◌≡◌, ℕ, zero, suc, ◌<◌, ◌≤◌, List, [], ◌∷◌, ◌++◌, length, map, get_or, sym, ap, ◌∙◌, subst, arith}
use Rattle.std.specs.List.{AllPairs}
use Rattle.std.proofs.lemmas.List.Elements.{All-push}
use Rattle.std.proofs.lemmas.List.{length-map, length-append, append-nil, map-append, get_or_append_left}
use Rattle.model.specs.declared.entry.Entry.{Entry}
use Rattle.explore.specs.declared.Shown.{Shown}
use Rattle.explore.specs.Search.{AreDistinct}
use Rattle.loose.specs.declared.transition.LooseTransition.{LooseTransition}
use Rattle.lawful.specs.Journals.{JournalRelation, texts_and_ends, HasLawfulJournal, IsAddedLawfully, AreShownLawfully}

-- lists that are mapped to one list have as many elements, and those at one place are mapped to one

as_many : {X Y P : Type 0} (f : X → P) (g : Y → P) (xs : List X) (ys : List Y) → map f xs ≡ map g ys → length xs ≡ length ys
as_many f g xs ys same = sym (length-map xs f) ∙ (ap length same ∙ length-map ys g)

one_at : {X Y P : Type 0} (f : X → P) (g : Y → P) (xs : List X) (ys : List Y) → map f xs ≡ map g ys → (k : ℕ) (d : X) (e : Y) → k < length xs → f (get_or xs k d) ≡ g (get_or ys k e)
one_at f g [] ys same k d e within = absurd (omega (arith, within))
one_at f g (x ∷ xs) [] same k d e within = cc
one_at f g (x ∷ xs) (y ∷ ys) same zero d e within = ap (λ l. get_or l 0 (f x)) same
one_at f g (x ∷ xs) (y ∷ ys) same (suc k) d e within =
    let rest : map f xs ≡ map g ys = cc in
    one_at f g xs ys rest k d e (omega (arith, within))

-- the text and the end that are shown
abbrev pair : {Move End : Type 0} → Shown Move End → List ℕ × End
pair s = (s.text.items, s.end)

pub as_many_shown : {End : Type 0} (loosely : List (Shown LooseTransition End)) (lawful : List (Shown Entry End)) → texts_and_ends lawful ≡ texts_and_ends loosely → length lawful ≡ length loosely
as_many_shown loosely lawful same = as_many pair pair lawful loosely same

pub still_distinct : {End : Type 0} (loosely : List (Shown LooseTransition End)) (lawful : List (Shown Entry End)) → texts_and_ends lawful ≡ texts_and_ends loosely → AllPairs AreDistinct loosely → AllPairs AreDistinct lawful
still_distinct [] lawful same distinct i j d less within =
    let none = as_many_shown [] lawful same in
    absurd (omega (arith, within, none))
still_distinct (x ∷ xs) lawful same distinct i j d less within =
    let long = as_many_shown (x ∷ xs) lawful same in
    let at_i = one_at pair pair lawful (x ∷ xs) same i d x (omega (arith, less, within)) in
    let at_j = one_at pair pair lawful (x ∷ xs) same j d x within in
    λ text end. distinct i j x less (omega (arith, within, long)) (sym (ap (λ p. p.0) at_i) ∙ (text ∙ ap (λ p. p.0) at_j)) (sym (ap (λ p. p.1) at_i) ∙ (end ∙ ap (λ p. p.1) at_j))

-- one more has its journal
pub one_more : {End : Type 0} (IsJournal : JournalRelation End) (done : List (Shown LooseTransition End)) (loosely : Shown LooseTransition End) (before after : List (Shown Entry End)) → AreShownLawfully IsJournal done before → IsAddedLawfully IsJournal before loosely after → AreShownLawfully IsJournal (done ++ loosely ∷ []) after
one_more {End} IsJournal done loosely before after shown (one, is, own) =
    let both : pair one ≡ pair loosely = ap (λ (t : List ℕ). (t, one.end)) own.text ∙ ap (λ (e : End). (loosely.text.items, e)) own.end_is in
    let same : texts_and_ends (before ++ one ∷ []) ≡ texts_and_ends (done ++ loosely ∷ []) =
    map-append pair before (one ∷ []) ∙ (ap (λ l. l ++ pair one ∷ []) shown.same ∙ (ap (λ p. texts_and_ends done ++ p ∷ []) both ∙ sym (map-append pair done (loosely ∷ [])))) in
    subst (AreShownLawfully IsJournal (done ++ loosely ∷ [])) (sym is)
    (record { same = same; journals = All-push (HasLawfulJournal IsJournal) before one shown.journals own.journal })

-- what no two elements have in common, no two of a first part have
pub first_distinct : {End : Type 0} (part rest whole : List (Shown LooseTransition End)) → part ++ rest ≡ whole → AllPairs AreDistinct whole → AllPairs AreDistinct part
first_distinct part rest whole split distinct i j d less within =
    let both : AllPairs AreDistinct (part ++ rest) = subst (AllPairs AreDistinct) (sym split) distinct in
    let longer : j < length (part ++ rest) = omega (arith, within, length-append part rest) in
    let at_i : get_or (part ++ rest) i d ≡ get_or part i d = get_or_append_left part rest d i (omega (arith, less, within)) in
    let at_j : get_or (part ++ rest) j d ≡ get_or part j d = get_or_append_left part rest d j within in
    subst (λ x. AreDistinct (get_or part i d) x) at_j (subst (λ x. AreDistinct x (get_or (part ++ rest) j d)) at_i (both i j d less longer))

pub no_longer : {End : Type 0} (part rest whole : List (Shown LooseTransition End)) → part ++ rest ≡ whole → length part ≤ length whole
no_longer part rest whole split =
    let longer : length (part ++ rest) ≡ length whole = ap length split in
    omega (arith, length-append part rest, longer)

pub is_whole : {End : Type 0} (part rest whole : List (Shown LooseTransition End)) → part ++ rest ≡ whole → rest ≡ [] → part ≡ whole
is_whole part rest whole split none = sym (append-nil part) ∙ (ap (λ l. part ++ l) (sym none) ∙ split)
