-- The first notes of their kinds, as a list of notes is gone through.
use Rattle.std.proofs.Common.{◌≡◌, ◌∙◌, ◌||◌, ◌+◌, ◌++◌, ℕ, Bool, true, false, refl, sym, ap, subst, List, [], ◌∷◌, map, take, append_assoc, append-nil, Result, Ok, Err, IfOk, Vec, rules, if◌then◌else◌}
use Rattle.std.specs.List.{list_any}
use Rattle.std.proofs.lemmas.List.{map-append}
use Rattle.std.proofs.lemmas.List.Folds.{list_any-append}
use denote.Enum.Bare.{same_true}
use Rattle.diagnosis.specs.contracts.words.Advice.{the_type}
use Rattle.diagnosis.specs.declared.words.Advice.{Advice}
use Rattle.diagnosis.specs.declared.notes.Note.{Note}
use Rattle.diagnosis.specs.declared.kinds.ListedNote.{ListedNote}
use Rattle.diagnosis.specs.SameAdvice.{same_advice}
use Rattle.diagnosis.specs.Notes.{HasNotes}
use Rattle.diagnosis.specs.Kinds.{HasListed, firsts_behind, for_itself, for_kind, is_of, kinds_of, listed_of}

same_is : (a b : Advice) → same_advice a b ≡ true → a ≡ b
unfolding same_advice
same_is a b h = same_true the_type (search rules) a b h

-- a note of a kind that some have which stand before has that kind too
of_one_kind : (before : List Note) (n : Note) (advice : Advice) → is_of advice n ≡ true → list_any (is_of n.advice) before ≡ true → list_any (is_of advice) before ≡ true
of_one_kind before n advice same there = subst (λ (a : Advice). list_any (is_of a) before ≡ true) (same_is n.advice advice same) there

-- one list behind another

pub firsts_more : (before xs : List Note) (n : Note) → firsts_behind before (xs ++ n ∷ []) ≡ firsts_behind before xs ++ firsts_behind (before ++ xs) (n ∷ [])
firsts_more before [] n = ap (λ (b : List Note). firsts_behind b (n ∷ [])) (sym (append-nil before))
firsts_more before (x ∷ xs) n =
    let one : List Note = if list_any (is_of x.advice) before then [] else x ∷ [] in
    ap (λ (ys : List Note). one ++ ys) (firsts_more (before ++ x ∷ []) xs n)
    ∙ (sym (append_assoc one (firsts_behind (before ++ x ∷ []) xs) (firsts_behind ((before ++ x ∷ []) ++ xs) (n ∷ [])))
    ∙ ap (λ (b : List Note). (one ++ firsts_behind (before ++ x ∷ []) xs) ++ firsts_behind b (n ∷ [])) (append_assoc before (x ∷ []) xs))

-- the first notes have each kind that the notes have

any_more : (before : List Note) (x : Note) (advice : Advice) → list_any (is_of advice) (before ++ x ∷ []) ≡ (list_any (is_of advice) before || is_of advice x)
any_more before x advice = list_any-append (is_of advice) before (x ∷ []) ∙ ap (λ b. list_any (is_of advice) before || b) (or_none (is_of advice x))
  where
    or_none : (b : Bool) → (b || false) ≡ b
    or_none true = refl
    or_none false = refl

step : (old own none first last : Bool) → (own ≡ true → none ≡ true → old ≡ true) → ((old || own) || first) ≡ ((old || own) || last)
    → (old || (if none then first else (own || first))) ≡ (old || (own || last))
step true own none first last h e = refl
step false true true first last h e = absurd_of (h refl refl)
  where
    absurd_of : false ≡ true → (false || first) ≡ (false || (true || last))
    absurd_of z = cc
step false true false first last h e = refl
step false false true first last h e = e
step false false false first last h e = e

any_of_if : (none : Bool) (advice : Advice) (x : Note) (rest : List Note)
    → list_any (is_of advice) ((if none then [] else x ∷ []) ++ rest) ≡ (if none then list_any (is_of advice) rest else (is_of advice x || list_any (is_of advice) rest))
any_of_if true advice x rest = refl
any_of_if false advice x rest = refl

any_firsts : (before xs : List Note) (advice : Advice)
    → (list_any (is_of advice) before || list_any (is_of advice) (firsts_behind before xs)) ≡ (list_any (is_of advice) before || list_any (is_of advice) xs)
any_firsts before [] advice = refl
any_firsts before (x ∷ xs) advice =
    let old = list_any (is_of advice) before in
    let none = list_any (is_of x.advice) before in
    let first = list_any (is_of advice) (firsts_behind (before ++ x ∷ []) xs) in
    let last = list_any (is_of advice) xs in
    let later : ((old || is_of advice x) || first) ≡ ((old || is_of advice x) || last) =
    subst (λ (b : Bool). (b || first) ≡ (b || last)) (any_more before x advice) (any_firsts (before ++ x ∷ []) xs advice) in
    ap (λ (b : Bool). old || b) (any_of_if none advice x (firsts_behind (before ++ x ∷ []) xs))
    ∙ step old (is_of advice x) none first last (of_one_kind before x advice) later

any_listed : (notes ys : List Note) (advice : Advice) → list_any (λ (one : ListedNote). is_of advice one.note) (map (for_kind notes) ys) ≡ list_any (is_of advice) ys
any_listed notes [] advice = refl
any_listed notes (y ∷ ys) advice = ap (λ (b : Bool). is_of advice y || b) (any_listed notes ys advice)

map_if : (notes : List Note) (b : Bool) (n : Note) → map (for_kind notes) (if b then [] else n ∷ []) ≡ (if b then [] else for_kind notes n ∷ [])
map_if notes true n = refl
map_if notes false n = refl

if_nothing_more : (b : Bool) (n : Note) → (if b then [] else n ∷ []) ++ [] ≡ (if b then [] else n ∷ [])
if_nothing_more true n = refl
if_nothing_more false n = refl

pub kind_more : (notes : List Note) (i : ℕ) (n : Note) (old new : List ListedNote) → take (i + 1) notes ≡ take i notes ++ n ∷ []
    → old ≡ map (for_kind notes) (firsts_behind [] (take i notes))
    → new ≡ old ++ (if list_any (λ (one : ListedNote). is_of n.advice one.note) old then [] else for_kind notes n ∷ [])
    → new ≡ map (for_kind notes) (firsts_behind [] (take (i + 1) notes))
kind_more notes i n old new more is added =
    let taken = take i notes in
    let known : list_any (λ (one : ListedNote). is_of n.advice one.note) old ≡ list_any (is_of n.advice) taken =
    ap (list_any (λ (one : ListedNote). is_of n.advice one.note)) is ∙ (any_listed notes (firsts_behind [] taken) n.advice ∙ any_firsts [] taken n.advice) in
    let one : map (for_kind notes) (firsts_behind taken (n ∷ [])) ≡ (if list_any (is_of n.advice) taken then [] else for_kind notes n ∷ []) =
    ap (map (for_kind notes)) (if_nothing_more (list_any (is_of n.advice) taken) n) ∙ map_if notes (list_any (is_of n.advice) taken) n in
    let whole : map (for_kind notes) (firsts_behind [] (taken ++ n ∷ [])) ≡ map (for_kind notes) (firsts_behind [] taken) ++ (if list_any (is_of n.advice) taken then [] else for_kind notes n ∷ []) =
    ap (map (for_kind notes)) (firsts_more [] taken n)
    ∙ (map-append (for_kind notes) (firsts_behind [] taken) (firsts_behind taken (n ∷ [])) ∙ ap (λ (ys : List ListedNote). map (for_kind notes) (firsts_behind [] taken) ++ ys) one) in
    added
    ∙ (ap (λ (b : Bool). old ++ (if b then [] else for_kind notes n ∷ [])) known
    ∙ (ap (λ (ys : List ListedNote). ys ++ (if list_any (is_of n.advice) taken then [] else for_kind notes n ∷ [])) is
    ∙ (sym whole ∙ ap (λ (ns : List Note). map (for_kind notes) (firsts_behind [] ns)) (sym more))))

pub kinds_all : (notes : List Note) (i : ℕ) (listed : List ListedNote) → take i notes ≡ notes → listed ≡ map (for_kind notes) (firsts_behind [] (take i notes)) → listed ≡ kinds_of notes
kinds_all notes i listed all is = is ∙ ap (λ (ns : List Note). map (for_kind notes) (firsts_behind [] ns)) all

-- each note

pub itself_more : (notes : List Note) (i : ℕ) (n : Note) (old new : List ListedNote) → take (i + 1) notes ≡ take i notes ++ n ∷ []
    → old ≡ map for_itself (take i notes) → new ≡ old ++ for_itself n ∷ [] → new ≡ map for_itself (take (i + 1) notes)
itself_more notes i n old new more is added =
    added ∙ (ap (λ (ys : List ListedNote). ys ++ for_itself n ∷ []) is ∙ (sym (map-append for_itself (take i notes) (n ∷ [])) ∙ ap (map for_itself) (sym more)))

-- all notes of a source, as they are listed
pub has_listed : {A E : Type 0} (source : List ℕ) (all : Bool) (notes slice : List Note) (r : Result (Vec ListedNote A) E) → HasNotes source notes → slice ≡ notes
    → IfOk r (λ listed. listed.items ≡ listed_of all slice) → IfOk r (λ listed. HasListed source all listed.items)
has_listed source all notes slice (Ok listed) has same is = record { notes = notes; has_notes = has; is_listed = is ∙ ap (listed_of all) same }
has_listed source all notes slice (Err e) has same is = tt
