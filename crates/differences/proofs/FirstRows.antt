-- Of each register that differs the first time, one after another.
use Rattle.std.proofs.Common.{◌≡◌, ◌∙◌, ap, sym, refl, subst, eqb-true, ℕ, ◌+◌, ◌<◌, ◌==◌, Bool, true, false, not, ◌&&◌, ◌||◌, List, [], ◌∷◌, ◌++◌, length, get_or, drop, append_assoc, add-one, drop-cons}
use Rattle.std.specs.Prelude.{cond}
use Rattle.std.specs.List.{filter}
use Rattle.std.proofs.lemmas.Bool.{cond-true, cond-false}
use Rattle.std.proofs.lemmas.List.{append-nil}
use Rattle.std.proofs.lemmas.List.Folds.{list_any-append}
use Rattle.model.specs.Runs.{has_any}
use Rattle.differences.specs.declared.value_difference.ValueDifference.{ValueDifference}
use Rattle.differences.specs.ToldRows.{first_rows, has_row, other_rows, row_unless, told_rows}

-- those of registers of which none is kept
abbrev pub beside : List ValueDifference → List ValueDifference → List ValueDifference
beside kept ds = filter (λ d. not (has_row d.register kept)) ds

-- a filter behind another one is the filter by both tests

both_here : (p q s : ValueDifference → Bool) (x : ValueDifference) (xs : List ValueDifference) → s x ≡ (q x && p x) → filter p (filter q xs) ≡ filter s xs → (a b : Bool) → q x ≡ a → p x ≡ b
    → filter p (filter q (x ∷ xs)) ≡ filter s (x ∷ xs)
both_here p q s x xs both rest true true is_a is_b =
    ap (λ (t : Bool). filter p (cond t (x ∷ filter q xs) (filter q xs))) is_a
    ∙ (cond-true (p x) (x ∷ filter p (filter q xs)) (filter p (filter q xs)) is_b
    ∙ (ap (λ (l : List ValueDifference). x ∷ l) rest ∙ sym (cond-true (s x) (x ∷ filter s xs) (filter s xs) (both ∙ (ap (λ (t : Bool). t && p x) is_a ∙ is_b)))))
both_here p q s x xs both rest true false is_a is_b =
    ap (λ (t : Bool). filter p (cond t (x ∷ filter q xs) (filter q xs))) is_a
    ∙ (cond-false (p x) (x ∷ filter p (filter q xs)) (filter p (filter q xs)) is_b
    ∙ (rest ∙ sym (cond-false (s x) (x ∷ filter s xs) (filter s xs) (both ∙ (ap (λ (t : Bool). t && p x) is_a ∙ is_b)))))
both_here p q s x xs both rest false b is_a is_b =
    ap (λ (t : Bool). filter p (cond t (x ∷ filter q xs) (filter q xs))) is_a
    ∙ (rest ∙ sym (cond-false (s x) (x ∷ filter s xs) (filter s xs) (both ∙ ap (λ (t : Bool). t && p x) is_a)))

filter_both : (p q s : ValueDifference → Bool) → ((x : ValueDifference) → s x ≡ (q x && p x)) → (xs : List ValueDifference) → filter p (filter q xs) ≡ filter s xs
filter_both p q s both [] = refl
filter_both p q s both (x ∷ xs) = both_here p q s x xs (both x) (filter_both p q s both xs) (q x) (p x) refl refl

-- where one of a register is kept, the others of it are left out already

left_out : (kept : List ValueDifference) (r n : ℕ) → has_row r kept ≡ true → (b : Bool) → (r == n) ≡ b → not (has_row n kept) ≡ (not (r == n) && not (has_row n kept))
left_out kept r n there true is =
    ap (λ (m : ℕ). not (has_row m kept)) (sym (eqb-true r n is))
    ∙ (ap not there ∙ sym (ap (λ (t : Bool). not t && not (has_row n kept)) is))
left_out kept r n there false is = sym (ap (λ (t : Bool). not t && not (has_row n kept)) is)

others_beside : (kept : List ValueDifference) (r : ℕ) (ds : List ValueDifference) → has_row r kept ≡ true → beside kept (other_rows r ds) ≡ beside kept ds
others_beside kept r ds there =
    filter_both (λ d. not (has_row d.register kept)) (λ d. not (r == d.register)) (λ d. not (has_row d.register kept)) (λ d. left_out kept r d.register there (r == d.register) refl) ds

-- and once one is kept, they are left out

not_either : (a b : Bool) → not (a || (b || false)) ≡ (not b && not a)
not_either true true = refl
not_either true false = refl
not_either false true = refl
not_either false false = refl

one_kept : (kept : List ValueDifference) (k d : ValueDifference) → not (has_row d.register (kept ++ k ∷ [])) ≡ (not (k.register == d.register) && not (has_row d.register kept))
one_kept kept k d =
    ap not (list_any-append (λ (e : ValueDifference). e.register == d.register) kept (k ∷ [])) ∙ not_either (has_row d.register kept) (k.register == d.register)

beside_one_more : (kept : List ValueDifference) (k : ValueDifference) (ds : List ValueDifference) → beside kept (other_rows k.register ds) ≡ beside (kept ++ k ∷ []) ds
beside_one_more kept k ds =
    filter_both (λ d. not (has_row d.register kept)) (λ d. not (k.register == d.register)) (λ d. not (has_row d.register (kept ++ k ∷ []))) (λ d. one_kept kept k d) ds

-- one of those that are left

kept_more : (old new all : List ValueDifference) (d : ValueDifference) (ds : List ValueDifference) (b : Bool) → has_row d.register old ≡ b → new ≡ old ++ row_unless (has_row d.register old) d
    → old ++ beside old (d ∷ other_rows d.register ds) ≡ all → new ++ beside new ds ≡ all
kept_more old new all d ds true there is before =
    let same : new ≡ old = is ∙ (ap (λ (t : Bool). old ++ row_unless t d) there ∙ append-nil old) in
    let others : List ValueDifference = other_rows d.register ds in
    let without : beside old (d ∷ others) ≡ beside old ds =
    cond-false (not (has_row d.register old)) (d ∷ beside old others) (beside old others) (ap not there) ∙ others_beside old d.register ds there in
    subst (λ (l : List ValueDifference). l ++ beside l ds ≡ all) (sym same) (ap (λ (l : List ValueDifference). old ++ l) (sym without) ∙ before)
kept_more old new all d ds false there is before =
    let added : new ≡ old ++ d ∷ [] = is ∙ ap (λ (t : Bool). old ++ row_unless t d) there in
    let others : List ValueDifference = other_rows d.register ds in
    let with_it : beside old (d ∷ others) ≡ d ∷ beside (old ++ d ∷ []) ds =
    cond-true (not (has_row d.register old)) (d ∷ beside old others) (beside old others) (ap not there)
    ∙ ap (λ (l : List ValueDifference). d ∷ l) (beside_one_more old d ds) in
    subst (λ (l : List ValueDifference). l ++ beside l ds ≡ all) (sym added)
    (append_assoc old (d ∷ []) (beside (old ++ d ∷ []) ds) ∙ (ap (λ (l : List ValueDifference). old ++ l) (sym with_it) ∙ before))

-- the one at a place
pub first_more : (rows : List ValueDifference) (place : ℕ) (d : ValueDifference) (old new all : List ValueDifference) → place < length rows
    → new ≡ old ++ row_unless (has_row (get_or rows place d).register old) (get_or rows place d) → old ++ beside old (first_rows (drop place rows)) ≡ all
    → new ++ beside new (first_rows (drop (place + 1) rows)) ≡ all
first_more rows place d old new all lt is before =
    let row : ValueDifference = get_or rows place d in
    let rest : drop place rows ≡ row ∷ drop (place + 1) rows = drop-cons rows place d lt ∙ ap (λ (n : ℕ). row ∷ drop n rows) (sym (add-one place)) in
    kept_more old new all row (first_rows (drop (place + 1) rows)) (has_row row.register old) refl is
    (ap (λ (l : List ValueDifference). old ++ beside old (first_rows l)) (sym rest) ∙ before)

-- where none is kept, all are left
pub beside_none : (ds : List ValueDifference) → beside [] ds ≡ ds
beside_none [] = refl
beside_none (d ∷ ds) = ap (λ (l : List ValueDifference). d ∷ l) (beside_none ds)

-- some are told where there are some
pub told_any : (all : Bool) (ds : List ValueDifference) → has_any (told_rows all ds) ≡ has_any ds
told_any true ds = refl
told_any false [] = refl
told_any false (d ∷ ds) = refl
