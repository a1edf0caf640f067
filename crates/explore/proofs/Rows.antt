-- Lists in an arena, each beside its number.
use Rattle.std.proofs.Common.{◌≡◌, ℕ, zero, suc, ◌+◌, ◌-◌, ◌≤◌, List, [], ◌∷◌, ◌++◌, length, map, take, drop, refl, sym, ap, ◌∙◌, arith, length-append, length-drop, inl, inr, Option, Some, None}
use Rattle.std.proofs.lemmas.List.{map-append, take-append-le, drop-append-le}
use Rattle.std.proofs.Math.Seq.{drop-append_seam}
use Rattle.std.specs.Prelude.{slice_get, slice_range}
use Rattle.explore.specs.Pieces.{piece}
use Rattle.explore.specs.declared.pieces.NumberedSpan.{NumberedSpan}
use Rattle.explore.proofs.Growing.{slice_get_push}

-- the lists of these rows
abbrev pub rows_of : {T : Type 0} → List T → List NumberedSpan → List (ℕ × List T)
rows_of arena rows = map (piece arena) rows

-- the part of each row is there
abbrev pub AreRows : {T : Type 0} → List T → List NumberedSpan → Type 0
AreRows arena rows = (k : ℕ) (row : NumberedSpan) → slice_get rows k ≡ Some row → row.begin + row.length ≤ length arena

-- what was within stays the same where more is added
range_append : {T : Type 0} (arena more : List T) (begin end : ℕ) → begin ≤ end → end ≤ length arena → slice_range (arena ++ more) begin end ≡ slice_range arena begin end
range_append arena more begin end low high =
    ap (take (end - begin)) (drop-append-le begin arena more (omega arith)) ∙ take-append-le (end - begin) (drop begin arena) more (omega (arith, length-drop begin arena))

take_whole : {T : Type 0} (n : ℕ) (xs : List T) → n ≡ length xs → take n xs ≡ xs
take_whole zero [] e = refl
take_whole zero (x ∷ xs) e = absurd (omega (arith, e))
take_whole (suc n) [] e = absurd (omega (arith, e))
take_whole (suc n) (x ∷ xs) e = ap (λ l. x ∷ l) (take_whole n xs (omega (arith, e)))

-- what was added last
range_added : {T : Type 0} (arena more : List T) (n : ℕ) → n ≡ length more → slice_range (arena ++ more) (length arena) (length arena + n) ≡ more
range_added {T} arena more n e =
    ap (take ((length arena + n) - length arena)) (drop-append_seam arena more)
    ∙ take_whole ((length arena + n) - length arena) more (omega (arith, e))

-- the lists of the rows stay where more is added to the arena
rows_append : {T : Type 0} (arena more : List T) (rows : List NumberedSpan) → AreRows arena rows → rows_of (arena ++ more) rows ≡ rows_of arena rows
rows_append arena more [] known = refl
rows_append {T} arena more (r ∷ rows) known =
    let here : r.begin + r.length ≤ length arena = known 0 r refl in
    let first : piece (arena ++ more) r ≡ piece arena r = ap (λ (l : List T). (r.number, l)) (range_append arena more r.begin (r.begin + r.length) (omega arith) here) in
    ap (λ (p : ℕ × List T). p ∷ rows_of (arena ++ more) rows) first
    ∙ ap (λ (ps : List (ℕ × List T)). piece arena r ∷ ps) (rows_append arena more rows (λ k row e. known (suc k) row e))

-- where there are no lists there are no rows
pub AreRows-none : {T : Type 0} (arena : List T) (rows : List NumberedSpan) → rows_of arena rows ≡ [] → AreRows arena rows
AreRows-none arena [] none k row at = let clash : ◌≡◌ {A = Option NumberedSpan} None (Some row) = at in cc
AreRows-none {T} arena (r ∷ rows) none k row at = let clash : ◌≡◌ {A = List (ℕ × List T)} (piece arena r ∷ rows_of arena rows) [] = none in cc

-- a row that is added, whose list is added too, gives a list more
pub rows-push : {T : Type 0} (arena more arena' : List T) (rows rows' : List NumberedSpan) (row : NumberedSpan) → AreRows arena rows → arena' ≡ arena ++ more → rows' ≡ rows ++ row ∷ [] → row.begin ≡ length arena → row.length ≡ length more →
    rows_of arena' rows' ≡ rows_of arena rows ++ (row.number, more) ∷ []
rows-push {T} arena more arena' rows rows' row known e f first long =
    let range : slice_range (arena ++ more) row.begin (row.begin + row.length) ≡ more =
    ap (λ n. slice_range (arena ++ more) n (n + row.length)) first ∙ range_added arena more row.length long in
    ap (λ (l : List T). rows_of l rows') e
    ∙ (ap (λ (l : List NumberedSpan). rows_of (arena ++ more) l) f
    ∙ (map-append (piece (arena ++ more)) rows (row ∷ [])
    ∙ (ap (λ (ps : List (ℕ × List T)). ps ++ piece (arena ++ more) row ∷ []) (rows_append arena more rows known)
    ∙ ap (λ (l : List T). rows_of arena rows ++ (row.number, l) ∷ []) range)))

-- the rows are good where one is added
pub AreRows-push : {T : Type 0} (arena more arena' : List T) (rows rows' : List NumberedSpan) (row : NumberedSpan) → AreRows arena rows → arena' ≡ arena ++ more → rows' ≡ rows ++ row ∷ [] → row.begin ≡ length arena → row.length ≡ length more → AreRows arena' rows'
AreRows-push {T} arena more arena' rows rows' row known e f first last k r at =
    let long : length arena' ≡ length arena + length more = ap length e ∙ length-append arena more in
    elim (slice_get_push rows row r k (ap (λ (l : List NumberedSpan). slice_get l k) (sym f) ∙ at)) [
      | inl h ↦ let old = known k r h.1 in omega (arith, old, long)
      | inr h ↦ omega (arith, ap (λ (x : NumberedSpan). x.begin) h.1, ap (λ (x : NumberedSpan). x.length) h.1, first, last, long)
    ]
