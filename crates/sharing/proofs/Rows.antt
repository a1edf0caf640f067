-- Chunks in an arena, each in its row.
use Rattle.std.proofs.Common.{◌≡◌, ℕ, zero, suc, ◌+◌, ◌-◌, ◌≤◌, List, [], ◌∷◌, ◌++◌, length, map, take, drop, refl, sym, ap, ◌∙◌, arith, length-append, length-drop, inl, inr, Some, Option, None, ◌⊎◌}
use Rattle.std.proofs.lemmas.List.{map-append, take-append-le, drop-append-le}
use Rattle.std.proofs.Math.Seq.{drop-append_seam}
use Rattle.std.proofs.lemmas.Option.{slice_get-map}
use Rattle.std.specs.Prelude.{slice_get, slice_range}
use Rattle.std.specs.Option.{option_map}
use Rattle.sharing.specs.Parts.{chunk}
use Rattle.sharing.specs.declared.chunks.ChunkSpan.{ChunkSpan}

-- the chunks of these rows
abbrev pub chunks_of : List ℕ → List ChunkSpan → List (List ℕ)
chunks_of arena rows = map (chunk arena) rows

-- the bytes of each row are there
abbrev pub AreRows : List ℕ → List ChunkSpan → Type 0
AreRows arena rows = (k : ℕ) (row : ChunkSpan) → slice_get rows k ≡ Some row → row.begin + row.length ≤ length arena

-- what was within stays the same where more is added
range_append : (arena more : List ℕ) (begin end : ℕ) → begin ≤ end → end ≤ length arena → slice_range (arena ++ more) begin end ≡ slice_range arena begin end
range_append arena more begin end low high =
    ap (take (end - begin)) (drop-append-le begin arena more (omega arith)) ∙ take-append-le (end - begin) (drop begin arena) more (omega (arith, length-drop begin arena))

take_whole : (n : ℕ) (xs : List ℕ) → n ≡ length xs → take n xs ≡ xs
take_whole zero [] e = refl
take_whole zero (x ∷ xs) e = absurd (omega (arith, e))
take_whole (suc n) [] e = absurd (omega (arith, e))
take_whole (suc n) (x ∷ xs) e = ap (λ l. x ∷ l) (take_whole n xs (omega (arith, e)))

-- what was added last
range_added : (arena more : List ℕ) (n : ℕ) → n ≡ length more → slice_range (arena ++ more) (length arena) (length arena + n) ≡ more
range_added arena more n e =
    ap (take ((length arena + n) - length arena)) (drop-append_seam arena more)
    ∙ take_whole ((length arena + n) - length arena) more (omega (arith, e))

-- the chunks of the rows stay where more is added to the arena
chunks_append : (arena more : List ℕ) (rows : List ChunkSpan) → AreRows arena rows → chunks_of (arena ++ more) rows ≡ chunks_of arena rows
chunks_append arena more [] known = refl
chunks_append arena more (r ∷ rows) known =
    let here : r.begin + r.length ≤ length arena = known 0 r refl in
    ap (λ (c : List ℕ). c ∷ chunks_of (arena ++ more) rows) (range_append arena more r.begin (r.begin + r.length) (omega arith) here)
    ∙ ap (λ (cs : List (List ℕ)). chunk arena r ∷ cs) (chunks_append arena more rows (λ k row e. known (suc k) row e))

-- a row that is added, whose bytes are added too, gives a chunk more
pub chunks-push : (arena more arena' : List ℕ) (rows rows' : List ChunkSpan) (row : ChunkSpan) → AreRows arena rows → arena' ≡ arena ++ more → rows' ≡ rows ++ row ∷ [] → row.begin ≡ length arena → row.length ≡ length more →
    chunks_of arena' rows' ≡ chunks_of arena rows ++ more ∷ []
chunks-push arena more arena' rows rows' row known e f first long =
    let range : slice_range (arena ++ more) row.begin (row.begin + row.length) ≡ more =
    ap (λ n. slice_range (arena ++ more) n (n + row.length)) first ∙ range_added arena more row.length long in
    ap (λ (l : List ℕ). chunks_of l rows') e
    ∙ (ap (λ (l : List ChunkSpan). chunks_of (arena ++ more) l) f
    ∙ (map-append (chunk (arena ++ more)) rows (row ∷ [])
    ∙ (ap (λ (cs : List (List ℕ)). cs ++ chunk (arena ++ more) row ∷ []) (chunks_append arena more rows known)
    ∙ ap (λ (l : List ℕ). chunks_of arena rows ++ l ∷ []) range)))

some_same : (x y : ChunkSpan) → ◌≡◌ {A = Option ChunkSpan} (Some x) (Some y) → x ≡ y
some_same x y e = cc

none_some : (y : ChunkSpan) → ◌≡◌ {A = Option ChunkSpan} None (Some y) → ⊥
none_some y e = cc

-- after a push, what has a number had it before or is what was pushed
slice_get_push : (xs : List ChunkSpan) (x y : ChunkSpan) (k : ℕ) → slice_get (xs ++ x ∷ []) k ≡ Some y → (slice_get xs k ≡ Some y) ⊎ (x ≡ y)
slice_get_push [] x y zero e = inr (some_same x y e)
slice_get_push [] x y (suc k) e = absurd (none_some y e)
slice_get_push (a ∷ xs) x y zero e = inl e
slice_get_push (a ∷ xs) x y (suc k) e = slice_get_push xs x y k e

-- the rows are good where one is added
pub AreRows-push : (arena more arena' : List ℕ) (rows rows' : List ChunkSpan) (row : ChunkSpan) → AreRows arena rows → arena' ≡ arena ++ more → rows' ≡ rows ++ row ∷ [] → row.begin ≡ length arena → row.length ≡ length more → AreRows arena' rows'
AreRows-push arena more arena' rows rows' row known e f first last k r at =
    let long : length arena' ≡ length arena + length more = ap length e ∙ length-append arena more in
    elim (slice_get_push rows row r k (ap (λ (l : List ChunkSpan). slice_get l k) (sym f) ∙ at)) [
      | inl h ↦ let old = known k r h in omega (arith, old, long)
      | inr h ↦ omega (arith, ap (λ (x : ChunkSpan). x.begin) h, ap (λ (x : ChunkSpan). x.length) h, first, last, long)
    ]

-- the last of a list that one was added to
pub last_added : (xs : List (List ℕ)) (x : List ℕ) → slice_get (xs ++ x ∷ []) (length xs) ≡ Some x
last_added [] x = refl
last_added (y ∷ xs) x = last_added xs x

-- the chunk of a row
pub chunk_at : (arena : List ℕ) (rows : List ChunkSpan) (k : ℕ) (row : ChunkSpan) (bytes : List ℕ) → slice_get rows k ≡ Some row → chunk arena row ≡ bytes → slice_get (chunks_of arena rows) k ≡ Some bytes
chunk_at arena rows k row bytes at same =
    slice_get-map (chunk arena) rows k ∙ (ap (λ (o : Option ChunkSpan). option_map (chunk arena) o) at ∙ ap (λ (l : List ℕ). Some l) same)
