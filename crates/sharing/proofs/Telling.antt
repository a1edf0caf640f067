-- What numbers tell, while chunks are added.
use Rattle.std.proofs.Common.{◌≡◌, ℕ, zero, suc, ◌+◌, ◌*◌, ◌/◌, ◌%◌, ◌^◌, ◌<◌, ◌≤◌, List, [], ◌∷◌, ◌++◌, length, get_or, take, drop, refl, sym, ap, ◌∙◌, subst, add-one, arith, length-append, append_assoc, Some}
use Rattle.std.proofs.lemmas.List.{get_or_append_left, append-nil}
use Rattle.std.proofs.lemmas.List.Concat.{flat_map-append}
use Rattle.std.proofs.lemmas.List.Elements.{All-append}
use Rattle.std.proofs.lemmas.Option.{slice_get_within, get_or_from_slice_get}
use Rattle.std.specs.Prelude.{slice_get, flat_map}
use Rattle.std.specs.Int.{w32, to_le_bytes}
use Rattle.sharing.specs.Parts.{joined_chunks, numbers_in, told, AreThere, HaveChunks, Extends}

-- a list extends itself
pub Extends-itself : {X : Type 0} (xs : List X) → Extends xs xs
Extends-itself xs = ([], sym (append-nil xs))

-- what extends what extends a list extends it
pub Extends-through : {X : Type 0} (xs ys zs : List X) → Extends xs ys → Extends ys zs → Extends xs zs
Extends-through xs ys zs first second =
    (first.0 ++ second.0, second.1 ∙ (ap (λ l. l ++ second.0) first.1 ∙ append_assoc xs first.0 second.0))

-- a list that extends another is no shorter
pub length-extends : {X : Type 0} (xs ys : List X) → Extends xs ys → length xs ≤ length ys
length-extends xs ys more = omega (arith, ap length more.1, length-append xs more.0)

-- what is there stays
pub AreThere-extends : (old new : List (List ℕ)) (numbers : List ℕ) → Extends old new → AreThere old numbers → AreThere new numbers
AreThere-extends old new numbers more there k d less = omega (arith, there k d less, length-extends old new more)

-- a chunk that is there stays the same
get_or-extends : (old new : List (List ℕ)) (n : ℕ) → Extends old new → n < length old → get_or new n [] ≡ get_or old n []
get_or-extends old new n more less = ap (λ (l : List (List ℕ)). get_or l n []) more.1 ∙ get_or_append_left old more.0 [] n less

-- what numbers are joined to stays the same
pub joined-extends : (old new : List (List ℕ)) (numbers : List ℕ) → Extends old new → AreThere old numbers → joined_chunks new numbers ≡ joined_chunks old numbers
joined-extends old new [] more there = refl
joined-extends old new (n ∷ numbers) more there =
    ap (λ (l : List ℕ). l ++ joined_chunks new numbers) (get_or-extends old new n more (there 0 0 (omega arith)))
    ∙ ap (λ (l : List ℕ). get_or old n [] ++ l) (joined-extends old new numbers more (λ k d less. there (suc k) d (omega (arith, less))))

-- what is told stays the same
pub told-extends : (old new : List (List ℕ)) (levels : ℕ) (numbers : List ℕ) → Extends old new → HaveChunks old levels numbers → told new levels numbers ≡ told old levels numbers
told-extends old new zero numbers more there = joined-extends old new numbers more there
told-extends old new (suc levels) numbers more there =
    ap (λ (l : List ℕ). told new levels (numbers_in l)) (joined-extends old new numbers more there.0)
    ∙ told-extends old new levels (numbers_in (joined_chunks old numbers)) more there.1

-- what tells it stays
pub AreTold-extends : (old new : List (List ℕ)) (levels : ℕ) (numbers : List ℕ) → Extends old new → HaveChunks old levels numbers → HaveChunks new levels numbers
AreTold-extends old new zero numbers more there = AreThere-extends old new numbers more there
AreTold-extends old new (suc levels) numbers more there = (
  AreThere-extends old new numbers more there.0,
  subst (λ (l : List ℕ). HaveChunks new levels (numbers_in l)) (sym (joined-extends old new numbers more there.0))
      (AreTold-extends old new levels (numbers_in (joined_chunks old numbers)) more there.1),
)

-- a number more is there
pub AreThere-push : (old new : List (List ℕ)) (numbers : List ℕ) (n : ℕ) (chunk : List ℕ) → Extends old new → AreThere old numbers → slice_get new n ≡ Some chunk → AreThere new (numbers ++ n ∷ [])
AreThere-push old new numbers n chunk more there at =
    All-append (λ m. m < length new) numbers (n ∷ []) (AreThere-extends old new numbers more there)
    (λ k d less. one k d less)
  where
    one : (k : ℕ) (d : ℕ) → k < 1 → get_or (n ∷ []) k d < length new
    one zero d less = slice_get_within new n chunk at
    one (suc k) d less = absurd (omega (arith, less))

take_drop : (k : ℕ) (xs : List ℕ) → take k xs ++ drop k xs ≡ xs
take_drop zero xs = refl
take_drop (suc k) [] = refl
take_drop (suc k) (x ∷ xs) = ap (λ l. x ∷ l) (take_drop k xs)

-- a chunk more is joined
pub joined-push : (old new : List (List ℕ)) (numbers : List ℕ) (n k : ℕ) (chunk others rest bytes : List ℕ) → Extends old new → AreThere old numbers → slice_get new n ≡ Some chunk
    → joined_chunks old numbers ++ rest ≡ bytes → chunk ≡ take k rest → others ≡ drop k rest → joined_chunks new (numbers ++ n ∷ []) ++ others ≡ bytes
joined-push old new numbers n k chunk others rest bytes more there at so_far first last =
    let one : joined_chunks new (n ∷ []) ≡ chunk = append-nil (get_or new n []) ∙ get_or_from_slice_get new n chunk [] at in
    let all : joined_chunks new (numbers ++ n ∷ []) ≡ joined_chunks old numbers ++ chunk =
    flat_map-append (λ m. get_or new m []) numbers (n ∷ [])
    ∙ (ap (λ (l : List ℕ). l ++ joined_chunks new (n ∷ [])) (joined-extends old new numbers more there) ∙ ap (λ (l : List ℕ). joined_chunks old numbers ++ l) one) in
    let split : chunk ++ others ≡ rest = ap (λ (l : List ℕ). l ++ others) first ∙ (ap (λ (l : List ℕ). take k rest ++ l) last ∙ take_drop k rest) in
    ap (λ (l : List ℕ). l ++ others) all ∙ (append_assoc (joined_chunks old numbers) chunk others ∙ (ap (λ (l : List ℕ). joined_chunks old numbers ++ l) split ∙ so_far))

-- the digits of a number to the base 256
digits_are : (n : ℕ) → n < 2 ^ 32 → n % 256 + n / 256 % 256 * 256 + n / 65536 % 256 * 65536 + n / 16777216 % 256 * 16777216 ≡ n
digits_are n small = omega arith

-- the code of numbers tells them
pub numbers_in-code : (numbers : List ℕ) → ((i : ℕ) → get_or numbers i 0 < 2 ^ 32) → numbers_in (flat_map (to_le_bytes w32) numbers) ≡ numbers
numbers_in-code [] small = refl
numbers_in-code (n ∷ numbers) small =
    ap (λ m. m ∷ numbers_in (flat_map (to_le_bytes w32) numbers)) (digits_are n (small 0))
    ∙ ap (λ (l : List ℕ). n ∷ l) (numbers_in-code numbers (λ i. small (suc i)))

-- what numbers tell is told by those whose chunks tell these, a level above
pub told-up : (old new : List (List ℕ)) (levels : ℕ) (numbers upper code : List ℕ) → Extends old new → HaveChunks old levels numbers → numbers_in code ≡ numbers
    → joined_chunks new upper ≡ code → told new (levels + 1) upper ≡ told old levels numbers
told-up old new levels numbers upper code more held tells above =
    ap (λ (n : ℕ). told new n upper) (add-one levels)
    ∙ (ap (λ (l : List ℕ). told new levels l) (ap numbers_in above ∙ tells) ∙ told-extends old new levels numbers more held)

-- and all of it is held
pub AreTold-up : (old new : List (List ℕ)) (levels : ℕ) (numbers upper code : List ℕ) → Extends old new → HaveChunks old levels numbers → numbers_in code ≡ numbers
    → joined_chunks new upper ≡ code → AreThere new upper → HaveChunks new (levels + 1) upper
AreTold-up old new levels numbers upper code more held tells above there =
    let up : HaveChunks new (suc levels) upper = (there, subst (λ (l : List ℕ). HaveChunks new levels l) (sym (ap numbers_in above ∙ tells)) (AreTold-extends old new levels numbers more held)) in
    subst (λ (n : ℕ). HaveChunks new n upper) (sym (add-one levels)) up

-- four bytes a number
pub length-code : (numbers : List ℕ) → length (flat_map (to_le_bytes w32) numbers) ≡ 4 * length numbers
length-code [] = refl
length-code (n ∷ numbers) = omega (arith, length-code numbers)

-- nothing is left where no bytes are
pub joined_all : (joined_chunks others bytes : List ℕ) → length others ≡ 0 → joined_chunks ++ others ≡ bytes → joined_chunks ≡ bytes
joined_all joined_chunks [] bytes none all = sym (append-nil joined_chunks) ∙ all
joined_all joined_chunks (b ∷ others) bytes none all = absurd (omega (arith, none))
