-- Numbers with fractions and exponents: no longer one is at the front, and what is found is one.
use Rattle.std.proofs.Common.{◌≡◌, ℕ, zero, suc, ◌+◌, ◌<◌, ◌≤◌, List, [], ◌∷◌, ◌++◌, length, take, drop, true, false, ◌==◌, ◌⊎◌, inl, inr, refl, sym, ap, ◌∙◌, append_assoc, append-nil, length-append, arith}
use Rattle.std.proofs.lemmas.Bool.Decides.{nat_tests}
use Rattle.lexemes.specs.ByteClasses.{is_decimal_digit, in_digits, is_exponent_letter, is_plus_or_minus, all_bytes, run_length}
use Rattle.lexemes.specs.Lexing.{are_decimal_digits, is_fraction, is_signed_digits, is_exponent, IsTextPiece, number}
use Rattle.lexemes.specs.Lengths.{length_beyond, digits_len, fraction_len, signed_len, exponent_len, fraction_and_exponent_len, number_length}
use Rattle.lexemes.proofs.Steps.{if-is, and-true, run-all, all-run, run-stop, drop-front, take-plus}

pub beyond-some : (n m : ℕ) → 0 < m → length_beyond n m ≡ n + m
beyond-some n zero w = absurd (omega arith)
beyond-some n (suc m) w = let q : (suc m == 0) ≡ false = grind (arith, nat_tests) in rw q

pub beyond-found : (n l m : ℕ) → length_beyond n l ≡ m → 0 < m → (0 < l) × (m ≡ n + l)
beyond-found n zero m h w = absurd (omega arith)
beyond-found n (suc l) m h w = (omega arith, sym h ∙ beyond-some n (suc l) (omega arith))

digit-in : (b : ℕ) → is_decimal_digit b ≡ true → in_digits b ≡ true
digit-in b h = grind (arith, nat_tests)

exponent_stops : (b : ℕ) → is_exponent_letter b ≡ true → (in_digits b ≡ false) × ((b == 46) ≡ false)
exponent_stops b h = (grind (arith, nat_tests), grind (arith, nat_tests))

point_stops : (b : ℕ) → (b == 46) ≡ true → in_digits b ≡ false
point_stops b h = grind (arith, nat_tests)

-- ---- no longer number is at the front

pub some_digits : (ds : List ℕ) → are_decimal_digits ds ≡ true → (all_bytes in_digits ds ≡ true) × (0 < length ds)
some_digits [] h = absurd (cc)
some_digits (b ∷ bs) h = let w = and-true (is_decimal_digit b) (all_bytes in_digits bs) h in (rw (digit-in b w.0, w.1), omega arith)

digits-fit : (ds r : List ℕ) → are_decimal_digits ds ≡ true → length ds ≤ digits_len (ds ++ r)
digits-fit [] r h = omega arith
digits-fit (b ∷ bs) r h =
    let w = and-true (is_decimal_digit b) (all_bytes in_digits bs) h in
    let x = run-all in_digits bs r w.1 in
    rw w.0 (omega arith)

digits-stop : (ds r : List ℕ) (c : ℕ) → are_decimal_digits ds ≡ true → in_digits c ≡ false → digits_len (ds ++ c ∷ r) ≡ length ds
digits-stop [] r c h stop = absurd (cc)
digits-stop (b ∷ bs) r c h stop =
    let w = and-true (is_decimal_digit b) (all_bytes in_digits bs) h in
    let x = run-stop in_digits bs r c w.1 stop in
    rw (w.0, x)

signed-fit : (es r : List ℕ) → is_signed_digits es ≡ true → (length es ≤ signed_len (es ++ r)) × (0 < length es)
signed-fit [] r h = absurd (cc)
signed-fit (b ∷ bs) r h = elim (if-is (is_plus_or_minus b) _ _ true h) [
  | inl p ↦ (
      let q = p.0 in
      let x = digits-fit bs r p.1 in
      let s = (some_digits bs p.1).1 in
      let y = beyond-some 1 (digits_len (bs ++ r)) (omega arith) in
      (rw (q, y) (omega arith), omega arith))
  | inr p ↦ (let q = p.0 in let x = digits-fit (b ∷ bs) r p.1 in (rw q x, omega arith))
]

exponent-fit : (es r : List ℕ) → is_exponent es ≡ true → length es ≤ exponent_len (es ++ r)
exponent-fit [] r h = omega arith
exponent-fit (b ∷ bs) r h =
    let w = and-true (is_exponent_letter b) (is_signed_digits bs) h in
    let x = signed-fit bs r w.1 in
    let y = beyond-some 1 (signed_len (bs ++ r)) (omega (arith, x.0, x.1)) in
    rw (w.0, y) (omega (arith, x.0))

-- a fraction's length, where an exponent or nothing follows
tail-fit : (fs es r : List ℕ) → is_fraction fs ≡ true → is_exponent es ≡ true
    → length fs + length es ≤ fraction_and_exponent_len (fraction_len ((fs ++ es) ++ r)) ((fs ++ es) ++ r)
tail-fit [] [] r h k = omega arith
tail-fit [] (e ∷ es) r h k =
    let w = and-true (is_exponent_letter e) (is_signed_digits es) k in
    let q = (exponent_stops e w.0).1 in
    let x = exponent-fit (e ∷ es) r k in
    rw q (omega (arith, x))
tail-fit (f ∷ fs) [] r h k =
    let w = and-true (f == 46) (are_decimal_digits fs) h in
    let x = digits-fit fs r w.1 in
    let s = (some_digits fs w.1).1 in
    let y = beyond-some 1 (digits_len (fs ++ r)) (omega arith) in
    let a : (fs ++ []) ++ r ≡ fs ++ r = ap (λ t. t ++ r) (append-nil fs) in
    rw (a, w.0, y) (omega arith)
tail-fit (f ∷ fs) (e ∷ es) r h k =
    let w = and-true (f == 46) (are_decimal_digits fs) h in
    let v = and-true (is_exponent_letter e) (is_signed_digits es) k in
    let a : (fs ++ e ∷ es) ++ r ≡ fs ++ (e ∷ (es ++ r)) = append_assoc fs (e ∷ es) r in
    let x = digits-stop fs (es ++ r) e w.1 (exponent_stops e v.0).0 in
    let s = (some_digits fs w.1).1 in
    let y : length_beyond 1 (digits_len (fs ++ e ∷ (es ++ r))) ≡ suc (length fs) = beyond-some 1 _ (omega (arith, x)) ∙ omega (arith, x) in
    let d : drop (suc (length fs)) (f ∷ (fs ++ e ∷ (es ++ r))) ≡ e ∷ (es ++ r) = drop-front fs (e ∷ (es ++ r)) in
    let z = exponent-fit (e ∷ es) r k in
    rw (a, w.0, y, d) (omega (arith, z))

-- where the digits of a number end
whole_run : (ds fs es r : List ℕ) → are_decimal_digits ds ≡ true → is_fraction fs ≡ true → is_exponent es ≡ true → 0 < length fs + length es
    → run_length in_digits ((ds ++ (fs ++ es)) ++ r) ≡ length ds
whole_run ds [] [] r d h k some = absurd (omega arith)
whole_run ds [] (e ∷ es) r d h k some =
    let v = and-true (is_exponent_letter e) (is_signed_digits es) k in
    ap (run_length in_digits) (append_assoc ds (e ∷ es) r) ∙ run-stop in_digits ds (es ++ r) e (some_digits ds d).0 (exponent_stops e v.0).0
whole_run ds (f ∷ fs) es r d h k some =
    let w = and-true (f == 46) (are_decimal_digits fs) h in
    ap (run_length in_digits) (append_assoc ds (f ∷ (fs ++ es)) r) ∙ run-stop in_digits ds ((fs ++ es) ++ r) f (some_digits ds d).0 (point_stops f w.0)

none-or-some : (n : ℕ) → (n ≡ 0) ⊎ (0 < n)
none-or-some zero = inl refl
none-or-some (suc n) = inr (omega arith)

pub number-fits : (ds fs es r : List ℕ) → are_decimal_digits ds ≡ true → is_fraction fs ≡ true → is_exponent es ≡ true
    → length (ds ++ (fs ++ es)) ≤ number_length ((ds ++ (fs ++ es)) ++ r)
number-fits ds fs es r d h k = elim (none-or-some (length fs + length es)) [
  | inl none ↦ (
      let w = some_digits ds d in
      let a : (ds ++ (fs ++ es)) ++ r ≡ ds ++ ((fs ++ es) ++ r) = append_assoc ds (fs ++ es) r in
      let x = run-all in_digits ds ((fs ++ es) ++ r) w.0 in
      let l : length (ds ++ (fs ++ es)) ≡ length ds + (length fs + length es) = length-append ds (fs ++ es) ∙ ap (λ n. length ds + n) (length-append fs es) in
      rw a (omega (arith, l, x)))
  | inr some ↦ (
      let x = whole_run ds fs es r d h k some in
      let t : drop (length ds) ((ds ++ (fs ++ es)) ++ r) ≡ (fs ++ es) ++ r = ap (drop (length ds)) (append_assoc ds (fs ++ es) r) ∙ drop-front ds ((fs ++ es) ++ r) in
      let y = tail-fit fs es r h k in
      let l : length (ds ++ (fs ++ es)) ≡ length ds + (length fs + length es) = length-append ds (fs ++ es) ∙ ap (λ n. length ds + n) (length-append fs es) in
      rw (x, t) (omega (arith, l, y)))
]

-- ---- what is found is a number

digits-are : (bs : List ℕ) (n : ℕ) → digits_len bs ≡ n → 0 < n → are_decimal_digits (take n bs) ≡ true
digits-are [] n e w = absurd (omega arith)
digits-are (b ∷ bs) n e w = elim (if-is (is_decimal_digit b) _ 0 n e) [
  | inl p ↦ (let q = p.0 in let x = all-run in_digits bs in rw (sym p.1) (rw (q, x)))
  | inr p ↦ absurd (let q = p.1 in omega arith)
]

fraction-is : (bs : List ℕ) (n : ℕ) → fraction_len bs ≡ n → is_fraction (take n bs) ≡ true
fraction-is bs zero e = refl
fraction-is [] (suc n) e = absurd (omega arith)
fraction-is (b ∷ bs) (suc n) e = elim (if-is (b == 46) _ 0 (suc n) e) [
  | inl p ↦ (
      let f = beyond-found 1 (digits_len bs) (suc n) p.1 (omega arith) in
      let q = p.0 in
      let x = digits-are bs n (omega (arith, f.1)) (omega (arith, f.0, f.1)) in
      rw (q, x))
  | inr p ↦ absurd (let q = p.1 in omega arith)
]

signed-are : (bs : List ℕ) (n : ℕ) → signed_len bs ≡ n → 0 < n → is_signed_digits (take n bs) ≡ true
signed-are bs zero e w = absurd (omega arith)
signed-are [] (suc n) e w = absurd (omega arith)
signed-are (b ∷ bs) (suc n) e w = elim (if-is (is_plus_or_minus b) _ _ (suc n) e) [
  | inl p ↦ (
      let f = beyond-found 1 (digits_len bs) (suc n) p.1 (omega arith) in
      let q = p.0 in
      let x = digits-are bs n (omega (arith, f.1)) (omega (arith, f.0, f.1)) in
      rw (q, x))
  | inr p ↦ (let q = p.0 in let x = digits-are (b ∷ bs) (suc n) p.1 w in rw q x)
]

exponent-is : (bs : List ℕ) (n : ℕ) → exponent_len bs ≡ n → is_exponent (take n bs) ≡ true
exponent-is bs zero e = refl
exponent-is [] (suc n) e = absurd (omega arith)
exponent-is (b ∷ bs) (suc n) e = elim (if-is (is_exponent_letter b) _ 0 (suc n) e) [
  | inl p ↦ (
      let f = beyond-found 1 (signed_len bs) (suc n) p.1 (omega arith) in
      let q = p.0 in
      let x = signed-are bs n (omega (arith, f.1)) (omega (arith, f.0, f.1)) in
      rw (q, x))
  | inr p ↦ absurd (let q = p.1 in omega arith)
]

whole-is : (b : ℕ) (bs : List ℕ) → is_decimal_digit b ≡ true → are_decimal_digits (take (run_length in_digits (b ∷ bs)) (b ∷ bs)) ≡ true
whole-is b bs h = let x = all-run in_digits bs in rw (digit-in b h) (rw (h, x))

pub number-is : (b : ℕ) (bs : List ℕ) (n : ℕ) → is_decimal_digit b ≡ true → number_length (b ∷ bs) ≡ n → IsTextPiece (take n (b ∷ bs))
number-is b bs n h e =
    let text : List ℕ = b ∷ bs in
    let w : ℕ = run_length in_digits text in
    let rest : List ℕ = drop w text in
    let f : ℕ = fraction_len rest in
    let x : ℕ = exponent_len (drop f rest) in
    let t : take n text ≡ take w text ++ (take f rest ++ take x (drop f rest)) =
    ap (λ m. take m text) (sym e) ∙ take-plus w (f + x) text ∙ ap (λ s. take w text ++ s) (take-plus f x rest) in
    rw t (number (take w text) (take f rest) (take x (drop f rest)) (whole-is b bs h) (fraction-is rest f refl) (exponent-is (drop f rest) x refl))
