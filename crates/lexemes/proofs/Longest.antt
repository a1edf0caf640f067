-- The length that is computed is that of the longest piece at the front.
use Rattle.std.proofs.Common.{◌≡◌, ℕ, zero, suc, ◌+◌, ◌<◌, ◌≤◌, List, [], ◌∷◌, ◌++◌, length, take, drop, Bool, true, false, not, ◌&&◌, ◌||◌, ◌==◌, if◌then◌else◌, inl, inr, refl, sym, ◌∙◌, length-append, length-take, take-append-drop, arith}
use Rattle.std.proofs.lemmas.Bool.Decides.{nat_tests}
use Rattle.lexemes.specs.ByteClasses.{begins_name, is_decimal_digit, in_identifier, in_based, is_visible, is_white_space, in_line_comment, is_base_letter, is_signed_letter, has_no_bytes}
use Rattle.lexemes.specs.Lexing.{is_one_byte_sign, is_mark2, is_operator2, is_two_byte_sign, is_three_byte_sign, ends_string, ends_comment, are_decimal_digits, is_fraction, is_exponent, IsTextPiece, space, line, block, word, escaped, joint, joint_return, system, directive, number, base, signed_base, quoted, slash, sign1, sign2, sign3, IsTextPieceAfter, plain, digits, other, IsLongestPiece}
use Rattle.lexemes.specs.Lengths.{string_length, block_comment_length, length_beyond, comment_length, slash_len, number_length, system_name_length, directive_len, base_letter_len, base_len, newline_len, escaped_len, sign_length1, sign_length2, sign_length, marked_len, piece_length, next_len}
use Rattle.lexemes.proofs.Steps.{if-is, and-true, or-true, true_or_false, same_byte, run-all, all-run}
use Rattle.lexemes.proofs.Numbers.{beyond-some, beyond-found, some_digits, number-fits, number-is}

-- ---- strings and comments

comment-fits : (n : ℕ) (star : Bool) (bs r : List ℕ) → ends_comment star bs ≡ true → (block_comment_length n star (bs ++ r) ≡ n + length bs) × (0 < length bs)
comment-fits n star [] r h = absurd (cc)
comment-fits n star (b ∷ []) r h = elim (true_or_false (star && b == 47)) [
  | inl q ↦ (rw q (omega arith), omega arith)
  | inr q ↦ absurd (let x : ends_comment (b == 42) [] ≡ true = rw q at h in cc)
]
comment-fits n star (b ∷ c ∷ bs) r h = elim (if-is (star && b == 47) _ _ true h) [
  | inl p ↦ absurd (let q = p.1 in cc)
  | inr p ↦ (let x = (comment-fits (suc n) (b == 42) (c ∷ bs) r p.1).0 in let q = p.0 in rw q (x ∙ omega arith), omega arith)
]

some_string : (after : Bool) (bs : List ℕ) → ends_string after bs ≡ true → 0 < length bs
some_string after [] h = absurd (cc)
some_string after (b ∷ bs) h = omega arith

no_more : (bs : List ℕ) → has_no_bytes bs ≡ true → bs ≡ []
no_more [] h = refl
no_more (b ∷ bs) h = absurd (cc)

not-true : (b : Bool) → not b ≡ true → b ≡ false
not-true true h = absurd (cc)
not-true false h = refl

string-fits : (n : ℕ) (after : Bool) (bs r : List ℕ) → ends_string after bs ≡ true → string_length n after (bs ++ r) ≡ n + length bs
string-fits n after [] r h = absurd (cc)
string-fits n after (b ∷ bs) r h = elim (if-is (not after && b == 34) _ _ true h) [
  | inl p ↦ (let e = no_more bs p.1 in let q = p.0 in rw (q, e) (omega arith))
  | inr p ↦ (
      let w = and-true (not (b == 10)) _ p.1 in
      let s = not-true (b == 10) w.0 in
      let x = string-fits (suc n) (not after && b == 92) bs r w.1 in
      let q = p.0 in
      rw (q, s) (x ∙ omega arith))
]

abbrev Found : (List ℕ → Bool) → ℕ → ℕ → List ℕ → Type 0
Found test n m bs = (k : ℕ) × (m ≡ n + k) × (0 < k) × (test (take k bs) ≡ true)

comment-found : (n m : ℕ) (star : Bool) (bs : List ℕ) → block_comment_length n star bs ≡ m → 0 < m → Found (ends_comment star) n m bs
comment-found n m star [] h w = absurd (omega arith)
comment-found n m star (b ∷ bs) h w = elim (if-is (star && b == 47) _ _ m h) [
  | inl p ↦ (let q = p.0 in let e = p.1 in (1, omega arith, omega arith, rw q))
  | inr p ↦ (let q = p.0 in let x = comment-found (suc n) m (b == 42) bs p.1 w in (suc x.0, omega (arith, x.1), omega arith, rw q x.3))
]

string-found : (n m : ℕ) (after : Bool) (bs : List ℕ) → string_length n after bs ≡ m → 0 < m → Found (ends_string after) n m bs
string-found n m after [] h w = absurd (omega arith)
string-found n m after (b ∷ bs) h w = elim (if-is (not after && b == 34) _ _ m h) [
  | inl p ↦ (let q = p.0 in let e = p.1 in (1, omega arith, omega arith, rw q))
  | inr p ↦ elim (if-is (b == 10) _ _ m p.1) [
    | inl s ↦ absurd (let e = s.1 in omega arith)
    | inr s ↦ (
        let q = p.0 in
        let t = s.0 in
        let x = string-found (suc n) m (not after && b == 92) bs s.1 w in
        let y = x.3 in
        (suc x.0, omega (arith, x.1), omega arith, rw (q, t) y))
  ]
]

-- ---- no piece at the front is longer

digit_no_letter : (b : ℕ) → is_decimal_digit b ≡ true → begins_name b ≡ false
digit_no_letter b h = grind (arith, nat_tests)

space_no_letter : (b : ℕ) → is_white_space b ≡ true → (begins_name b ≡ false) × (is_decimal_digit b ≡ false)
space_no_letter b h = (grind (arith, nat_tests), grind (arith, nat_tests))

signed_no_base : (b : ℕ) → is_signed_letter b ≡ true → is_base_letter b ≡ false
signed_no_base b h = grind (arith, nat_tests)

if-ge : (b : Bool) (n x y : ℕ) → n ≤ x → n ≤ y → n ≤ (if b then x else y)
if-ge true n x y h k = h
if-ge false n x y h k = k

sign1-in1 : (a : ℕ) (r : List ℕ) → is_one_byte_sign a ≡ true → 1 ≤ sign_length1 (a ∷ r)
sign1-in1 a r h = rw h (omega arith)

sign1-in2 : (a : ℕ) (r : List ℕ) → is_one_byte_sign a ≡ true → 1 ≤ sign_length2 (a ∷ r)
sign1-in2 a [] h = sign1-in1 a [] h
sign1-in2 a (b ∷ r) h = if-ge (is_two_byte_sign a b) 1 2 _ (omega arith) (sign1-in1 a (b ∷ r) h)

sign1-in : (a : ℕ) (r : List ℕ) → is_one_byte_sign a ≡ true → 1 ≤ sign_length (a ∷ r)
sign1-in a [] h = sign1-in2 a [] h
sign1-in a (b ∷ []) h = sign1-in2 a (b ∷ []) h
sign1-in a (b ∷ c ∷ r) h = if-ge (is_three_byte_sign a b c) 1 3 _ (omega arith) (sign1-in2 a (b ∷ c ∷ r) h)

sign2-in2 : (a b : ℕ) (r : List ℕ) → is_two_byte_sign a b ≡ true → 2 ≤ sign_length2 (a ∷ b ∷ r)
sign2-in2 a b r h = rw h (omega arith)

sign2-in : (a b : ℕ) (r : List ℕ) → is_two_byte_sign a b ≡ true → 2 ≤ sign_length (a ∷ b ∷ r)
sign2-in a b [] h = sign2-in2 a b [] h
sign2-in a b (c ∷ r) h = if-ge (is_three_byte_sign a b c) 2 3 _ (omega arith) (sign2-in2 a b (c ∷ r) h)

sign3-in : (a b c : ℕ) (r : List ℕ) → is_three_byte_sign a b c ≡ true → 3 ≤ sign_length (a ∷ b ∷ c ∷ r)
sign3-in a b c r h = rw h (omega arith)

-- the first byte of an operator or a mark begins no other piece
abbrev begins_sign : ℕ → Bool
begins_sign a =
    if begins_name a then false else (if is_decimal_digit a then false else (if is_white_space a then false else (if a == 34 then false else (if a == 47 then false
    else (if a == 36 then false else (if a == 39 then false else (if a == 92 then false else (if a == 96 then false else true))))))))

by : (a n : ℕ) → begins_sign n ≡ true → (a == n) ≡ true → begins_sign a ≡ true
by a n h e = let q = same_byte a n e in rw q h

or-by : (a n : ℕ) (more : Bool) → begins_sign n ≡ true → (more ≡ true → begins_sign a ≡ true) → (more || (a == n)) ≡ true → begins_sign a ≡ true
or-by a n more h go e = elim (or-true more (a == n) e) [ inl q ↦ go q | inr q ↦ by a n h q ]

and-by : (a n : ℕ) (two more : Bool) → begins_sign n ≡ true → (more ≡ true → begins_sign a ≡ true) → (more || ((a == n) && two)) ≡ true → begins_sign a ≡ true
and-by a n two more h go e = elim (or-true more ((a == n) && two) e) [ inl q ↦ go q | inr q ↦ by a n h (and-true (a == n) two q).0 ]

and2-by : (a n : ℕ) (two three more : Bool) → begins_sign n ≡ true → (more ≡ true → begins_sign a ≡ true) → (more || ((a == n) && two && three)) ≡ true → begins_sign a ≡ true
and2-by a n two three more h go e = elim (or-true more ((a == n) && two && three) e) [
  | inl q ↦ go q
  | inr q ↦ by a n h (and-true (a == n) two (and-true ((a == n) && two) three q).0).0
]

sign1-begins : (a : ℕ) → is_one_byte_sign a ≡ true → begins_sign a ≡ true
sign1-begins a = or-by a 63 _ refl (or-by a 124 _ refl (or-by a 94 _ refl (or-by a 38 _ refl (or-by a 62 _ refl (or-by a 60 _ refl (or-by a 45 _ refl (or-by a 43 _ refl (or-by a 37 _ refl (or-by a 42 _ refl (or-by a 126 _ refl (or-by a 33 _ refl (or-by a 64 _ refl (or-by a 35 _ refl (or-by a 61 _ refl (or-by a 58 _ refl (or-by a 46 _ refl (or-by a 59 _ refl (or-by a 44 _ refl (or-by a 125 _ refl (or-by a 123 _ refl (or-by a 93 _ refl (or-by a 91 _ refl (or-by a 41 _ refl (by a 40 refl))))))))))))))))))))))))

mark2-begins : (a b : ℕ) → is_mark2 a b ≡ true → begins_sign a ≡ true
mark2-begins a b = and-by a 62 _ _ refl (and-by a 60 _ _ refl (and-by a 42 _ _ refl (and-by a 42 _ _ refl (and-by a 61 _ _ refl (and-by a 45 _ _ refl (and-by a 43 _ _ refl (and-by a 45 _ _ refl (and-by a 42 _ _ refl (λ q. by a 40 refl (and-true (a == 40) _ q).0)))))))))

operator2-begins : (a b : ℕ) → is_operator2 a b ≡ true → begins_sign a ≡ true
operator2-begins a b = and-by a 124 _ _ refl (and-by a 38 _ _ refl (and-by a 126 _ _ refl (and-by a 126 _ _ refl (and-by a 126 _ _ refl (and-by a 94 _ _ refl (and-by a 33 _ _ refl (and-by a 61 _ _ refl (and-by a 62 _ _ refl (λ q. by a 60 refl (and-true (a == 60) _ q).0)))))))))

sign2-begins : (a b : ℕ) → is_two_byte_sign a b ≡ true → begins_sign a ≡ true
sign2-begins a b h = elim (or-true (is_mark2 a b) (is_operator2 a b) h) [ inl q ↦ mark2-begins a b q | inr q ↦ operator2-begins a b q ]

sign3-begins : (a b c : ℕ) → is_three_byte_sign a b c ≡ true → begins_sign a ≡ true
sign3-begins a b c = and2-by a 33 _ _ _ refl (and2-by a 61 _ _ _ refl (and2-by a 62 _ _ _ refl (and2-by a 60 _ _ _ refl (λ q. by a 38 refl (and-true (a == 38) _ (and-true _ _ q).0).0))))

sign_marked : (n a : ℕ) (r : List ℕ) (marked : (if a == 34 then false else (if a == 47 then false else (if a == 36 then false else (if a == 39 then false else (if a == 92 then false else (if a == 96 then false else true)))))) ≡ true)
    → n ≤ sign_length (a ∷ r) → n ≤ marked_len (a ∷ r)
unfolding marked_len
sign_marked n a r s h = elim (if-is (a == 34) _ _ true s) [
  | inl p ↦ absurd (let q = p.1 in cc)
  | inr p1 ↦ elim (if-is (a == 47) _ _ true p1.1) [
    | inl p ↦ absurd (let q = p.1 in cc)
    | inr p2 ↦ elim (if-is (a == 36) _ _ true p2.1) [
      | inl p ↦ absurd (let q = p.1 in cc)
      | inr p3 ↦ elim (if-is (a == 39) _ _ true p3.1) [
        | inl p ↦ absurd (let q = p.1 in cc)
        | inr p4 ↦ elim (if-is (a == 92) _ _ true p4.1) [
          | inl p ↦ absurd (let q = p.1 in cc)
          | inr p5 ↦ elim (if-is (a == 96) _ _ true p5.1) [
            | inl p ↦ absurd (let q = p.1 in cc)
            | inr p6 ↦ rw (p1.0, p2.0, p3.0, p4.0, p5.0, p6.0) h
          ]
        ]
      ]
    ]
  ]
]

sign_piece : (n a : ℕ) (r : List ℕ) → begins_sign a ≡ true → n ≤ sign_length (a ∷ r) → n ≤ piece_length (a ∷ r)
unfolding piece_length
sign_piece n a r s h = elim (if-is (begins_name a) _ _ true s) [
  | inl p ↦ absurd (let q = p.1 in cc)
  | inr p1 ↦ elim (if-is (is_decimal_digit a) _ _ true p1.1) [
    | inl p ↦ absurd (let q = p.1 in cc)
    | inr p2 ↦ elim (if-is (is_white_space a) _ _ true p2.1) [
      | inl p ↦ absurd (let q = p.1 in cc)
      | inr p3 ↦ (let m = sign_marked n a r p3.1 h in rw (p1.0, p2.0, p3.0) m)
    ]
  ]
]

comment-in : (bs : List ℕ) → comment_length bs ≤ slash_len bs
comment-in bs = elim (true_or_false (comment_length bs == 0)) [
  | inl q ↦ (let e : comment_length bs ≡ 0 = grind (arith, nat_tests) in rw (q, e) (omega arith))
  | inr q ↦ rw q (omega arith)
]

slash-in : (bs : List ℕ) → 1 ≤ slash_len bs
slash-in bs = elim (true_or_false (comment_length bs == 0)) [
  | inl q ↦ rw q (omega arith)
  | inr q ↦ (let e : 0 < comment_length bs = grind (arith, nat_tests) in rw q e)
]

digit-piece : (b : ℕ) (bs : List ℕ) → is_decimal_digit b ≡ true → piece_length (b ∷ bs) ≡ number_length (b ∷ bs)
unfolding piece_length
digit-piece b bs h = let l = digit_no_letter b h in rw (l, h) refl

number-piece : (ds fs es r : List ℕ) → are_decimal_digits ds ≡ true → is_fraction fs ≡ true → is_exponent es ≡ true → length (ds ++ (fs ++ es)) ≤ piece_length ((ds ++ (fs ++ es)) ++ r)
number-piece [] fs es r d h k = absurd (cc)
number-piece (b ∷ bs) fs es r d h k =
    let w = and-true (is_decimal_digit b) _ d in
    let x : length (b ∷ (bs ++ (fs ++ es))) ≤ number_length (b ∷ ((bs ++ (fs ++ es)) ++ r)) = number-fits (b ∷ bs) fs es r d h k in
    let e : piece_length (b ∷ ((bs ++ (fs ++ es)) ++ r)) ≡ number_length (b ∷ ((bs ++ (fs ++ es)) ++ r)) = digit-piece b ((bs ++ (fs ++ es)) ++ r) w.0 in
    omega arith

pub fits : {q : List ℕ} → IsTextPiece q → (r : List ℕ) → length q ≤ piece_length (q ++ r)
unfolding piece_length marked_len
fits (space {b = b} h) r = let d = space_no_letter b h in rw (d.0, d.1, h) (omega arith)
fits (line {bs = bs} h) r = let x = run-all in_line_comment bs r h in let y = comment-in (47 ∷ (bs ++ r)) in omega arith
fits (block {bs = bs} h) r =
    let x = comment-fits 0 false bs r h in
    let y = beyond-some 2 (block_comment_length 0 false (bs ++ r)) (omega (arith, x.0)) in
    let z = comment-in (42 ∷ (bs ++ r)) in
    omega (arith, x.0)
fits (word {bs = bs} h w) r = let x = run-all in_identifier bs r w in rw h (omega arith)
fits (escaped {bs = bs} h w) r = let x = run-all is_visible bs r w in rw h (omega arith)
fits joint r = omega arith
fits joint_return r = omega arith
fits (system {bs = bs} h w) r = let x = run-all in_identifier bs r w in rw h (omega arith)
fits (directive {bs = bs} h w) r = let x = run-all in_identifier bs r w in rw h (omega arith)
fits (number ds fs es d h k) r = number-piece ds fs es r d h k
fits (base h) r = rw h (omega arith)
fits (signed_base {a = a} h k) r = let n = signed_no_base a h in rw (n, h, k) (omega arith)
fits (quoted {bs = bs} h) r =
    let x = string-fits 0 false bs r h in
    let w = some_string false bs h in
    let y = beyond-some 1 (string_length 0 false (bs ++ r)) (omega (arith, x)) in
    rw y (omega (arith, x))
fits slash r = slash-in r
fits (sign1 {a = a} h) r = sign_piece 1 a r (sign1-begins a h) (sign1-in a r h)
fits (sign2 {a = a} {b = b} h) r = sign_piece 2 a (b ∷ r) (sign2-begins a b h) (sign2-in a b r h)
fits (sign3 {a = a} {b = b} {c = c} h) r = sign_piece 3 a (b ∷ c ∷ r) (sign3-begins a b c h) (sign3-in a b c r h)

long : {q : List ℕ} → IsTextPiece q → 0 < length q
long (space h) = omega arith
long (line h) = omega arith
long (block h) = omega arith
long (word h w) = omega arith
long (escaped h w) = omega arith
long joint = omega arith
long joint_return = omega arith
long (system h w) = omega arith
long (directive h w) = omega arith
long (number ds fs es d h k) = let w = (some_digits ds d).1 in omega (arith, length-append ds (fs ++ es))
long (base h) = omega arith
long (signed_base h k) = omega arith
long (quoted h) = omega arith
long slash = omega arith
long (sign1 h) = omega arith
long (sign2 h) = omega arith
long (sign3 h) = omega arith

pub fits_after : {after : Bool} {q : List ℕ} → IsTextPieceAfter after q → (r : List ℕ) → length q ≤ next_len after (q ++ r)
unfolding next_len
fits_after (plain {piece = []} p) r = omega arith
fits_after (plain {piece = b ∷ bs} p) r = fits p r
fits_after (digits {bs = bs} h w) r = let x = run-all in_based bs r w in rw h (omega arith)
fits_after (other h p) r = let x = fits p r in rw h x

pub long_after : {after : Bool} {q : List ℕ} → IsTextPieceAfter after q → 0 < length q
long_after (plain p) = long p
long_after (digits h w) = omega arith
long_after (other h p) = omega arith

-- ---- what is found is a piece

sign1-is : (a : ℕ) (r : List ℕ) (n : ℕ) → sign_length1 (a ∷ r) ≡ n → 0 < n → IsTextPiece (take n (a ∷ r))
sign1-is a r n e w = elim (if-is (is_one_byte_sign a) 1 0 n e) [ inl p ↦ rw (sym p.1) (sign1 p.0) | inr p ↦ absurd (let q = p.1 in omega arith) ]

sign2-is : (text : List ℕ) (n : ℕ) → sign_length2 text ≡ n → 0 < n → IsTextPiece (take n text)
sign2-is [] n e w = absurd (omega arith)
sign2-is (a ∷ []) n e w = sign1-is a [] n e w
sign2-is (a ∷ b ∷ r) n e w = elim (if-is (is_two_byte_sign a b) 2 _ n e) [ inl p ↦ rw (sym p.1) (sign2 p.0) | inr p ↦ sign1-is a (b ∷ r) n p.1 w ]

sign-is : (text : List ℕ) (n : ℕ) → sign_length text ≡ n → 0 < n → IsTextPiece (take n text)
sign-is [] n e w = absurd (omega arith)
sign-is (a ∷ []) n e w = sign2-is (a ∷ []) n e w
sign-is (a ∷ b ∷ []) n e w = sign2-is (a ∷ b ∷ []) n e w
sign-is (a ∷ b ∷ c ∷ r) n e w = elim (if-is (is_three_byte_sign a b c) 3 _ n e) [ inl p ↦ rw (sym p.1) (sign3 p.0) | inr p ↦ sign2-is (a ∷ b ∷ c ∷ r) n p.1 w ]

block-is : (cs : List ℕ) (n : ℕ) → length_beyond 2 (block_comment_length 0 false cs) ≡ n → 0 < n → IsTextPiece (take n (47 ∷ 42 ∷ cs))
block-is cs n e w =
    let q = beyond-found 2 (block_comment_length 0 false cs) n e w in
    let x = comment-found 0 (block_comment_length 0 false cs) false cs refl q.0 in
    let m : n ≡ suc (suc x.0) = omega (arith, x.1, q.1) in
    rw m (block x.3)

comment-is : (bs : List ℕ) (n : ℕ) → comment_length bs ≡ n → 0 < n → IsTextPiece (take n (47 ∷ bs))
comment-is [] n e w = absurd (omega arith)
comment-is (c ∷ cs) n e w = elim (if-is (c == 47) _ _ n e) [
  | inl p ↦ (let d = same_byte c 47 p.0 in rw (sym p.1, d) (line (all-run in_line_comment cs)))
  | inr p ↦ elim (if-is (c == 42) _ 0 n p.1) [
    | inl s ↦ (let d = same_byte c 42 s.0 in rw d (block-is cs n s.1 w))
    | inr s ↦ absurd (let r = s.1 in omega arith)
  ]
]

slash-is : (bs : List ℕ) (n : ℕ) → slash_len bs ≡ n → 0 < n → IsTextPiece (take n (47 ∷ bs))
slash-is bs n e w = elim (if-is (comment_length bs == 0) 1 _ n e) [
  | inl p ↦ rw (sym p.1) slash
  | inr p ↦ comment-is bs n p.1 w
]

string-is : (bs : List ℕ) (n : ℕ) → length_beyond 1 (string_length 0 false bs) ≡ n → 0 < n → IsTextPiece (take n (34 ∷ bs))
string-is bs n e w =
    let q = beyond-found 1 (string_length 0 false bs) n e w in
    let x = string-found 0 (string_length 0 false bs) false bs refl q.0 in
    let m : n ≡ suc x.0 = omega (arith, x.1, q.1) in
    rw m (quoted x.3)

system-is : (bs : List ℕ) (n : ℕ) → system_name_length bs ≡ n → 0 < n → IsTextPiece (take n (36 ∷ bs))
system-is [] n e w = absurd (omega arith)
system-is (c ∷ cs) n e w = elim (if-is (in_identifier c) _ 0 n e) [
  | inl p ↦ rw (sym p.1) (system p.0 (all-run in_identifier cs))
  | inr p ↦ absurd (let r = p.1 in omega arith)
]

directive-is : (bs : List ℕ) (n : ℕ) → directive_len bs ≡ n → 0 < n → IsTextPiece (take n (96 ∷ bs))
directive-is [] n e w = absurd (omega arith)
directive-is (c ∷ cs) n e w = elim (if-is (begins_name c) _ 0 n e) [
  | inl p ↦ rw (sym p.1) (directive p.0 (all-run in_identifier cs))
  | inr p ↦ absurd (let r = p.1 in omega arith)
]

signed_base-is : (a : ℕ) (bs : List ℕ) (n : ℕ) → is_signed_letter a ≡ true → base_letter_len bs ≡ n → 0 < n → IsTextPiece (take n (39 ∷ a ∷ bs))
signed_base-is a [] n s e w = absurd (omega arith)
signed_base-is a (b ∷ bs) n s e w = elim (if-is (is_base_letter b) 3 0 n e) [
  | inl p ↦ rw (sym p.1) (signed_base s p.0)
  | inr p ↦ absurd (let r = p.1 in omega arith)
]

base-is : (bs : List ℕ) (n : ℕ) → base_len bs ≡ n → 0 < n → IsTextPiece (take n (39 ∷ bs))
base-is [] n e w = absurd (omega arith)
base-is (a ∷ bs) n e w = elim (if-is (is_base_letter a) 2 _ n e) [
  | inl p ↦ rw (sym p.1) (base p.0)
  | inr p ↦ elim (if-is (is_signed_letter a) _ 0 n p.1) [
    | inl s ↦ signed_base-is a bs n s.0 s.1 w
    | inr s ↦ absurd (let r = s.1 in omega arith)
  ]
]

newline-is : (bs : List ℕ) (n : ℕ) → newline_len bs ≡ n → 0 < n → IsTextPiece (take n (92 ∷ 13 ∷ bs))
newline-is [] n e w = absurd (omega arith)
newline-is (b ∷ bs) n e w = elim (if-is (b == 10) 3 0 n e) [
  | inl p ↦ (let q = same_byte b 10 p.0 in rw (sym p.1, q) joint_return)
  | inr p ↦ absurd (let r = p.1 in omega arith)
]

escaped-is : (bs : List ℕ) (n : ℕ) → escaped_len bs ≡ n → 0 < n → IsTextPiece (take n (92 ∷ bs))
escaped-is [] n e w = absurd (omega arith)
escaped-is (b ∷ bs) n e w = elim (if-is (is_visible b) _ _ n e) [
  | inl p ↦ rw (sym p.1) (escaped p.0 (all-run is_visible bs))
  | inr p ↦ elim (if-is (b == 10) 2 _ n p.1) [
    | inl s ↦ (let q = same_byte b 10 s.0 in rw (sym s.1, q) joint)
    | inr s ↦ elim (if-is (b == 13) _ 0 n s.1) [
      | inl t ↦ (let q = same_byte b 13 t.0 in rw q (newline-is bs n t.1 w))
      | inr t ↦ absurd (let r = t.1 in omega arith)
    ]
  ]
]

marked-is : (b : ℕ) (bs : List ℕ) (n : ℕ) → marked_len (b ∷ bs) ≡ n → 0 < n → IsTextPiece (take n (b ∷ bs))
unfolding marked_len
marked-is b bs n e w = elim (if-is (b == 34) _ _ n e) [
  | inl p ↦ (let q = same_byte b 34 p.0 in rw q (string-is bs n p.1 w))
  | inr p ↦ elim (if-is (b == 47) _ _ n p.1) [
    | inl p ↦ (let q = same_byte b 47 p.0 in rw q (slash-is bs n p.1 w))
    | inr p ↦ elim (if-is (b == 36) _ _ n p.1) [
      | inl p ↦ (let q = same_byte b 36 p.0 in rw q (system-is bs n p.1 w))
      | inr p ↦ elim (if-is (b == 39) _ _ n p.1) [
        | inl p ↦ (let q = same_byte b 39 p.0 in rw q (base-is bs n p.1 w))
        | inr p ↦ elim (if-is (b == 92) _ _ n p.1) [
          | inl p ↦ (let q = same_byte b 92 p.0 in rw q (escaped-is bs n p.1 w))
          | inr p ↦ elim (if-is (b == 96) _ _ n p.1) [
            | inl p ↦ (let q = same_byte b 96 p.0 in rw q (directive-is bs n p.1 w))
            | inr p ↦ sign-is (b ∷ bs) n p.1 w
          ]
        ]
      ]
    ]
  ]
]

piece-is : (text : List ℕ) (n : ℕ) → piece_length text ≡ n → 0 < n → IsTextPiece (take n text)
unfolding piece_length
piece-is [] n e w = absurd (omega arith)
piece-is (b ∷ bs) n e w = elim (if-is (begins_name b) _ _ n e) [
  | inl p ↦ rw (sym p.1) (word p.0 (all-run in_identifier bs))
  | inr p ↦ elim (if-is (is_decimal_digit b) _ _ n p.1) [
    | inl p ↦ number-is b bs n p.0 p.1
    | inr p ↦ elim (if-is (is_white_space b) _ _ n p.1) [
      | inl p ↦ rw (sym p.1) (space p.0)
      | inr p ↦ marked-is b bs n p.1 w
    ]
  ]
]

other-is : (b : ℕ) (bs : List ℕ) (n : ℕ) → in_based b ≡ false → piece_length (b ∷ bs) ≡ n → 0 < n → IsTextPieceAfter true (take n (b ∷ bs))
other-is b bs zero h e w = absurd (omega arith)
other-is b bs (suc n) h e w = other h (piece-is (b ∷ bs) (suc n) e w)

next_piece : (after : Bool) (text : List ℕ) (n : ℕ) → next_len after text ≡ n → 0 < n → IsTextPieceAfter after (take n text)
unfolding next_len
next_piece after [] n e w = absurd (omega arith)
next_piece false (b ∷ bs) n e w = plain (piece-is (b ∷ bs) n e w)
next_piece true (b ∷ bs) n e w = elim (if-is (in_based b) _ _ n e) [
  | inl p ↦ rw (sym p.1) (digits p.0 (all-run in_based bs))
  | inr p ↦ other-is b bs n p.0 p.1 w
]

-- ---- the next piece

pub next_is : (after : Bool) (text : List ℕ) (n : ℕ) → next_len after text ≡ n → 0 < n → n ≤ length text → IsLongestPiece after (take n text) (drop n text)
next_is after text n e w within = record {
  is_piece = next_piece after text n e w;
  longest = λ q r same d.
      let whole : q ++ r ≡ text = same ∙ take-append-drop n text in
      let x : length q ≤ next_len after text = rw whole at (fits_after d r) in
      omega (arith, length-take n text);
}

pub no_next : (after : Bool) (text : List ℕ) → next_len after text ≡ 0 → (q r : List ℕ) → q ++ r ≡ text → IsTextPieceAfter after q → ⊥
no_next after text e q r same d =
    let x : length q ≤ next_len after text = rw same at (fits_after d r) in
    let y = long_after d in
    omega arith
