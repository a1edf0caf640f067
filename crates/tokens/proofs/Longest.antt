-- The tokenizer's length is that of the longest piece at the front.
use Rattle.std.proofs.Common.{◌≡◌, ℕ, zero, suc, ◌+◌, ◌<◌, ◌≤◌, List, [], ◌∷◌, ◌++◌, length, take, drop, Bool, true, false, ◌&&◌, ◌||◌, ◌==◌, if◌then◌else◌, inl, inr, refl, sym, ap, ◌∙◌, length-append, length-take, take-append-drop, arith}
use Rattle.std.proofs.lemmas.Bool.Decides.{nat_tests}
use Rattle.tokens.specs.ByteClasses.{is_letter, is_digit, in_word, in_literal, is_space, in_line, in_string, is_escape, all, span}
use Rattle.tokens.specs.Literals.{is_empty}
use Rattle.tokens.specs.Lexing.{is_sign1, is_sign2, is_sign3, is_string_rest, is_comment_rest, IsPiece, space, line, block, word, system, decimal, sized, quoted, sign1, sign2, sign3, IsNext}
use Rattle.tokens.specs.Lengths.{string_len, block_len, beyond, comment_len, number_len, system_len, sign_len1, sign_len2, sign_len, piece_len}
use Rattle.tokens.proofs.Steps.{if-is, and-true, or-true, true_or_false, same_byte}

-- ---- spans

-- bytes of a class are in its span, whatever follows
span-all : (p : ℕ → Bool) (q r : List ℕ) → all p q ≡ true → length q ≤ span p (q ++ r)
span-all p [] r h = omega arith
span-all p (b ∷ q) r h = let w = and-true (p b) (all p q) h in let x = span-all p q r w.1 in rw w.0 (omega arith)

all-span : (p : ℕ → Bool) (bs : List ℕ) → all p (take (span p bs) bs) ≡ true
all-span p [] = refl
all-span p (b ∷ bs) = elim (true_or_false (p b)) [ inl h ↦ (let x = all-span p bs in rw (h, h, x)) | inr h ↦ rw h ]

span-sized : (bs cs r : List ℕ) → all is_digit bs ≡ true → span is_digit ((bs ++ 39 ∷ cs) ++ r) ≡ length bs
span-sized [] cs r h = refl
span-sized (b ∷ bs) cs r h = let w = and-true (is_digit b) (all is_digit bs) h in let x = span-sized bs cs r w.1 in rw (w.0, x)

drop-sized : (bs cs r : List ℕ) → drop (length bs) ((bs ++ 39 ∷ cs) ++ r) ≡ 39 ∷ (cs ++ r)
drop-sized [] cs r = refl
drop-sized (b ∷ bs) cs r = drop-sized bs cs r

take-none : (k : ℕ) → take {A = ℕ} k [] ≡ []
take-none zero = refl
take-none (suc k) = refl

take-plus : (s k : ℕ) (bs : List ℕ) → take (s + k) bs ≡ take s bs ++ take k (drop s bs)
take-plus zero k bs = let e : 0 + k ≡ k = omega arith in ap (λ x. take x bs) e
take-plus (suc s) k [] = let e : suc s + k ≡ suc (s + k) = omega arith in ap (λ x. take {A = ℕ} x []) e ∙ sym (take-none k)
take-plus (suc s) k (b ∷ bs) = let e : suc s + k ≡ suc (s + k) = omega arith in ap (λ x. take x (b ∷ bs)) e ∙ ap (λ x. b ∷ x) (take-plus s k bs)

-- ---- strings and comments

beyond-some : (n m : ℕ) → 0 < m → beyond n m ≡ n + m
beyond-some n zero w = absurd (omega arith)
beyond-some n (suc m) w = let q : (suc m == 0) ≡ false = grind (arith, nat_tests) in rw q

comment-fits : (n : ℕ) (star : Bool) (bs r : List ℕ) → is_comment_rest star bs ≡ true → (block_len n star (bs ++ r) ≡ n + length bs) × (0 < length bs)
comment-fits n star [] r h = absurd (cc)
comment-fits n star (b ∷ []) r h = elim (true_or_false (star && b == 47)) [
  | inl q ↦ (rw q (omega arith), omega arith)
  | inr q ↦ absurd (let x : is_comment_rest (b == 42) [] ≡ true = rw q at h in cc)
]
comment-fits n star (b ∷ c ∷ bs) r h = elim (if-is (star && b == 47) _ _ true h) [
  | inl p ↦ absurd (let q = p.1 in cc)
  | inr p ↦ (let x = (comment-fits (suc n) (b == 42) (c ∷ bs) r p.1).0 in let q = p.0 in rw q (x ∙ omega arith), omega arith)
]

empty-end : (n : ℕ) (bs r : List ℕ) → is_string_rest false bs ≡ true → 0 < length bs
empty-end n [] r h = absurd (cc)
empty-end n (b ∷ bs) r h = omega arith

pub no_more : (bs : List ℕ) → is_empty bs ≡ true → bs ≡ []
no_more [] h = refl
no_more (b ∷ bs) h = absurd (cc)

string-fits : (n : ℕ) (after : Bool) (bs r : List ℕ) → is_string_rest after bs ≡ true → string_len n after (bs ++ r) ≡ n + length bs
string-fits n after [] r h = absurd (cc)
string-fits n true (b ∷ bs) r h = let w = and-true (is_escape b) _ h in let x = string-fits (suc n) false bs r w.1 in rw w.0 (x ∙ omega arith)
string-fits n false (b ∷ bs) r h = elim (if-is (b == 34) _ _ true h) [
  | inl p ↦ (let e = no_more bs p.1 in let q = p.0 in rw (q, e) (omega arith))
  | inr p ↦ (let w = and-true (in_string b || b == 92) _ p.1 in let x = string-fits (suc n) (b == 92) bs r w.1 in let q = p.0 in rw (w.0, q) (x ∙ omega arith))
]

abbrev Found : (List ℕ → Bool) → ℕ → ℕ → List ℕ → Type 0
Found test n m bs = (k : ℕ) × (m ≡ n + k) × (0 < k) × (test (take k bs) ≡ true)

comment-found : (n m : ℕ) (star : Bool) (bs : List ℕ) → block_len n star bs ≡ m → 0 < m → Found (is_comment_rest star) n m bs
comment-found n m star [] h w = absurd (omega arith)
comment-found n m star (b ∷ bs) h w = elim (if-is (star && b == 47) _ _ m h) [
  | inl p ↦ (let q = p.0 in let e = p.1 in (1, omega arith, omega arith, rw q))
  | inr p ↦ (let q = p.0 in let x = comment-found (suc n) m (b == 42) bs p.1 w in (suc x.0, omega (arith, x.1), omega arith, rw q x.3))
]

string-found : (n m : ℕ) (after : Bool) (bs : List ℕ) → string_len n after bs ≡ m → 0 < m → Found (is_string_rest after) n m bs
string-found n m after [] h w = absurd (omega arith)
string-found n m true (b ∷ bs) h w = elim (if-is (is_escape b) _ _ m h) [
  | inl p ↦ (let q = p.0 in let x = string-found (suc n) m false bs p.1 w in let y = x.3 in (suc x.0, omega (arith, x.1), omega arith, rw (q, y)))
  | inr p ↦ absurd (let e = p.1 in omega arith)
]
string-found n m false (b ∷ bs) h w = elim (if-is (b == 34) _ _ m h) [
  | inl p ↦ (let q = p.0 in let e = p.1 in (1, omega arith, omega arith, rw q))
  | inr p ↦ elim (if-is (in_string b || b == 92) _ _ m p.1) [
    | inl s ↦ (let q = p.0 in let t = s.0 in let x = string-found (suc n) m (b == 92) bs s.1 w in let y = x.3 in (suc x.0, omega (arith, x.1), omega arith, rw (t, q, y)))
    | inr s ↦ absurd (let e = s.1 in omega arith)
  ]
]

beyond-found : (n l m : ℕ) → beyond n l ≡ m → 0 < m → (0 < l) × (m ≡ n + l)
beyond-found n zero m h w = absurd (omega arith)
beyond-found n (suc l) m h w = (omega arith, sym h ∙ beyond-some n (suc l) (omega arith))

-- ---- no piece at the front is longer

digit_no_letter : (b : ℕ) → is_digit b ≡ true → is_letter b ≡ false
digit_no_letter b h = grind (arith, nat_tests)

space_no_letter : (b : ℕ) → is_space b ≡ true → (is_letter b ≡ false) × (is_digit b ≡ false)
space_no_letter b h = (grind (arith, nat_tests), grind (arith, nat_tests))

if-ge : (b : Bool) (n x y : ℕ) → n ≤ x → n ≤ y → n ≤ (if b then x else y)
if-ge true n x y h k = h
if-ge false n x y h k = k

number-ge : (n : ℕ) (rest : List ℕ) → n ≤ number_len n rest
number-ge n [] = omega arith
number-ge n (b ∷ bs) = if-ge (b == 39) n _ n (omega arith) (omega arith)

sign1-in1 : (a : ℕ) (r : List ℕ) → is_sign1 a ≡ true → 1 ≤ sign_len1 (a ∷ r)
sign1-in1 a r h = rw h (omega arith)

sign1-in2 : (a : ℕ) (r : List ℕ) → is_sign1 a ≡ true → 1 ≤ sign_len2 (a ∷ r)
sign1-in2 a [] h = sign1-in1 a [] h
sign1-in2 a (b ∷ r) h = if-ge (is_sign2 a b) 1 2 _ (omega arith) (sign1-in1 a (b ∷ r) h)

sign1-in : (a : ℕ) (r : List ℕ) → is_sign1 a ≡ true → 1 ≤ sign_len (a ∷ r)
sign1-in a [] h = sign1-in2 a [] h
sign1-in a (b ∷ []) h = sign1-in2 a (b ∷ []) h
sign1-in a (b ∷ c ∷ r) h = if-ge (is_sign3 a b c) 1 3 _ (omega arith) (sign1-in2 a (b ∷ c ∷ r) h)

sign2-in2 : (a b : ℕ) (r : List ℕ) → is_sign2 a b ≡ true → 2 ≤ sign_len2 (a ∷ b ∷ r)
sign2-in2 a b r h = rw h (omega arith)

sign2-in : (a b : ℕ) (r : List ℕ) → is_sign2 a b ≡ true → 2 ≤ sign_len (a ∷ b ∷ r)
sign2-in a b [] h = sign2-in2 a b [] h
sign2-in a b (c ∷ r) h = if-ge (is_sign3 a b c) 2 3 _ (omega arith) (sign2-in2 a b (c ∷ r) h)

sign3-in : (a b c : ℕ) (r : List ℕ) → is_sign3 a b c ≡ true → 3 ≤ sign_len (a ∷ b ∷ c ∷ r)
sign3-in a b c r h = rw h (omega arith)

-- the first byte of an operator or a mark begins no other piece
abbrev begins_sign : ℕ → Bool
begins_sign a = if is_letter a then false else (if is_digit a then false else (if is_space a then false else (if a == 34 then false else (if a == 47 then false else (if a == 36 then false else true)))))

by : (a n : ℕ) → begins_sign n ≡ true → (a == n) ≡ true → begins_sign a ≡ true
by a n h e = let q = same_byte a n e in rw q h

or-by : (a n : ℕ) (more : Bool) → begins_sign n ≡ true → (more ≡ true → begins_sign a ≡ true) → (more || (a == n)) ≡ true → begins_sign a ≡ true
or-by a n more h go e = elim (or-true more (a == n) e) [ inl q ↦ go q | inr q ↦ by a n h q ]

and-by : (a n : ℕ) (two more : Bool) → begins_sign n ≡ true → (more ≡ true → begins_sign a ≡ true) → (more || ((a == n) && two)) ≡ true → begins_sign a ≡ true
and-by a n two more h go e = elim (or-true more ((a == n) && two) e) [ inl q ↦ go q | inr q ↦ by a n h (and-true (a == n) two q).0 ]

sign1-begins : (a : ℕ) → is_sign1 a ≡ true → begins_sign a ≡ true
sign1-begins a = or-by a 59 _ refl (or-by a 44 _ refl (or-by a 125 _ refl (or-by a 123 _ refl (or-by a 93 _ refl (or-by a 91 _ refl (or-by a 41 _ refl (or-by a 40 _ refl (or-by a 64 _ refl (or-by a 35 _ refl (or-by a 61 _ refl (or-by a 58 _ refl (or-by a 63 _ refl (or-by a 62 _ refl (or-by a 60 _ refl (or-by a 45 _ refl (or-by a 43 _ refl (or-by a 94 _ refl (or-by a 124 _ refl (or-by a 38 _ refl (or-by a 126 _ refl (by a 33 refl)))))))))))))))))))))

sign2-begins : (a b : ℕ) → is_sign2 a b ≡ true → begins_sign a ≡ true
sign2-begins a b = and-by a 124 _ _ refl (and-by a 38 _ _ refl (and-by a 33 _ _ refl (and-by a 61 _ _ refl (and-by a 62 _ _ refl (and-by a 60 _ _ refl (and-by a 62 _ _ refl (λ q. by a 60 refl (and-true (a == 60) _ q).0)))))))

sign3-begins : (a b c : ℕ) → is_sign3 a b c ≡ true → begins_sign a ≡ true
sign3-begins a b c h = or-by a 33 _ refl (by a 61 refl) (and-true (a == 61 || a == 33) _ (and-true _ (c == 61) h).0).0

sign_piece : (n a : ℕ) (r : List ℕ) → begins_sign a ≡ true → n ≤ sign_len (a ∷ r) → n ≤ piece_len (a ∷ r)
unfolding piece_len
sign_piece n a r s h = elim (if-is (is_letter a) _ _ true s) [
  | inl p ↦ absurd (let q = p.1 in cc)
  | inr p1 ↦ elim (if-is (is_digit a) _ _ true p1.1) [
    | inl p ↦ absurd (let q = p.1 in cc)
    | inr p2 ↦ elim (if-is (is_space a) _ _ true p2.1) [
      | inl p ↦ absurd (let q = p.1 in cc)
      | inr p3 ↦ elim (if-is (a == 34) _ _ true p3.1) [
        | inl p ↦ absurd (let q = p.1 in cc)
        | inr p4 ↦ elim (if-is (a == 47) _ _ true p4.1) [
          | inl p ↦ absurd (let q = p.1 in cc)
          | inr p5 ↦ elim (if-is (a == 36) _ _ true p5.1) [
            | inl p ↦ absurd (let q = p.1 in cc)
            | inr p6 ↦ rw (p1.0, p2.0, p3.0, p4.0, p5.0, p6.0) h
          ]
        ]
      ]
    ]
  ]
]

pub fits : {q : List ℕ} → IsPiece q → (r : List ℕ) → length q ≤ piece_len (q ++ r)
unfolding piece_len
fits (space {b = b} h) r = let d = space_no_letter b h in rw (d.0, d.1, h) (omega arith)
fits (line {bs = bs} h) r = let x = span-all in_line bs r h in omega arith
fits (block {bs = bs} h) r = let x = comment-fits 0 false bs r h in let y = beyond-some 2 (block_len 0 false (bs ++ r)) (omega (arith, x.0)) in rw y (omega (arith, x.0))
fits (word {bs = bs} h w) r = let x = span-all in_word bs r w in rw h (omega arith)
fits (system {bs = bs} h w) r = let x = span-all in_word bs r w in rw h (omega arith)
fits (decimal {b = b} {bs = bs} h w) r =
    let d = digit_no_letter b h in
    let x = span-all is_digit bs r w in
    let y = number-ge (suc (span is_digit (bs ++ r))) (drop (span is_digit (bs ++ r)) (bs ++ r)) in
    rw (d, h) (omega arith)
fits (sized {b = b} bs cs h w v) r =
    let d = digit_no_letter b h in
    let s = span-sized bs cs r w in
    let e = drop-sized bs cs r in
    let x = span-all in_literal cs r v in
    rw (d, h, s, e) (omega (arith, length-append bs (39 ∷ cs)))
fits (quoted {bs = bs} h) r =
    let x = string-fits 0 false bs r h in
    let w = empty-end 0 bs r h in
    let y = beyond-some 1 (string_len 0 false (bs ++ r)) (omega (arith, x)) in
    rw y (omega (arith, x))
fits (sign1 {a = a} h) r = sign_piece 1 a r (sign1-begins a h) (sign1-in a r h)
fits (sign2 {a = a} {b = b} h) r = sign_piece 2 a (b ∷ r) (sign2-begins a b h) (sign2-in a b r h)
fits (sign3 {a = a} {b = b} {c = c} h) r = sign_piece 3 a (b ∷ c ∷ r) (sign3-begins a b c h) (sign3-in a b c r h)

pub long : {q : List ℕ} → IsPiece q → 0 < length q
long (space h) = omega arith
long (line h) = omega arith
long (block h) = omega arith
long (word h w) = omega arith
long (system h w) = omega arith
long (decimal h w) = omega arith
long (sized bs cs h w v) = omega arith
long (quoted h) = omega arith
long (sign1 h) = omega arith
long (sign2 h) = omega arith
long (sign3 h) = omega arith

-- ---- what is found is a piece

sign1-is : (a : ℕ) (r : List ℕ) (n : ℕ) → sign_len1 (a ∷ r) ≡ n → 0 < n → IsPiece (take n (a ∷ r))
sign1-is a r n e w = elim (if-is (is_sign1 a) 1 0 n e) [ inl p ↦ rw (sym p.1) (sign1 p.0) | inr p ↦ absurd (let q = p.1 in omega arith) ]

sign2-is : (text : List ℕ) (n : ℕ) → sign_len2 text ≡ n → 0 < n → IsPiece (take n text)
sign2-is [] n e w = absurd (omega arith)
sign2-is (a ∷ []) n e w = sign1-is a [] n e w
sign2-is (a ∷ b ∷ r) n e w = elim (if-is (is_sign2 a b) 2 _ n e) [ inl p ↦ rw (sym p.1) (sign2 p.0) | inr p ↦ sign1-is a (b ∷ r) n p.1 w ]

sign-is : (text : List ℕ) (n : ℕ) → sign_len text ≡ n → 0 < n → IsPiece (take n text)
sign-is [] n e w = absurd (omega arith)
sign-is (a ∷ []) n e w = sign2-is (a ∷ []) n e w
sign-is (a ∷ b ∷ []) n e w = sign2-is (a ∷ b ∷ []) n e w
sign-is (a ∷ b ∷ c ∷ r) n e w = elim (if-is (is_sign3 a b c) 3 _ n e) [ inl p ↦ rw (sym p.1) (sign3 p.0) | inr p ↦ sign2-is (a ∷ b ∷ c ∷ r) n p.1 w ]

block-is : (cs : List ℕ) (n : ℕ) → beyond 2 (block_len 0 false cs) ≡ n → 0 < n → IsPiece (take n (47 ∷ 42 ∷ cs))
block-is cs n e w =
    let q = beyond-found 2 (block_len 0 false cs) n e w in
    let x = comment-found 0 (block_len 0 false cs) false cs refl q.0 in
    let m : n ≡ suc (suc x.0) = omega (arith, x.1, q.1) in
    rw m (block x.3)

comment-is : (b : ℕ) (bs : List ℕ) (n : ℕ) → b ≡ 47 → comment_len bs ≡ n → 0 < n → IsPiece (take n (b ∷ bs))
comment-is b [] n q e w = absurd (omega arith)
comment-is b (c ∷ cs) n q e w = elim (if-is (c == 47) _ _ n e) [
  | inl p ↦ (let d = same_byte c 47 p.0 in rw (sym p.1, q, d) (line (all-span in_line cs)))
  | inr p ↦ elim (if-is (c == 42) _ 0 n p.1) [
    | inl s ↦ (let d = same_byte c 42 s.0 in rw (q, d) (block-is cs n s.1 w))
    | inr s ↦ absurd (let r = s.1 in omega arith)
  ]
]

string-is : (b : ℕ) (bs : List ℕ) (n : ℕ) → b ≡ 34 → beyond 1 (string_len 0 false bs) ≡ n → 0 < n → IsPiece (take n (b ∷ bs))
string-is b bs n is e w =
    let q = beyond-found 1 (string_len 0 false bs) n e w in
    let x = string-found 0 (string_len 0 false bs) false bs refl q.0 in
    let m : n ≡ suc x.0 = omega (arith, x.1, q.1) in
    rw (m, is) (quoted x.3)

system-is : (b : ℕ) (bs : List ℕ) (n : ℕ) → b ≡ 36 → system_len bs ≡ n → 0 < n → IsPiece (take n (b ∷ bs))
system-is b [] n q e w = absurd (omega arith)
system-is b (c ∷ cs) n q e w = elim (if-is (is_letter c) _ 0 n e) [
  | inl p ↦ rw (sym p.1, q) (system p.0 (all-span in_word cs))
  | inr p ↦ absurd (let r = p.1 in omega arith)
]

number-is : (b : ℕ) (bs rest : List ℕ) (n : ℕ) → is_digit b ≡ true → drop (span is_digit bs) bs ≡ rest → number_len (suc (span is_digit bs)) rest ≡ n → IsPiece (take n (b ∷ bs))
number-is b bs [] n d r e = rw (sym e) (decimal d (all-span is_digit bs))
number-is b bs (c ∷ cs) n d r e = elim (if-is (c == 39) _ _ n e) [
  | inl p ↦ (
      let q = same_byte c 39 p.0 in
      let m : n ≡ suc (span is_digit bs + suc (span in_literal cs)) = omega (arith, p.1) in
      let t : take (span is_digit bs + suc (span in_literal cs)) bs ≡ take (span is_digit bs) bs ++ 39 ∷ take (span in_literal cs) cs
      = take-plus (span is_digit bs) (suc (span in_literal cs)) bs ∙ ap (λ x. take (span is_digit bs) bs ++ take (suc (span in_literal cs)) x) (r ∙ ap (λ x. x ∷ cs) q) in
      rw (m, t) (sized (take (span is_digit bs) bs) (take (span in_literal cs) cs) d (all-span is_digit bs) (all-span in_literal cs)))
  | inr p ↦ rw (sym p.1) (decimal d (all-span is_digit bs))
]

pub is : (text : List ℕ) (n : ℕ) → piece_len text ≡ n → 0 < n → IsPiece (take n text)
unfolding piece_len
is [] n e w = absurd (omega arith)
is (b ∷ bs) n e w = elim (if-is (is_letter b) _ _ n e) [
  | inl p ↦ rw (sym p.1) (word p.0 (all-span in_word bs))
  | inr p ↦ elim (if-is (is_digit b) _ _ n p.1) [
    | inl p ↦ number-is b bs _ n p.0 refl p.1
    | inr p ↦ elim (if-is (is_space b) _ _ n p.1) [
      | inl p ↦ rw (sym p.1) (space p.0)
      | inr p ↦ elim (if-is (b == 34) _ _ n p.1) [
        | inl p ↦ string-is b bs n (same_byte b 34 p.0) p.1 w
        | inr p ↦ elim (if-is (b == 47) _ _ n p.1) [
          | inl p ↦ comment-is b bs n (same_byte b 47 p.0) p.1 w
          | inr p ↦ elim (if-is (b == 36) _ _ n p.1) [
            | inl p ↦ system-is b bs n (same_byte b 36 p.0) p.1 w
            | inr p ↦ sign-is (b ∷ bs) n p.1 w
          ]
        ]
      ]
    ]
  ]
]

-- ---- the next piece

pub next_is : (text : List ℕ) (n : ℕ) → piece_len text ≡ n → 0 < n → n ≤ length text → IsNext (take n text) (drop n text)
next_is text n e w within = record {
  is_piece = is text n e w;
  longest = λ q r same d.
      let whole : q ++ r ≡ text = same ∙ take-append-drop n text in
      let x : length q ≤ piece_len text = rw whole at (fits d r) in
      omega (arith, length-take n text);
}

pub no_next : (text : List ℕ) → piece_len text ≡ 0 → (q r : List ℕ) → q ++ r ≡ text → IsPiece q → ⊥
no_next text e q r same d =
    let x : length q ≤ piece_len text = rw same at (fits d r) in
    let y = long d in
    omega arith
