-- What the first byte of a token rules out: the words and signs that begin with another.
use Rattle.std.proofs.Common.{◌≡◌, ◌≢◌, ℕ, ◌<◌, List, [], ◌∷◌, length, Bool, true, false, ◌&&◌, ◌==◌, None, inl, inr, refl, sym, ap, ◌∙◌, arith}
use Rattle.std.proofs.Math.ListN.{get_or}
use Rattle.std.specs.Str.{bytes_eq}
use Rattle.std.proofs.lemmas.Slice.Eq.{bytes_eq-Decides}
use Rattle.std.proofs.lemmas.Bool.Decides.{nat_tests}
use Rattle.tokens.specs.declared.token.Kind.TheVariants as k
use Rattle.tokens.specs.ByteClasses.{is_letter, is_digit}
use Rattle.tokens.specs.Lexing.{is_sign1, or_kind, KindTable, kind_in, words, system_names, signs, kind_by_first, sign_kind, kind_of}
use Rattle.tokens.proofs.Steps.{true_or_false, and-true}

-- two texts whose first bytes a test tells apart
apart : (p : ℕ → Bool) (t w : List ℕ) → p (get_or t 0 0) ≡ false → p (get_or w 0 0) ≡ true → bytes_eq t w ≡ false
apart p t w other same = elim (true_or_false (bytes_eq t w)) [
  | inl h ↦ absurd (let e = ap (λ s. p (get_or s 0 0)) ((bytes_eq-Decides t w).0 h) in cc)
  | inr h ↦ h
]

-- the first byte of each text of a table passes a test
abbrev first_pass : (ℕ → Bool) → KindTable → Bool
first_pass p [] = true
first_pass p (row ∷ rows) = p (get_or row.0 0 0) && first_pass p rows

-- a text whose first byte doesn't pass it stands in no such table
none_in : (p : ℕ → Bool) (rows : KindTable) (t : List ℕ) → p (get_or t 0 0) ≡ false → first_pass p rows ≡ true → kind_in rows t ≡ None
none_in p [] t h all = refl
none_in p (row ∷ rows) t h all =
    let a = and-true (p (get_or row.0 0 0)) (first_pass p rows) all in
    let q : bytes_eq t row.0 ≡ false = apart p t row.0 h a.0 in
    rw (q, none_in p rows t h a.1)

no_word_in : (t : List ℕ) → is_letter (get_or t 0 0) ≡ false → kind_in words t ≡ None
unfolding words
no_word_in t h = none_in is_letter words t h refl

no_system_name : (t : List ℕ) → (get_or t 0 0 == 36) ≡ false → kind_in system_names t ≡ None
unfolding system_names
no_system_name t h = none_in (λ b. b == 36) system_names t h refl

no_sign_in : (t : List ℕ) → is_sign1 (get_or t 0 0) ≡ false → kind_in signs t ≡ None
unfolding signs
no_sign_in t h = none_in is_sign1 signs t h refl

no_sign : (t : List ℕ) → is_sign1 (get_or t 0 0) ≡ false → sign_kind t ≡ kind_by_first t
no_sign t h = rw (no_sign_in t h)

letter_no_sign : (b : ℕ) → is_letter b ≡ true → is_sign1 b ≡ false
letter_no_sign b h = grind (arith, nat_tests)

letter_is_name : (b : ℕ) (bs : List ℕ) → is_letter b ≡ true → kind_by_first (b ∷ bs) ≡ k.Name
unfolding kind_by_first
letter_is_name b bs h =
    let d : is_digit b ≡ false = grind (arith, nat_tests) in
    let q : (b == 34) ≡ false = grind (arith, nat_tests) in
    let s : (b == 36) ≡ false = grind (arith, nat_tests) in
    rw (d, q, s)

-- a letter begins words and names
pub name_is : (t : List ℕ) → is_letter (get_or t 0 0) ≡ true → kind_in words t ≡ None → k.Name ≡ kind_of t
name_is [] h w = absurd (cc)
name_is (b ∷ bs) h w =
    let d : (b == 36) ≡ false = grind (arith, nat_tests) in
    rw (w, no_system_name (b ∷ bs) d) (sym (no_sign (b ∷ bs) (letter_no_sign b h) ∙ letter_is_name b bs h))

ne_test : (b n : ℕ) → b ≢ n → (b == n) ≡ false
ne_test b n h = grind (arith, nat_tests)

-- what begins with no letter and no $ is no word
pub no_word : (t : List ℕ) → is_letter (get_or t 0 0) ≡ false → get_or t 0 0 ≢ 36 → kind_of t ≡ sign_kind t
no_word t h s = rw (no_word_in t h, no_system_name t (ne_test (get_or t 0 0) 36 s))

digit_no_sign : (b : ℕ) → is_digit b ≡ true → is_sign1 b ≡ false
digit_no_sign b h = grind (arith, nat_tests)

-- numbers and strings are told by their first byte
pub digit_is : (t : List ℕ) → is_letter (get_or t 0 0) ≡ false → get_or t 0 0 ≢ 36 → is_digit (get_or t 0 0) ≡ true → kind_of t ≡ kind_by_first t
digit_is t h s d = no_word t h s ∙ no_sign t (digit_no_sign (get_or t 0 0) d)

pub quote_is : (t : List ℕ) → get_or t 0 0 ≡ 34 → kind_of t ≡ kind_by_first t
quote_is t q = no_word t (ap is_letter q) (omega arith) ∙ no_sign t (ap is_sign1 q)

pub empty_is : (t : List ℕ) → length t < 1 → k.End ≡ kind_of t
unfolding kind_by_first
empty_is [] h = sym (no_word [] refl (omega arith) ∙ no_sign [] refl)
empty_is (b ∷ bs) h = absurd (omega arith)

dollar : (b : ℕ) (bs : List ℕ) → b ≡ 36 → kind_by_first (b ∷ bs) ≡ k.System
unfolding kind_by_first
dollar b bs h = rw h

-- a $ begins system names
pub system_is : (t : List ℕ) → get_or t 0 0 ≡ 36 → kind_of t ≡ or_kind (kind_in system_names t) k.System
system_is [] h = absurd (omega arith)
system_is (b ∷ bs) h =
    let e : sign_kind (b ∷ bs) ≡ k.System = no_sign (b ∷ bs) (ap is_sign1 h) ∙ dollar b bs h in
    rw (no_word_in (b ∷ bs) (ap is_letter h), e)
