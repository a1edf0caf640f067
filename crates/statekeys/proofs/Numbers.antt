-- The code of a number.
use Rattle.std.proofs.Common.{◌≡◌, ℕ, zero, suc, ◌+◌, ◌-◌, ◌*◌, ◌/◌, ◌%◌, ◌<◌, ◌≤◌, List, [], ◌∷◌, ◌++◌, refl, sym, ◌∙◌, ap, arith, inl, inr, append_assoc}
use Rattle.std.specs.Prelude.{nat_lt, if◌then◌else◌}
use Rattle.std.proofs.lemmas.Bool.{cond-true, cond-false, lt-ltb, le-ltb, cases_lt}
use Rattle.statekeys.specs.KeyCodes.{IsSelfDelimiting, digits_code, nat_code}

pub digits-low : (more n : ℕ) → n < 128 → digits_code more n ≡ n ∷ []
digits-low zero n h = refl
digits-low (suc more) n h = cond-true _ _ _ (lt-ltb n 128 h)

pub digits-high : (more n : ℕ) → 128 ≤ n → digits_code (suc more) n ≡ (128 + n % 128) ∷ digits_code more (n / 128)
digits-high more n h = cond-false _ _ _ (le-ltb n 128 h)

-- digits that are enough are all
pub digits_enough : (f g n : ℕ) → n ≤ f → n ≤ g → digits_code f n ≡ digits_code g n
digits_enough zero g n hf hg = sym (digits-low g n (omega arith))
digits_enough f zero n hf hg = digits-low f n (omega arith)
digits_enough (suc f) (suc g) n hf hg =
    elim (cases_lt n 128) [
      | inl h ↦ digits-low (suc f) n h ∙ sym (digits-low (suc g) n h)
      | inr h ↦ digits-high f n h ∙ ap (λ ds. (128 + n % 128) ∷ ds) (digits_enough f g (n / 128) (omega arith) (omega arith)) ∙ sym (digits-high g n h)
    ]

pub nat_code-low : (n : ℕ) → n < 128 → nat_code n ≡ n ∷ []
unfolding nat_code
nat_code-low n h = digits-low n n h

pub nat_code-high : (n : ℕ) → 128 ≤ n → nat_code n ≡ (128 + n % 128) ∷ nat_code (n / 128)
unfolding nat_code
nat_code-high zero h = absurd (omega arith)
nat_code-high (suc n) h =
    digits-high n (suc n) h
    ∙ ap (λ ds. (128 + suc n % 128) ∷ ds) (digits_enough n (suc n / 128) (suc n / 128) (omega arith) (omega arith))

-- a byte of a number that goes on
pub nat_code_more : (bytes : List ℕ) (n : ℕ) → 128 ≤ n → (bytes ++ (128 + n % 128) ∷ []) ++ nat_code (n / 128) ≡ bytes ++ nat_code n
nat_code_more bytes n h = rw (nat_code-high n h) (append_assoc bytes _ _)

-- a number and what follows it, read from bytes
abbrev read_number : List ℕ → ℕ × List ℕ
read_number [] = (0, [])
read_number (b ∷ bs) = if nat_lt b 128 then (b, bs) else (b - 128 + 128 * (read_number bs).0, (read_number bs).1)

pub read-digits : (more n : ℕ) (r : List ℕ) → n ≤ more → read_number (digits_code more n ++ r) ≡ (n, r)
read-digits zero n r h = cond-true _ _ _ (lt-ltb n 128 (omega arith))
read-digits (suc more) n r h =
    elim (cases_lt n 128) [
      | inl low ↦ rw (digits-low (suc more) n low) (cond-true _ _ _ (lt-ltb n 128 low))
      | inr high ↦ rw (digits-high more n high)
          (cond-false _ _ _ (le-ltb (128 + n % 128) 128 (omega arith))
          ∙ ap (λ (x : ℕ × List ℕ). (128 + n % 128 - 128 + 128 * x.0, x.1)) (read-digits more (n / 128) r (omega arith))
          ∙ ap (λ (k : ℕ). (k, r)) (omega arith))
    ]

pub nat_code_tells : IsSelfDelimiting nat_code
unfolding nat_code
nat_code_tells x y r s e =
    let both : (x, r) ≡ (y, s) =
    sym (read-digits x x r (omega arith)) ∙ ap read_number e ∙ read-digits y y s (omega arith) in
    (ap (λ (p : ℕ × List ℕ). p.0) both, ap (λ (p : ℕ × List ℕ). p.1) both)
