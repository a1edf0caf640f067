-- The identifier codes: how one begins, and that no two registers have the same.
use Rattle.std.proofs.Common.{◌≡◌, ℕ, zero, suc, ◌+◌, ◌-◌, ◌/◌, ◌%◌, ◌≤◌, ◌<◌, Bool, true, false, List, [], ◌∷◌, refl, sym, ◌∙◌, ap, arith, if◌then◌else◌, nat_lt}
use Rattle.std.proofs.lemmas.Bool.Decides.{leb_tells}
use Rattle.waves.specs.IdentifierCodes.{code_within, code, CodesDiffer}

-- what comes behind the first character
abbrev behind : ℕ → ℕ → List ℕ
behind most n = if nat_lt n 94 then [] else code_within most (n / 94 - 1)

within_is : (most n : ℕ) → code_within (suc most) n ≡ (33 + n % 94) ∷ behind most n
unfolding code_within
within_is most n = refl

behind_same : (m k n : ℕ) (b : Bool) → nat_lt n 94 ≡ b → (94 ≤ n → code_within m (n / 94 - 1) ≡ code_within k (n / 94 - 1)) → behind m n ≡ behind k n
behind_same m k n true is h = rw is refl
behind_same m k n false is h =
    let large : 94 ≤ n = grind (arith, leb_tells (suc n) 94) in
    rw is (h large)

-- the bound on the length doesn't matter once it is large enough
enough : (m k n : ℕ) → n < m → n < k → code_within m n ≡ code_within k n
enough zero k n h g = absurd (omega arith)
enough (suc m) zero n h g = absurd (omega arith)
enough (suc m) (suc k) n h g =
    let same : behind m n ≡ behind k n = behind_same m k n (nat_lt n 94) refl (λ large. enough m k (n / 94 - 1) (omega arith) (omega arith)) in
    within_is m n ∙ (ap (λ (cs : List ℕ). (33 + n % 94) ∷ cs) same ∙ sym (within_is k n))

pub code_short : (n : ℕ) → n < 94 → code n ≡ (33 + n) ∷ []
code_short n small =
    let is : nat_lt n 94 ≡ true = grind (arith, leb_tells (suc n) 94) in
    let digit : n % 94 ≡ n = omega arith in
    within_is n n ∙ rw (is, digit) refl

pub code_long : (n : ℕ) → 94 ≤ n → code n ≡ (33 + n % 94) ∷ code (n / 94 - 1)
code_long n large =
    let is : nat_lt n 94 ≡ false = grind (arith, leb_tells (suc n) 94) in
    within_is n n ∙ rw is (ap (λ (cs : List ℕ). (33 + n % 94) ∷ cs) (enough n (suc (n / 94 - 1)) (n / 94 - 1) (omega arith) (omega arith)))

-- no two registers have one code

differ_by : (m n : ℕ) (b c : Bool) → nat_lt m 94 ≡ b → nat_lt n 94 ≡ c → (94 ≤ m → code (m / 94 - 1) ≡ code (n / 94 - 1) → m / 94 - 1 ≡ n / 94 - 1) → code m ≡ code n → m ≡ n
differ_by m n true true is is' others h =
    let small : m < 94 = grind (arith, leb_tells (suc m) 94) in
    let small' : n < 94 = grind (arith, leb_tells (suc n) 94) in
    let same : (33 + m) ∷ [] ≡ (33 + n) ∷ [] = sym (code_short m small) ∙ (h ∙ code_short n small') in
    let first : 33 + m ≡ 33 + n = cc in
    omega (arith, first)
differ_by m n true false is is' others h =
    let small : m < 94 = grind (arith, leb_tells (suc m) 94) in
    let large : 94 ≤ n = grind (arith, leb_tells (suc n) 94) in
    let q : ℕ = n / 94 - 1 in
    let same : (33 + m) ∷ [] ≡ (33 + n % 94) ∷ code q = sym (code_short m small) ∙ (h ∙ code_long n large) in
    let begins : code q ≡ (33 + q % 94) ∷ behind q q = within_is q q in
    absurd (cc)
differ_by m n false true is is' others h =
    let large : 94 ≤ m = grind (arith, leb_tells (suc m) 94) in
    let small : n < 94 = grind (arith, leb_tells (suc n) 94) in
    let q : ℕ = m / 94 - 1 in
    let same : (33 + m % 94) ∷ code q ≡ (33 + n) ∷ [] = sym (code_long m large) ∙ (h ∙ code_short n small) in
    let begins : code q ≡ (33 + q % 94) ∷ behind q q = within_is q q in
    absurd (cc)
differ_by m n false false is is' others h =
    let large : 94 ≤ m = grind (arith, leb_tells (suc m) 94) in
    let large' : 94 ≤ n = grind (arith, leb_tells (suc n) 94) in
    let same : (33 + m % 94) ∷ code (m / 94 - 1) ≡ (33 + n % 94) ∷ code (n / 94 - 1) = sym (code_long m large) ∙ (h ∙ code_long n large') in
    let first : 33 + m % 94 ≡ 33 + n % 94 = cc in
    let rest : code (m / 94 - 1) ≡ code (n / 94 - 1) = cc in
    let quotient : m / 94 - 1 ≡ n / 94 - 1 = others large rest in
    omega (arith, first, quotient)

differ_below : (k m n : ℕ) → m < k → code m ≡ code n → m ≡ n
differ_below zero m n below h = absurd (omega arith)
differ_below (suc k) m n below h =
    differ_by m n (nat_lt m 94) (nat_lt n 94) refl refl (λ large rest. differ_below k (m / 94 - 1) (n / 94 - 1) (omega arith) rest) h

pub codes_differ : CodesDiffer
codes_differ m n h = differ_below (suc m) m n (omega arith) h
