-- What is seen of registers can be read back: its lines have no newline inside, and each tells its value.
use Rattle.std.proofs.Common.{◌≡◌, ◌≢◌, ℕ, ◌≤◌, ◌<◌, ◌^◌, ◌==◌, if◌then◌else◌, List, [], ◌∷◌, ◌++◌, append_assoc, flat_map, decimal, refl, sym, ap, ◌∙◌, subst, arith}
use Rattle.std.specs.Char.{digit_value}
use Rattle.std.specs.Str.Parse.{AllDigits}
use Rattle.std.specs.List.{All}
use Rattle.std.proofs.lemmas.Fmt.{decimal_is_IsNumeral, decimal_injective}
use Rattle.std.proofs.lemmas.List.Elements.{All-nil, All-cons}
use Rattle.logic4.specs.declared.digit.Digit.{Digit}
use Rattle.logic4.specs.declared.digit.Digit.TheVariants.{Zero, One, X, Z}
use Rattle.logic4.specs.Vector.{Vector}
use Rattle.logic4.specs.Display.{digit_text, binary_text}
use Rattle.model.specs.Expressions.{Store, value_of}
use Rattle.model.specs.States.{State}
use Rattle.model.specs.Runs.{last_time}
use Rattle.looseruns.specs.RegisterObserver.{seen_register_line, seen_registers}
use Rattle.looseruns.specs.RegisterSights.{HaveSameRegisters, SightsTellRegisters}

-- a byte is none of these
abbrev pub Without : ℕ → List ℕ → Type 0
Without byte [] = Unit {0}
Without byte (x ∷ xs) = (x ≢ byte) × Without byte xs

pub without-append : (byte : ℕ) (xs ys : List ℕ) → Without byte xs → Without byte ys → Without byte (xs ++ ys)
without-append byte [] ys h k = k
without-append byte (x ∷ xs) ys h k = (h.0, without-append byte xs ys h.1 k)

-- two texts are one up to the first such byte, and behind it
pub split_at : (byte : ℕ) (xs ys us vs : List ℕ) → Without byte xs → Without byte ys → xs ++ byte ∷ us ≡ ys ++ byte ∷ vs → (xs ≡ ys) × (us ≡ vs)
split_at byte [] [] us vs h k same =
    let rest : us ≡ vs = cc in
    (refl, rest)
split_at byte [] (y ∷ ys) us vs h k same =
    let first : y ≡ byte = cc in
    absurd (k.0 first)
split_at byte (x ∷ xs) [] us vs h k same =
    let first : x ≡ byte = cc in
    absurd (h.0 first)
split_at byte (x ∷ xs) (y ∷ ys) us vs h k same =
    let first : x ≡ y = cc in
    let rest : xs ++ byte ∷ us ≡ ys ++ byte ∷ vs = cc in
    let (front, behind) = split_at byte xs ys us vs h.1 k.1 rest in
    (ap (λ z. z ∷ xs) first ∙ ap (λ l. y ∷ l) front, behind)

-- the digits of a number

not_newline : (c : ℕ) → digit_value c < 10 → c ≢ 10
not_newline c digit same =
    let bad : digit_value 10 < 10 = subst (λ n. digit_value n < 10) same digit in
    omega (arith, bad)

digits_without : (ds : List ℕ) → AllDigits 10 ds → Without 10 ds
digits_without [] h = tt
digits_without (c ∷ ds) h = (not_newline c h.0, digits_without ds h.1)

decimal_without : (n : ℕ) → n < 2 ^ 64 → Without 10 (decimal n)
decimal_without n small = digits_without (decimal n) (decimal_is_IsNumeral n small).0.1

-- the digits of a vector

abbrev digit_code : Digit → ℕ
digit_code Zero = 48
digit_code One = 49
digit_code X = 120
digit_code Z = 122

abbrev of_code : ℕ → Digit
of_code n = if n == 48 then Zero else if n == 49 then One else if n == 120 then X else Z

digit_text_is : (d : Digit) → digit_text d ≡ digit_code d ∷ []
digit_text_is Zero = refl
digit_text_is One = refl
digit_text_is X = refl
digit_text_is Z = refl

code_back : (d : Digit) → of_code (digit_code d) ≡ d
code_back Zero = refl
code_back One = refl
code_back X = refl
code_back Z = refl

code_without : (d : Digit) → digit_code d ≢ 10
code_without Zero = λ e. omega (arith, e)
code_without One = λ e. omega (arith, e)
code_without X = λ e. omega (arith, e)
code_without Z = λ e. omega (arith, e)

binary_more : (d : Digit) (v : Vector) → binary_text (d ∷ v) ≡ binary_text v ++ digit_code d ∷ []
binary_more d v = ap (λ l. binary_text v ++ l) (digit_text_is d)

binary_without : (v : Vector) → Without 10 (binary_text v)
binary_without [] = tt
binary_without (d ∷ v) =
    subst (Without 10) (sym (binary_more d v)) (without-append 10 (binary_text v) (digit_code d ∷ []) (binary_without v) (code_without d, tt))

never_empty : {P : Type 0} (xs : List ℕ) (x : ℕ) → [] ≡ xs ++ x ∷ [] → P
never_empty [] x same = cc
never_empty (y ∷ xs) x same = cc

last_same : (xs ys : List ℕ) (x y : ℕ) → xs ++ x ∷ [] ≡ ys ++ y ∷ [] → (xs ≡ ys) × (x ≡ y)
last_same [] [] x y same =
    let here : x ≡ y = cc in
    (refl, here)
last_same [] (z ∷ ys) x y same =
    let rest : [] ≡ ys ++ y ∷ [] = cc in
    never_empty ys y rest
last_same (z ∷ xs) [] x y same =
    let rest : [] ≡ xs ++ x ∷ [] = cc in
    never_empty xs x rest
last_same (z ∷ xs) (w ∷ ys) x y same =
    let first : z ≡ w = cc in
    let rest : xs ++ x ∷ [] ≡ ys ++ y ∷ [] = cc in
    let (front, last) = last_same xs ys x y rest in
    (ap (λ c. c ∷ xs) first ∙ ap (λ l. w ∷ l) front, last)

binary_same : (v w : Vector) → binary_text v ≡ binary_text w → v ≡ w
binary_same [] [] same = refl
binary_same [] (e ∷ w) same = never_empty (binary_text w) (digit_code e) (same ∙ binary_more e w)
binary_same (d ∷ v) [] same = never_empty (binary_text v) (digit_code d) (sym same ∙ binary_more d v)
binary_same (d ∷ v) (e ∷ w) same =
    let (front, last) = last_same (binary_text v) (binary_text w) (digit_code d) (digit_code e) (sym (binary_more d v) ∙ (same ∙ binary_more e w)) in
    let one : d ≡ e = sym (code_back d) ∙ (ap of_code last ∙ code_back e) in
    ap (λ x. x ∷ v) one ∙ ap (λ l. e ∷ l) (binary_same v w front)

-- the lines of registers, whatever stands behind them

behind_line : (text more us : List ℕ) → ((text ++ 10 ∷ []) ++ more) ++ us ≡ text ++ 10 ∷ (more ++ us)
behind_line text more us = ap (λ l. l ++ us) (append_assoc text (10 ∷ []) more) ∙ append_assoc text (10 ∷ more) us

lines_same : (registers : List ℕ) (s t : Store) (us vs : List ℕ) → flat_map (seen_register_line s) registers ++ us ≡ flat_map (seen_register_line t) registers ++ vs → All (λ r. value_of s r ≡ value_of t r) registers × (us ≡ vs)
lines_same [] s t us vs same = (All-nil (λ r. value_of s r ≡ value_of t r), same)
lines_same (r ∷ registers) s t us vs same =
    let of_s = flat_map (seen_register_line s) registers in
    let of_t = flat_map (seen_register_line t) registers in
    let apart = sym (behind_line (binary_text (value_of s r)) of_s us) ∙ (same ∙ behind_line (binary_text (value_of t r)) of_t vs) in
    let (here, later) = split_at 10 (binary_text (value_of s r)) (binary_text (value_of t r)) (of_s ++ us) (of_t ++ vs) (binary_without (value_of s r)) (binary_without (value_of t r)) apart in
    let (others, rest) = lines_same registers s t us vs later in
    (All-cons (λ r. value_of s r ≡ value_of t r) r registers (binary_same (value_of s r) (value_of t r) here) others, rest)

-- what is seen of two states in two texts is the same, and so is what stands behind it
pub sights_same : (registers : List ℕ) (s t : State) (us vs : List ℕ) → s.time ≤ last_time → t.time ≤ last_time → seen_registers registers s ++ us ≡ seen_registers registers t ++ vs → HaveSameRegisters registers s t × (us ≡ vs)
sights_same registers s t us vs low low' same =
    let small : s.time < 2 ^ 64 = omega (arith, low) in
    let small' : t.time < 2 ^ 64 = omega (arith, low') in
    let of_s = flat_map (seen_register_line s.store) registers in
    let of_t = flat_map (seen_register_line t.store) registers in
    let inside : (decimal s.time ++ 10 ∷ of_s) ++ us ≡ (decimal t.time ++ 10 ∷ of_t) ++ vs = cc in
    let apart = sym (append_assoc (decimal s.time) (10 ∷ of_s) us) ∙ (inside ∙ append_assoc (decimal t.time) (10 ∷ of_t) vs) in
    let (time, later) = split_at 10 (decimal s.time) (decimal t.time) (of_s ++ us) (of_t ++ vs) (decimal_without s.time small) (decimal_without t.time small') apart in
    let (registers_same, rest) = lines_same registers s.store t.store us vs later in
    ((decimal_injective s.time t.time small small' time, registers_same), rest)

pub sights_tell_registers : SightsTellRegisters
sights_tell_registers registers s t low low' same =
    (sights_same registers s t [] [] low low' (ap (λ l. l ++ []) same)).0
