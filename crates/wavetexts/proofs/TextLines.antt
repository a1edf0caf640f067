-- The first line of a text, and those behind it.
use Rattle.std.proofs.Common.{◌≡◌, ◌∙◌, ap, refl, sym, subst, ℕ, zero, suc, ◌+◌, ◌≤◌, ◌<◌, min, Bool, true, false, List, [], ◌∷◌, ◌++◌, length, take, drop, arith, cond}
use Rattle.std.specs.Prelude.{◌==◌, flat_map}
use Rattle.std.specs.List.{position_or_len}
use Rattle.std.proofs.lemmas.Bool.Decides.{nat_tests}
use Rattle.verdict.specs.VerdictLines.{line_length, first_line, behind_line}
use Rattle.wavetexts.specs.AtTimes.{with_byte, lines_of}

-- a first line that is its newline alone, and one that goes on
newline_first : (b : ℕ) (bytes : List ℕ) → (b == 10) ≡ true → line_length (b ∷ bytes) ≡ 1
newline_first b bytes is =
    let at : position_or_len (λ d. d == 10) (b ∷ bytes) ≡ 0 = rw is refl in
    rw at (omega arith)

byte_first : (b : ℕ) (bytes : List ℕ) → (b == 10) ≡ false → line_length (b ∷ bytes) ≡ suc (line_length bytes)
byte_first b bytes is =
    let at : position_or_len (λ d. d == 10) (b ∷ bytes) ≡ 1 + position_or_len (λ d. d == 10) bytes = rw is refl in
    rw at (omega arith)

-- the lines of a text with a byte before it
pub with_newline : (b : ℕ) (lines : List (List ℕ)) → (b == 10) ≡ true → with_byte b lines ≡ (b ∷ []) ∷ lines
with_newline b [] is = refl
with_newline b (line ∷ lines) is = rw is refl

pub with_other : (b : ℕ) (line : List ℕ) (lines : List (List ℕ)) → (b == 10) ≡ false → with_byte b (line ∷ lines) ≡ (b ∷ line) ∷ lines
with_other b line lines is = rw is refl

line_alone : (b : ℕ) → (b == 10) ≡ false → lines_of (b ∷ []) ≡ first_line (b ∷ []) ∷ lines_of (behind_line (b ∷ []))
line_alone b is = rw (byte_first b [] is) refl

no_line : (c : ℕ) (rest : List ℕ) → c ∷ rest ≡ [] → ⊥
no_line c rest e = cc

-- so it is with a byte before a text
lines_step : (b : ℕ) (bytes : List ℕ) → ((bytes ≡ [] → ⊥) → lines_of bytes ≡ first_line bytes ∷ lines_of (behind_line bytes)) → lines_of (b ∷ bytes) ≡ first_line (b ∷ bytes) ∷ lines_of (behind_line (b ∷ bytes))
lines_step b bytes before = by_byte (b == 10) refl
  where
    longer : (rest : List ℕ) → bytes ≡ rest → (b == 10) ≡ false → lines_of (b ∷ bytes) ≡ first_line (b ∷ bytes) ∷ lines_of (behind_line (b ∷ bytes))
    longer [] same is = rw same (line_alone b is)
    longer (c ∷ rest) same is =
        let more : lines_of bytes ≡ first_line bytes ∷ lines_of (behind_line bytes) = before (λ none. no_line c rest (sym same ∙ none)) in
        ap (with_byte b) more
        ∙ (with_other b (first_line bytes) (lines_of (behind_line bytes)) is ∙ sym (ap (λ (n : ℕ). take n (b ∷ bytes) ∷ lines_of (drop n (b ∷ bytes))) (byte_first b bytes is)))

    by_byte : (nl : Bool) → (b == 10) ≡ nl → lines_of (b ∷ bytes) ≡ first_line (b ∷ bytes) ∷ lines_of (behind_line (b ∷ bytes))
    by_byte true is = with_newline b (lines_of bytes) is ∙ sym (ap (λ (n : ℕ). take n (b ∷ bytes) ∷ lines_of (drop n (b ∷ bytes))) (newline_first b bytes is))
    by_byte false is = longer bytes refl is

-- the lines of a text are its first one, and those behind it
pub lines_more : (text : List ℕ) → (text ≡ [] → ⊥) → lines_of text ≡ first_line text ∷ lines_of (behind_line text)
lines_more [] some = absurd (some refl)
lines_more (b ∷ bytes) some = lines_step b bytes (λ left. lines_more bytes left)

-- a text is its lines
pub joined_lines : (text : List ℕ) → flat_map (λ (l : List ℕ). l) (lines_of text) ≡ text
joined_lines [] = refl
joined_lines (b ∷ bytes) = with_joined (lines_of bytes) ∙ ap (λ (t : List ℕ). b ∷ t) (joined_lines bytes)
  where
    joined_by : (nl : Bool) (line : List ℕ) (lines : List (List ℕ)) → (b == 10) ≡ nl → flat_map (λ (l : List ℕ). l) (with_byte b (line ∷ lines)) ≡ b ∷ flat_map (λ (l : List ℕ). l) (line ∷ lines)
    joined_by true line lines is = rw is refl
    joined_by false line lines is = rw is refl

    with_joined : (lines : List (List ℕ)) → flat_map (λ (l : List ℕ). l) (with_byte b lines) ≡ b ∷ flat_map (λ (l : List ℕ). l) lines
    with_joined [] = refl
    with_joined (line ∷ lines) = joined_by (b == 10) line lines refl

-- a text that isn't over has bytes left in its first line
pub some_line : (text : List ℕ) → (text ≡ [] → ⊥) → 1 ≤ line_length text
some_line [] some = absurd (some refl)
some_line (b ∷ bytes) some = omega arith

no_length : (n : ℕ) → (suc n == 0) ≡ true → ⊥
no_length n e = grind (arith, nat_tests)

-- a text is empty or isn't
pub some_left : (text : List ℕ) → (length text == 0) ≡ false → text ≡ [] → ⊥
some_left [] is none = cc
some_left (b ∷ bytes) is none = cc

pub none_left : (text : List ℕ) → (length text == 0) ≡ true → text ≡ []
none_left [] is = refl
none_left (b ∷ bytes) is = absurd (no_length (length bytes) is)
