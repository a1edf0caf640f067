-- The lines of a text, one after another.
use Rattle.std.proofs.Common.{◌≡◌, ℕ, zero, suc, ◌+◌, ◌≤◌, min, Bool, true, false, true≢false, List, [], ◌∷◌, ◌++◌, length, Some, None, refl, sym, ◌∙◌, ap, subst, arith, length-append, ltb, cond}
use Rattle.std.specs.Prelude.{◌==◌}
use Rattle.std.specs.List.{position_or_len}
use Rattle.std.proofs.lemmas.Bool.{ltb-true, ltb-false}
use Rattle.verdict.specs.VerdictLines.{line_length, first_line, behind_line, AreFirstLines, AgreeBefore}

-- one line more
more_lines : (lines : List (List ℕ)) (text left : List ℕ) → AreFirstLines lines text left → AreFirstLines (lines ++ first_line left ∷ []) text (behind_line left)
more_lines [] text left h = (sym (ap first_line h), ap behind_line h)
more_lines (line ∷ lines) text left h = (h.0, more_lines lines (behind_line text) left h.1)

pub agree_more : (n : ℕ) (one other left right : List ℕ) → AgreeBefore n one other left right → first_line left ≡ first_line right
    → AgreeBefore (n + 1) one other (behind_line left) (behind_line right)
agree_more n one other left right h same =
    let longer : length (h.lines ++ first_line left ∷ []) ≡ length h.lines + 1 = length-append h.lines (first_line left ∷ []) in
    record {
      lines = h.lines ++ first_line left ∷ [];
      of_one = more_lines h.lines one left h.of_one;
      of_other =
          subst (λ (x : List ℕ). AreFirstLines (h.lines ++ x ∷ []) other (behind_line right)) (sym same) (more_lines h.lines other right h.of_other);
      count = omega (arith, h.count, longer);
    }

-- of two texts of which one hasn't ended, with first lines of the same length, neither has
some_left : (p q m n : ℕ) → (m ≡ 0 → n ≡ 0 → ⊥) → min (p + 1) m ≡ min (q + 1) n → 1 ≤ min (p + 1) m
some_left p q zero zero left same = absurd (left refl refl)
some_left p q zero (suc n) left same = absurd (omega (arith, same))
some_left p q (suc m) n left same = omega arith

pub line_left : (one other : List ℕ) → (length one ≡ 0 → length other ≡ 0 → ⊥) → line_length one ≡ line_length other → 1 ≤ line_length one
line_left one other left same =
    some_left (position_or_len (λ b. b == 10) one) (position_or_len (λ b. b == 10) other) (length one) (length other) left same

found_by : (b : Bool) (p n at : ℕ) → ltb p n ≡ b → cond b (Some p) None ≡ Some at → at + 1 ≡ min (p + 1) n
found_by true p n at is found =
    let same : p ≡ at = cc in
    omega (arith, same, ltb-true p n is)
found_by false p n at is found = cc

-- where the first newline stands
pub found_line : (p n at : ℕ) → Some at ≡ cond (ltb p n) (Some p) None → at + 1 ≡ min (p + 1) n
found_line p n at found = found_by (ltb p n) p n at refl (sym found)

none_by : (b : Bool) (p n : ℕ) → ltb p n ≡ b → cond b (Some p) None ≡ None → n ≡ min (p + 1) n
none_by true p n is none = cc
none_by false p n is none = omega (arith, ltb-false p n is)

pub last_line : (p n : ℕ) → None ≡ cond (ltb p n) (Some p) None → n ≡ min (p + 1) n
last_line p n none = none_by (ltb p n) p n refl (sym none)

-- a text that isn't over
pub not_over : (b : Bool) (n : ℕ) → b ≡ false → b ≡ (n == 0) → n ≡ 0 → ⊥
not_over b n is test none = true≢false (sym (ap (λ (m : ℕ). m == 0) none) ∙ (sym test ∙ is))
