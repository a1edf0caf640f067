-- Printed lines in their places, and a text whose lines are put in order one after another.
use Rattle.std.proofs.Common.{◌≡◌, ◌∙◌, ap, refl, sym, subst, ℕ, zero, suc, ◌+◌, Bool, true, false, List, [], ◌∷◌, ◌++◌, append_assoc, length, take, drop, Result, Ok, Err, OnOk}
use Rattle.std.specs.Prelude.{flat_map, if◌then◌else◌}
use Rattle.wavetexts.specs.AtTimes.{arranged, at_times, comes_before, is_printed, left_after, lines_of, placed_line, printed_among, lines_with}
use Rattle.wavetexts.specs.Arrangings.{IsArrangedOn}
use Rattle.wavetexts.specs.declared.arranging.Arranging.{Arranging}
use Rattle.wavetexts.proofs.TextLines.{joined_lines}

-- a line is put behind the first of others where that comes before it, and else before them
pub placed_behind : (line text first more : List ℕ) → lines_of text ≡ first ∷ lines_of more → comes_before first line ≡ true → placed_line line text ≡ first ++ placed_line line more
placed_behind line text first more lines before =
    ap (λ (ls : List (List ℕ)). flat_map (λ (l : List ℕ). l) (lines_with line ls)) lines ∙ behind (lines_of more) before
  where
    behind : (others : List (List ℕ)) → comes_before first line ≡ true
        → flat_map (λ (l : List ℕ). l) (lines_with line (first ∷ others)) ≡ first ++ flat_map (λ (l : List ℕ). l) (lines_with line others)
    behind others is = rw is refl

pub placed_here : (line text first more : List ℕ) → lines_of text ≡ first ∷ lines_of more → comes_before first line ≡ false → placed_line line text ≡ line ++ text
placed_here line text first more lines after =
    ap (λ (ls : List (List ℕ)). flat_map (λ (l : List ℕ). l) (lines_with line ls)) lines
    ∙ (here (lines_of more) after ∙ ap (λ (t : List ℕ). line ++ t) (sym (ap (flat_map (λ (l : List ℕ). l)) lines) ∙ joined_lines text))
  where
    here : (others : List (List ℕ)) → comes_before first line ≡ false
        → flat_map (λ (l : List ℕ). l) (lines_with line (first ∷ others)) ≡ line ++ flat_map (λ (l : List ℕ). l) (first ∷ others)
    here others is = rw is refl

pub placed_last : (line text : List ℕ) → lines_of text ≡ [] → placed_line line text ≡ line ++ text
placed_last line text none =
    ap (λ (ls : List (List ℕ)). flat_map (λ (l : List ℕ). l) (lines_with line ls)) none
    ∙ ap (λ (t : List ℕ). line ++ t) (sym (ap (flat_map (λ (l : List ℕ). l)) none) ∙ joined_lines text)

-- a printed line is held
pub held_on : (registers : ℕ) (line : List ℕ) (old new : Arranging) → is_printed old.left line ≡ true → new.held.items ≡ placed_line line old.held.items → new.done.items ≡ old.done.items → new.left ≡ left_after registers line old.left
    → IsArrangedOn registers line old new
held_on registers line old new printed held done left lines = rw (printed, held, done, left) refl

-- another one is done, behind those that were held
pub passed_on : (registers : ℕ) (line : List ℕ) (old new : Arranging) → is_printed old.left line ≡ false → new.held.items ≡ [] → new.done.items ≡ (old.done.items ++ old.held.items) ++ line → new.left ≡ left_after registers line old.left
    → IsArrangedOn registers line old new
passed_on registers line old new other held done left lines =
    let rest = arranged registers (left_after registers line old.left) [] lines in
    let there : new.done.items ++ arranged registers new.left new.held.items lines ≡ ((old.done.items ++ old.held.items) ++ line) ++ rest = rw (held, done, left) refl in
    let here : old.done.items ++ arranged registers old.left old.held.items (line ∷ lines) ≡ old.done.items ++ ((old.held.items ++ line) ++ rest) = rw other refl in
    there ∙ (ap (λ (t : List ℕ). t ++ rest) (append_assoc old.done.items old.held.items line) ∙ (append_assoc old.done.items (old.held.items ++ line) rest ∙ sym here))
