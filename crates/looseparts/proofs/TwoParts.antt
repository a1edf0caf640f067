-- What stands for all that two sets of actors do that are apart, one way of each after the other.
use Rattle.std.proofs.Common.{◌≡◌, ◌≢◌, ◌⊎◌, ℕ, zero, suc, Bool, true, false, List, [], ◌∷◌, ◌++◌, inl, inr, refl, sym, ap, subst, ◌∙◌, arith}
use Rattle.std.specs.List.{Contains}
use Rattle.traces.specs.Traces.{Moves, AreMoves, IsOneOf}
use Rattle.traces.specs.StandsFor.{FoundOfSet, StandsFor, of_both, AreCombined}
use Rattle.traces.proofs.LargerSets.{larger_sets}
use Rattle.traces.proofs.Combined.{parts_stand_for}
use Rattle.traces.proofs.Restricted.{in_both, in_set, in_part}

-- what was found of two sets that are apart, and of both together
pub record AreTwo {S L F Y : Type 0} (moves : Moves S L F) (Within : F → Y → Type 0) (one other among : L → Bool) (s : S) (first second found : FoundOfSet L F Y) : Type 0 where
  pub of_one : StandsFor moves Within one s first
  pub of_other : StandsFor moves Within other s second
  pub first_own : (a : L) → one a ≡ true → among a ≡ true
  pub second_own : (a : L) → other a ≡ true → among a ≡ true
  pub either : (a : L) → among a ≡ true → (one a ≡ true) ⊎ (other a ≡ true)
  pub not_both : (a : L) → one a ≡ true → other a ≡ true → ⊥
  pub apart : (f g : F) → Within f first.summary → Within g second.summary → moves.Apart f g
  pub apart_back : (f g : F) → Within f second.summary → Within g first.summary → moves.Apart f g
  pub first_within : (f : F) → Within f first.summary → Within f found.summary
  pub second_within : (f : F) → Within f second.summary → Within f found.summary
  pub first_texts : (text : List ℕ) → Contains first.texts text → Contains found.texts text
  pub second_texts : (text : List ℕ) → Contains second.texts text → Contains found.texts text
  pub ways : (x y : List (L × F)) → Contains first.ways x → Contains second.ways y → Contains found.ways (x ++ (y ++ []))

-- the number of a part, by a test
abbrev number : Bool → ℕ
number true = 0
number false = 1

number_zero : (b : Bool) → number b ≡ 0 → b ≡ true
number_zero true h = refl
number_zero false h = absurd (omega arith)

number_one : (b : Bool) → number b ≡ 1 → b ≡ true → ⊥
number_one true h is = omega arith
number_one false h is = cc

false_if : (b : Bool) → (b ≡ true → ⊥) → b ≡ false
false_if true never = absurd (never refl)
false_if false never = refl

is_one : (k : ℕ) → IsOneOf (suc k) (0 ∷ 1 ∷ []) → 1 ≡ suc k
is_one k (inl is) = absurd (omega arith)
is_one k (inr (inl is)) = is
is_one k (inr (inr none)) = absurd none

module _ (S L F Y : Type 0) (moves : Moves S L F) (Within : F → Y → Type 0) (laws : AreMoves moves) (one other among : L → Bool) (s : S) (first second found : FoundOfSet L F Y) (two : AreTwo moves Within one other among s first second found) where
  abbrev part : L → ℕ
  part a = number (one a)

  abbrev each : ℕ → FoundOfSet L F Y
  each zero = first
  each (suc k) = second

  first_part : (a : L) → one a ≡ true → part a ≡ 0
  first_part a own = ap number own

  second_part : (a : L) → other a ≡ true → part a ≡ 1
  second_part a own = ap number (false_if (one a) (λ own'. two.not_both a own' own))

  first_stands : StandsFor moves Within (of_both among part 0) s first
  first_stands =
      larger_sets moves Within one (of_both among part 0) s first laws (λ a own. in_both L among part 0 a (two.first_own a own) (first_part a own))
      (λ a both waits. number_zero (one a) (in_part L among part 0 a both)) two.of_one

  second_own' : (a : L) → of_both among part 1 a ≡ true → other a ≡ true
  second_own' a both =
      elim (two.either a (in_set L among part 1 a both)) [
        | inl own ↦ absurd (number_one (one a) (in_part L among part 1 a both) own)
        | inr own ↦ own
      ]

  second_stands : StandsFor moves Within (of_both among part 1) s second
  second_stands =
      larger_sets moves Within other (of_both among part 1) s second laws (λ a own. in_both L among part 1 a (two.second_own a own) (second_part a own))
      (λ a both waits. second_own' a both) two.of_other

  stands : (k : ℕ) → IsOneOf k (0 ∷ 1 ∷ []) → StandsFor moves Within (of_both among part k) s (each k)
  stands zero here = first_stands
  stands (suc k) here = subst (λ z. StandsFor moves Within (of_both among part z) s second) (is_one k here) second_stands

  apart_in : (i j : ℕ) (f g : F) → i ≢ j → IsOneOf i (0 ∷ 1 ∷ []) → IsOneOf j (0 ∷ 1 ∷ []) → Within f (each i).summary → Within g (each j).summary → moves.Apart f g
  apart_in zero zero f g differ here there within within' = absurd (differ refl)
  apart_in zero (suc j) f g differ here there within within' = two.apart f g within within'
  apart_in (suc i) zero f g differ here there within within' = two.apart_back f g within within'
  apart_in (suc i) (suc j) f g differ here there within within' = absurd (differ (sym (is_one i here) ∙ is_one j there))

  summary_in : (k : ℕ) (f : F) → IsOneOf k (0 ∷ 1 ∷ []) → Within f (each k).summary → Within f found.summary
  summary_in zero f here within = two.first_within f within
  summary_in (suc k) f here within = two.second_within f within

  texts_in : (k : ℕ) (text : List ℕ) → IsOneOf k (0 ∷ 1 ∷ []) → Contains (each k).texts text → Contains found.texts text
  texts_in zero text here there = two.first_texts text there
  texts_in (suc k) text here there = two.second_texts text there

  all_in : (a : L) → among a ≡ true → moves.Waits s a → IsOneOf (part a) (0 ∷ 1 ∷ [])
  all_in a own waits =
      elim (two.either a own) [
        | inl is ↦ inl (sym (first_part a is))
        | inr is ↦ inr (inl (sym (second_part a is)))
      ]

  combined : AreCombined moves Within among part s (0 ∷ 1 ∷ []) each found
  combined =
      record {
        different = (((λ h. omega arith), tt), (tt, tt));
        all = all_in;
        stands = stands;
        apart = apart_in;
        summary = summary_in;
        texts = texts_in;
        ways = λ ways h. two.ways (ways 0) (ways 1) (h 0 (inl refl)) (h 1 (inr (inl refl)));
      }

  pub two_stand : StandsFor moves Within among s found
  two_stand = parts_stand_for moves Within among part s (0 ∷ 1 ∷ []) each found laws combined
