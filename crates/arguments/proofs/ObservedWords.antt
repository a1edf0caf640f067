-- Words that ask to observe something, or nothing.
use Rattle.std.proofs.Common.{◌≡◌, ◌≢◌, ◌∙◌, ap, sym, subst, ℕ, zero, suc, ◌<◌, List, [], ◌∷◌, ◌++◌, length, get_or, codes, Bool, true, false, not, ◌&&◌, ◌==◌, Option, Some, None, IfSome, refl, arith}
use Rattle.std.proofs.lemmas.Bool.Decides.{nat_tests}
use Rattle.std.specs.Borrow.{Bor}
use Rattle.arguments.specs.declared.observed.Observed.{Observed}
use Rattle.arguments.specs.declared.observed.Observed.TheVariants as observed
use Rattle.std.specs.Str.{bytes_eq}
use Rattle.arguments.specs.Observing.{Observes}
use Rattle.arguments.proofs.SecondWord.{unlike}

-- a word that a test tells from another one
pub other_word : (a b : List ℕ) → bytes_eq a b ≡ false → a ≡ b → ⊥
other_word a b e same = unlike a b e (ap Some same)

-- a word that is none of those that ask to observe something
pub unobserved : (text : List ℕ) → (text ≡ codes "lines" → ⊥) → (text ≡ codes "lines-at-times" → ⊥) → (text ≡ codes "registers" → ⊥) → ((names : List ℕ) → text ≡ codes "registers=" ++ names → ⊥)
    → (o : Observed) → Observes text o → ⊥
unobserved text lines at_times registers named observed.Lines h = lines h
unobserved text lines at_times registers named observed.LinesAtTimes h = at_times h
unobserved text lines at_times registers named observed.Registers h = registers h
unobserved text lines at_times registers named (observed.Named names) h = named names.now h

-- a byte stands nowhere in a text
abbrev lacks : ℕ → List ℕ → Bool
lacks c [] = true
lacks c (x ∷ xs) = not (x == c) && lacks c xs

first_of_both : (p q : Bool) → (p && q) ≡ true → p ≡ true
first_of_both true q h = refl
first_of_both false q h = h

second_of_both : (p q : Bool) → (p && q) ≡ true → q ≡ true
second_of_both true q h = h
second_of_both false q h = cc

other_byte : (x c : ℕ) → not (x == c) ≡ true → x ≡ c → ⊥
other_byte x c h e = grind (arith, nat_tests)

lacks_at : (c : ℕ) (xs : List ℕ) (i : ℕ) → lacks c xs ≡ true → i < length xs → get_or xs i 0 ≢ c
lacks_at c [] i h lt = absurd (omega (arith, lt))
lacks_at c (x ∷ xs) zero h lt = other_byte x c (first_of_both (not (x == c)) (lacks c xs) h)
lacks_at c (x ∷ xs) (suc i) h lt = lacks_at c xs i (second_of_both (not (x == c)) (lacks c xs) h) (omega (arith, lt))

-- no sign of equality stands in `registers`
pub no_equals : (i : ℕ) → i < length (codes "registers") → get_or (codes "registers") i 0 ≢ 61
no_equals i lt = lacks_at 61 (codes "registers") i refl lt

-- what stands behind `registers=` are names
pub named_some : (r : Option Observed) (text head : List ℕ) (names : Bor (List ℕ)) → text ≡ head ++ 61 ∷ names.now → IfSome r (λ found. (head ≡ codes "registers") × (found ≡ observed.Named names))
    → IfSome r (Observes text)
named_some None text head names split h = tt
named_some (Some found) text head names split (is, same) =
    subst (Observes text) (sym same) (split ∙ ap (λ (h : List ℕ). h ++ 61 ∷ names.now) is)
