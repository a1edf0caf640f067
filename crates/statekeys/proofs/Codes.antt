-- Codes made of codes.
use Rattle.std.proofs.Common.{◌≡◌, ◌≢◌, ℕ, zero, suc, Bool, true, false, List, [], ◌∷◌, ◌++◌, length, Option, Some, None, refl, sym, ◌∙◌, ap, arith, append_assoc}
use Rattle.std.specs.Prelude.{flat_map}
use Rattle.logic4.specs.Vector.{Vector}
use Rattle.logic4.specs.VectorWords.{first_word, second_word, of_words, of_words-words}
use Rattle.statekeys.specs.KeyCodes.{IsSelfDelimiting, nat_code, bool_code, pair_code, option_code, list_code, vector_code}
use Rattle.statekeys.proofs.Numbers.{nat_code_tells}

pub bool_code_tells : IsSelfDelimiting bool_code
bool_code_tells false false r s e = (refl, (nat_code_tells 0 0 r s e).1)
bool_code_tells true true r s e = (refl, (nat_code_tells 1 1 r s e).1)
bool_code_tells false true r s e = let h : ◌≡◌ {A = ℕ} 0 1 = (nat_code_tells 0 1 r s e).0 in absurd (omega arith)
bool_code_tells true false r s e = let h : ◌≡◌ {A = ℕ} 1 0 = (nat_code_tells 1 0 r s e).0 in absurd (omega arith)

pub pair_code_tells : {A B : Type 0} (c : A → List ℕ) (d : B → List ℕ) → IsSelfDelimiting c → IsSelfDelimiting d
    → IsSelfDelimiting (pair_code c d)
pair_code_tells c d tells_c tells_d (a, b) (a', b') r s e =
    let first = tells_c a a' (d b ++ r) (d b' ++ s) (sym (append_assoc (c a) (d b) r) ∙ e ∙ append_assoc (c a') (d b') s) in
    let second = tells_d b b' r s first.1 in
    ((λ k. (first.0 k, second.0 k)), second.1)

pub option_code_tells : {A : Type 0} (c : A → List ℕ) → IsSelfDelimiting c → IsSelfDelimiting (option_code c)
option_code_tells c tells None None r s e = (refl, (nat_code_tells 0 0 r s e).1)
option_code_tells c tells (Some x) (Some y) r s e =
    let rest = (nat_code_tells 1 1 (c x ++ r) (c y ++ s) (sym (append_assoc (nat_code 1) (c x) r) ∙ e ∙ append_assoc (nat_code 1) (c y) s)).1 in
    (ap Some (tells x y r s rest).0, (tells x y r s rest).1)
option_code_tells c tells None (Some y) r s e =
    let h : ◌≡◌ {A = ℕ} 0 1 = (nat_code_tells 0 1 r (c y ++ s) (e ∙ append_assoc (nat_code 1) (c y) s)).0 in absurd (omega arith)
option_code_tells c tells (Some x) None r s e =
    let h : ◌≡◌ {A = ℕ} 1 0 = (nat_code_tells 1 0 (c x ++ r) s (sym (append_assoc (nat_code 1) (c x) r) ∙ e)).0 in absurd (omega arith)

-- the codes of as many elements
pub each_tells : {A : Type 0} (c : A → List ℕ) → IsSelfDelimiting c → (xs ys : List A) (r s : List ℕ) → length xs ≡ length ys
    → flat_map c xs ++ r ≡ flat_map c ys ++ s → (xs ≡ ys) × (r ≡ s)
each_tells c tells [] [] r s h e = (refl, e)
each_tells c tells [] (y ∷ ys) r s h e = absurd (omega arith)
each_tells c tells (x ∷ xs) [] r s h e = absurd (omega arith)
each_tells c tells (x ∷ xs) (y ∷ ys) r s h e =
    let first = tells x y (flat_map c xs ++ r) (flat_map c ys ++ s) (sym (append_assoc (c x) (flat_map c xs) r) ∙ e ∙ append_assoc (c y) (flat_map c ys) s) in
    let rest = each_tells c tells xs ys r s (omega arith) first.1 in
    ((λ k. first.0 k ∷ rest.0 k), rest.1)

pub list_code_tells : {A : Type 0} (c : A → List ℕ) → IsSelfDelimiting c → IsSelfDelimiting (list_code c)
list_code_tells c tells xs ys r s e =
    let counts = nat_code_tells (length xs) (length ys) (flat_map c xs ++ r) (flat_map c ys ++ s)
    (sym (append_assoc (nat_code (length xs)) (flat_map c xs) r) ∙ e ∙ append_assoc (nat_code (length ys)) (flat_map c ys) s) in
    each_tells c tells xs ys r s counts.0 counts.1

pub vector_code_tells : IsSelfDelimiting vector_code
vector_code_tells v w r s e =
    let flat : (u : Vector) (t : List ℕ) → vector_code u ++ t ≡ nat_code (length u) ++ (nat_code (first_word u) ++ (nat_code (second_word u) ++ t)) =
    λ u t. simp append_assoc in
    let all = sym (flat v r) ∙ e ∙ flat w s in
    let widths = nat_code_tells (length v) (length w) _ _ all in
    let firsts = nat_code_tells (first_word v) (first_word w) _ _ widths.1 in
    let seconds = nat_code_tells (second_word v) (second_word w) _ _ firsts.1 in
    (sym (of_words-words v) ∙ (λ k. of_words (widths.0 k) (firsts.0 k) (seconds.0 k)) ∙ of_words-words w, seconds.1)
