-- The word after the program's name.
use Rattle.std.proofs.Common.{◌≡◌, ◌<◌, sym, ap, List, [], ◌∷◌, ℕ, length, get_or, nat_lt, Some, unwrap_or, true, false, Bool, string_bytes, String, arith}
use Rattle.std.specs.Str.{bytes_eq}
use Rattle.std.proofs.lemmas.Slice.Eq.{bytes_eq-Decides}
use Rattle.std.proofs.lemmas.Bool.Decides.{nat_tests}
use Rattle.arguments.specs.CommandWords.{Begins, texts_of}

pub second_text : {Z : Type 0} (words : List (String Z)) (word : String Z) → 1 < length words → word ≡ get_or words 1 word
    → Begins (texts_of words) (string_bytes word)
second_text [] word lt is = absurd (omega (arith, lt))
second_text (a ∷ []) word lt is = absurd (omega (arith, lt))
second_text (a ∷ (b ∷ words)) word lt is = ap (λ w. Some (string_bytes w)) (sym is)

pub no_second_text : {Z : Type 0} (words : List (String Z)) (name : List ℕ) → false ≡ nat_lt 1 (length words)
    → Begins (texts_of words) name → ⊥
no_second_text [] name e begins = cc
no_second_text (a ∷ []) name e begins = cc
no_second_text (a ∷ (b ∷ words)) name e begins = grind (arith, nat_tests)

differ : (x : Bool) → x ≡ false → x ≡ true → ⊥
differ true e h = cc
differ false e h = cc

pub unlike : (a b : List ℕ) → bytes_eq a b ≡ false → Some a ≡ Some b → ⊥
unlike a b e same = differ (bytes_eq a b) e ((bytes_eq-Decides a b).1 (ap (λ o. unwrap_or o a) same))
