-- What is seen of registers, put behind bytes.
use Rattle.std.proofs.Common.{◌≡◌, ◌∙◌, ℕ, zero, suc, ◌+◌, List, [], ◌∷◌, ◌++◌, append_assoc, None, Result, Ok, Err, OnOk, is_ok, if◌then◌else◌, refl, sym, ap}
use Rattle.std.specs.Prelude.{slice_get}
use Rattle.logic4.specs.Display.{binary_text}
use Rattle.logic4.specs.Vector.{Vector}
use Rattle.model.specs.Expressions.{Store, value_of}
use Rattle.looseruns.specs.RegisterObserver.{seen_register_line}

-- where three pieces were put behind a mark
pub sight_put : (mark : ℕ) (old b1 b2 b3 b4 time lines : List ℕ) → b1 ≡ old ++ mark ∷ [] → b2 ≡ b1 ++ time → b3 ≡ b2 ++ 10 ∷ [] → b4 ≡ b3 ++ lines
    → b4 ≡ old ++ (mark ∷ time ++ 10 ∷ lines)
sight_put mark old b1 b2 b3 b4 time lines one two three four =
    let timed : b2 ≡ old ++ (mark ∷ time) = two ∙ ap (λ l. l ++ time) one ∙ append_assoc old (mark ∷ []) time in
    let ended : b3 ≡ old ++ (mark ∷ time ++ 10 ∷ []) = three ∙ ap (λ l. l ++ 10 ∷ []) timed ∙ append_assoc old (mark ∷ time) (10 ∷ []) in
    four ∙ ap (λ l. l ++ lines) ended ∙ append_assoc old (mark ∷ time ++ 10 ∷ []) lines ∙ ap (λ l. old ++ l) (append_assoc (mark ∷ time) (10 ∷ []) lines)

none_there : (store : Store) (r : ℕ) → slice_get store r ≡ None → value_of store r ≡ []
none_there [] r is = refl
none_there (v ∷ store) zero is = cc
none_there (v ∷ store) (suc r) is = none_there store r is

-- the line of a register that isn't there
line_of_none : (store : Store) (r : ℕ) → slice_get store r ≡ None → seen_register_line store r ≡ 10 ∷ []
line_of_none store r is = ap (λ (x : Vector). binary_text x ++ 10 ∷ []) (none_there store r is)

pub pushed_line : {X E : Type 0} (answer : Result X E) (store : Store) (r : ℕ) (old new : List ℕ) → new ≡ (if is_ok answer then old ++ 10 ∷ [] else old) → slice_get store r ≡ None
    → OnOk answer (new ≡ old ++ seen_register_line store r)
pushed_line (Ok x) store r old new put none = put ∙ ap (λ l. old ++ l) (sym (line_of_none store r none))
pushed_line (Err e) store r old new put none = tt
