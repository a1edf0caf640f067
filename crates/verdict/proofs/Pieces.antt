-- A text behind which two pieces were put, one after the other.
use Rattle.std.proofs.Common.{◌≡◌, ◌∙◌, ap, ℕ, Bool, true, false, List, ◌++◌, append_assoc, Option, Some, None, Result, Ok, Err, OnOk, is_ok, if◌then◌else◌, refl}
use Rattle.verdict.specs.Verdicts.{endless_text, some_endless}

-- where both were put
pub joined : (new old a mid b : List ℕ) → new ≡ mid ++ b → mid ≡ old ++ a → new ≡ old ++ (a ++ b)
joined new old a mid b h k = h ∙ (ap (λ w. w ++ b) k ∙ append_assoc old a b)

-- where the second was put only if that went well
pub joined_if_ok : {A E : Type 0} (r : Result A E) (new old a mid b : List ℕ) → OnOk r (new ≡ mid ++ b) → mid ≡ old ++ a → OnOk r (new ≡ old ++ (a ++ b))
joined_if_ok (Ok x) new old a mid b h k = joined new old a mid b h k
joined_if_ok (Err e) new old a mid b h k = tt

-- as a vector says it of its last piece
pub joined_last : {A E : Type 0} (r : Result A E) (new old a mid b c : List ℕ) → new ≡ (if is_ok r then mid ++ b else mid) → mid ≡ old ++ a → b ≡ c
    → OnOk r (new ≡ old ++ (a ++ c))
joined_last (Ok x) new old a mid b c h k e = joined new old a mid c (h ∙ ap (λ w. mid ++ w) e) k
joined_last (Err x) new old a mid b c h k e = tt

-- where one was put alone, as a vector says it
pub put_alone : {A E : Type 0} (r : Result A E) (new old b c : List ℕ) → new ≡ (if is_ok r then old ++ b else old) → b ≡ c → OnOk r (new ≡ old ++ c)
put_alone (Ok x) new old b c h e = h ∙ ap (λ w. old ++ w) e
put_alone (Err x) new old b c h e = tt

-- what is said where a run without an end is known
pub endless_known : (o : Option ℕ) (prefix : Option (List ℕ)) (n : ℕ) → o ≡ Some n → endless_text o prefix ≡ some_endless o prefix
endless_known (Some m) prefix n is = refl
endless_known None prefix n is = cc
