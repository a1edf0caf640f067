-- Texts behind which pieces were put.
use Rattle.std.proofs.Common.{◌≡◌, ◌∙◌, ap, ℕ, List, ◌++◌, append_assoc, Result, Ok, Err, OnOk, is_ok, if◌then◌else◌}

-- a piece and what is left, behind a text that has the piece
pub moved : {A : Type 0} (old new text piece rest : List A) → new ≡ text ++ piece → text ++ (piece ++ rest) ≡ old → new ++ rest ≡ old
moved old new text piece rest put h = ap (λ t. t ++ rest) put ∙ (append_assoc text piece rest ∙ h)

-- where two pieces were put
pub joined : (new old a mid b : List ℕ) → new ≡ mid ++ b → mid ≡ old ++ a → new ≡ old ++ (a ++ b)
joined new old a mid b h k = h ∙ (ap (λ w. w ++ b) k ∙ append_assoc old a b)

-- as a vector says it of its last piece
pub joined_last : {X E : Type 0} (r : Result X E) (new old a mid b : List ℕ) → new ≡ (if is_ok r then mid ++ b else mid) → mid ≡ old ++ a → OnOk r (new ≡ old ++ (a ++ b))
joined_last (Ok x) new old a mid b h k = joined new old a mid b h k
joined_last (Err x) new old a mid b h k = tt
