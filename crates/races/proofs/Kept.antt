-- What a list has that one more was pushed to, or that stayed as it was.
use Rattle.std.proofs.Common.{◌≡◌, ◌⊎◌, inl, inr, ℕ, ◌+◌, ◌<◌, ◌≤◌, Bool, true, false, List, [], ◌∷◌, ◌++◌, length, get_or, ◌∙◌, subst, arith}
use Rattle.std.specs.Prelude.{if◌then◌else◌}
use Rattle.std.specs.List.{All, AllPairs}
use Rattle.std.proofs.lemmas.Bool.{cases_lt}
use Rattle.std.proofs.lemmas.List.Elements.{All-push, at_read}
use Rattle.std.proofs.lemmas.List.Quantifiers.{all_pairs_push}
use Rattle.accesses.specs.declared.pair.Pair.{Pair}
use Rattle.accesses.specs.declared.role.Role.{Role}
use Rattle.races.specs.declared.told.Race.{Race}
use Rattle.races.specs.Races.{AreOfSame, AreOthers, IsNewBeside, IsRaceOf}

pub kept_all : {X : Type 0} (P : X → Type 0) (b : Bool) (xs : List X) (x : X) → All P xs → P x → All P (if b then xs ++ x ∷ [] else xs)
kept_all P true xs x h p = All-push P xs x h p
kept_all P false xs x h p = h

pub kept_pairs : {X : Type 0} (R : X → X → Type 0) (b : Bool) (xs : List X) (x : X) → AllPairs R xs → ((k : ℕ) (d : X) → k < length xs → R (get_or xs k d) x) → AllPairs R (if b then xs ++ x ∷ [] else xs)
kept_pairs R true xs x h r = all_pairs_push R xs x h r
kept_pairs R false xs x h r = h

below_cases : {X : Type 0} (P : X → Type 0) (xs : List X) (i : ℕ) (x : X) → i < length xs → x ≡ get_or xs i x → ((k : ℕ) (d : X) → k < i → P (get_or xs k d)) → P x
    → (k : ℕ) (d : X) → k < i + 1 → (k < i) ⊎ (i ≤ k) → P (get_or xs k d)
below_cases P xs i x lt is before here k d below (inl less) = before k d less
below_cases {X} P xs i x lt is before here k d below (inr more) =
    let same : i ≡ k = omega (arith, below, more) in
    subst (λ (n : ℕ). P (get_or xs n d)) same (at_read xs P i x lt is here d)

-- what holds of those before a place, and of the one that was read there
pub below_more_read : {X : Type 0} (P : X → Type 0) (xs : List X) (i : ℕ) (x : X) → i < length xs → x ≡ get_or xs i x
    → ((k : ℕ) (d : X) → k < i → P (get_or xs k d)) → P x → (k : ℕ) (d : X) → k < i + 1 → P (get_or xs k d)
below_more_read P xs i x lt is before here = λ k d below. below_cases P xs i x lt is before here k d below (cases_lt k i)

-- a race of a pair is for another site or of other processes than those beside which the pair is new
pub new_others : (races : List Race) (pair : Pair) (race : Race) → IsNewBeside races pair → IsRaceOf pair race → (k : ℕ) (d : Race) → k < length races → AreOthers (get_or races k d) race
new_others races pair race beside of k d lt = λ site same.
    let one : Role = (get_or races k d).first in
    let other : Role = (get_or races k d).second in
    beside k d lt (site ∙ of.0) (subst (λ (r : Role). AreOfSame one other pair.first r) of.2 (subst (λ (r : Role). AreOfSame one other r race.second) of.1 same))
