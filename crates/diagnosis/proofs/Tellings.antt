-- Tokens of a kind, at the front and behind it.
use Rattle.std.proofs.Common.{◌≡◌, ℕ, ◌-◌, ◌≤◌, List, [], ◌∷◌, length, map, take, drop, Bool, true, Option, Some, None, subst, get_or, arith}
use Rattle.std.specs.Prelude.{IfSome}
use Rattle.std.proofs.lemmas.List.{take_all}
use Rattle.locations.specs.declared.spot.Spot.{Spot}
use Rattle.locations.specs.Spots.{PlainSpot}
use Rattle.locations.specs.PlainSpots.{plain_spot}
use Rattle.diagnosis.specs.FaultLocations.{IsSpotAt, found, later}

pub front_found : (p : PlainSpot → Bool) (xs : List Spot) (d : Spot) → 1 ≤ length xs → p (plain_spot (get_or xs 0 d)) ≡ true → IsSpotAt p (map plain_spot xs) (get_or xs 0 d).byte
front_found p [] d some h = absurd (omega arith)
front_found p (x ∷ xs) d some h = found h

pub front_later : (p : PlainSpot → Bool) (xs : List Spot) (byte : ℕ) → 1 ≤ length xs → IsSpotAt p (map plain_spot (take (length xs - 1) (drop 1 xs))) byte → IsSpotAt p (map plain_spot xs) byte
front_later p [] byte some h = absurd (omega arith)
front_later p (x ∷ xs) byte some h =
    let short : length xs ≤ length (x ∷ xs) - 1 = omega arith in
    later (subst (λ ys. IsSpotAt p (map plain_spot ys) byte) (take_all (length (x ∷ xs) - 1) xs short) h)

wider : {p q : PlainSpot → Bool} {ss : List PlainSpot} {byte : ℕ} → ((s : PlainSpot) → p s ≡ true → q s ≡ true) → IsSpotAt p ss byte → IsSpotAt q ss byte
wider h (found {s = s} e) = found (h s e)
wider h (later d) = later (wider h d)

pub told_wider : (o : Option ℕ) (ss : List PlainSpot) (p q : PlainSpot → Bool) → ((s : PlainSpot) → p s ≡ true → q s ≡ true) → IfSome o (λ byte. IsSpotAt p ss byte) → IfSome o (λ byte. IsSpotAt q ss byte)
told_wider None ss p q h d = tt
told_wider (Some byte) ss p q h d = wider h d
