-- Elements of lists by their places.
use Rattle.std.proofs.Common.{◌≡◌, ℕ, zero, suc, ◌<◌, List, [], ◌∷◌, length, get_or, Some, arith}
use Rattle.std.specs.Prelude.{slice_get}

module _ {A : Type 0} where
  pub or_of : (xs : List A) (i : ℕ) (x d : A) → slice_get xs i ≡ Some x → get_or xs i d ≡ x
  or_of [] i x d e = absurd (cc)
  or_of (y ∷ ys) zero x d e = cc
  or_of (y ∷ ys) (suc i) x d e = or_of ys i x d e

  pub within : (xs : List A) (i : ℕ) (x : A) → slice_get xs i ≡ Some x → i < length xs
  within [] i x e = absurd (cc)
  within (y ∷ ys) zero x e = omega arith
  within (y ∷ ys) (suc i) x e = let h = within ys i x e in omega arith
