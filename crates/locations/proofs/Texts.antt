-- Whether bytes are a text.
use Rattle.std.proofs.Common.{◌≡◌, ℕ, List, Bool, true, false, refl}
use Rattle.std.specs.Str.{IsUtf8, is_utf8}
use Rattle.std.proofs.lemmas.Str.{IsUtf8-from_is_utf8}

pub no_utf8 : (bs : List ℕ) → ¬ (IsUtf8 bs) → is_utf8 bs ≡ false
no_utf8 bs other = by (is_utf8 bs) refl
  where
    by : (b : Bool) → is_utf8 bs ≡ b → is_utf8 bs ≡ false
    by false e = e
    by true e = absurd (other (IsUtf8-from_is_utf8 bs e))
