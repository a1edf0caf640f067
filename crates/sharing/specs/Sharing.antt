-- Laws of shared parts.
use Rattle.std.specs.Prelude.{◌≡◌, ℕ, List}
use Rattle.sharing.specs.Parts.{unshortened, HoldsWhole, Extends}
use Rattle.sharing.specs.declared.parts.Shortened.{Shortened}

-- what tells a byte string tells the same one where parts were added
abbrev pub EarlierStringsStay : Type 0
EarlierStringsStay =
    (old new : List (List ℕ)) (short : Shortened) → Extends old new → HoldsWhole old short →
    HoldsWhole new short × (unshortened new short ≡ unshortened old short)
