-- Laws of keys.
use Rattle.std.specs.Prelude.{◌≡◌, ℕ, List}
use Rattle.logic4.specs.Vector.{Vector}
use Rattle.model.specs.Turns.{Remainder}
use Rattle.orders.specs.Alike.{Alike}
use Rattle.loose.specs.Loose.{of_class, AlikeIn}
use Rattle.design.specs.declared.code.ProcState.{ProcState}
use Rattle.regions.specs.Queue.{Core, state_of}
use Rattle.statekeys.specs.Keys.{IsKey}
use Rattle.statekeys.specs.ClassKeys.{IsGrouped, IsClassKey}

-- states of one design that have one key are alike
abbrev pub KeysTellStates : Type 0
KeysTellStates =
    (rem : ProcState → Remainder) (a b : Core) (v w : List Vector) (key : List ℕ) → a.controls ≡ b.controls → IsKey a v key → IsKey b w key
    → Alike (state_of rem v a) (state_of rem w b)

-- states of one design that have one class key are alike in classes
abbrev pub ClassKeysTellStates : Type 0
ClassKeysTellStates =
    (class : ℕ → ℕ) (rem : ProcState → Remainder) (a b : Core) (v w : List Vector) (key : List ℕ) → a.controls ≡ b.controls
    → IsClassKey class a v key → IsClassKey class b w key → AlikeIn class (state_of rem v a) (state_of rem w b)

-- updates of which those of each class are the same are grouped in one way
abbrev pub GroupingIsUnique : Type 0
GroupingIsUnique =
    (class : ℕ → ℕ) (us vs gs hs : List (ℕ × Vector)) → ((c : ℕ) → of_class class c us ≡ of_class class c vs) → IsGrouped class us gs
    → IsGrouped class vs hs → gs ≡ hs
