-- The names of generate blocks (IEEE 1364-2005, 12.4.3).
use Rattle.std.specs.Prelude.{◌≡◌, ℕ, zero, suc, ◌<◌, List, [], ◌∷◌, ◌++◌, Option, None, Some, IsSome, codes}
use Rattle.std.specs.Fmt.{decimal}
use Rattle.scopes.specs.declared.scope.NameScope.{NameScope}
use Rattle.scopes.specs.Scopes.{NameText, declared_in}
use Rattle.syntax_tree.specs.declared.expressions.Identifier.{Identifier}

-- so many zeros
abbrev pub leading_zeros : ℕ → NameText
leading_zeros zero = []
leading_zeros (suc k) = leading_zeros k ++ 48 ∷ []

-- the name of a block without one, with zeros before the number of its construct
abbrev pub numbered_block : NameText → ℕ → NameText
numbered_block before number = (codes "genblk" ++ before) ++ decimal number

-- A scope doesn't declare the name of a block without one, which has the fewest zeros with which that is so.
pub record IsFreeName (scopes : List NameScope) (scope number : ℕ) (made : NameText) : Type 0 where
  pub count : ℕ
  pub name : made ≡ numbered_block (leading_zeros count) number
  pub free : declared_in scopes scope made ≡ None
  pub fewest : (k : ℕ) → k < count → IsSome (declared_in scopes scope (numbered_block (leading_zeros k) number))

-- the name of a block: its own, or that of one without a name
abbrev pub IsBlockName : List NameScope → ℕ → Option Identifier → ℕ → NameText → Type 0
IsBlockName scopes scope (Some identifier) number made = made ≡ identifier.name.items
IsBlockName scopes scope None number made = IsFreeName scopes scope number made
