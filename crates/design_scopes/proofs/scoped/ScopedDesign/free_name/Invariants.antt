-- The names with fewer zeros are declared.
use Rattle.std.proofs.Common.{◌≡◌, ℕ, ◌<◌, string_bytes}
use Rattle.std.specs.Prelude.{IsSome}
use Rattle.scopes.specs.Scopes.{declared_in}
use Rattle.design_scopes.specs.Blocks.{leading_zeros, numbered_block}
use Rattle.design_scopes.proofs.scoped.ScopedDesign.free_name.Given as goal

abbrev pub invariant-loop-zero : goal.invariant-loop-zero
invariant-loop-zero l = record {
  zeros_are : string_bytes l.zeros ≡ leading_zeros l._zero;
  taken : (k : ℕ) → k < l._zero → IsSome (declared_in l.self.tree.scopes.items l.scope (numbered_block (leading_zeros k) l.number));
}
