-- No register so far has the name.
use Rattle.std.proofs.Common.{◌≢◌, ℕ, ◌<◌, Some}
use Rattle.std.specs.Prelude.{slice_get}
use Rattle.wavetexts.proofs.names.register_of.Given as goal

abbrev pub invariant-loop-register : goal.invariant-loop-register
invariant-loop-register l = (register : ℕ) → register < l.register → slice_get l.design.names register ≢ Some l.name
