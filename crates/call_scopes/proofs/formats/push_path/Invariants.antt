-- What is added so far, with what is left, is the name.
use Rattle.std.proofs.Common.{◌≡◌, ◌++◌, drop}
use Rattle.call_scopes.specs.Formats.{as_format}
use Rattle.call_scopes.proofs.formats.push_path.Given as goal

abbrev pub invariant-loop-byte : goal.invariant-loop-byte
invariant-loop-byte l = l.found.items ++ as_format (drop l.byte-index l.path) ≡ l.fn.found.items ++ as_format l.path
