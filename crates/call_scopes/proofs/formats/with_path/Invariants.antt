-- What is shown so far, with what is left, is the format.
use Rattle.std.proofs.Common.{◌≡◌, ◌++◌, drop}
use Rattle.call_scopes.specs.Formats.{rest_shown, format_with_path}
use Rattle.call_scopes.proofs.formats.with_path.Given as goal

abbrev pub invariant-loop-byte : goal.invariant-loop-byte
invariant-loop-byte l = l.found.items ++ rest_shown l.path l.begun (drop l.byte-index l.format) ≡ format_with_path l.path l.format
