-- The lines of the numbers that were looked at.
use Rattle.std.proofs.Common.{◌≡◌, take}
use Rattle.naming.specs.RoleWords.{numbered_lines}
use Rattle.naming.proofs.role_words.numbered_lines.Given as goal

abbrev pub invariant-loop-place : goal.invariant-loop-place
invariant-loop-place l = l.lines.items ≡ numbered_lines l.source l.bytes (take l.place l.numbers)
