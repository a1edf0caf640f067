-- What is read, with what is left, is the number.
use Rattle.std.proofs.Common.{◌≡◌, ◌+◌, if◌then◌else◌, length}
use Rattle.statement_parts.specs.Scales.{number_behind, digit_count, digits_behind}
use Rattle.statement_parts.proofs.scales.decimal_of.Given as goal

abbrev pub invariant-loop-left : goal.invariant-loop-left
invariant-loop-left l =
    (number_behind l.number.digits l.left ≡ number_behind 0 l.text) × (l.number.behind + (if l.pointed then digit_count l.left else digits_behind l.left) ≡ digits_behind l.text)

abbrev pub decreases-loop-left : goal.decreases-loop-left
decreases-loop-left l = length l.left
