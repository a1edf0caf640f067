-- What is left is of tokens where all is.
use Rattle.std.proofs.Common.{◌≡◌, length}
use Rattle.std.specs.List.{list_all}
use Rattle.preprocess.specs.Plain.{is_token}
use Rattle.preprocess.proofs.files.are_tokens.Given as goal

abbrev pub invariant-loop-left : goal.invariant-loop-left
invariant-loop-left l = list_all is_token l.lexemes ≡ list_all is_token l.left

abbrev pub decreases-loop-left : goal.decreases-loop-left
decreases-loop-left l = length l.left
