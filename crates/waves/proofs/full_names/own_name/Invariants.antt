-- What is found from here on is the name in the scope.
use Rattle.std.proofs.Common.{◌≡◌, length}
use Rattle.waves.specs.FullNames.{name_in_scope}
use Rattle.waves.proofs.FullNameLaws.{own_from}
use Rattle.waves.proofs.full_names.own_name.Given as goal

abbrev pub invariant-loop-left : goal.invariant-loop-left
invariant-loop-left l = name_in_scope l.name ≡ own_from l.is_escaped l.begins l.own l.left

abbrev pub decreases-loop-left : goal.decreases-loop-left
decreases-loop-left l = length l.left
