use Rattle.std.proofs.Common.{◌≡◌, ◌++◌, take}
use Rattle.naming.specs.Naming.{unnamed_lines}
use Rattle.naming.proofs.naming.push_unnamed_texts.Given as goal

abbrev pub invariant-loop-place : goal.invariant-loop-place
invariant-loop-place l = l.text.items ≡ l.initial.text.items ++ unnamed_lines (take l.place l.numbers)
