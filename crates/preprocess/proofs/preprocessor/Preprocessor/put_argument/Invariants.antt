-- What is put and what is left to be put are the argument.
use Rattle.std.proofs.Common.{◌≡◌, ◌≤◌, ◌++◌, length, take, map, reverse}
use Rattle.preprocess.specs.Macros.{from_argument}
use Rattle.preprocess.proofs.preprocessor.Preprocessor.put_argument.Given as goal

abbrev pub invariant-loop-left : goal.invariant-loop-left
invariant-loop-left l = record {
  files : l.self.work.files.items ≡ l.fn.self.work.files.items;
  within : l.left ≤ length l.argument;
  pieces : l.self.work.pieces.items ++ reverse (map (from_argument l.origin) (take l.left l.argument))
      ≡ l.fn.self.work.pieces.items ++ reverse (map (from_argument l.origin) l.argument);
}

abbrev pub decreases-loop-left : goal.decreases-loop-left
decreases-loop-left l = l.left
