-- What is put and what is left to be put are the text with its arguments.
use Rattle.std.proofs.Common.{◌≡◌, ◌≤◌, ◌++◌, length, take, reverse}
use Rattle.preprocess.specs.Macros.{substituted}
use Rattle.preprocess.proofs.preprocessor.Preprocessor.put_text.Given as goal

abbrev pub invariant-loop-left : goal.invariant-loop-left
invariant-loop-left l = record {
  files : l.self.work.files.items ≡ l.fn.self.work.files.items;
  within : l.left ≤ length l.text;
  pieces : l.self.work.pieces.items ++ reverse (substituted l.arguments.pieces.items l.arguments.spans.items l.origin (take l.left l.text))
      ≡ l.fn.self.work.pieces.items ++ reverse (substituted l.arguments.pieces.items l.arguments.spans.items l.origin l.text);
}

abbrev pub decreases-loop-left : goal.decreases-loop-left
decreases-loop-left l = l.left
