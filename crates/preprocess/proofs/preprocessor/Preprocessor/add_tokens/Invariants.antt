use Rattle.std.proofs.Common.{◌≡◌, length, map, ◌++◌, true}
use Rattle.std.specs.List.{list_all}
use Rattle.preprocess.specs.Places.{lexeme_stands}
use Rattle.preprocess.specs.Plain.{token_of}
use Rattle.preprocess.proofs.preprocessor.Preprocessor.add_tokens.Given as goal

abbrev pub invariant-loop-left : goal.invariant-loop-left
invariant-loop-left l = record { files : l.self.work.files.items ≡ l.fn.self.work.files.items; stand : list_all (lexeme_stands l.self.work.files.items) l.left ≡ true; tokens : l.self.work.tokens.items ++ map token_of l.left ≡ l.fn.self.work.tokens.items ++ map token_of l.lexemes }

abbrev pub decreases-loop-left : goal.decreases-loop-left
decreases-loop-left l = length l.left
