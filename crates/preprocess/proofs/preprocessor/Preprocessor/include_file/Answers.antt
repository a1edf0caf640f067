-- The file is added, or not.
use Rattle.std.proofs.Common.{inr, ◌∙◌}
use Rattle.preprocess.proofs.preprocessor.Preprocessor.include_file.Goals as goal

pub returns-in_err-found-clause-adds : goal.returns-in_err-found-clause-adds
returns-in_err-found-clause-adds c = c.in_err-found.ensures.adds

pub returns-clause-adds : goal.returns-clause-adds
returns-clause-adds c = inr (c.open.ensures.files ∙ c.in_ok-found.ensures.files)
