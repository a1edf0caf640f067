-- A file is added that is known, or none.
use Rattle.preprocess.proofs.Sourced.{adds_none, included_next, found_known}
use Rattle.preprocess.proofs.preprocessor.Preprocessor.include.Goals as goal

pub returns-in_err-name-clause-adds : goal.returns-in_err-name-clause-adds
returns-in_err-name-clause-adds c = adds_none c.args.known.now c.args.self.now.work.files.items _ c.string_after.ensures.files

pub returns-then-depth-gt-DEEPEST_INCLUDE-clause-adds : goal.returns-then-depth-gt-DEEPEST_INCLUDE-clause-adds
returns-then-depth-gt-DEEPEST_INCLUDE-clause-adds c = adds_none c.args.known.now c.args.self.now.work.files.items _ c.string_after.ensures.files

pub returns-in_err-file-clause-adds : goal.returns-in_err-file-clause-adds
returns-in_err-file-clause-adds c = adds_none c.args.known.now c.args.self.now.work.files.items _ c.string_after.ensures.files

pub returns-in-Found-clause-adds : goal.returns-in-Found-clause-adds
returns-in-Found-clause-adds c = included_next c.args.known.now c.in-Found.file c.args.self.now.work.files.items _ _ c.string_after.ensures.files
    (found_known c.args.known.now _ c.in-Found.file c.in-Found.is c.in_ok-file.ensures) c.include_file.ensures.adds

pub returns-in-Missing-clause-adds : goal.returns-in-Missing-clause-adds
returns-in-Missing-clause-adds c = adds_none c.args.known.now c.args.self.now.work.files.items _ c.string_after.ensures.files

pub returns-in-Unknown-clause-adds : goal.returns-in-Unknown-clause-adds
returns-in-Unknown-clause-adds c = adds_none c.args.known.now c.args.self.now.work.files.items _ c.string_after.ensures.files
