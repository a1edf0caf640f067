-- The files are those that were read.
use Rattle.std.proofs.Common.{length}
use Rattle.preprocess.specs.Sources.{AreFilesOf, AreSomeFilesOf}
use Rattle.preprocess.proofs.Sourced.{files_found, files_refused}
use Rattle.preprocess.proofs.preprocess.preprocess.Goals as goal

pub returns-clause-files : goal.returns-clause-files
returns-clause-files c = files_found _ _ _ (AreFilesOf c.args.definitions.now c.args.files.now c.args.known.now (length c.args.files.now)) c.read_all-read.ensures.read c.finish.ensures.read c.finish.ensures.files

pub returns-clause-some : goal.returns-clause-some
returns-clause-some c = files_refused _ _ (AreSomeFilesOf c.args.definitions.now c.args.files.now c.args.known.now) c.read_all-read.ensures.some c.finish.ensures.refused
