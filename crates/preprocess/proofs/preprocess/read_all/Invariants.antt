-- What was read of plain files is their beginning, and the files are the definitions and so many of those that are given.
use Rattle.std.proofs.Common.{◌≡◌, length, take}
use Rattle.preprocess.specs.Sources.{AreFilesOf}
use Rattle.preprocess.proofs.PlainFiles.{PlainSoFar}
use Rattle.preprocess.proofs.preprocess.read_all.Given as goal

abbrev pub invariant-loop-file : goal.invariant-loop-file
invariant-loop-file l = record {
  plain : length l.definitions ≡ 0 → PlainSoFar (take l.file-index l.files) l.state.work.files.items l.state.work.tokens.items;
  read : AreFilesOf l.definitions l.files l.known l.file-index l.state.work.files.items;
}
