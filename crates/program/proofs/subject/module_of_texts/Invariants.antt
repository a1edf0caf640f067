-- What was made of files stays.
use Rattle.files.specs.Saved.{KeepsFiles}
use Rattle.program.proofs.subject.module_of_texts.Given as goal

abbrev pub invariant-loop-lookup : goal.invariant-loop-lookup
invariant-loop-lookup g l = KeepsFiles (g.F.Files.made l.initial.files) (g.F.Files.made l.files)
