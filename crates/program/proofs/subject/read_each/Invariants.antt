-- The texts so far are those of the paths so far, and the files are as they were.
use Rattle.std.proofs.Common.{map, take}
use Rattle.files.specs.Saved.{KeepsFiles, KeepsHeld}
use Rattle.program.specs.Subjects.{AreHeldAt}
use Rattle.program.proofs.subject.read_each.Given as goal

abbrev pub invariant-loop-path : goal.invariant-loop-path
invariant-loop-path g l = record {
  texts : AreHeldAt (g.F.Files.held l.initial.files) (map (λ path. path.now) (take l.path-index l.paths)) l.texts.items;
  kept : KeepsFiles (g.F.Files.made l.initial.files) (g.F.Files.made l.files);
  held : KeepsHeld (g.F.Files.held l.initial.files) (g.F.Files.held l.files);
}
