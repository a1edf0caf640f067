-- The paths so far lead elsewhere.
use Rattle.std.proofs.Common.{take, option_map}
use Rattle.std.specs.List.{All}
use Rattle.files.specs.Saved.{LeadsElsewhere}
use Rattle.program.proofs.subject.spare_each.Given as goal

abbrev pub invariant-loop-path : goal.invariant-loop-path
invariant-loop-path g l = All (λ path. LeadsElsewhere (g.F.Files.alike l.files) path.now (option_map (λ out. out.now) l.out)) (take l.path-index l.paths)
