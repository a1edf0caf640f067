-- The paths so far lead elsewhere.
use Rattle.std.proofs.Common.{take, option_map}
use Rattle.std.specs.List.{All}
use Rattle.files.specs.Saved.{LeadsElsewhere, journal_path}
use Rattle.program.proofs.subject.spare_first_of_each.Given as goal

abbrev pub invariant-loop-path : goal.invariant-loop-path
invariant-loop-path g l = All (λ path. LeadsElsewhere (g.F.Files.alike l.files) path.now (option_map (λ prefix. journal_path prefix.now 1) l.prefix)) (take l.path-index l.paths)
