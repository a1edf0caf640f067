-- One path more; all of them at the end.
use Rattle.std.proofs.Common.{List, ℕ, option_map, subst}
use Rattle.std.specs.Borrow.{Bor}
use Rattle.std.specs.List.{All}
use Rattle.std.proofs.lemmas.List.{take_all}
use Rattle.files.specs.Saved.{LeadsElsewhere, journal_path}
use Rattle.program.proofs.Subjects.{all_next}
use Rattle.program.proofs.subject.spare_first_of_each.Goals as goal

pub loop-path-preserved : goal.loop-path-preserved
loop-path-preserved g c =
    all_next (λ (path : Bor (List ℕ)). LeadsElsewhere (g.F.Files.alike c.args.files.now) path.now (option_map (λ prefix. journal_path prefix.now 1) c.args.prefix)) c.args.paths.now c.loop-path.path-index _
    c.loop-path-test.true c.loop-path.invariant c.in_ok-spare_first.ensures.spared

pub returns : goal.returns
returns g c =
    subst (All (λ (path : Bor (List ℕ)). LeadsElsewhere (g.F.Files.alike c.args.files.now) path.now (option_map (λ prefix. journal_path prefix.now 1) c.args.prefix))) (take_all c.loop-path.path-index c.args.paths.now c.loop-path-test.false)
    c.loop-path.invariant
