-- A source of the profile, or a whole design.
use Rattle.std.proofs.Common.{option_map}
use Rattle.program.specs.Subjects.{sources_with}
use Rattle.program.proofs.Subjects.{of_profile, whole_checked}
use Rattle.program.proofs.checking.check.Goals as goal

pub returns-in-Profile-clause-checked : goal.returns-in-Profile-clause-checked
returns-in-Profile-clause-checked g c =
    let held = g.F.Files.held c.args.files.now in
    let words = option_map (λ w. w.now) c.args.asked.words in
    let own = of_profile held c.args.asked.file.now words _ c.in-Profile.source c.in_ok-source.ensures.texts c.in-Profile.is in
    c.check_profile.ensures.checked (sources_with held words) c.args.asked.file.now own.1 own.0

pub returns-in-Whole-clause-checked : goal.returns-in-Whole-clause-checked
returns-in-Whole-clause-checked g c =
    whole_checked c.check_whole.result (sources_with (g.F.Files.held c.args.files.now) (option_map (λ w. w.now) c.args.asked.words)) c.args.asked.file.now _ c.in-Whole.texts c.in_ok-source.ensures.texts c.in-Whole.is
    c.check_whole.ensures.checked
