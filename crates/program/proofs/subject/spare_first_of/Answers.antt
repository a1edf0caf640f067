-- All paths that words ask for.
use Rattle.std.proofs.Common.{List, ℕ, option_map}
use Rattle.files.specs.Saved.{LeadsElsewhere, journal_path}
use Rattle.program.proofs.Subjects.{words_spared}
use Rattle.program.proofs.subject.spare_first_of.Goals as goal

pub returns-in-Some-clause-all_spared : goal.returns-in-Some-clause-all_spared
returns-in-Some-clause-all_spared g c =
    words_spared c.spare_first_of_each.result (λ (path : List ℕ). LeadsElsewhere (g.F.Files.alike c.args.files.now) path (option_map (λ prefix. journal_path prefix.now 1) c.args.prefix)) c.args.asked c.in-Some.words c.as_slice.result.now c.in-Some.is c.as_slice.ensures.value c.spare_first_of_each.ensures
