-- Of texts of one kind or the other.
use Rattle.std.proofs.Common.{List, ℕ, refl, subst}
use Rattle.frontend.specs.Sources.{IsDesignOf}
use Rattle.locations.specs.SourceLocations.{AreProcesses}
use Rattle.program.proofs.Ended.{kept}
use Rattle.program.proofs.Subjects.{source_judged, whole_judged}
use Rattle.program.proofs.subject.judged_subject.Goals as goal

pub returns-in_ok-processes-in-Profile-clause-judged : goal.returns-in_ok-processes-in-Profile-clause-judged
returns-in_ok-processes-in-Profile-clause-judged g c =
    source_judged c.args.texts c.in-Profile.source _ c.in-Profile.is (record {
      is_design = subst (λ (s : List ℕ). IsDesignOf s c.in_ok-design-in-Profile.design) c.as_slice.ensures.value c.in_ok-design-in-Profile.ensures.design;
      are_processes = subst (λ (s : List ℕ). AreProcesses s c.in_ok-processes-in-Profile.processes.items) c.as_slice-in-Profile.ensures.value c.in_ok-processes-in-Profile.ensures.found;
      source_is = refl;
    })

pub returns-in_err-processes-in-Profile-clause-kept : goal.returns-in_err-processes-in-Profile-clause-kept
returns-in_err-processes-in-Profile-clause-kept g c = kept (g.F.Files.made c.args.files.now)

pub returns-in-Whole-clause-judged : goal.returns-in-Whole-clause-judged
returns-in-Whole-clause-judged g c = whole_judged c.judged_whole.result c.args.texts c.in-Whole.texts c.in-Whole.is c.judged_whole.ensures.judged
