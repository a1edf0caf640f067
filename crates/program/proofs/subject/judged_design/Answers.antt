-- Of texts of one kind or the other.
use Rattle.std.proofs.Common.{List, ℕ, subst}
use Rattle.frontend.specs.Sources.{IsDesignOf}
use Rattle.program.proofs.Subjects.{source_designed, whole_design_of}
use Rattle.program.proofs.subject.judged_design.Goals as goal

pub returns-in_ok-design-in-Profile-clause-judged : goal.returns-in_ok-design-in-Profile-clause-judged
returns-in_ok-design-in-Profile-clause-judged g c =
    source_designed c.args.texts c.in-Profile.source c.in_ok-design-in-Profile.design c.in-Profile.is
    (subst (λ (s : List ℕ). IsDesignOf s c.in_ok-design-in-Profile.design) c.as_slice.ensures.value c.in_ok-design-in-Profile.ensures.design)

pub returns-in-Whole-clause-judged : goal.returns-in-Whole-clause-judged
returns-in-Whole-clause-judged g c = whole_design_of c.design_of_whole.result c.args.texts c.in-Whole.texts c.in-Whole.is c.design_of_whole.ensures.judged
