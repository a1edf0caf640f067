-- Of texts of one kind or the other.
use Rattle.std.proofs.Common.{List, ℕ, subst}
use Rattle.program.specs.Dumps.{IsDumpedSource}
use Rattle.program.proofs.Subjects.{source_dumped, whole_dumped}
use Rattle.program.proofs.waving.dumped_design.Goals as goal

pub returns-in_ok-dumped-in-Profile-clause-judged : goal.returns-in_ok-dumped-in-Profile-clause-judged
returns-in_ok-dumped-in-Profile-clause-judged g c =
    source_dumped c.args.texts c.in-Profile.source c.in_ok-dumped-in-Profile.dumped c.in-Profile.is
    (subst (λ (s : List ℕ). IsDumpedSource s c.in_ok-dumped-in-Profile.dumped.design c.in_ok-dumped-in-Profile.dumped.scopes) c.as_slice.ensures.value c.in_ok-dumped-in-Profile.ensures)

pub returns-in-Whole-clause-judged : goal.returns-in-Whole-clause-judged
returns-in-Whole-clause-judged g c = whole_dumped c.dumped_whole.result c.args.texts c.in-Whole.texts c.in-Whole.is c.dumped_whole.ensures.judged
