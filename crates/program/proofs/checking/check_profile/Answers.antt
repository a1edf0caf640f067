-- By what is told of the source.
use Rattle.std.proofs.Common.{List, ℕ, subst}
use Rattle.program.specs.Printed.{IsSourceChecked}
use Rattle.program.proofs.Subjects.{right_source, wrong_source}
use Rattle.program.proofs.checking.check_profile.Goals as goal

pub returns-in-None-clause-checked : goal.returns-in-None-clause-checked
returns-in-None-clause-checked g c = λ from path held alone.
    let checked = subst (λ (s : List ℕ). IsSourceChecked s c.in_ok-told.told) c.as_slice.ensures.value c.in_ok-told.ensures.checked in
    right_source from path c.args.source alone held (subst (IsSourceChecked c.args.source.items) c.in-None.is checked)

pub returns-clause-checked : goal.returns-clause-checked
returns-clause-checked g c = λ from path held alone.
    let checked = subst (λ (s : List ℕ). IsSourceChecked s c.in_ok-told.told) c.as_slice.ensures.value c.in_ok-told.ensures.checked in
    wrong_source from path c.args.source alone held (subst (IsSourceChecked c.args.source.items) c.in-Some.is checked)
