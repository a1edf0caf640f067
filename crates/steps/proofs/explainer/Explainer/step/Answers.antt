-- An entry is told of where the explainer stands.
use Rattle.std.proofs.Common.{◌≡◌, ◌+◌, ◌<◌, List, subst}
use Rattle.std.specs.Prelude.{OnOk, OnErr, IfErr}
use Rattle.model.specs.declared.entry.Entry.{Entry}
use Rattle.regions.specs.Machine.{most_entries, state_at}
use Rattle.steps.specs.ExplainerStanding.{Standing, standing_of, IsExplainerBehind, IsExplained, IsNotExplained}
use Rattle.steps.proofs.explainer.Explainer.step.Goals as goal

pub returns-clause-told : goal.returns-clause-told
returns-clause-told c =
    let new = standing_of c.take_told.new.machine c.take_told.new.cells.items c.take_told.new.told in
    subst (λ (x : Standing). OnOk c.take_told.result ((journal : List Entry) → IsExplainerBehind journal x → IsExplained journal c.args.entry x new)) c.self.view_is c.take_told.ensures.told

pub returns-clause-entries : goal.returns-clause-entries
returns-clause-entries c =
    subst (λ (x : Standing). OnOk c.take_told.result (c.take_told.new.machine.core.entries ≡ x.position.core.entries + 1)) c.self.view_is c.take_told.ensures.entries

pub returns-clause-few : goal.returns-clause-few
returns-clause-few c = subst (λ (x : Standing). OnOk c.take_told.result (x.position.core.entries < most_entries)) c.self.view_is c.take_told.ensures.few

pub returns-clause-code : goal.returns-clause-code
returns-clause-code c = subst (λ (x : Standing). c.take_told.new.machine.code ≡ x.position.code) c.self.view_is c.take_told.ensures.code

pub returns-clause-fault : goal.returns-clause-fault
returns-clause-fault c = subst (λ (x : Standing). IfErr c.take_told.result (IsNotExplained x.position c.args.entry)) c.self.view_is c.take_told.ensures.fault

pub returns-clause-err : goal.returns-clause-err
returns-clause-err c = subst (λ (x : Standing). OnErr c.take_told.result (state_at c.take_told.new.machine ≡ state_at x.position)) c.self.view_is c.take_told.ensures.err
