-- The entry is taken, and what it gave is noted.
use Rattle.std.proofs.Common.{◌∙◌, ◌+◌, ◌==◌, ap, subst, sym, if◌then◌else◌, ℕ, List, take, Option, Some}
use Rattle.std.specs.Prelude.{slice_get}
use Rattle.std.specs.List.{list_any}
use Rattle.steps.specs.declared.entry_account.Changed.{Changed}
use Rattle.steps.specs.Accounts.{Account}
use Rattle.steps.specs.ExplainerStanding.{IsExplainerBehind}
use Rattle.differences.specs.declared.value_difference.ValueGiver.{ValueGiver}
use Rattle.differences.specs.CompareFaults.{IsRunFaultOf}
use Rattle.differences.specs.Givers.{actor_process}
use Rattle.differences.proofs.Given.{followed_next}
use Rattle.differences.proofs.Told.{untold_fault}
use Rattle.differences.proofs.followed_run.FollowedRun.take_next.Goals as goal

pub explain_next-requires-clause-behind : goal.explain_next-requires-clause-behind
explain_next-requires-clause-behind c = subst (λ (n : ℕ). IsExplainerBehind (take n c.args.entries.now) c.args.self.now.explainer) c.requires.at c.requires.followed.behind

pub returns-clause-count : goal.returns-clause-count
returns-clause-count c = c.in-Ok.ensures.told.count

pub returns-clause-followed : goal.returns-clause-followed
returns-clause-followed c =
    let givers : List (Option ValueGiver) = c.args.self.now.givers.items in
    let given : Account → ValueGiver = λ a. record { entry = c.args.at + 1; process = actor_process a.actor } in
    followed_next c.args.entries.now c.args.at c.args.self.now _ c.requires.inside c.requires.followed c.requires.at c.in-Ok.ensures.told c.explain_next.ensures.code c.note_entry.ensures.registers
    (λ r less.
    c.note_entry.ensures.noted r less
    ∙ ap (λ (a : Account). if list_any (λ (d : Changed). d.register == r) a.changes then Some (Some (given a)) else slice_get givers r) c.told.ensures)

pub returns-in-Err-clause-fault : goal.returns-in-Err-clause-fault
returns-in-Err-clause-fault c =
    subst (IsRunFaultOf c.args.self.now.explainer.position.code c.args.entries.now) (sym c.untold.ensures)
    (untold_fault c.args.self.now.explainer.position.code c.args.entries.now c.in-Err.fault c.in-Err.ensures.fault)
