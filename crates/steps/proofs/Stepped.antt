-- An entry that was noted and taken is told, and the machine is kept.
use Rattle.std.proofs.Common.{◌≡◌, List, [], length, Some, sym, ◌∙◌, ap, subst}
use Rattle.model.specs.declared.entry.Entry.{Entry}
use Rattle.model.specs.States.{State}
use Rattle.model.specs.Runs.{Effect, step}
use Rattle.design.specs.Compiled.{Compiled, design_of}
use Rattle.regions.specs.StepLogs.{IsTaken}
use Rattle.regions.specs.Machine.{MachineView, state_at}
use Rattle.steps.specs.declared.cells.VersionedValue.{VersionedValue}
use Rattle.steps.specs.Accounts.{Account}
use Rattle.steps.specs.ExplainerStanding.{Standing, IsKept, IsSoundState, IsExplainerBehind, IsExplained}
use Rattle.steps.proofs.Notes.{TellSame, NotedAt, explained}

-- the parts of where an explainer stands
abbrev pub stand : MachineView → List VersionedValue → Account → Standing
stand p cells a = record { position = p; cells = cells; account = a }

module _ (p mid new : MachineView) (entry : Entry) (kept : mid.code ≡ p.code) (emptied : new ≡ record mid { lines = [] })
    (taken : IsTaken p.code (state_at p) p.lines entry (state_at mid) mid.lines) where
  state_same : state_at new ≡ state_at mid
  state_same = ap state_at emptied

  code_same : new.code ≡ p.code
  code_same = ap (λ (q : MachineView). q.code) emptied ∙ kept

  pub step_kept : (cells : List VersionedValue) → length cells ≡ length p.code.widths → ((e : Effect) → step (design_of p.code) (state_at p) entry ≡ Some e → IsSoundState p.code e.state) → IsKept new cells
  step_kept cells registers sound =
      let after : IsSoundState p.code (state_at mid) = subst (λ (s : State). IsSoundState p.code s) taken.state_is (sound taken.effect taken.is_step) in
      let there : IsSoundState p.code (state_at new) = subst (λ (s : State). IsSoundState p.code s) (sym state_same) after in
      record {
        registers = registers ∙ ap (λ (c : Compiled). length c.widths) (sym code_same);
        sound = subst (λ (c : Compiled). IsSoundState c (state_at new)) (sym code_same) there;
      }

  pub step_told : (journal : List Entry) (cells cells' : List VersionedValue) (first a b : Account) → NotedAt (stand p cells first) entry cells' a
      → TellSame a b → b.lines ≡ mid.lines → b.time ≡ new.core.time → IsExplainerBehind journal (stand p cells first) → IsExplained journal entry (stand p cells first) (stand new cells' b)
  step_told journal cells cells' first a b noted tell lines time behind =
      explained journal entry (stand p cells first) (stand new cells' b) mid a code_same state_same (ap (λ (q : MachineView). q.lines) emptied) taken noted tell lines
      (time ∙ ap (λ (q : MachineView). q.core.time) emptied) behind
