-- What an entry comes to with its log: its lines, the time, and whether the run is finished.
use Rattle.std.proofs.Common.{◌≡◌, ℕ, ◌≤◌, false, List, [], ◌++◌, length, Option, Some, None, refl, sym, ◌∙◌, ap, subst, inl, inr}
use Rattle.std.specs.Prelude.{option_map, slice_index_or}
use Rattle.std.specs.Option.{IsSomeAnd}
use Rattle.model.specs.declared.entry.Entry.{Entry}
use Rattle.model.specs.declared.entry.Entry.TheVariants as entries
use Rattle.model.specs.States.{State, Evaluate}
use Rattle.model.specs.Runs.{Effect, silent, action_in, turn_effect, step, refusal, effect, last_time}
use Rattle.model.specs.Steps.{IsPermitted}
use Rattle.model.proofs.RunLaws.{unless_some}
use Rattle.model.proofs.StepLaws.{step_is_exact}
use Rattle.design.specs.declared.code.ProcState.{ProcState}
use Rattle.design.specs.Compiled.{Compiled, design_of}
use Rattle.design.specs.DesignInvariant.{IsStateOf}
use Rattle.turn.specs.TurnLogs.{LogView}
use Rattle.regions.specs.Queue.{Core}
use Rattle.regions.specs.StatePassing.{HasOwnStates, IsKeptState, KeepsStates}
use Rattle.regions.specs.StepLogs.{IsLogFor, IsTurnGiven, IsTaken, after_step, strobed, printed, finishes}
use Rattle.regions.proofs.Applied.{turn_at, no_turn_given}
use Rattle.regions.proofs.Clock.{time-turned, time-updated, finished-updated}

-- what an entry does besides the step itself
record Told (code : Compiled) (s : State) (entry : Entry) (log : Option LogView) (e : Effect) : Type 0 where
  lines_are : e.lines ≡ printed entry log (strobed code s entry)
  finished : e.state.finished ≡ finishes entry log
  time : s.time ≤ last_time → e.state.time ≤ last_time

turn_told : (code : Compiled) (s : State) (number : ℕ) (log : Option LogView) (e : Effect) → refusal s (entries.Turn number) ≡ None
    → effect (design_of code) s (entries.Turn number) ≡ Some e → IsTurnGiven code s (entries.Turn number) log → Told code s (entries.Turn number) log e
turn_told code s number None e allowed is given = absurd (no_turn_given code s (entries.Turn number) number None refl refl allowed given)
turn_told code s number (Some log) e allowed is given =
    let t = turn_at code s (entries.Turn number) number (Some log) log refl refl allowed given in
    let made : effect (design_of code) s (entries.Turn number) ≡ Some (turn_effect s number t.process t.log_for.turn) = rw (t.action, t.log_for.is_turn) refl in
    let both : Some (turn_effect s number t.process t.log_for.turn) ≡ Some e = sym made ∙ is in
    let same : turn_effect s number t.process t.log_for.turn ≡ e = cc in
    let time : e.state.time ≡ s.time = ap (λ x. x.state.time) (sym same) ∙ time-turned s number t.process t.log_for.turn in
    record {
      lines_are = ap (λ x. x.lines) (sym same) ∙ sym t.log_for.is_log.lines;
      finished = ap (λ x. x.state.finished) (sym same) ∙ sym t.log_for.is_log.finish;
      time = λ now. rw time now;
    }

silent_told : (code : Compiled) (s t : State) (entry : Entry) (log : Option LogView) (e : Effect) → e ≡ silent t → printed entry log (strobed code s entry) ≡ []
    → finishes entry log ≡ false → t.finished ≡ false → (s.time ≤ last_time → t.time ≤ last_time) → Told code s entry log e
silent_told code s t entry log e is none goes unfinished time = record {
  lines_are = ap (λ x. x.lines) is ∙ sym none;
  finished = ap (λ x. x.state.finished) is ∙ (unfinished ∙ sym goes);
  time = λ now. let same : e.state.time ≡ t.time = ap (λ x. x.state.time) is in rw same (time now);
}

other_told : (code : Compiled) (s : State) (entry : Entry) (log : Option LogView) (e : Effect) → IsTurnGiven code s entry log → refusal s entry ≡ None
    → effect (design_of code) s entry ≡ Some e → s.finished ≡ false → IsPermitted (design_of code) s entry e → Told code s entry log e
other_told code s (entries.Turn event) log e given allowed is unfinished permitted = turn_told code s event log e allowed is given
other_told code s (entries.Update event) log e given allowed is unfinished (r, v, action, first, same) =
    let time : e.state.time ≡ s.time = ap (λ x. x.state.time) same ∙ time-updated s event r v in
    record {
      lines_are = ap (λ x. x.lines) same;
      finished = ap (λ x. x.state.finished) same ∙ (finished-updated s event r v ∙ unfinished);
      time = λ now. rw time now;
    }
other_told code s entries.ActivateInactive log e given allowed is unfinished (a, i, same) = silent_told code s _ entries.ActivateInactive log e same refl refl unfinished (λ now. now)
other_told code s entries.ActivateNba log e given allowed is unfinished (a, i, n, same) = silent_told code s _ entries.ActivateNba log e same refl refl unfinished (λ now. now)
other_told code s entries.ActivateMonitor log e given allowed is unfinished (a, i, n, m, same) = record {
  lines_are = ap (λ x. x.lines) same;
  finished = ap (λ x. x.state.finished) same ∙ unfinished;
  time = λ now. let time : e.state.time ≡ s.time = ap (λ x. x.state.time) same in rw time now;
}
other_told code s (entries.Advance time) log e given allowed is unfinished (a, i, n, m, least, most, same) = silent_told code s _ (entries.Advance time) log e same refl refl unfinished (λ now. most)

some_effect : (o : Option Effect) (s : State) → option_map (λ e. e.state) o ≡ Some s → (e : Effect) × (o ≡ Some e) × (e.state ≡ s)
some_effect None s h = cc
some_effect (Some e) s h = let same : e.state ≡ s = cc in (e, refl, same)

-- an entry that leads to a state
pub record Comes (code : Compiled) (s : State) (entry : Entry) (log : Option LogView) (t : State) : Type 0 where
  pub effect : Effect
  pub is_step : step (design_of code) s entry ≡ Some effect
  pub state_is : effect.state ≡ t
  pub lines_are : effect.lines ≡ printed entry log (strobed code s entry)
  pub finished : t.finished ≡ finishes entry log
  pub time : s.time ≤ last_time → t.time ≤ last_time

pub comes : (code : Compiled) (s : State) (entry : Entry) (log : Option LogView) (t : State) → IsTurnGiven code s entry log
    → after_step (design_of code) s entry ≡ Some t → Comes code s entry log t
comes code s entry log t given after =
    let found = some_effect (step (design_of code) s entry) t after in
    let parts = unless_some (refusal s entry) (effect (design_of code) s entry) found.0 found.1 in
    let exact = (step_is_exact (design_of code) s entry found.0).0 found.1 in
    let tells : Told code s entry log found.0 = other_told code s entry log found.0 given parts.0 parts.1 exact.0 exact.1 in
    record {
      effect = found.0;
      is_step = found.1;
      state_is = found.2;
      lines_are = tells.lines_are;
      finished = ap (λ x. x.finished) (sym found.2) ∙ tells.finished;
      time = λ now. let same : t.time ≡ found.0.state.time = ap (λ x. x.time) (sym found.2) in rw same (tells.time now);
    }

-- its lines stand behind others
pub taken : (code : Compiled) (s : State) (before : List ℕ) (entry : Entry) (log : Option LogView) (t : State) (behind : List ℕ) → Comes code s entry log t
    → behind ≡ before ++ printed entry log (strobed code s entry) → IsTaken code s before entry t behind
taken code s before entry log t behind h lines = record {
  effect = h.effect;
  is_step = h.is_step;
  state_is = h.state_is;
  lines_are = lines ∙ ap (λ ls. before ++ ls) (sym h.lines_are);
}

given_own : (code : Compiled) (s : State) (entry : Entry) (log : Option LogView) (number p : ℕ) (l : LogView) → IsTurnGiven code s entry log
    → entry ≡ entries.Turn number → s.finished ≡ false → action_in s.active number ≡ Some (Evaluate p) → log ≡ Some l → IsStateOf code p l.next
given_own code s entry log number p l given is running action some =
    let h : IsSomeAnd (Some l) (IsLogFor code s p) = subst (λ o. IsSomeAnd o (IsLogFor code s p)) some (given number p is running action) in
    h.own

own_by : (code : Compiled) (old : Core) (s : State) (entry : Entry) (log : Option LogView) (p : ℕ) (before behind : ProcState) → IsTurnGiven code s entry log
    → s.active ≡ old.active → s.finished ≡ false → IsKeptState old entry log p before behind → IsStateOf code p before → IsStateOf code p behind
own_by code old s entry log p before behind given active running (inl same) own = subst (λ x. IsStateOf code p x) (sym same) own
own_by code old s entry log p before behind given active running (inr (number, (l, (is, action, some, next)))) own =
    subst (λ x. IsStateOf code p x) (sym next) (given_own code s entry log number p l given is running (ap (λ es. action_in es number) active ∙ action) some)

-- each process goes on from a state of its own, where it did before and its log is given
pub own_kept : (code : Compiled) (old new : Core) (s : State) (entry : Entry) (log : Option LogView) → IsTurnGiven code s entry log → s.active ≡ old.active
    → s.finished ≡ false → KeepsStates old new entry log → HasOwnStates (IsStateOf code) old → HasOwnStates (IsStateOf code) new
own_kept code old new s entry log given active running kept own = λ p d lt.
    let count : length new.processes ≡ length old.processes = kept.count in
    own_by code old s entry log p (slice_index_or old.processes p d).0 (slice_index_or new.processes p d).0 given active running
    (kept.states p d lt) (own p d (rw (← count) lt))
