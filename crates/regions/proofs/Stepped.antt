-- An entry that is permitted has a step where its turn, if it is one, is given.
use Rattle.std.proofs.Common.{◌≡◌, ℕ, false, Option, Some, None, IsSome, refl, sym, ap, subst}
use Rattle.std.specs.Option.{IsSomeAnd}
use Rattle.model.specs.declared.entry.Entry.{Entry}
use Rattle.model.specs.declared.entry.Entry.TheVariants as entries
use Rattle.model.specs.declared.entry.Refusal.TheVariants.{Finished}
use Rattle.model.specs.Design.{Design}
use Rattle.model.specs.Turns.{Turn}
use Rattle.model.specs.States.{State, Action, Evaluate, Update}
use Rattle.model.specs.Runs.{Effect, action_in, action_effect, turn_of, turn_refusal, update_refusal, entry_refusal, refusal, effect, unless_refused, step}
use Rattle.model.proofs.RunLaws.{where_none}
use Rattle.design.specs.Compiled.{Compiled, design_of}
use Rattle.turn.specs.TurnLogs.{LogView}
use Rattle.regions.specs.StepLogs.{IsLogFor, IsTurnGiven}

-- a log that is given is that of a turn that there is
has_turn : (code : Compiled) (s : State) (p : ℕ) (log : Option LogView) → IsSomeAnd log (IsLogFor code s p) → (turn : Turn) × (turn_of (design_of code) s p ≡ Some turn)
has_turn code s p None h = absurd h
has_turn code s p (Some log) h = (h.turn, h.is_turn)

turn_effect : (code : Compiled) (s : State) (number : ℕ) (log : Option LogView) (o : Option Action) → action_in s.active number ≡ o → s.finished ≡ false
    → turn_refusal o ≡ None → IsTurnGiven code s (entries.Turn number) log → IsSome (action_effect (design_of code) s number o)
turn_effect code s number log None is running permitted given = absurd (cc)
turn_effect code s number log (Some (Evaluate p)) is running permitted given =
    let turn = has_turn code s p log (given number p refl running is) in rw turn.1 refl
turn_effect code s number log (Some (Update r v)) is running permitted given = absurd (cc)

update_effect : (design : Design) (s : State) (number : ℕ) (o : Option Action) → update_refusal s number o ≡ None → IsSome (action_effect design s number o)
update_effect design s number None permitted = absurd (cc)
update_effect design s number (Some (Evaluate p)) permitted = absurd (cc)
update_effect design s number (Some (Update r v)) permitted = refl

has_effect : (code : Compiled) (s : State) (entry : Entry) (log : Option LogView) → s.finished ≡ false → entry_refusal s entry ≡ None → IsTurnGiven code s entry log
    → IsSome (effect (design_of code) s entry)
has_effect code s (entries.Turn number) log running permitted given = turn_effect code s number log (action_in s.active number) refl running permitted given
has_effect code s (entries.Update number) log running permitted given = update_effect (design_of code) s number (action_in s.active number) permitted
has_effect code s entries.ActivateInactive log running permitted given = refl
has_effect code s entries.ActivateNba log running permitted given = refl
has_effect code s entries.ActivateMonitor log running permitted given = refl
has_effect code s (entries.Advance time) log running permitted given = refl

pub has_step : (code : Compiled) (s : State) (entry : Entry) (log : Option LogView) → refusal s entry ≡ None → IsTurnGiven code s entry log
    → IsSome (step (design_of code) s entry)
has_step code s entry log permitted given =
    let both = where_none s.finished Finished (entry_refusal s entry) permitted in
    let has : IsSome (effect (design_of code) s entry) = has_effect code s entry log both.0 both.1 given in
    subst (λ (o : Option Effect). IsSome o) (sym (ap (λ o. unless_refused o (effect (design_of code) s entry)) permitted)) has
