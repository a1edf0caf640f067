-- The log of an active evaluation's turn is what a step asks for, and a turn that isn't short stops a machine.
use Rattle.std.proofs.Common.{◌≡◌, ℕ, Bool, true, false, List, map, length, Option, Some, None, is_some, if◌then◌else◌, refl, sym, ◌∙◌, ap, subst}
use Rattle.std.specs.Prelude.{IsSome}
use Rattle.std.specs.Option.{IsSomeAnd}
use Rattle.std.proofs.lemmas.List.{length-map}
use Rattle.logic4.specs.Vector.{Vector}
use Rattle.model.specs.declared.entry.Entry.TheVariants as entries
use Rattle.model.specs.declared.entry.Refusal.{Refusal}
use Rattle.model.specs.declared.entry.Refusal.TheVariants.{NotActive, Finished}
use Rattle.model.specs.Design.{Design}
use Rattle.model.specs.Turns.{Turn, short_turn}
use Rattle.model.specs.States.{State, Action, Evaluate}
use Rattle.model.specs.Runs.{Effect, action_in, turn_of, turn_refusal, refused_where, refusal, effect, unless_refused}
use Rattle.model.proofs.RunLaws.{where_none}
use Rattle.design.specs.declared.code.ProcState.{ProcState}
use Rattle.design.specs.Compiled.{Compiled, design_of}
use Rattle.design.specs.DesignInvariant.{remainder_of_state, controls_of, IsStateOf}
use Rattle.turn.specs.TurnLogs.{LogView, IsLogOf}
use Rattle.regions.specs.Queue.{Core, state_of}
use Rattle.turn.specs.declared.log.FillFault.{FillFault}
use Rattle.turn.specs.declared.log.FillFault.TheVariants as unfilled
use Rattle.regions.specs.Reader.{IsTurnOn, IsNoTurnOn}
use Rattle.regions.specs.Evaluations.{IsEvaluation}
use Rattle.regions.specs.StatePassing.{HasOwnStates}
use Rattle.regions.specs.StepLogs.{IsLogFor, IsTurnGiven}
use Rattle.regions.specs.declared.machine.TakeFault.TheVariants.{TooLong}
use Rattle.regions.specs.Machine.{IsStop, IsTurnLogged, IsEvaluated, IsUnevaluated}
use Rattle.regions.proofs.Evaluated.{turn_of-is, own_state}

-- a turn that there is, with what holds of it
some_turn : (o : Option Turn) (P : Turn → Type 0) → IsSomeAnd o P → (turn : Turn) × (o ≡ Some turn) × P turn
some_turn None P h = absurd h
some_turn (Some turn) P h = (turn, refl, h)

-- the log is the turn that an active evaluation has
pub is_log_for : (code : Compiled) (core : Core) (values : List Vector) (event p : ℕ) (st : ProcState) (log : LogView) → IsStateOf code p st
    → length values ≡ length code.widths → IsEvaluation core event (p, st) → IsTurnOn code st values core.time log
    → IsLogFor code (state_of (remainder_of_state code) values core) p log
is_log_for code core values event p st log own count e h =
    let t = some_turn (short_turn (design_of code) p (remainder_of_state code st) values core.time) (IsLogOf (remainder_of_state code) (controls_of code) log)
    (h.is_log.turn p own values count (h.agrees p own)) in
    record {
      turn = t.0;
      is_turn = turn_of-is code core values event p st e ∙ t.1;
      is_log = t.2;
      fits = h.is_log.fits p own;
      own = h.is_log.next p own;
    }

same_process : (p q : ℕ) → Some (Evaluate p) ≡ Some (Evaluate q) → p ≡ q
same_process p q e = cc

same_number : (m n : ℕ) → entries.Turn m ≡ entries.Turn n → m ≡ n
same_number m n e = cc

-- the process that takes a turn's event
process_is : (core : Core) (event p : ℕ) (st : ProcState) (number q : ℕ) → IsEvaluation core event (p, st) → entries.Turn event ≡ entries.Turn number
    → action_in core.active number ≡ Some (Evaluate q) → p ≡ q
process_is core event p st number q e is_entry action =
    let number_is : event ≡ number = same_number event number is_entry in
    let action' : action_in core.active event ≡ Some (Evaluate q) = rw number_is action in
    same_process p q (sym e.0 ∙ action')

-- the turn of an active evaluation
pub given_turn : (code : Compiled) (core : Core) (values : List Vector) (event p : ℕ) (st : ProcState) (log : LogView) → HasOwnStates (IsStateOf code) core
    → map length values ≡ code.widths → IsEvaluation core event (p, st) → IsTurnOn code st values core.time log
    → IsTurnGiven code (state_of (remainder_of_state code) values core) (entries.Turn event) (Some log)
given_turn code core values event p st log own widths e h = λ number q is_entry running action.
    let P : ℕ → Type 0 = λ n. IsLogFor code (state_of (remainder_of_state code) values core) n log in
    let count : length values ≡ length code.widths = sym (length-map values length) ∙ ap length widths in
    subst P (process_is core event p st number q e is_entry action)
    (is_log_for code core values event p st log (own_state code core event p st own e) count e h)

pub permitted_where : (b : Bool) (o : Option Action) (p : ℕ) → b ≡ false → o ≡ Some (Evaluate p) → refused_where b Finished (turn_refusal o) ≡ None
permitted_where b o p running action = ap (λ x. refused_where x Finished (turn_refusal o)) running ∙ ap turn_refusal action

-- a turn that isn't permitted needs no log
pub given_none : (code : Compiled) (s : State) (number : ℕ) → (refusal s (entries.Turn number) ≡ None → ⊥) → IsTurnGiven code s (entries.Turn number) None
given_none code s number refused = λ n p is_entry running action.
    let same : number ≡ n = same_number number n is_entry in
    let action' : action_in s.active number ≡ Some (Evaluate p) = rw same action in
    absurd (refused (permitted_where s.finished (action_in s.active number) p running action'))

-- nor does that of an event that is no active evaluation
pub given_inactive : (code : Compiled) (s : State) (number : ℕ) → turn_refusal (action_in s.active number) ≡ Some NotActive
    → IsTurnGiven code s (entries.Turn number) None
given_inactive code s number inactive = given_none code s number (λ permitted.
    let none : turn_refusal (action_in s.active number) ≡ None = (where_none s.finished Finished (turn_refusal (action_in s.active number)) permitted).1 in
    cc)

unless_none : (o : Option Refusal) (e : Option Effect) → e ≡ None → unless_refused o e ≡ None
unless_none None e h = h
unless_none (Some reason) e h = refl

-- a turn that is permitted and isn't short stops a machine
pub stop_turn : (code : Compiled) (core : Core) (values : List Vector) (event p : ℕ) (st : ProcState) → HasOwnStates (IsStateOf code) core → IsEvaluation core event (p, st)
    → refusal (state_of (remainder_of_state code) values core) (entries.Turn event) ≡ None
    → ((q : ℕ) → IsStateOf code q st → short_turn (design_of code) q (remainder_of_state code st) values core.time ≡ None)
    → IsStop code (state_of (remainder_of_state code) values core) (entries.Turn event) TooLong
stop_turn code core values event p st own e permitted h =
    let s : State = state_of (remainder_of_state code) values core in
    let design : Design = design_of code in
    let long : turn_of design s p ≡ None = turn_of-is code core values event p st e ∙ h p (own_state code core event p st own e) in
    let none : effect design s (entries.Turn event) ≡ None = rw (e.0, long) refl in
    (permitted, unless_none (refusal s (entries.Turn event)) (effect design s (entries.Turn event)) none)

refused_at : (b : Bool) (o : Option Refusal) → b ≡ true → IsSome (refused_where b Finished o)
refused_at true o is = refl
refused_at false o is = cc

-- nothing follows $finish
pub refused_finished : (s : State) (number : ℕ) → s.finished ≡ true → IsSome (refusal s (entries.Turn number))
refused_finished s number is = refused_at s.finished (turn_refusal (action_in s.active number)) is

refused_by : (b : Bool) (o : Option Refusal) (r : Refusal) → o ≡ Some r → IsSome (refused_where b Finished o)
refused_by true o r is = refl
refused_by false None r is = cc
refused_by false (Some x) r is = refl

-- and an event that is no active evaluation has no turn
pub refused_inactive : (s : State) (number : ℕ) → turn_refusal (action_in s.active number) ≡ Some NotActive → IsSome (refusal s (entries.Turn number))
refused_inactive s number is = refused_by s.finished (turn_refusal (action_in s.active number)) NotActive is

-- a turn isn't evaluated where it isn't short, or for want of memory
pub unevaluated : (code : Compiled) (core : Core) (values : List Vector) (event p : ℕ) (st : ProcState) (f : FillFault) → HasOwnStates (IsStateOf code) core → IsEvaluation core event (p, st)
    → refusal (state_of (remainder_of_state code) values core) (entries.Turn event) ≡ None → IsNoTurnOn code st values core.time f
    → IsUnevaluated code (state_of (remainder_of_state code) values core) event f
unevaluated code core values event p st unfilled.TooLong own e permitted h = stop_turn code core values event p st own e permitted h
unevaluated code core values event p st unfilled.Memory own e permitted h = permitted

no_refusal : (o : Option Refusal) → IsSome o → o ≡ None → ⊥
no_refusal None some none = cc
no_refusal (Some r) some none = cc

-- the log of a turn that was evaluated is what a step asks for
pub given_log : (code : Compiled) (s : State) (number process : ℕ) (log : LogView) → IsTurnLogged code s number process log → IsTurnGiven code s (entries.Turn number) (Some log)
given_log code s number process log h = λ n q is_entry running action.
    let same : number ≡ n = same_number number n is_entry in
    let action' : action_in s.active number ≡ Some (Evaluate q) = rw same action in
    subst (λ (k : ℕ). IsLogFor code s k log) (same_process process q (sym h.action ∙ action')) h.is_log

-- and none is asked for where the rules don't permit it
pub given_by : (code : Compiled) (s : State) (number : ℕ) (log : LogView) (found : Option ℕ) → IsEvaluated code s number log found
    → IsTurnGiven code s (entries.Turn number) (if is_some found then Some log else None)
given_by code s number log None h = given_none code s number (λ permitted. no_refusal (refusal s (entries.Turn number)) h permitted)
given_by code s number log (Some process) h = given_log code s number process log h
