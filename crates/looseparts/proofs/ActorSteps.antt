-- What a machine takes for an actor is his step, and whoever waits may be taken.
use Rattle.std.proofs.Common.{◌≡◌, ℕ, true, false, if◌then◌else◌, inl, inr, List, [], ◌∷◌, ◌++◌, Option, Some, refl, sym, ap, subst, ◌∙◌}
use Rattle.model.specs.declared.entry.Entry.{Entry}
use Rattle.model.specs.declared.entry.Entry.TheVariants.{Turn, Update}
use Rattle.model.specs.Design.{Design}
use Rattle.model.specs.States.{Action, Evaluate, Event, State}
use Rattle.model.specs.Runs.{action_in, has_any, turn_refusal, effect}
use Rattle.model.proofs.RunLaws.{unless_some}
use Rattle.orders.specs.Alike.{IsInOrder}
use Rattle.design.specs.Compiled.{Compiled, design_of}
use Rattle.regions.specs.Machine.{MachineView, state_at}
use Rattle.regions.specs.StepLogs.{IsTaken}
use Rattle.loose.specs.declared.transition.LooseTransition.{LooseTransition}
use Rattle.loose.specs.declared.transition.LooseTransition.TheVariants.{Process, FirstOf}
use Rattle.loose.specs.Loose.{AlikeIn, loose_refusal, loose_transition_of, loose_transition_of_action}
use Rattle.loose.proofs.ClassStates.{states_in-sym}
use Rattle.loose.proofs.LooseSteps.{step_is_loose, loose_step_keeps_order}
use Rattle.loosesteps.specs.LooselyTaken.{MayBeTaken, IsEntryFor}
use Rattle.loosesteps.proofs.AlikeTaken.{IsReordered}
use Rattle.traces.specs.Traces.{AreMoves}
use Rattle.footprints.specs.FootprintLaws.{IsStepWith}
use Rattle.footprints.specs.Moves.{IsWaiting, IsMove, loose_moves}
use Rattle.footprints.proofs.AlikeFootprints.{footprint_tells}
use Rattle.footprints.proofs.LooseMoves.{loose_steps_are_moves}
use Rattle.footprints.proofs.WaitingActors.{waiting_moves}
use Rattle.certificates.specs.Notes.{NoteView}
use Rattle.certificates.proofs.Tests.{same_number}
use Rattle.noted.specs.NotedSteps.{IsEntryNoted}
use Rattle.looseparts.specs.ActorSteps.{IsActorStep}

one_transition : (o : Option LooseTransition) (a b : LooseTransition) → o ≡ Some a → o ≡ Some b → a ≡ b
one_transition o a b is is' = cc

-- a step from where a machine stands that is alike is one from where it stood
step_from : (class : ℕ → ℕ) (p m new : MachineView) (actor : LooseTransition) (entry : Entry) (note : NoteView) → IsInOrder (state_at p) → IsInOrder (state_at m) → AlikeIn class (state_at p) (state_at m) → IsEntryFor class (state_at p) (state_at m) actor entry
    → IsTaken p.code (state_at m) p.lines entry (state_at new) new.lines → IsEntryNoted class p.code (state_at m) entry note → IsActorStep class p actor note new
step_from class p m new actor entry note order order' alike is taken noted =
    let s = state_at p in
    let t = state_at m in
    let design = design_of p.code in
    let with_print : IsStepWith class design t entry noted.own taken.effect = (step_is_loose class design t entry taken.effect taken.is_step, noted.own_is) in
    let (own, lines, changes, ends) = footprint_tells class design t entry noted.own taken.effect order' with_print in
    let owner : noted.own.owner ≡ actor = one_transition (loose_transition_of class t entry) noted.own.owner actor own is.transition_is in
    let new_order : IsInOrder (state_at new) = subst IsInOrder taken.state_is (loose_step_keeps_order class design t entry taken.effect order' with_print.0) in
    let move : IsMove class design t actor noted.own (state_at new) = (entry, taken.effect, with_print, owner, taken.state_is) in
    let laws : AreMoves (loose_moves class design) = loose_steps_are_moves class design in
    let (after, steps, near) = laws.steps_alike (t, order') (s, order) (state_at new, new_order) actor noted.own (states_in-sym class s t alike) move in
    record {
      own = noted.own;
      after = after.0;
      after_order = after.1;
      steps = steps;
      tells = noted.tells;
      ends = sym ends ∙ ap (λ (z : State). z.finished) taken.state_is;
      alike = states_in-sym class (state_at new) after.0 near;
      new_order = new_order;
      lines_are = taken.lines_are ∙ ap (λ z. p.lines ++ z) lines;
    }

pub actor_step : (class : ℕ → ℕ) (p m new : MachineView) (actor : LooseTransition) (entry : Entry) (note : NoteView) → IsReordered p m → IsInOrder (state_at p) → IsInOrder (state_at m) → AlikeIn class (state_at p) (state_at m)
    → IsEntryFor class (state_at p) (state_at m) actor entry → IsTaken m.code (state_at m) m.lines entry (state_at new) new.lines → IsEntryNoted class m.code (state_at m) entry note → IsActorStep class p actor note new
actor_step class p m new actor entry note rest order order' alike is taken noted =
    let same : m.code ≡ p.code = ap (λ (q : MachineView). q.code) rest in
    let lines : m.lines ≡ p.lines = ap (λ (q : MachineView). q.lines) rest in
    step_from class p m new actor entry note order order' alike is
    (subst (λ (code : Compiled). IsTaken code (state_at m) p.lines entry (state_at new) new.lines) same (subst (λ (z : List ℕ). IsTaken m.code (state_at m) z entry (state_at new) new.lines) lines taken))
    (subst (λ (code : Compiled). IsEntryNoted class code (state_at m) entry note) same noted)

-- whoever waits may be taken

never_both : (c p : ℕ) → FirstOf c ≡ Process p → ⊥
never_both c p h = cc

update_may : (class : ℕ → ℕ) (design : Design) (s : State) (a : LooseTransition) (c : ℕ) → IsInOrder s → s.finished ≡ false → IsWaiting class s a → a ≡ FirstOf c → MayBeTaken class s a
update_may class design s a c order going waits is =
    elim (waiting_moves class design s a order going waits) [
      | inl moves ↦
          let (f, t, (entry, x, step, owner, leads)) = moves in
          let (own, lines, changes, ends) = footprint_tells class design s entry f x order step in
          (entry, own ∙ ap Some owner, (unless_some (loose_refusal class s entry) (effect design s entry) x step.0).0)
      | inr long ↦
          let (p, same, none) = long in
          let both : FirstOf c ≡ Process p = sym is ∙ same in
          absurd (never_both c p both)
    ]

may_by : (class : ℕ → ℕ) (design : Design) (s : State) (a : LooseTransition) (number : ℕ) (action : Action) → IsInOrder s → s.finished ≡ false → IsWaiting class s a → action_in s.active number ≡ Some action
    → loose_transition_of_action class (Some action) ≡ Some a → MayBeTaken class s a
may_by class design s a number (Evaluate p) order going waits is own =
    (Turn number, ap (loose_transition_of_action class) is ∙ own, rw going (ap turn_refusal is))
may_by class design s a number (Action.Update r v) order going waits is own =
    update_may class design s a (class r) order going waits (one_transition (Some a) a (FirstOf (class r)) refl (sym own))

pub waiting_may : (class : ℕ → ℕ) (design : Design) (s : State) (a : LooseTransition) → IsInOrder s → s.finished ≡ false → IsWaiting class s a → MayBeTaken class s a
waiting_may class design s a order going (number, action, is, own) = may_by class design s a number action order going (number, action, is, own) is own

-- where something is active, somebody waits

first_actor : (class : ℕ → ℕ) (action : Action) → (a : LooseTransition) × (loose_transition_of_action class (Some action) ≡ Some a)
first_actor class (Evaluate p) = (Process p, refl)
first_actor class (Action.Update r v) = (FirstOf (class r), refl)

first_event : (events : List Event) → has_any events ≡ true → (number : ℕ) × (action : Action) × (action_in events number ≡ Some action)
first_event [] some = cc
first_event (e ∷ events) some = (e.0, e.1, ap (λ b. if b then Some e.1 else action_in events e.0) (same_number e.0))

pub somebody_waits : (class : ℕ → ℕ) (s : State) → has_any s.active ≡ true → (a : LooseTransition) × IsWaiting class s a
somebody_waits class s some =
    let (number, action, is) = first_event s.active some in
    let (a, own) = first_actor class action in
    (a, (number, action, is, own))
