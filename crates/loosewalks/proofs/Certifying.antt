-- Steps that a machine took with notes are moves of which the notes tell.
use Rattle.std.proofs.Common.{◌≡◌, ◌≢◌, ℕ, List, [], ◌∷◌, ◌++◌, Option, Some, None, refl, sym, ap, subst, ◌∙◌}
use Rattle.std.proofs.lemmas.List.{map-append}
use Rattle.model.specs.declared.end.Limits.{Limits}
use Rattle.model.specs.Design.{Design}
use Rattle.model.specs.States.{State, Action, Event}
use Rattle.model.specs.Runs.{action_in}
use Rattle.orders.specs.Alike.{IsInOrder}
use Rattle.design.specs.Compiled.{Compiled, design_of}
use Rattle.regions.specs.Machine.{MachineView, state_at}
use Rattle.regions.specs.StepLogs.{IsTaken}
use Rattle.loose.specs.declared.transition.LooseTransition.{LooseTransition}
use Rattle.loose.specs.Loose.{loose_transition_of}
use Rattle.loose.proofs.LooseSteps.{step_is_loose, loose_step_keeps_order}
use Rattle.traces.specs.Traces.{IsRunOfMoves}
use Rattle.footprints.specs.Footprints.{Footprint}
use Rattle.footprints.specs.FootprintLaws.{IsStepWith}
use Rattle.footprints.specs.Moves.{OrderedState, IsMove, loose_moves}
use Rattle.footprints.proofs.AlikeFootprints.{footprint_tells}
use Rattle.certificates.specs.Notes.{NoteView, TellOfAll, TellsOf}
use Rattle.certificates.specs.CertificateLaws.{NobodyWaits}
use Rattle.noted.specs.NotedSteps.{IsEntryNoted}
use Rattle.loosewalks.specs.declared.active.NamedEntry.{NamedEntry}
use Rattle.loosewalks.specs.Sole.{StandsForAllLoosely}
use Rattle.loosewalks.specs.LooseWalking.{IsEventStep, IsSoleLooseWay}
use Rattle.loosewalks.specs.Certified.{AreNotedSteps, TakesNoted, HasAddedNote, HasCertified}
use Rattle.loosewalks.proofs.Walks.{takes_none, takes_more}
use Rattle.loosewalks.proofs.CertifiedWays.{certified_way_stands_for_all}

-- one step more

runs_more : (class : ℕ → ℕ) (design : Design) (w : List (LooseTransition × Footprint)) (s t u : OrderedState) (a : LooseTransition) (f : Footprint) → IsRunOfMoves (loose_moves class design) s w t → IsMove class design t.0 a f u.0 → IsRunOfMoves (loose_moves class design) s (w ++ (a, f) ∷ []) u
runs_more class design [] s t u a f run step = (u, subst (λ (x : OrderedState). IsMove class design x.0 a f u.0) (sym run) step, refl)
runs_more class design (x ∷ w) s t u a f (m, first, later) step = (m, first, runs_more class design w m t u a f later step)

pub tell_more : (notes : List NoteView) (w : List (LooseTransition × Footprint)) (note : NoteView) (a : LooseTransition) (f : Footprint) → TellOfAll notes w → a ≡ note.owner → TellsOf note f → TellOfAll (notes ++ note ∷ []) (w ++ (a, f) ∷ [])
tell_more [] [] note a f all own tells = (own, tells, tt)
tell_more [] (x ∷ w) note a f all own tells = absurd all
tell_more (n ∷ notes) [] note a f all own tells = absurd all
tell_more (n ∷ notes) (x ∷ w) note a f (first, its, all) own tells = (first, its, tell_more notes w note a f all own tells)

pub one_transition : (o : Option LooseTransition) (a b : LooseTransition) → o ≡ Some a → o ≡ Some b → a ≡ b
one_transition o a b is is' = cc

-- what a machine took with its note is a move of the entry's transition, of which the note tells
record IsNotedMove (class : ℕ → ℕ) (old new : MachineView) (named : NamedEntry) (note : NoteView) : Type 0 where
  own : Footprint
  order : IsInOrder (state_at new)
  step : IsMove class (design_of old.code) (state_at old) named.transition own (state_at new)
  owner : named.transition ≡ note.owner
  tells : TellsOf note own

noted_move : (class : ℕ → ℕ) (old new : MachineView) (named : NamedEntry) (note : NoteView) → IsInOrder (state_at old) → loose_transition_of class (state_at old) named.entry ≡ Some named.transition → IsEntryNoted class old.code (state_at old) named.entry note
    → IsTaken old.code (state_at old) old.lines named.entry (state_at new) new.lines → IsNotedMove class old new named note
noted_move class old new named note order its noted taken =
    let design = design_of old.code in
    let with_print : IsStepWith class design (state_at old) named.entry noted.own taken.effect = (step_is_loose class design (state_at old) named.entry taken.effect taken.is_step, noted.own_is) in
    let (own, lines, changes, ends) = footprint_tells class design (state_at old) named.entry noted.own taken.effect order with_print in
    let same : noted.own.owner ≡ named.transition = one_transition (loose_transition_of class (state_at old) named.entry) noted.own.owner named.transition own its in
    record {
      own = noted.own;
      order = subst IsInOrder taken.state_is (loose_step_keeps_order class design (state_at old) named.entry taken.effect order with_print.0);
      step = (named.entry, taken.effect, with_print, same, taken.state_is);
      owner = sym same ∙ noted.tells.owner;
      tells = noted.tells;
    }

steps_more : (class : ℕ → ℕ) (old mid new : MachineView) (order : IsInOrder (state_at old)) (notes : List NoteView) (moves : List LooseTransition) (named : NamedEntry) (note : NoteView) → AreNotedSteps class old order notes moves mid → mid.code ≡ old.code
    → (IsInOrder (state_at mid) → IsNotedMove class mid new named note) → AreNotedSteps class old order (notes ++ note ∷ []) (moves ++ named.transition ∷ []) new
steps_more class old mid new order notes moves named note so_far code next =
    let one : IsNotedMove class mid new named note = next so_far.new_order in
    let step : IsMove class (design_of old.code) (state_at mid) named.transition one.own (state_at new) =
    subst (λ (k : Compiled). IsMove class (design_of k) (state_at mid) named.transition one.own (state_at new)) code one.step in
    record {
      steps = so_far.steps ++ (named.transition, one.own) ∷ [];
      new_order = one.order;
      runs = runs_more class (design_of old.code) so_far.steps (state_at old, order) (state_at mid, so_far.new_order) (state_at new, one.order) named.transition one.own so_far.runs step;
      tells = tell_more notes so_far.steps note named.transition one.own so_far.tells one.owner one.tells;
      moves_are = ap (λ (l : List LooseTransition). l ++ named.transition ∷ []) so_far.moves_are ∙ sym (map-append (λ (x : LooseTransition × Footprint). x.0) so_far.steps ((named.transition, one.own) ∷ []));
    }

pub noted_none : (class : ℕ → ℕ) (limits : Limits) (m : MachineView) (notes : List NoteView) (moves : List LooseTransition) → notes ≡ [] → moves ≡ [] → TakesNoted class limits m notes moves m
noted_none class limits m notes moves none none' =
    subst (λ (l : List NoteView). TakesNoted class limits m l moves m) (sym none)
    (subst (λ (l : List LooseTransition). TakesNoted class limits m [] l m) (sym none')
    (record { takes = takes_none class limits m [] refl; noted = λ order. record { steps = []; new_order = order; runs = refl; tells = tt; moves_are = refl } }))

pub noted_more : (class : ℕ → ℕ) (limits : Limits) (old mid new : MachineView) (notes more : List NoteView) (way longer : List LooseTransition) (named : NamedEntry) → TakesNoted class limits old notes way mid → mid.code ≡ old.code → IsEventStep class (state_at mid) named
    → HasAddedNote class mid named new notes more way longer → TakesNoted class limits old more longer new
noted_more class limits old mid new notes more way longer named so_far code event added =
    subst (λ (l : List NoteView). TakesNoted class limits old l longer new) (sym added.notes_are)
    (record {
      takes = takes_more class limits old mid new way longer named so_far.takes code event added.taken added.count added.way_is;
      noted = λ order.
          subst (λ (l : List LooseTransition). AreNotedSteps class old order (notes ++ added.note ∷ []) l new) (sym added.way_is)
          (steps_more class old mid new order notes way named added.note (so_far.noted order) code (λ order'. noted_move class mid new named added.note order' event.transition_is added.noted added.taken));
    })

-- where nothing is active, nobody waits

none_in : (n : ℕ) (a : Action) (es : List Event) → es ≡ [] → action_in es n ≡ Some a → ⊥
none_in n a es none is =
    let gone : action_in es n ≡ None = ap (λ l. action_in l n) none in
    cc

nobody : (class : ℕ → ℕ) (s : State) → s.active ≡ [] → NobodyWaits class s
nobody class s none actor (n, a, is, own) = none_in n a s.active none is

some_steps : (class : ℕ → ℕ) (design : Design) (s t : OrderedState) (w : List (LooseTransition × Footprint)) → IsRunOfMoves (loose_moves class design) s w t → s.0.active ≢ [] → t.0.active ≡ [] → w ≢ []
some_steps class design s t [] run some over none = some (ap (λ (x : OrderedState). x.0.active) run ∙ over)
some_steps class design s t (x ∷ w) run some over none = cc

pub certified_sole : (class : ℕ → ℕ) (limits : Limits) (old new : MachineView) (moves : List LooseTransition) → (state_at old).active ≢ [] → HasCertified class limits old moves new → IsSoleLooseWay class limits old moves new
certified_sole class limits old new moves some done =
    let design = design_of old.code in
    record {
      taken = done.takes.takes.taken;
      sole = λ like.
          let steps : AreNotedSteps class old like.order done.notes moves new = done.takes.noted like.order in
          subst (λ l. StandsForAllLoosely class design limits (state_at old) l) (sym steps.moves_are)
          (certified_way_stands_for_all class design limits (state_at old) like.order (state_at new, steps.new_order) steps.steps
          (some_steps class design (state_at old, like.order) (state_at new, steps.new_order) steps.steps steps.runs some done.over) like steps.runs (done.certify class design steps.steps steps.tells) (nobody class (state_at new) done.over));
      count = done.takes.takes.count;
    }
