-- A node that is made again before an observer by the transitions of a run stands at that run.
use Rattle.std.proofs.Common.{◌≡◌, ℕ, List, [], ◌∷◌, ◌++◌, append_assoc, Result, Ok, Err, OnOk, refl, sym, ap, ◌∙◌, subst}
use Rattle.std.proofs.lemmas.List.{append-nil}
use Rattle.std.proofs.lemmas.List.Elements.{All-head, All-nil}
use Rattle.model.specs.declared.end.Limits.{Limits}
use Rattle.model.specs.States.{State}
use Rattle.model.specs.Runs.{Effect, silent, joined}
use Rattle.orders.specs.Alike.{IsInOrder}
use Rattle.design.specs.Compiled.{Compiled, design_of}
use Rattle.design.specs.DesignInvariant.{controls_of}
use Rattle.regions.specs.Machine.{MachineView, state_at}
use Rattle.loose.specs.declared.transition.LooseTransition.{LooseTransition}
use Rattle.loosesteps.specs.LooselyTaken.{IsTakenLoosely}
use Rattle.looseruns.specs.LooseMoves.{IsTimelyMove, AreTimelyMoves}
use Rattle.looseruns.specs.LooseGoing.{GoesLooselyTo}
use Rattle.looseruns.specs.ObservedGoing.{GoesObservedTo}
use Rattle.looseruns.specs.ObservedJournals.{Observer, effect_with_seen}
use Rattle.looseruns.specs.ObservedMoves.{SeesAlike, StaysInTime, seen_at_move}
use Rattle.looseruns.specs.ObservedRuns.{StandsObserved}
use Rattle.looseruns.proofs.RunsOfMoves.{timely_moves_before, timely_moves_after}
use Rattle.looseruns.proofs.ObservedGoing.{leads_on_observed, loose_way_is_observed, no_observed_move_stays, observed_ways_go_on}
use Rattle.looseruns.proofs.ObservedParts.{move_unseen, observed_of_more, observed_run_in_order, observed_text_is}
use Rattle.observers.specs.declared.observing.Observing.{Observing}
use Rattle.observers.specs.Observers.{observer_of}
use Rattle.observers.proofs.SeeingAlike.{observers_see_alike}
use Rattle.wavetexts.specs.Reading.{ReadText, read_on, tail_of, text_with, unread}
use Rattle.wavetexts.proofs.ReadTexts.{reads_on}
use Rattle.arrangedruns.specs.ArrangedRuns.{StandsArranged, read_of_moves}
use Rattle.lawful.specs.ArrangedNodes.{HasSeenAgain, HasSeenEach, HasSeenOne, IsMadeAgain, registers_seen, tail_at}
use Rattle.lawful.specs.LooseNodes.{HoldsEffect, IsReadyNode}
use Rattle.lawful.specs.declared.node.LooseNode.{LooseNode}
use Rattle.lawful.proofs.ArrangedWays.{reads_behind}
use Rattle.lawful.proofs.Ways.{in_state, taken_goes}

-- what was told before a transition, and its lines
told_on : (before old seen lines told mid new : List ℕ) → told ++ mid ≡ (before ++ old) ++ seen → new ≡ mid ++ lines → told ++ new ≡ (before ++ old) ++ (seen ++ lines)
told_on before old seen lines told mid new is longer =
    ap (λ l. told ++ l) longer ∙ (sym (append_assoc told mid lines) ∙ (ap (λ l. l ++ lines) is ∙ append_assoc (before ++ old) seen lines))

-- a transition was taken by a machine, behind what was told before it
pub seen_one : (class : ℕ → ℕ) (observe : Observer) (old mid new : MachineView) (before told : List ℕ) (transition : LooseTransition) → IsInOrder (state_at old) → IsInOrder (state_at new) → mid ≡ record old { lines = mid.lines }
    → told ++ mid.lines ≡ (before ++ old.lines) ++ seen_at_move observe (state_at old) transition → new.code ≡ mid.code → IsTakenLoosely class mid.code (state_at mid) mid.lines transition (state_at new) new.lines
    → HasSeenOne class observe old before transition new told
seen_one class observe old mid new before told transition order order' same is code taken =
    let seen = seen_at_move observe (state_at old) transition in
    let taken' : IsTakenLoosely class old.code (state_at old) mid.lines transition (state_at new) new.lines = subst (λ (p : MachineView). IsTakenLoosely class p.code (state_at p) mid.lines transition (state_at new) new.lines) same taken in
    let g : Effect = in_state taken'.effect (state_at new) in
    record {
      effect = effect_with_seen seen g;
      goes = λ limits timely.
          let now = All-head (IsTimelyMove limits) transition [] timely in
          let one : GoesLooselyTo class (design_of old.code) limits (state_at old) (transition ∷ []) g = taken_goes class old.code limits (state_at old) (state_at new) mid.lines new.lines transition order order' now taken' in
          loose_way_is_observed class (design_of old.code) limits observe (state_at old) (transition ∷ []) g (All-nil StaysInTime) one;
      state_is = refl;
      code_is = code ∙ ap (λ (p : MachineView). p.code) same;
      told_is = told_on before old.lines seen taken'.effect.lines told mid.lines new.lines is taken'.lines_are;
    }

-- no transition, and one more

pub seen_none : (class : ℕ → ℕ) (observe : Observer) (m : MachineView) (told : List ℕ) → IsInOrder (state_at m) → told ≡ [] → HasSeenEach class observe m [] m told
seen_none class observe m told order none =
    record {
      effect = silent (state_at m);
      goes = λ limits timely. no_observed_move_stays class (design_of m.code) limits observe (state_at m) order;
      state_is = refl;
      code_is = refl;
      told_is = none;
    }

pub seen_more : (class : ℕ → ℕ) (observe : Observer) (old m new : MachineView) (moves : List LooseTransition) (transition : LooseTransition) (text told : List ℕ) → SeesAlike observe → IsInOrder (state_at old) → HasSeenEach class observe old moves m (text ++ m.lines)
    → HasSeenOne class observe m text transition new told → HasSeenEach class observe old (moves ++ transition ∷ []) new (told ++ new.lines)
seen_more class observe old m new moves transition text told sees begun before one =
    let design = design_of old.code in
    let g : Effect = one.effect in
    record {
      effect = joined before.effect g;
      goes = λ limits timely.
          let first = before.goes limits (timely_moves_before limits moves (transition ∷ []) timely) in
          let now : AreTimelyMoves limits (transition ∷ []) = timely_moves_after limits moves (transition ∷ []) timely in
          let step : GoesObservedTo class design limits observe (state_at m) (transition ∷ []) g = subst (λ (k : Compiled). GoesObservedTo class (design_of k) limits observe (state_at m) (transition ∷ []) g) before.code_is (one.goes limits now) in
          let on : GoesObservedTo class design limits observe before.effect.state (transition ∷ []) g = subst (λ (s : State). GoesObservedTo class design limits observe s (transition ∷ []) g) before.state_is step in
          observed_ways_go_on class design limits observe (state_at old) before.effect g moves (transition ∷ []) sees begun first on;
      state_is = one.state_is;
      code_is = one.code_is ∙ before.code_is;
      told_is = one.told_is ∙ ap (λ l. l ++ g.lines) before.told_is;
    }

-- the lines that are left are told, too
pub seen_told : (class : ℕ → ℕ) (observe : Observer) (old m new : MachineView) (moves : List LooseTransition) (told all : List ℕ) → new ≡ record m { lines = [] } → all ≡ told → HasSeenEach class observe old moves m told → HasSeenEach class observe old moves new all
seen_told class observe old m new moves told all same is seen =
    record {
      effect = seen.effect;
      goes = seen.goes;
      state_is = ap state_at same ∙ seen.state_is;
      code_is = ap (λ (p : MachineView). p.code) same ∙ seen.code_is;
      told_is = is ∙ seen.told_is;
    }

-- the machine that is given back, once its lines are told
pub seen_again : (class : ℕ → ℕ) (observe : Observer) (old from m last : MachineView) (moves : List LooseTransition) (told all : List ℕ) → state_at from ≡ state_at old → from.code ≡ old.code → HasSeenEach class observe from moves m told → all ≡ told → state_at last ≡ state_at m → last.code ≡ m.code → last.lines ≡ []
    → last.core.controls ≡ controls_of last.code → HasSeenAgain class observe old moves last all
seen_again class observe old from m last moves told all state code seen same state' code' lines controls =
    record {
      seen = record {
        effect = seen.effect;
        goes = λ limits timely.
            subst (λ (s : State). GoesObservedTo class (design_of old.code) limits observe s moves seen.effect) state
            (subst (λ (k : Compiled). GoesObservedTo class (design_of k) limits observe (state_at from) moves seen.effect) code (seen.goes limits timely));
        state_is = state' ∙ seen.state_is;
        code_is = code' ∙ (seen.code_is ∙ code);
        told_is = same ∙ seen.told_is;
      };
      silent_is = lines;
      controls = controls;
    }

-- so it is where the transitions were taken, as a result says
pub seen_after : {E : Type 0} (class : ℕ → ℕ) (observe : Observer) (old from m last : MachineView) (moves : List LooseTransition) (told : List ℕ) (r : Result (Unit {0}) E) → state_at from ≡ state_at old → from.code ≡ old.code → last ≡ m → last.core.controls ≡ controls_of last.code
    → OnOk r (HasSeenEach class observe from moves m told) → OnOk r (m.lines ≡ []) → OnOk r (HasSeenAgain class observe old moves last told)
seen_after class observe old from m last moves told (Ok u) state code same controls seen silent =
    seen_again class observe old from m last moves told told state code seen refl (ap state_at same) (ap (λ (p : MachineView). p.code) same) (ap (λ (p : MachineView). p.lines) same ∙ silent) controls
seen_after class observe old from m last moves told (Err e) state code same controls seen silent = tt

pub made_seen_again : (class : ℕ → ℕ) (code : Compiled) (limits : Limits) (observing : Observing) (from node other : LooseNode) (run moves : List LooseTransition) → IsMadeAgain class observing from moves node
    → StandsArranged (HoldsEffect code) tail_at (registers_seen observing) class (design_of code) limits (observer_of observing) from run → StandsArranged (HoldsEffect code) tail_at (registers_seen observing) class (design_of code) limits (observer_of observing) other (run ++ moves)
    → StandsArranged (HoldsEffect code) tail_at (registers_seen observing) class (design_of code) limits (observer_of observing) node (run ++ moves)
made_seen_again class code limits observing from node other run moves again standing whole =
    let design = design_of code in
    let observe = observer_of observing in
    let registers = registers_seen observing in
    let sees = (observers_see_alike observing).0 in
    let at = standing.observed in
    let seen = again.gone.seen in
    let g = seen.effect in
    let timely : AreTimelyMoves limits moves = timely_moves_after limits run moves whole.observed.comes.1 in
    let there : GoesObservedTo class design limits observe (state_at from.machine.value) moves g = subst (λ (k : Compiled). GoesObservedTo class (design_of k) limits observe (state_at from.machine.value) moves g) at.holds.ready.code_is (seen.goes limits timely) in
    let goes : GoesObservedTo class design limits observe at.held.state moves g = subst (λ (s : State). GoesObservedTo class design limits observe s moves g) at.holds.state_is there in
    let i = observed_run_in_order class design observe run at.effect at.comes.0 in
    let (k, at_k, later) = leads_on_observed class design limits observe at.effect at.held g moves sees i at.in_order at.one_node goes in
    let code_is = seen.code_is ∙ at.holds.ready.code_is in
    let ready : IsReadyNode code node = record { code_is = code_is; controls = again.gone.controls ∙ ap controls_of code_is; silent = again.gone.silent_is } in
    let comes = observed_of_more class design limits observe run moves at.effect k at.comes at_k timely in
    let lines : k.lines ≡ at.effect.lines ++ again.told = later.0 ∙ (ap (λ l. l ++ g.lines) (sym at.one_node.0) ∙ ap (λ l. at.effect.lines ++ l) (sym seen.told_is)) in
    let before : read_of_moves registers class design observe run ≡ read_on registers unread at.effect.lines = ap (read_on registers unread) (observed_text_is class design observe run at.effect at.comes.0) in
    let read : read_of_moves registers class design observe (run ++ moves) ≡ read_on registers (read_of_moves registers class design observe run) again.told =
    ap (read_on registers unread) (observed_text_is class design observe (run ++ moves) k comes.0 ∙ lines) ∙ (reads_on registers unread at.effect.lines again.told ∙ ap (λ (t : ReadText). read_on registers t again.told) (sym before)) in
    let behind = reads_behind registers (read_of_moves registers class design observe run) (tail_at from) (text_with again.done node.tail) again.told standing.rest again.reads in
    record {
      observed = record {
        effect = k;
        held = joined at.held g;
        comes = comes;
        one_node = later;
        in_order = goes.in_order;
        holds = record { ready = ready; state_is = seen.state_is };
      };
      rest = sym (ap tail_of (read ∙ behind));
    }

-- what is told before a transition at which no time passes: nothing
pub told_nothing : (observe : Observer) (s : State) (transition : LooseTransition) (text lines : List ℕ) → StaysInTime transition → text ++ lines ≡ (text ++ lines) ++ seen_at_move observe s transition
told_nothing observe s transition text lines stays =
    sym (ap (λ l. (text ++ lines) ++ l) (move_unseen observe s transition stays) ∙ append-nil (text ++ lines))

-- and before one at which it does: what was printed, and what is seen
pub told_passing : {E : Type 0} (observe : Observer) (old mid : MachineView) (transition : LooseTransition) (r : Result (Unit {0}) E) (text told all : List ℕ) → seen_at_move observe (state_at old) transition ≡ observe (state_at old) → mid ≡ record old { lines = [] } → told ≡ text ++ old.lines
    → OnOk r (all ≡ told ++ observe (state_at mid)) → OnOk r (all ++ mid.lines ≡ (text ++ old.lines) ++ seen_at_move observe (state_at old) transition)
told_passing observe old mid transition (Ok u) text told all passes same is seen =
    ap (λ (p : MachineView). all ++ p.lines) same
    ∙ (append-nil all
    ∙ (seen
    ∙ (ap (λ (p : MachineView). told ++ observe (state_at p)) same
    ∙ (ap (λ l. l ++ observe (state_at old)) is ∙ sym (ap (λ l. (text ++ old.lines) ++ l) passes)))))
told_passing observe old mid transition (Err e) text told all passes same is seen = tt

-- a machine whose lines were taken is the same but for these
pub same_but_lines : (old new : MachineView) → new ≡ record old { lines = [] } → new ≡ record old { lines = new.lines }
same_but_lines old new same = same ∙ sym (ap (λ (l : List ℕ). record old { lines = l }) (ap (λ (p : MachineView). p.lines) same))
