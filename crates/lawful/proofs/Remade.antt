-- A node that is made again by the transitions of a run stands at that run.
use Rattle.std.proofs.Common.{◌≡◌, ℕ, List, [], ◌∷◌, ◌++◌, append_assoc, refl, sym, ap, ◌∙◌, subst}
use Rattle.std.proofs.lemmas.List.{append-nil}
use Rattle.model.specs.declared.end.Limits.{Limits}
use Rattle.model.specs.States.{State}
use Rattle.model.specs.Runs.{Effect, silent, joined}
use Rattle.orders.specs.Alike.{IsInOrder}
use Rattle.design.specs.Compiled.{Compiled, design_of}
use Rattle.design.specs.DesignInvariant.{controls_of}
use Rattle.regions.specs.Machine.{MachineView, state_at}
use Rattle.loose.specs.declared.transition.LooseTransition.{LooseTransition}
use Rattle.loosesteps.specs.LooselyTaken.{IsTakenLoosely}
use Rattle.looseruns.specs.LooseMoves.{IsTimelyMove, AreTimelyMoves}
use Rattle.looseruns.specs.LooseRuns.{StandsLoosely}
use Rattle.looseruns.specs.LooseGoing.{GoesLooselyTo}
use Rattle.looseruns.proofs.RunsOfMoves.{timely_moves_before, timely_moves_after, comes_of_more, moves_run_in_order}
use Rattle.looseruns.proofs.LooseGoing.{no_move_stays, loose_ways_go_on, leads_on}
use Rattle.lawful.specs.Again.{HasGoneBy, HasTakenEach, HasGoneAgain}
use Rattle.lawful.specs.LooseNodes.{IsReadyNode, HoldsEffect}
use Rattle.lawful.specs.declared.node.LooseNode.{LooseNode}
use Rattle.lawful.proofs.Ways.{in_state, taken_goes}
use Rattle.std.proofs.lemmas.List.Elements.{All-head}

pub gone_nowhere : (class : ℕ → ℕ) (m : MachineView) → IsInOrder (state_at m) → HasGoneBy class m [] m
gone_nowhere class m order =
    record {
      effect = silent (state_at m);
      goes = λ limits timely. no_move_stays class (design_of m.code) limits (state_at m) order;
      state_is = refl;
      code_is = refl;
    }

-- one transition more
pub gone_more : (class : ℕ → ℕ) (old m new : MachineView) (moves : List LooseTransition) (transition : LooseTransition) → IsInOrder (state_at old) → IsInOrder (state_at m) → IsInOrder (state_at new) → HasGoneBy class old moves m → new.code ≡ m.code
    → IsTakenLoosely class m.code (state_at m) m.lines transition (state_at new) new.lines → HasGoneBy class old (moves ++ transition ∷ []) new
gone_more class old m new moves transition begun order order' gone code taken =
    let taken' : IsTakenLoosely class old.code (state_at m) m.lines transition (state_at new) new.lines = subst (λ (k : Compiled). IsTakenLoosely class k (state_at m) m.lines transition (state_at new) new.lines) gone.code_is taken in
    let design = design_of old.code in
    let g : Effect = in_state taken'.effect (state_at new) in
    record {
      effect = joined gone.effect g;
      goes = λ limits timely.
          let first = gone.goes limits (timely_moves_before limits moves (transition ∷ []) timely) in
          let now = All-head (IsTimelyMove limits) transition [] (timely_moves_after limits moves (transition ∷ []) timely) in
          let one : GoesLooselyTo class design limits (state_at m) (transition ∷ []) g = taken_goes class old.code limits (state_at m) (state_at new) m.lines new.lines transition order order' now taken' in
          let on : GoesLooselyTo class design limits gone.effect.state (transition ∷ []) g = subst (λ (s : State). GoesLooselyTo class design limits s (transition ∷ []) g) gone.state_is one in
          loose_ways_go_on class design limits (state_at old) gone.effect g moves (transition ∷ []) begun first on;
      state_is = refl;
      code_is = code ∙ gone.code_is;
    }

-- no transition, or one more, and the lines

pub taken_nowhere : (class : ℕ → ℕ) (m : MachineView) → IsInOrder (state_at m) → HasTakenEach class m [] m
unfolding gone_nowhere
taken_nowhere class m order = record { gone = gone_nowhere class m order; lines_are = sym (append-nil m.lines) }

pub taken_more : (class : ℕ → ℕ) (old m new : MachineView) (moves : List LooseTransition) (transition : LooseTransition) → IsInOrder (state_at old) → IsInOrder (state_at m) → IsInOrder (state_at new) → HasTakenEach class old moves m → new.code ≡ m.code
    → IsTakenLoosely class m.code (state_at m) m.lines transition (state_at new) new.lines → HasTakenEach class old (moves ++ transition ∷ []) new
unfolding gone_more
taken_more class old m new moves transition begun order order' before code taken =
    let taken' : IsTakenLoosely class old.code (state_at m) m.lines transition (state_at new) new.lines = subst (λ (k : Compiled). IsTakenLoosely class k (state_at m) m.lines transition (state_at new) new.lines) before.gone.code_is taken in
    let lines : new.lines ≡ old.lines ++ (before.gone.effect.lines ++ taken'.effect.lines) =
    taken'.lines_are ∙ (ap (λ ls. ls ++ taken'.effect.lines) before.lines_are ∙ append_assoc old.lines before.gone.effect.lines taken'.effect.lines) in
    record { gone = gone_more class old m new moves transition begun order order' before.gone code taken; lines_are = lines }

-- the machine that is given back
pub gone_again : (class : ℕ → ℕ) (old m new last : MachineView) (moves : List LooseTransition) → HasGoneBy class old moves m → state_at last ≡ state_at m → last.code ≡ m.code → last.lines ≡ [] → last.core.controls ≡ controls_of last.code → HasGoneAgain class old moves last
gone_again class old m new last moves gone state code lines controls =
    record {
      gone = record { effect = gone.effect; goes = gone.goes; state_is = state ∙ gone.state_is; code_is = code ∙ gone.code_is };
      silent_is = lines;
      controls = controls;
    }

pub made_again : (class : ℕ → ℕ) (code : Compiled) (limits : Limits) (from node other : LooseNode) (run moves : List LooseTransition) → HasGoneAgain class from.machine.value moves node.machine.value
    → StandsLoosely (HoldsEffect code) class (design_of code) limits from run → StandsLoosely (HoldsEffect code) class (design_of code) limits other (run ++ moves) → StandsLoosely (HoldsEffect code) class (design_of code) limits node (run ++ moves)
made_again class code limits from node other run moves again at whole =
    let design = design_of code in
    let timely : AreTimelyMoves limits moves = timely_moves_after limits run moves whole.comes.1 in
    let here = again.gone.goes limits timely in
    let g = again.gone.effect in
    let there : GoesLooselyTo class design limits (state_at from.machine.value) moves g = subst (λ (k : Compiled). GoesLooselyTo class (design_of k) limits (state_at from.machine.value) moves g) at.holds.ready.code_is here in
    let goes : GoesLooselyTo class design limits at.held.state moves g = subst (λ (s : State). GoesLooselyTo class design limits s moves g) at.holds.state_is there in
    let i = moves_run_in_order class design run at.effect at.comes.0 in
    let (k, at_k, later) = leads_on class design limits at.effect at.held g moves i at.in_order at.one_node goes in
    let code_is = again.gone.code_is ∙ at.holds.ready.code_is in
    let ready : IsReadyNode code node = record { code_is = code_is; controls = again.controls ∙ ap controls_of code_is; silent = again.silent_is } in
    record {
      effect = k;
      held = joined at.held g;
      comes = comes_of_more class design limits run moves at.effect k at.comes at_k timely;
      one_node = later;
      in_order = goes.in_order;
      holds = record { ready = ready; state_is = again.gone.state_is };
    }
