-- Transitions that a machine takes again.
use Rattle.std.proofs.Common.{◌≡◌, ℕ, ◌+◌, List, [], ◌∷◌, ◌++◌, refl, sym, ap, subst, ◌∙◌, append_assoc, arith, length-append}
use Rattle.std.proofs.lemmas.List.{append-nil}
use Rattle.std.proofs.lemmas.List.Elements.{All-head}
use Rattle.model.specs.declared.end.Limits.{Limits}
use Rattle.model.specs.States.{State}
use Rattle.model.specs.Runs.{Effect, silent, joined}
use Rattle.orders.specs.Alike.{IsInOrder}
use Rattle.design.specs.Compiled.{Compiled, design_of}
use Rattle.regions.specs.Machine.{MachineView, state_at}
use Rattle.loose.specs.declared.transition.LooseTransition.{LooseTransition}
use Rattle.loose.proofs.ClassStates.{states_in-trans}
use Rattle.loosesteps.specs.LooselyTaken.{IsTakenLoosely}
use Rattle.looseruns.specs.LooseMoves.{IsTimelyMove}
use Rattle.looseruns.specs.LooseGoing.{GoesLooselyTo}
use Rattle.looseruns.proofs.Moves.{transition_is_timely}
use Rattle.looseruns.proofs.RunsOfMoves.{timely_moves_before, timely_moves_after}
use Rattle.looseruns.proofs.LooseGoing.{no_move_stays, loose_step_goes_on, loose_ways_go_on}
use Rattle.loosewalks.specs.Checkpoints.{HasTakenAgain}

-- an effect as it is, but in another state
abbrev in_state : Effect → State → Effect
in_state e s = record e { state = s }

-- what a machine came to by a transition that it took, where a state is one node with what comes of the step
taken_goes : (class : ℕ → ℕ) (code : Compiled) (limits : Limits) (s new : State) (before lines : List ℕ) (transition : LooseTransition) → IsInOrder s → IsInOrder new → IsTimelyMove limits transition → (taken : IsTakenLoosely class code s before transition new lines)
    → GoesLooselyTo class (design_of code) limits s (transition ∷ []) (in_state taken.effect new)
taken_goes class code limits s new before lines transition order order' timely taken =
    let x = loose_step_goes_on class (design_of code) limits s taken.entry taken.effect transition order taken.is_step ((transition_is_timely class limits s taken.entry transition taken.transition_is).1 timely) taken.transition_is in
    record {
      effect = x.effect;
      goes = x.goes;
      timely = x.timely;
      one_node = (x.one_node.0, states_in-trans class x.effect.state taken.effect.state new x.one_node.1 taken.alike);
      in_order = order';
    }

pub again_none : (class : ℕ → ℕ) (m : MachineView) → IsInOrder (state_at m) → HasTakenAgain class m [] m
again_none class m order =
    record {
      effect = silent (state_at m);
      goes = λ limits timely. no_move_stays class (design_of m.code) limits (state_at m) order;
      state_is = refl;
      lines_are = sym (append-nil m.lines);
      count = omega arith;
      code_is = refl;
    }

-- one transition more
pub again_more : (class : ℕ → ℕ) (old m new : MachineView) (moves : List LooseTransition) (transition : LooseTransition) → IsInOrder (state_at old) → IsInOrder (state_at m) → IsInOrder (state_at new) → HasTakenAgain class old moves m → new.code ≡ m.code
    → new.core.entries ≡ m.core.entries + 1 → IsTakenLoosely class m.code (state_at m) m.lines transition (state_at new) new.lines → HasTakenAgain class old (moves ++ transition ∷ []) new
again_more class old m new moves transition begun order order' again code count taken =
    let taken' : IsTakenLoosely class old.code (state_at m) m.lines transition (state_at new) new.lines = subst (λ (k : Compiled). IsTakenLoosely class k (state_at m) m.lines transition (state_at new) new.lines) again.code_is taken in
    let design = design_of old.code in
    let g : Effect = in_state taken'.effect (state_at new) in
    record {
      effect = joined again.effect g;
      goes = λ limits timely.
          let first = again.goes limits (timely_moves_before limits moves (transition ∷ []) timely) in
          let now = All-head (IsTimelyMove limits) transition [] (timely_moves_after limits moves (transition ∷ []) timely) in
          let one : GoesLooselyTo class design limits (state_at m) (transition ∷ []) g = taken_goes class old.code limits (state_at m) (state_at new) m.lines new.lines transition order order' now taken' in
          let on : GoesLooselyTo class design limits again.effect.state (transition ∷ []) g = subst (λ (s : State). GoesLooselyTo class design limits s (transition ∷ []) g) again.state_is one in
          loose_ways_go_on class design limits (state_at old) again.effect g moves (transition ∷ []) begun first on;
      state_is = refl;
      lines_are = taken'.lines_are ∙ (ap (λ l. l ++ taken'.effect.lines) again.lines_are ∙ append_assoc old.lines again.effect.lines taken'.effect.lines);
      count = omega (arith, again.count, count, length-append moves (transition ∷ []));
      code_is = code ∙ again.code_is;
    }
