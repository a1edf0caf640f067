-- The lawful journal of a loose run from which no run comes to an end.
use Rattle.std.proofs.Common.{◌≡◌, ℕ, List, Option, Some, sym, ap, ◌∙◌, subst}
use Rattle.model.specs.declared.entry.Entry.{Entry}
use Rattle.model.specs.declared.end.Limits.{Limits}
use Rattle.model.specs.States.{State, start}
use Rattle.model.specs.Runs.{Effect, run}
use Rattle.model.specs.Texts.{IsEndlessJournal}
use Rattle.design.specs.Compiled.{Compiled, design_of}
use Rattle.design.specs.DesignInvariant.{controls_of, remainder_of_state}
use Rattle.regions.specs.Machine.{MachineView, state_at}
use Rattle.regions.specs.Queue.{state_of}
use Rattle.runs.specs.RunRecords.{HasComeTo}
use Rattle.statekeys.specs.ClassKeys.{IsClassKey}
use Rattle.statekeys.proofs.ClassKeys.{class_keys_tell_states}
use Rattle.explore.specs.Search.{IsEndless}
use Rattle.loose.specs.declared.transition.LooseTransition.{LooseTransition}
use Rattle.loose.specs.Loose.{AlikeIn}
use Rattle.loose.proofs.ClassStates.{states_in-sym, states_in-trans}
use Rattle.looseruns.specs.LooseGoing.{GoesLooselyTo}
use Rattle.looseruns.proofs.LooseSearches.{loose_endless_is_endless}
use Rattle.looseruns.specs.LooseMoves.{moves_run}
use Rattle.lawful.specs.Again.{HasGoneAgain, LeadLooselyTo}
use Rattle.lawful.specs.LooseNodes.{HoldsEffect, searched_runs}

-- machines of one design and one class key stand in states that are alike in classes
pub keys_alike : (class : ℕ → ℕ) (one other : MachineView) (key : List ℕ) → one.code ≡ other.code → one.core.controls ≡ controls_of one.code → other.core.controls ≡ controls_of other.code → IsClassKey class one.core one.values key → IsClassKey class other.core other.values key → AlikeIn class (state_at one) (state_at other)
keys_alike class one other key code of_one of_other keyed keyed' =
    let controls : one.core.controls ≡ other.core.controls = of_one ∙ (ap controls_of code ∙ sym of_other) in
    let alike : AlikeIn class (state_at one) (state_of (remainder_of_state one.code) other.values other.core) =
    class_keys_tell_states class (remainder_of_state one.code) one.core other.core one.values other.values key controls keyed keyed' in
    subst (λ (k : Compiled). AlikeIn class (state_at one) (state_of (remainder_of_state k) other.values other.core)) code alike

same_outcome : (o : Option Effect) (a b : Effect) → o ≡ Some a → o ≡ Some b → a ≡ b
same_outcome o a b is is' = cc

-- where a machine stands that took loose transitions from the start, and each that stands alike
pub leads_there : (class : ℕ → ℕ) (code : Compiled) (moves : List LooseTransition) (begun loosely : MachineView) (s : State) → begun.code ≡ code → state_at begun ≡ start (design_of code) → HasGoneAgain class begun moves loosely → AlikeIn class s (state_at loosely) → LeadLooselyTo class code moves s
leads_there class code moves begun loosely s code_is state again alike limits e comes =
    let design = design_of code in
    let g : Effect = again.gone.effect in
    let here : GoesLooselyTo class design limits (state_at begun) moves g = subst (λ (k : Compiled). GoesLooselyTo class (design_of k) limits (state_at begun) moves g) code_is (again.gone.goes limits comes.1) in
    let there : GoesLooselyTo class design limits (start design) moves g = subst (λ (x : State). GoesLooselyTo class design limits x moves g) state here in
    let same : there.effect ≡ e = same_outcome (moves_run class design moves) there.effect e there.goes comes.0 in
    let near : AlikeIn class e.state g.state = subst (λ (x : Effect). AlikeIn class x.state g.state) same there.one_node.1 in
    let like : AlikeIn class s g.state = subst (AlikeIn class s) again.gone.state_is alike in
    states_in-trans class e.state g.state s near (states_in-sym class s g.state like)

-- a journal that leads to a state which is alike to where such a loose run leads
pub endless_if_alike : (class : ℕ → ℕ) (code : Compiled) (limits : Limits) (journal : List Entry) (moves : List LooseTransition) (m : MachineView) → IsEndless (searched_runs code class limits) moves → HasComeTo limits journal m → m.code ≡ code
    → LeadLooselyTo class code moves (state_at m) → IsEndlessJournal (design_of code) limits journal
endless_if_alike class code limits journal moves m endless come of_code leads =
    let design = design_of code in
    let at = endless.stands in
    let near : AlikeIn class at.effect.state (state_at m) = leads limits at.effect at.comes in
    let led : AlikeIn class come.effect.state at.effect.state = subst (λ (s : State). AlikeIn class s at.effect.state) (sym come.state_is) (states_in-sym class at.effect.state (state_at m) near) in
    let lawful : run design journal ≡ Some come.effect = subst (λ (k : Compiled). run (design_of k) journal ≡ Some come.effect) of_code come.lawful in
    record {
      effect = come.effect;
      lawful = (lawful, come.timely);
      within = come.few;
      never = λ more end (g, at_g, here). loose_endless_is_endless (HoldsEffect code) class design limits journal come.effect moves at.effect lawful come.timely at.comes led endless.never more g end at_g.0 at_g.1 here;
    }
