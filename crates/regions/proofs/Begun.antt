-- The start stands.
use Rattle.std.proofs.Common.{◌≡◌, ℕ, List, [], ◌∷◌, map, length, refl, ◌∙◌, ap, arith}
use Rattle.std.proofs.lemmas.List.{length-replicate}
use Rattle.logic4.specs.declared.digit.Digit.TheVariants.{X}
use Rattle.logic4.specs.Vector.{Vector, unknown}
use Rattle.model.specs.States.{State, start}
use Rattle.design.specs.Compiled.{Compiled, design_of}
use Rattle.design.specs.DesignInvariant.{remainder_of_state, controls_of, IsStateOf}
use Rattle.regions.specs.Queue.{Core, state_of}
use Rattle.regions.specs.StatePassing.{HasOwnStates}
use Rattle.regions.specs.Machine.{Stands}

-- the widths of registers that are all x
lengths_unknown : (widths : List ℕ) → map length (map unknown widths) ≡ widths
lengths_unknown [] = refl
lengths_unknown (w ∷ ws) = λ i. length-replicate w X i ∷ lengths_unknown ws i

pub first_state : (code : Compiled) (core : Core) (values : List Vector) → values ≡ map unknown code.widths
    → state_of (remainder_of_state code) (map unknown code.widths) core ≡ start (design_of code) → state_of (remainder_of_state code) values core ≡ start (design_of code)
first_state code core values store first = ap (λ (vs : List Vector). state_of (remainder_of_state code) vs core) store ∙ first

pub stands_first : (code : Compiled) (core : Core) (values : List Vector) → values ≡ map unknown code.widths
    → state_of (remainder_of_state code) (map unknown code.widths) core ≡ start (design_of code)
    → core.entries ≡ 0 → core.widths ≡ code.widths → core.controls ≡ controls_of code → HasOwnStates (IsStateOf code) core → Stands code core values
stands_first code core values store first entries widths controls states = record {
  widths = widths;
  controls = controls;
  store = ap (λ (vs : List Vector). map length vs) store ∙ lengths_unknown code.widths;
  states = states;
  time = let same : core.time ≡ 0 = ap (λ (s : State). s.time) first in rw same (omega arith);
  few = rw entries (omega arith);
}
