-- Turns under way: what a process has done after so many counted steps of a turn that isn't over yet.
use Rattle.std.specs.Prelude.{ℕ, zero, suc, List, Option, Some, None}
use Rattle.std.specs.Option.{option_and_then, option_map}
use Rattle.model.specs.Design.{Design}
use Rattle.model.specs.Expressions.{Store}
use Rattle.model.specs.Turns.{Remainder, Going, Next, Goes, Over, begun, next, most_steps}

-- the turn under way after a counted step, where that doesn't end it
abbrev pub under_way : Next → Option Going
under_way (Goes g) = Some g
under_way (Over turn) = None

-- the turn under way after this many counted steps, where they don't end it
unfoldable pub going_after : ℕ → Design → ℕ → ℕ → Going → Option Going
going_after zero design p now g = Some g
going_after (suc k) design p now g = option_and_then (λ h. under_way (next design p now h h.left)) (going_after k design p now g)

-- The registers that a turn uses, in the order of first use and without those that it wrote before, in its first counted
-- steps: as many as a turn may have. There are none where it is over before.
abbrev pub long_turn_uses : Design → ℕ → Remainder → Store → ℕ → Option (List ℕ)
long_turn_uses design p remainder store now = option_map (λ g. g.uses) (going_after most_steps design p now (begun remainder store))
