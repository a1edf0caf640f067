-- One observed text is one wave of the registers that are seen.
use Rattle.std.proofs.Common.{◌≡◌, ◌∙◌, ℕ, Bool, true, false, if◌then◌else◌, List, [], ◌∷◌, sym, ap}
use Rattle.model.specs.Design.{Design}
use Rattle.looseruns.specs.RegisterObserver.{seen_registers}
use Rattle.looseruns.specs.RegisterSights.{PrintsNoMark}
use Rattle.looseruns.proofs.RegistersSeen.{unfinished_text_is_text}
use Rattle.looseruns.proofs.SightLines.{sights_tell_registers}
use Rattle.looseruns.proofs.Sights.{one_text_is_one_wave}
use Rattle.observers.specs.declared.observing.Observing.TheVariants.{Lines, Registers}
use Rattle.observers.specs.OneWave.{OneTextTellsRegisters, OneSightTellsRegisters}

pub one_text_tells_registers : (design : Design) → PrintsNoMark design → OneTextTellsRegisters design
one_text_tells_registers design no_mark Lines one other text front e sees first second passes = absurd sees
one_text_tells_registers design no_mark (Registers registers) one other text front e sees first second passes =
    let observe = seen_registers registers.items in
    one_text_is_one_wave design registers.items one other text front e no_mark
    (sym (unfinished_text_is_text design observe one) ∙ first) (sym (unfinished_text_is_text design observe other) ∙ second) passes

-- where the one has something, so has the other
both_seen : (b : Bool) (x : ℕ) (xs ys : List ℕ) → x ∷ xs ≡ (if b then [] else ys) → x ∷ xs ≡ ys
both_seen true x xs ys h = cc
both_seen false x xs ys h = h

pub one_sight_tells_registers : OneSightTellsRegisters
one_sight_tells_registers Lines s t sees low low' unfinished same = absurd sees
one_sight_tells_registers (Registers registers) s t sees low low' unfinished same =
    let observe = seen_registers registers.items in
    let here : observe s ≡ (if s.finished then [] else observe s) = sym (ap (λ (b : Bool). if b then [] else observe s) unfinished) in
    sights_tell_registers registers.items s t low low' (both_seen t.finished _ _ (observe t) (here ∙ same))
