-- reg a, b; initial a<=1'b1; initial b<=1'b1; initial @(b) $display("%b",a); Where the registers are of different classes, the loose runs
-- have both texts after turns in one order. Where they are of one class, each order of the turns has one text.
use Rattle.std.specs.Prelude.{◌≡◌, ℕ, true, false, List, [], ◌∷◌, ◌++◌, codes, refl, Option, Some, None}
use Rattle.std.proofs.lemmas.List.Elements.{All-from_recursion}
use Rattle.logic4.specs.declared.digit.Digit.TheVariants.{One}
use Rattle.logic4.specs.declared.conversion.Conversion.TheVariants.{Binary}
use Rattle.model.specs.declared.tree.Task.TheVariants as Task
use Rattle.model.specs.declared.tree.Change.TheVariants.{Any}
use Rattle.model.specs.declared.entry.Entry.TheVariants.{ActivateNba}
use Rattle.model.specs.declared.end.Limits.{Limits}
use Rattle.model.specs.declared.end.End.TheVariants.{Quiet}
use Rattle.model.specs.Syntax.{Register, Literal, Nothing, Also}
use Rattle.model.specs.Design.{Design, Process, Statement, AssignLater, Await, Print, Statements, End, Then}
use Rattle.model.specs.Syntax.{Argument}
use Rattle.model.specs.Turns.{turn_within}
use Rattle.model.specs.Runs.{Effect, is_quiet}
use Rattle.loose.specs.declared.transition.LooseTransition.{LooseTransition}
use Rattle.loose.specs.declared.transition.LooseTransition.TheVariants.{FirstOf, Change}
use Rattle.loose.specs.declared.transition.LooseTransition.TheVariants as transitions
use Rattle.looseruns.specs.LooseMoves.{moves_run, IsTimelyMove, AreTimelyMoves}
use Rattle.looseruns.specs.LooseRuns.{MayEndLoosely, text_of_moves}

abbrev initial : Statements → Process
initial body = record { repeats = false; body = body }

abbrev set : ℕ → Statement
set r = AssignLater r 0 (Literal (One ∷ []))

abbrev show_when : ℕ → ℕ → Statement
show_when b a = Await ((Any, b) ∷ []) (Then (Print Task.Display (Argument Binary ∷ []) (Also (Register a) Nothing)) End)

abbrev pub two_makers : Design
two_makers = record { widths = 1 ∷ 1 ∷ []; processes = initial (Then (set 0) End) ∷ initial (Then (set 1) End) ∷ initial (Then (show_when 1 0) End) ∷ [] }

abbrev limits : Limits
limits = record { until = None; max_entries = 7 }

-- each register is a class of its own, and all registers are one class
abbrev apart : ℕ → ℕ
apart r = r

abbrev together : ℕ → ℕ
together r = 0

-- the turns of all processes, and the change to their updates
abbrev in_order : List LooseTransition
in_order = transitions.Process 0 ∷ transitions.Process 1 ∷ transitions.Process 2 ∷ Change ActivateNba ∷ []

abbrev turned : List LooseTransition
turned = transitions.Process 1 ∷ transitions.Process 0 ∷ transitions.Process 2 ∷ Change ActivateNba ∷ []

-- a's update comes before the line, and after it
abbrev early : List LooseTransition
early = in_order ++ FirstOf 0 ∷ FirstOf 1 ∷ transitions.Process 2 ∷ []

abbrev late : List LooseTransition
late = in_order ++ FirstOf 1 ∷ transitions.Process 2 ∷ FirstOf 0 ∷ []

pub both_texts : (text_of_moves apart two_makers early ≡ codes "1" ++ 10 ∷ []) × (text_of_moves apart two_makers late ≡ codes "x" ++ 10 ∷ [])
unfolding turn_within
both_texts = (refl, refl)

-- a run may end quietly where nothing is left and it hasn't finished
abbrev IsOver : Option Effect → Type 0
IsOver None = ⊥
IsOver (Some e) = (is_quiet e.state ≡ true) × (e.state.finished ≡ false)

quietly : (class : ℕ → ℕ) (design : Design) (transitions : List LooseTransition) (o : Option Effect) → moves_run class design transitions ≡ o → IsOver o → AreTimelyMoves limits transitions → MayEndLoosely class design limits transitions Quiet
quietly class design transitions None is over timely = absurd over
quietly class design transitions (Some e) is over timely = (e, (is, timely), (λ h. cc, λ h. cc, over))

pub both_end : MayEndLoosely apart two_makers limits early Quiet × MayEndLoosely apart two_makers limits late Quiet
unfolding turn_within
both_end = (
  quietly apart two_makers early (moves_run apart two_makers early) refl (refl, refl) (All-from_recursion (IsTimelyMove limits) early (tt, (tt, (tt, (tt, (tt, (tt, (tt, tt)))))))),
  quietly apart two_makers late (moves_run apart two_makers late) refl (refl, refl) (All-from_recursion (IsTimelyMove limits) late (tt, (tt, (tt, (tt, (tt, (tt, (tt, tt)))))))),
)

-- where the registers are of one class, the first update is that of the first turn, and no process is woken before b's
pub one_class_texts : (text_of_moves together two_makers (in_order ++ FirstOf 0 ∷ FirstOf 0 ∷ transitions.Process 2 ∷ []) ≡ codes "1" ++ 10 ∷ []) × (moves_run together two_makers (in_order ++ FirstOf 0 ∷ transitions.Process 2 ∷ []) ≡ None)
    × (text_of_moves together two_makers (turned ++ FirstOf 0 ∷ transitions.Process 2 ∷ FirstOf 0 ∷ []) ≡ codes "x" ++ 10 ∷ [])
unfolding turn_within
one_class_texts = (refl, refl, refl)

-- initial begin a<=1'b1; b<=1'b1; end initial @(b) $display("%b",a); By one maker a's update comes first, so the line is 1; where the
-- registers are of different classes, a loose run prints x.
abbrev pub one_maker : Design
one_maker = record { widths = 1 ∷ 1 ∷ []; processes = initial (Then (set 0) (Then (set 1) End)) ∷ initial (Then (show_when 1 0) End) ∷ [] }

abbrev made : List LooseTransition
made = transitions.Process 0 ∷ transitions.Process 1 ∷ Change ActivateNba ∷ []

pub loose_alone : (text_of_moves apart one_maker (made ++ FirstOf 1 ∷ transitions.Process 1 ∷ FirstOf 0 ∷ []) ≡ codes "x" ++ 10 ∷ []) × (moves_run together one_maker (made ++ FirstOf 1 ∷ []) ≡ None)
    × (text_of_moves together one_maker (made ++ FirstOf 0 ∷ FirstOf 0 ∷ transitions.Process 1 ∷ []) ≡ codes "1" ++ 10 ∷ [])
unfolding turn_within
loose_alone = (refl, refl, refl)
