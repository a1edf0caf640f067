-- A walk goes on by a way that stands for all, or goes back to its checkpoint and on by its moves since.
use Rattle.std.proofs.Common.{◌≡◌, ◌≤◌, ℕ, Bool, true, List, [], ◌++◌, Option, Some, None, Result, Ok, Err, Vec, Global, refl, sym, ap, subst, ◌∙◌, append_assoc, arith, length-append}
use Rattle.std.specs.Prelude.{IfSome, IfOk, OnOk, IsOk}
use Rattle.model.specs.declared.end.Limits.{Limits}
use Rattle.model.specs.States.{State}
use Rattle.model.specs.Runs.{Effect, joined}
use Rattle.orders.specs.Alike.{IsInOrder}
use Rattle.design.specs.Compiled.{Compiled, design_of}
use Rattle.regions.specs.declared.state.MadeEvent.{MadeEvent}
use Rattle.regions.specs.Machine.{MachineView, state_at}
use Rattle.combinational.specs.declared.network.Network.{Network}
use Rattle.settling.specs.declared.begin.Begin.{Begin}
use Rattle.settling.specs.Settling.{IsPhaseOf, MayBeHeld}
use Rattle.settling.specs.Settled.{IsBeginOf, HasComeToRest}
use Rattle.loose.specs.declared.transition.LooseTransition.{LooseTransition}
use Rattle.looseruns.specs.LooseMoves.{AreTimelyMoves}
use Rattle.looseruns.specs.LooseGoing.{GoesLooselyTo}
use Rattle.looseruns.proofs.RunsOfMoves.{timely_moves_after}
use Rattle.looseruns.proofs.LooseGoing.{loose_ways_go_on}
use Rattle.loosewalks.specs.declared.checkpoint.Walk.{Walk}
use Rattle.loosewalks.specs.Sole.{StandsForAllLoosely, IsLikeReached}
use Rattle.loosewalks.specs.LooseWalking.{IsSoleLooseWay}
use Rattle.loosewalks.specs.Checkpoints.{AreOfCode, WalkGoesOn, HasCome, WalkHasComeTo, HasTakenAgain, IsOfCodeToo, IsWalk, moves_of}
use Rattle.loosewalks.proofs.Walks.{counted_on, counted_still, gone_on, walked_still}

-- what holds of a result

-- what follows from what holds where all was done, holds there too
pub all_ok : {E : Type 0} (r : Result Bool E) (P Q : Type 0) → (P → Q) → IfOk r (λ all. all ≡ true → P) → IfOk r (λ all. all ≡ true → Q)
all_ok (Ok all) P Q f h = λ on. f (h on)
all_ok (Err e) P Q f h = tt

pub ok_gives : {X E : Type 0} (r : Result X E) (P : Type 0) → IsOk r → OnOk r P → P
ok_gives (Ok x) P ok h = h
ok_gives (Err e) P ok h = cc

-- what holds of all moves holds of those that were told
pub moves_told : {E : Type 0} (r : Result (Vec LooseTransition Global) E) (all : List LooseTransition) (Has : List LooseTransition → Type 0) → IfOk r (λ moves. moves.items ≡ all) → Has all → IfOk r (λ moves. Has moves.items)
moves_told (Ok moves) all Has same has = subst Has (sym same) has
moves_told (Err e) all Has same has = tt

-- what was found is there
pub found_there : {V : Type 0} (o : Option V) (v : V) (Has : V → Type 0) → o ≡ Some v → IfSome o Has → Has v
found_there o v Has is h = subst (λ p. IfSome p Has) is h

-- what follows from two facts of what was found holds of it
pub both_found : {V E : Type 0} (r : Result (Option V) E) (P Q R : V → Type 0) → ((v : V) → P v → Q v → R v) → IfOk r (λ o. IfSome o P) → IfOk r (λ o. IfSome o Q) → IfOk r (λ o. IfSome o R)
both_found (Ok (Some v)) P Q R f p q = f v p q
both_found (Ok None) P Q R f p q = tt
both_found (Err e) P Q R f p q = tt

-- an option has what it has
pub itself : {V : Type 0} (o p : Option V) → o ≡ p → IfSome p (λ v. o ≡ Some v)
itself o None is = tt
itself o (Some v) is = is

pub none_there : {V : Type 0} (o : Option V) (Has : V → Type 0) → o ≡ None → IfSome o Has
none_there o Has is = subst (λ p. IfSome p Has) (sym is) tt

-- a machine has come to rest from where a phase began, and from where processes were held

pub phase_rests : (begin : Begin) (start end : MachineView) (network : Network) (members : List ℕ) → IsBeginOf start begin → IsPhaseOf start.code (state_at start) network members → start.code ≡ end.code → (state_at end).time ≡ (state_at start).time
    → (state_at end).active ≡ [] → HasComeToRest begin start end network members
phase_rests begin start end network members begins phase code time over =
    record { begins = begins; blocks = phase.blocks; stands = phase.stands; code = code; time = time; over = over }

pub held_rests : (begin : Begin) (start end : MachineView) (network : Network) (members : List ℕ) → IsBeginOf start begin → MayBeHeld start.code (state_at start) network members → start.code ≡ end.code → (state_at end).time ≡ (state_at start).time
    → (state_at end).active ≡ [] → HasComeToRest begin start end network members
held_rests begin start end network members begins may code time over =
    record { begins = begins; blocks = may.blocks; stands = may.stands; code = code; time = time; over = over }

-- a copy of a machine has come where that has, and is of its design
pub copied_come : {V E : Type 0} (value : V → MachineView) (r : Result V E) (m : MachineView) (walk : Walk) (moves : List LooseTransition) → moves ≡ moves_of walk → IfOk r (λ copy. value copy ≡ m) → IfOk r (λ copy. HasCome m walk (value copy) moves)
copied_come value (Ok copy) m walk moves all same = λ class limits s begun is.
    subst (λ (l : List LooseTransition). WalkHasComeTo class limits s begun (value copy) l) (sym all) (subst (λ (p : MachineView). WalkHasComeTo class limits s begun p (moves_of walk)) (sym same) is.here)
copied_come value (Err e) m walk moves all same = tt

pub copied_code : {V E : Type 0} (value : V → MachineView) (r : Result V E) (m : MachineView) (walk : Walk) → IfOk r (λ copy. value copy ≡ m) → IfOk r (λ copy. IsOfCodeToo m walk (value copy))
copied_code value (Ok copy) m walk same = λ code are. ap (λ (p : MachineView). p.code) same ∙ are.here
copied_code value (Err e) m walk same = tt

-- the design of a machine, and of its checkpoint

pub of_own_code : (code : Compiled) (m : MachineView) (walk : Walk) → AreOfCode code m walk → AreOfCode m.code m walk
of_own_code code m walk are = subst (λ (k : Compiled). AreOfCode k m walk) (sym are.here) are

pub of_one_code : (code : Compiled) (m new : MachineView) (walk : Walk) → m.code ≡ code → AreOfCode m.code new walk → AreOfCode code new walk
of_one_code code m new walk same are = subst (λ (k : Compiled). AreOfCode k new walk) same are

-- where a machine stepped, and its walk stands
pub same_code : (old new : MachineView) (walk : Walk) → new.code ≡ old.code → AreOfCode old.code old walk → AreOfCode old.code new walk
same_code old new walk code are = record { here = code; there = are.there }

-- a walk goes on

pub goes_nowhere : (class : ℕ → ℕ) (limits : Limits) (old new : MachineView) (walk : Walk) (made : List MadeEvent) → new ≡ record old { made = made } → WalkGoesOn class limits old walk new walk
goes_nowhere class limits old new walk made same s begun like is =
    record {
      here = record {
        walked = walked_still class limits old new (moves_of walk) (moves_of walk) made same refl s like is.here.walked;
        counted = counted_still limits old new (moves_of walk) (moves_of walk) made same refl begun is.here.counted;
      };
      there = is.there;
    }

pub goes_both : (class : ℕ → ℕ) (limits : Limits) (old mid new : MachineView) (before between after : Walk) → WalkGoesOn class limits old before mid between → mid.code ≡ old.code → WalkGoesOn class limits mid between new after → WalkGoesOn class limits old before new after
goes_both class limits old mid new before between after first code second s begun like is =
    second s begun (subst (λ (k : Compiled). IsLikeReached class (design_of k) s) (sym code) like) (first s begun like is)

pub goes_by : (class : ℕ → ℕ) (limits : Limits) (old new : MachineView) (before after : Walk) (way : List LooseTransition) → IsSoleLooseWay class limits old way new → new.code ≡ old.code → moves_of after ≡ moves_of before ++ way
    → (old.core.entries ≤ limits.max_entries → new.core.entries ≤ limits.max_entries) → ((s : State) (begun : ℕ) → IsWalk class limits s begun old before → IfSome after.checkpoint (λ copy. WalkHasComeTo class limits s begun copy.value after.moves.items))
    → WalkGoesOn class limits old before new after
goes_by class limits old new before after way sole code after_is few there s begun like is =
    record {
      here = record {
        walked = gone_on class limits old new (moves_of before) way (moves_of after) sole code after_is s like is.here.walked;
        counted = counted_on class limits old new (moves_of before) way (moves_of after) sole after_is few begun is.here.counted;
      };
      there = there s begun is;
    }

-- moves that are more by a way
pub longer : (moves since more way all : List LooseTransition) → more ≡ since ++ way → moves ++ since ≡ all → moves ++ more ≡ all ++ way
longer moves since more way all more_is all_is = ap (λ l. moves ++ l) more_is ∙ (sym (append_assoc moves since way) ∙ ap (λ l. l ++ way) all_is)

-- it goes back

-- the moves since the checkpoint, taken again from there, come to where all of them had come
come_again : (class : ℕ → ℕ) (limits : Limits) (s : State) (begun : ℕ) (old new copy : MachineView) (moves since : List LooseTransition) → IsInOrder s → copy.code ≡ old.code → WalkHasComeTo class limits s begun copy moves → WalkHasComeTo class limits s begun old (moves ++ since)
    → HasTakenAgain class copy since new → WalkHasComeTo class limits s begun new (moves ++ since)
come_again class limits s begun old new copy moves since order code there here again =
    let design = design_of copy.code in
    let f : Effect = there.walked.effect in
    let g : Effect = again.effect in
    let timely : AreTimelyMoves limits since = timely_moves_after limits moves since here.walked.goes.timely in
    let on : GoesLooselyTo class design limits f.state since g = subst (λ (t : State). GoesLooselyTo class design limits t since g) there.walked.state_is (again.goes limits timely) in
    let whole : GoesLooselyTo class design limits s (moves ++ since) (joined f g) = loose_ways_go_on class design limits s f g moves since order there.walked.goes on in
    record {
      walked = record {
        effect = joined f g;
        sole = λ some. subst (λ (k : Compiled). StandsForAllLoosely class (design_of k) limits s (moves ++ since)) (sym (again.code_is ∙ code)) (here.walked.sole some);
        goes = subst (λ (k : Compiled). GoesLooselyTo class (design_of k) limits s (moves ++ since) (joined f g)) (sym again.code_is) whole;
        state_is = again.state_is;
        lines_are = again.lines_are ∙ ap (λ l. l ++ g.lines) there.walked.lines_are;
      };
      counted = record {
        count = omega (arith, again.count, there.counted.count, length-append moves since);
        within = λ less. omega (arith, again.count, there.counted.count, length-append moves since, here.counted.count, here.counted.within less);
      };
    }

pub goes_back : (class : ℕ → ℕ) (limits : Limits) (old new copy : MachineView) (before after : Walk) → copy.code ≡ old.code → moves_of after ≡ moves_of before → after.checkpoint ≡ None → HasCome old before copy after.moves.items → HasTakenAgain class copy after.since.items new
    → WalkGoesOn class limits old before new after
goes_back class limits old new copy before after code moves none come again s begun like is =
    let here : WalkHasComeTo class limits s begun old (moves_of after) = subst (λ (l : List LooseTransition). WalkHasComeTo class limits s begun old l) (sym moves) is.here in
    record {
      here = come_again class limits s begun old new copy after.moves.items after.since.items like.order code (come class limits s begun is) here again;
      there = none_there after.checkpoint _ none;
    }
