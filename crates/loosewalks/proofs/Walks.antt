-- How a walk of loose runs goes on, and that it stands for all.
use Rattle.std.proofs.Common.{◌≡◌, ◌≢◌, ℕ, ◌+◌, ◌≤◌, true, false, List, [], ◌∷◌, ◌++◌, length, Option, Some, None, refl, sym, ap, subst, ◌∙◌, append_assoc, arith, length-append}
use Rattle.std.proofs.lemmas.List.{append-nil}
use Rattle.model.specs.declared.entry.Entry.{Entry}
use Rattle.model.specs.declared.entry.Entry.TheVariants.{Turn, Update, ActivateInactive, ActivateNba, ActivateMonitor, Advance}
use Rattle.model.specs.declared.end.Limits.{Limits}
use Rattle.model.specs.Design.{Design}
use Rattle.model.specs.States.{State, Action, Evaluate}
use Rattle.model.specs.Runs.{Effect, silent, joined, action_in, has_any, IsTimely}
use Rattle.orders.specs.Alike.{IsInOrder}
use Rattle.phases.specs.Phase.{SettleBetween, TakesEvent}
use Rattle.design.specs.Compiled.{Compiled, design_of}
use Rattle.regions.specs.Queue.{Core}
use Rattle.regions.specs.declared.state.MadeEvent.{MadeEvent}
use Rattle.regions.specs.Machine.{MachineView, state_at}
use Rattle.regions.specs.StepLogs.{IsTaken}
use Rattle.combinational.specs.declared.network.Network.{Network}
use Rattle.combinational.specs.Found.{rank_in}
use Rattle.settling.specs.Settling.{block_at, IsPhaseOf}
use Rattle.loose.specs.declared.transition.LooseTransition.{LooseTransition}
use Rattle.loose.specs.declared.transition.LooseTransition.TheVariants.{Process, FirstOf, Change}
use Rattle.loose.specs.Loose.{AlikeIn, loose_transition_of, loose_transition_of_action}
use Rattle.loose.proofs.ClassLists.{alike_in-has_any}
use Rattle.loose.proofs.ClassStates.{states_in-sym}
use Rattle.loose.proofs.LooseSteps.{step_is_loose}
use Rattle.looseruns.specs.LooseMoves.{moves_from}
use Rattle.looseruns.specs.LooseGoing.{GoesLooselyTo}
use Rattle.looseruns.proofs.LooseGoing.{no_move_stays, loose_step_goes_on, loose_ways_go_on}
use Rattle.loosewalks.specs.declared.active.NamedEntry.{NamedEntry}
use Rattle.loosewalks.specs.Sole.{StandsForAllLoosely, IsLikeReached}
use Rattle.loosewalks.specs.EventWays.{AreOfActors}
use Rattle.loosewalks.specs.LooseWalking.{HasWalkedLoosely, HasCountedMoves, TakenLoosely, IsOnlyStep, IsEventStep, TakesMoves, HasPassedBy, HasPassedPhase, IsSoleLooseWay}
use Rattle.loosewalks.proofs.SoleLooseWays.{like_reached_goes_on, alike_stand_for_all, sole_loose_ways_go_on}
use Rattle.loosewalks.proofs.OnlyEntries.{only_entry_stands_for_all}
use Rattle.loosewalks.proofs.PhaseWays.{empty_if, way_time, phase_way_stands_for_all}

-- what a machine took

pub taken_nothing : (class : ℕ → ℕ) (limits : Limits) (m : MachineView) → IsInOrder (state_at m) → TakenLoosely class limits m [] m
taken_nothing class limits m order =
    record { effect = silent (state_at m); goes = no_move_stays class (design_of m.code) limits (state_at m) order; state_is = refl; lines_are = sym (append-nil m.lines) }

pub taken_step : (class : ℕ → ℕ) (limits : Limits) (old new : MachineView) (entry : Entry) (transition : LooseTransition) → IsTaken old.code (state_at old) old.lines entry (state_at new) new.lines → loose_transition_of class (state_at old) entry ≡ Some transition
    → IsTimely limits entry → IsInOrder (state_at old) → TakenLoosely class limits old (transition ∷ []) new
taken_step class limits old new entry transition taken its timely order =
    let design = design_of old.code in
    record {
      effect = taken.effect;
      goes = loose_step_goes_on class design limits (state_at old) entry taken.effect transition order (step_is_loose class design (state_at old) entry taken.effect taken.is_step) timely its;
      state_is = sym taken.state_is;
      lines_are = taken.lines_are;
    }

-- the state after what was taken is in order
pub taken_order : (class : ℕ → ℕ) (limits : Limits) (old new : MachineView) (moves : List LooseTransition) → TakenLoosely class limits old moves new → IsInOrder (state_at new)
taken_order class limits old new moves taken = subst IsInOrder (sym taken.state_is) taken.goes.in_order

pub taken_both : (class : ℕ → ℕ) (limits : Limits) (old mid new : MachineView) (moves more : List LooseTransition) → IsInOrder (state_at old) → TakenLoosely class limits old moves mid → mid.code ≡ old.code → (IsInOrder (state_at mid) → TakenLoosely class limits mid more new)
    → TakenLoosely class limits old (moves ++ more) new
taken_both class limits old mid new moves more order first code second =
    let later = second (taken_order class limits old mid moves first) in
    let goes : GoesLooselyTo class (design_of old.code) limits first.effect.state more later.effect =
    subst (λ (t : State). GoesLooselyTo class (design_of old.code) limits t more later.effect) first.state_is (subst (λ (k : Compiled). GoesLooselyTo class (design_of k) limits (state_at mid) more later.effect) code later.goes) in
    record {
      effect = joined first.effect later.effect;
      goes = loose_ways_go_on class (design_of old.code) limits (state_at old) first.effect later.effect moves more order first.goes goes;
      state_is = later.state_is;
      lines_are = later.lines_are ∙ (ap (λ l. l ++ later.effect.lines) first.lines_are ∙ append_assoc old.lines first.effect.lines later.effect.lines);
    }

-- a walk goes on by a way that stands for all

-- From whichever state that is like a reached one a walk has gone with some moves to where a machine stood, it has gone with these to
-- where the machine stands.
abbrev pub HasWalkedOn : (ℕ → ℕ) → Limits → MachineView → List LooseTransition → MachineView → List LooseTransition → Type 0
HasWalkedOn class limits old before new after =
    (s : State) → IsLikeReached class (design_of old.code) s → HasWalkedLoosely class limits s old before → HasWalkedLoosely class limits s new after

-- however many entries a walk began with, it counts its moves where its machine stands
abbrev pub HasCountedOn : Limits → MachineView → List LooseTransition → MachineView → List LooseTransition → Type 0
HasCountedOn limits old before new after = (begun : ℕ) → HasCountedMoves limits begun old before → HasCountedMoves limits begun new after

-- what a walk took and what stands for all from there stand for all
both_stand : (class : ℕ → ℕ) (design : Design) (limits : Limits) (s : State) (way more : List LooseTransition) (f : Effect) → IsInOrder s → (way ≢ [] → StandsForAllLoosely class design limits s way) → GoesLooselyTo class design limits s way f
    → StandsForAllLoosely class design limits f.state more → StandsForAllLoosely class design limits s (way ++ more)
both_stand class design limits s [] more f order before goes sole =
    let same : goes.effect ≡ silent s = nothing goes.effect goes.goes in
    let near : AlikeIn class s f.state = subst (λ (e : Effect). AlikeIn class e.state f.state) same goes.one_node.1 in
    alike_stand_for_all class design limits f.state s more goes.in_order order (states_in-sym class s f.state near) sole
  where
    nothing : (e : Effect) → moves_from class design (silent s) [] ≡ Some e → e ≡ silent s
    nothing e is = cc
both_stand class design limits s (transition ∷ way) more f order before goes sole = sole_loose_ways_go_on class design limits s (transition ∷ way) more f order (before (λ none. cc)) goes sole

pub gone_on : (class : ℕ → ℕ) (limits : Limits) (old new : MachineView) (before way after : List LooseTransition) → IsSoleLooseWay class limits old way new → new.code ≡ old.code → after ≡ before ++ way → HasWalkedOn class limits old before new after
gone_on class limits old new before way after gone code after_is s like walked =
    let design = design_of old.code in
    let there : IsLikeReached class design (state_at old) =
    subst (IsLikeReached class design) (sym walked.state_is) (like_reached_goes_on class design limits s walked.effect before like walked.goes) in
    let taken : TakenLoosely class limits old way new = gone.taken there.order in
    let goes : GoesLooselyTo class design limits walked.effect.state way taken.effect = subst (λ (t : State). GoesLooselyTo class design limits t way taken.effect) walked.state_is taken.goes in
    let sole : StandsForAllLoosely class design limits walked.effect.state way = subst (λ (t : State). StandsForAllLoosely class design limits t way) walked.state_is (gone.sole there) in
    let all : StandsForAllLoosely class design limits s (before ++ way) = both_stand class design limits s before way walked.effect like.order walked.sole walked.goes sole in
    let whole : GoesLooselyTo class design limits s (before ++ way) (joined walked.effect taken.effect) =
    loose_ways_go_on class design limits s walked.effect taken.effect before way like.order walked.goes goes in
    record {
      effect = joined walked.effect taken.effect;
      sole = λ some. subst (λ (k : Compiled). StandsForAllLoosely class (design_of k) limits s after) (sym code) (subst (StandsForAllLoosely class design limits s) (sym after_is) all);
      goes = subst (λ (k : Compiled). GoesLooselyTo class (design_of k) limits s after (joined walked.effect taken.effect)) (sym code)
          (subst (λ (l : List LooseTransition). GoesLooselyTo class design limits s l (joined walked.effect taken.effect)) (sym after_is) whole);
      state_is = taken.state_is;
      lines_are = taken.lines_are ∙ ap (λ l. l ++ taken.effect.lines) walked.lines_are;
    }

pub counted_on : (class : ℕ → ℕ) (limits : Limits) (old new : MachineView) (before way after : List LooseTransition) → IsSoleLooseWay class limits old way new → after ≡ before ++ way → (old.core.entries ≤ limits.max_entries → new.core.entries ≤ limits.max_entries)
    → HasCountedOn limits old before new after
counted_on class limits old new before way after gone after_is few begun counted =
    record {
      count = omega (arith, gone.count, counted.count, ap length after_is, length-append before way);
      within = λ less. few (counted.within less);
    }

-- a walk stands where its machine is the same, but for what the last entry made

pub walked_still : (class : ℕ → ℕ) (limits : Limits) (old new : MachineView) (before after : List LooseTransition) (made : List MadeEvent) → new ≡ record old { made = made } → after ≡ before → HasWalkedOn class limits old before new after
walked_still class limits old new before after made same after_is s like walked =
    subst (λ (m : MachineView). HasWalkedLoosely class limits s m after) (sym same)
    (subst (λ (l : List LooseTransition). HasWalkedLoosely class limits s (record old { made = made }) l) (sym after_is)
    (record { effect = walked.effect; sole = walked.sole; goes = walked.goes; state_is = walked.state_is; lines_are = walked.lines_are }))

pub counted_still : (limits : Limits) (old new : MachineView) (before after : List LooseTransition) (made : List MadeEvent) → new ≡ record old { made = made } → after ≡ before → HasCountedOn limits old before new after
counted_still limits old new before after made same after_is begun counted =
    let entries : new.core.entries ≡ old.core.entries = ap (λ (m : MachineView). m.core.entries) same in
    record { count = omega (arith, entries, counted.count, ap length after_is); within = λ less. omega (arith, entries, counted.within less) }

-- a walk begins with no move

pub walk_begins : (class : ℕ → ℕ) (limits : Limits) (m : MachineView) (moves : List LooseTransition) → moves ≡ [] → m.lines ≡ [] → IsInOrder (state_at m) → HasWalkedLoosely class limits (state_at m) m moves
walk_begins class limits m moves none silent_is order =
    subst (HasWalkedLoosely class limits (state_at m) m) (sym none)
    (record { effect = silent (state_at m); sole = λ some. absurd (some refl); goes = no_move_stays class (design_of m.code) limits (state_at m) order; state_is = refl; lines_are = silent_is })

pub counts_begin : (limits : Limits) (m : MachineView) (moves : List LooseTransition) → moves ≡ [] → HasCountedMoves limits m.core.entries m moves
counts_begin limits m moves none = record { count = omega (arith, ap length none); within = λ less. less }

-- the only entry

pub only_way : (class : ℕ → ℕ) (limits : Limits) (old new : MachineView) (named : NamedEntry) → IsOnlyStep class limits (state_at old) named → IsTaken old.code (state_at old) old.lines named.entry (state_at new) new.lines → new.core.entries ≡ old.core.entries + 1
    → IsSoleLooseWay class limits old (named.transition ∷ []) new
only_way class limits old new named one taken count =
    record {
      taken = λ order. taken_step class limits old new named.entry named.transition taken one.transition_is one.only.timely order;
      sole = λ like. only_entry_stands_for_all class (design_of old.code) limits (state_at old) named.entry taken.effect named.transition like.order one.only taken.is_step one.transition_is;
      count = count;
    }

-- events, one after another

event_timely : (limits : Limits) (entry : Entry) → TakesEvent entry → IsTimely limits entry
event_timely limits (Turn n) takes = tt
event_timely limits (Update n) takes = tt
event_timely limits ActivateInactive takes = tt
event_timely limits ActivateNba takes = tt
event_timely limits ActivateMonitor takes = tt
event_timely limits (Advance time) takes = absurd takes

one_actor : (class : ℕ → ℕ) (o : Option Action) (t : LooseTransition) → loose_transition_of_action class o ≡ Some t → AreOfActors (t ∷ [])
one_actor class None t is = cc
one_actor class (Some (Evaluate p)) t is =
    let same : Process p ≡ t = cc in
    subst (λ (u : LooseTransition). AreOfActors (u ∷ [])) same tt
one_actor class (Some (Action.Update r v)) t is =
    let same : FirstOf (class r) ≡ t = cc in
    subst (λ (u : LooseTransition). AreOfActors (u ∷ [])) same tt

event_actor : (class : ℕ → ℕ) (s : State) (entry : Entry) (t : LooseTransition) → TakesEvent entry → loose_transition_of class s entry ≡ Some t → AreOfActors (t ∷ [])
event_actor class s (Turn n) t takes is = one_actor class (action_in s.active n) t is
event_actor class s (Update n) t takes is = one_actor class (action_in s.active n) t is
event_actor class s ActivateInactive t takes is = absurd takes
event_actor class s ActivateNba t takes is = absurd takes
event_actor class s ActivateMonitor t takes is = absurd takes
event_actor class s (Advance time) t takes is = absurd takes

actors_both : (moves more : List LooseTransition) → AreOfActors moves → AreOfActors more → AreOfActors (moves ++ more)
actors_both [] more first second = second
actors_both (Process p ∷ moves) more first second = actors_both moves more first second
actors_both (FirstOf c ∷ moves) more first second = actors_both moves more first second
actors_both (Change entry ∷ moves) more first second = absurd first

pub takes_none : (class : ℕ → ℕ) (limits : Limits) (m : MachineView) (moves : List LooseTransition) → moves ≡ [] → TakesMoves class limits m moves m
takes_none class limits m moves none =
    subst (λ (l : List LooseTransition). TakesMoves class limits m l m) (sym none) (record { actors = tt; taken = taken_nothing class limits m; count = omega arith })

pub takes_more : (class : ℕ → ℕ) (limits : Limits) (old mid new : MachineView) (moves longer : List LooseTransition) (named : NamedEntry) → TakesMoves class limits old moves mid → mid.code ≡ old.code → IsEventStep class (state_at mid) named
    → IsTaken mid.code (state_at mid) mid.lines named.entry (state_at new) new.lines → new.core.entries ≡ mid.core.entries + 1 → longer ≡ moves ++ named.transition ∷ [] → TakesMoves class limits old longer new
takes_more class limits old mid new moves longer named so_far code event taken count longer_is =
    subst (λ (l : List LooseTransition). TakesMoves class limits old l new) (sym longer_is)
    (record {
      actors = actors_both moves (named.transition ∷ []) so_far.actors (event_actor class (state_at mid) named.entry named.transition event.takes event.transition_is);
      taken = λ order. taken_both class limits old mid new moves (named.transition ∷ []) order (so_far.taken order) code (taken_step class limits mid new named.entry named.transition taken event.transition_is (event_timely limits named.entry event.takes));
      count = omega (arith, so_far.count, count, length-append moves (named.transition ∷ []));
    })

-- something is active, and after some events nothing is

pub some_active : (core queue : Core) → queue ≡ core → has_any queue.active ≡ true → core.active ≢ []
some_active core queue same some none =
    let clash : has_any core.active ≡ true = ap (λ (k : Core). has_any k.active) (sym same) ∙ some in
    let empty : has_any core.active ≡ false = ap has_any none in
    cc

pub some_moves : (class : ℕ → ℕ) (limits : Limits) (old new : MachineView) (moves : List LooseTransition) → IsInOrder (state_at old) → TakesMoves class limits old moves new → (state_at old).active ≢ [] → (state_at new).active ≡ [] → moves ≢ []
some_moves class limits old new moves order takes some over none =
    let taken : TakenLoosely class limits old [] new = subst (λ (l : List LooseTransition). TakenLoosely class limits old l new) none (takes.taken order) in
    let same : silent (state_at old) ≡ taken.goes.effect = nothing taken.goes.effect taken.goes.goes in
    let near : AlikeIn class (state_at old) taken.effect.state = subst (λ (e : Effect). AlikeIn class e.state taken.effect.state) (sym same) taken.goes.one_node.1 in
    some (empty_if (state_at old).active (alike_in-has_any class (state_at old).active taken.effect.state.active near.active ∙ ap has_any (ap (λ (t : State). t.active) (sym taken.state_is) ∙ over)))
  where
    nothing : (e : Effect) → moves_from class (design_of old.code) (silent (state_at old)) [] ≡ Some e → silent (state_at old) ≡ e
    nothing e is = cc

-- through a phase

pub phase_sole : (class : ℕ → ℕ) (limits : Limits) (old new : MachineView) (moves : List LooseTransition) (network : Network) (members : List ℕ) → IsPhaseOf old.code (state_at old) network members → (state_at old).active ≢ [] → HasPassedPhase class limits old network members moves new
    → IsSoleLooseWay class limits old moves new
phase_sole class limits old new moves network members phase some through =
    let passed : HasPassedBy class limits old moves new = through.passed in
    record {
      taken = passed.takes.taken;
      sole = λ like.
          let taken : TakenLoosely class limits old moves new = passed.takes.taken like.order in
          let more : moves ≢ [] = some_moves class limits old new moves like.order passed.takes some passed.over in
          let over : taken.effect.state.active ≡ [] = ap (λ (t : State). t.active) (sym taken.state_is) ∙ passed.over in
          let time : (state_at new).time ≡ (state_at old).time =
          ap (λ (t : State). t.time) taken.state_is
          ∙ way_time class (design_of old.code) limits (state_at old) taken.effect moves like.order passed.takes.actors taken.goes in
          let settle : SettleBetween (design_of old.code) members (block_at old.code network) (state_at old) taken.effect.state =
          subst (λ (t : State). SettleBetween (design_of old.code) members (block_at old.code network) (state_at old) t) taken.state_is (through.settle phase time) in
          phase_way_stands_for_all class (design_of old.code) limits members (block_at old.code network) (rank_in network.ranks.items) (state_at old) taken.effect moves like.order phase more passed.takes.actors taken.goes over
          settle;
      count = passed.takes.count;
    }
