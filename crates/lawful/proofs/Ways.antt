-- What following loose transitions from a state comes to.
use Rattle.std.proofs.Common.{◌≡◌, ℕ, ◌<◌, List, [], ◌∷◌, ◌++◌, Some, false, inl, refl, sym, ap, ◌∙◌, subst, arith}
use Rattle.std.specs.List.{All, Contains}
use Rattle.std.proofs.lemmas.List.Elements.{All-nil, All-cons, All-head, All-weaker, All-push, All-contains, Contains-append_left, Contains-append_right}
use Rattle.std.proofs.lemmas.List.Quantifiers.{Any-push}
use Rattle.std.proofs.lemmas.List.{append-nil, map-append}
use Rattle.std.proofs.lemmas.Option.{option_and_then_some}
use Rattle.model.specs.declared.entry.Entry.TheVariants.{Turn}
use Rattle.model.specs.declared.entry.Refusal.TheVariants.{Finished}
use Rattle.model.specs.declared.end.Limits.{Limits}
use Rattle.model.specs.declared.end.Why.TheVariants.{TooLong}
use Rattle.model.specs.declared.end.End.{End}
use Rattle.model.specs.declared.end.End.TheVariants.{Stopped}
use Rattle.model.specs.Design.{Design}
use Rattle.model.specs.States.{State, start}
use Rattle.model.specs.Runs.{Effect, silent, joined, entry_refusal, HasLongTurn}
use Rattle.model.proofs.RunLaws.{where_none}
use Rattle.model.specs.Texts.{EndsHere}
use Rattle.orders.specs.Alike.{IsInOrder}
use Rattle.orders.proofs.SearchLaws.{then_some}
use Rattle.orders.proofs.StatesInOrder.{start_is_in_order}
use Rattle.design.specs.Compiled.{Compiled, design_of}
use Rattle.design.specs.DesignInvariant.{controls_of}
use Rattle.regions.specs.Machine.{MachineView, state_at}
use Rattle.explore.specs.declared.Successor.{Successor}
use Rattle.explore.specs.declared.EndedPath.{EndedPath}
use Rattle.sharing.specs.Parts.{Extends}
use Rattle.explore.specs.Search.{IsSuccessor, IsEndedPath, IsCovered}
use Rattle.explore.proofs.Complete.{Any-extends}
use Rattle.loose.specs.declared.transition.LooseTransition.{LooseTransition}
use Rattle.loose.specs.declared.transition.LooseTransition.TheVariants.{Process}
use Rattle.loose.proofs.ClassStates.{states_in-same, states_in-trans}
use Rattle.loosesteps.specs.LooselyTaken.{MayBeTaken, IsTakenLoosely}
use Rattle.looseruns.specs.LooseMoves.{move, moves_from, IsTimelyMove, AreTimelyMoves}
use Rattle.looseruns.specs.LooseRuns.{StandsLoosely}
use Rattle.looseruns.specs.LooseCover.{FollowMoves, FollowLooseEntries, CoverMoves, loose_ways_to}
use Rattle.looseruns.specs.LooseGoing.{GoesLooselyTo}
use Rattle.looseruns.proofs.Moves.{loose_step_has_move, transition_is_timely}
use Rattle.looseruns.proofs.LooseGoing.{no_move_stays, loose_step_goes_on, moves_lead_to_next, moves_lead_to_end}
use Rattle.looseruns.proofs.LooseCovering.{entries_follow}
use Rattle.looseruns.specs.ObservedEnding.{CoverToFinish}
use Rattle.looseparts.specs.EndingCover.{TellsWaysToEnds}
use Rattle.looseparts.proofs.EndingCover.{covering_to_ends_is_covered}
use Rattle.runs.specs.Halting.{GoesOn}
use Rattle.runs.proofs.Halts.{only_long_turns_end}
use Rattle.lawful.specs.LooseNodes.{IsReadyNode, HoldsEffect, searched_runs, IsLooseWayOn, IsLooseWayToEnd, IsToldHere, IsFollowedIn, AreLooseWaysFor, LeadToFinish, AreAllLooseWays}
use Rattle.lawful.specs.Following.{TellsTurn, IsWayBy, IsAdded}
use Rattle.lawful.specs.declared.node.LooseNode.{LooseNode}
use Rattle.lawful.specs.declared.expand.Way.{Way}
use Rattle.lawful.specs.declared.expand.Way.TheVariants.{On, Long, Past}
use Rattle.lawful.proofs.LongTurns.{stepping_is_short, step_is_permitted_loosely, long_may_be_taken}

-- ways that were found stay where more are
more_ways_to : (xs added : List (Successor LooseNode LooseTransition)) (way : List LooseTransition) → Contains (loose_ways_to xs) way → Contains (loose_ways_to (xs ++ added)) way
more_ways_to xs added way there =
    subst (λ (l : List (List LooseTransition)). Contains l way) (sym (map-append (λ (next : Successor LooseNode LooseTransition). next.moves.items) xs added))
    (Contains-append_left (loose_ways_to xs) (loose_ways_to added) way there)

last_way_to : (xs : List (Successor LooseNode LooseTransition)) (next : Successor LooseNode LooseTransition) (way : List LooseTransition) → next.moves.items ≡ way → Contains (loose_ways_to (xs ++ next ∷ [])) way
last_way_to xs next way is =
    subst (λ (l : List (List LooseTransition)). Contains l way) (sym (map-append (λ (n : Successor LooseNode LooseTransition). n.moves.items) xs (next ∷ [])))
    (Contains-append_right (loose_ways_to xs) (loose_ways_to (next ∷ [])) way (0, omega arith, is))

followed_more : (class : ℕ → ℕ) (code : Compiled) (limits : Limits) (s : State) (xs more : List (Successor LooseNode LooseTransition)) (ys all : List (EndedPath LooseTransition End)) (transition : LooseTransition) → Extends xs more → Extends ys all
    → IsFollowedIn class code limits s xs ys transition → IsFollowedIn class code limits s more all transition
followed_more class code limits s xs more ys all transition (added, longer) told before =
    record {
      steps = λ can timely. subst (λ (l : List (Successor LooseNode LooseTransition)). Contains (loose_ways_to l) (transition ∷ [])) (sym longer) (more_ways_to xs added (transition ∷ []) (before.steps can timely));
      stops = λ p is long. Any-extends (λ (way : EndedPath LooseTransition End). (way.printed.items ≡ []) × (way.end ≡ Stopped (TooLong p))) ys all told (before.stops p is long);
    }

same_process : (p q : ℕ) → Process p ≡ Process q → p ≡ q
same_process p q is = cc

-- one transition more, and what it leads to
pub more_ways : (class : ℕ → ℕ) (code : Compiled) (limits : Limits) (s : State) (transitions : List LooseTransition) (transition : LooseTransition) (xs more : List (Successor LooseNode LooseTransition)) (ys all : List (EndedPath LooseTransition End)) (way : Way)
    → AreLooseWaysFor class code limits s transitions xs ys → IsWayBy class code limits s transition way → IsAdded way xs ys more all → AreLooseWaysFor class code limits s (transitions ++ transition ∷ []) more all
more_ways class code limits s transitions transition xs more ys all (On next) before (on, moves, stepped) (longer, same) =
    record {
      nexts = subst (All (IsLooseWayOn class code limits s)) (sym longer) (All-push (IsLooseWayOn class code limits s) xs next before.nexts on);
      ends = subst (All (IsLooseWayToEnd class code limits s)) (sym same) before.ends;
      followed = All-push (IsFollowedIn class code limits s more all) transitions transition
          (All-weaker (IsFollowedIn class code limits s xs ys) (IsFollowedIn class code limits s more all) (λ x. followed_more class code limits s xs more ys all x (next ∷ [], longer) ([], same ∙ sym (append-nil ys))) transitions before.followed)
          (record {
            steps = λ can timely. subst (λ (l : List (Successor LooseNode LooseTransition)). Contains (loose_ways_to l) (transition ∷ [])) (sym longer) (last_way_to xs next (transition ∷ []) moves);
            stops = λ p is long. absurd (stepping_is_short class code s transition p stepped is long);
          });
    }
more_ways class code limits s transitions transition xs more ys all (Long ended) before (ends, tells) (same, longer) =
    record {
      nexts = subst (All (IsLooseWayOn class code limits s)) (sym same) before.nexts;
      ends = subst (All (IsLooseWayToEnd class code limits s)) (sym longer) (All-push (IsLooseWayToEnd class code limits s) ys ended before.ends ends);
      followed = All-push (IsFollowedIn class code limits s more all) transitions transition
          (All-weaker (IsFollowedIn class code limits s xs ys) (IsFollowedIn class code limits s more all) (λ x. followed_more class code limits s xs more ys all x ([], same ∙ sym (append-nil xs)) (ended ∷ [], longer)) transitions before.followed)
          (record {
            steps = λ can timely. absurd (stepping_is_short class code s transition tells.told.process can tells.told.is_turn tells.long);
            stops = λ p is long.
                let same_p : tells.told.process ≡ p = same_process tells.told.process p (sym tells.told.is_turn ∙ is) in
                subst (λ (l : List (EndedPath LooseTransition End)). IsToldHere l (Stopped (TooLong p))) (sym longer)
                (Any-push (λ (way : EndedPath LooseTransition End). (way.printed.items ≡ []) × (way.end ≡ Stopped (TooLong p))) ys ended (tells.told.silent, tells.told.end_is ∙ ap (λ q. Stopped (TooLong q)) same_p));
          });
    }
more_ways class code limits s transitions transition xs more ys all Past before late (same, same') =
    record {
      nexts = subst (All (IsLooseWayOn class code limits s)) (sym same) before.nexts;
      ends = subst (All (IsLooseWayToEnd class code limits s)) (sym same') before.ends;
      followed = All-push (IsFollowedIn class code limits s more all) transitions transition
          (All-weaker (IsFollowedIn class code limits s xs ys) (IsFollowedIn class code limits s more all) (λ x. followed_more class code limits s xs more ys all x ([], same ∙ sym (append-nil xs)) ([], same' ∙ sym (append-nil ys))) transitions before.followed)
          (record {
            steps = λ can timely. absurd (late timely);
            stops = λ p is long. absurd (late (subst (IsTimelyMove limits) (sym is) tt));
          });
    }

pub no_ways : (class : ℕ → ℕ) (code : Compiled) (limits : Limits) (s : State) → AreLooseWaysFor class code limits s [] [] []
no_ways class code limits s =
    record {
      nexts = All-nil (IsLooseWayOn class code limits s);
      ends = All-nil (IsLooseWayToEnd class code limits s);
      followed = All-nil (IsFollowedIn class code limits s [] []);
    }

-- an effect as it is, but in another state
abbrev pub in_state : Effect → State → Effect
in_state e s = record e { state = s }

-- what a machine came to by a transition that it took, where a state is one node with what comes of the step
pub taken_goes : (class : ℕ → ℕ) (code : Compiled) (limits : Limits) (s new : State) (before lines : List ℕ) (transition : LooseTransition) → IsInOrder s → IsInOrder new → IsTimelyMove limits transition → (taken : IsTakenLoosely class code s before transition new lines)
    → GoesLooselyTo class (design_of code) limits s (transition ∷ []) (in_state taken.effect new)
taken_goes class code limits s new before lines transition order order' timely taken =
    let x = loose_step_goes_on class (design_of code) limits s taken.entry taken.effect transition order taken.is_step ((transition_is_timely class limits s taken.entry transition taken.transition_is).1 timely) taken.transition_is in
    record {
      effect = x.effect;
      goes = x.goes;
      timely = x.timely;
      one_node = (x.one_node.0, states_in-trans class x.effect.state taken.effect.state new x.one_node.1 taken.alike);
      in_order = order';
    }

-- a machine that took a transition has gone a way from where it stood
pub taken_is_way : (class : ℕ → ℕ) (limits : Limits) (m copy new : MachineView) (transition : LooseTransition) (next : Successor LooseNode LooseTransition) → copy ≡ m → IsInOrder (state_at m) → IsInOrder (state_at new) → m.lines ≡ [] → IsTimelyMove limits transition → new.code ≡ copy.code
    → IsTakenLoosely class copy.code (state_at copy) copy.lines transition (state_at new) new.lines → next.moves.items ≡ transition ∷ [] → next.printed.items ≡ new.lines → IsReadyNode new.code next.node → state_at next.node.machine.value ≡ state_at new
    → IsWayBy class m.code limits (state_at m) transition (On next)
taken_is_way class limits m copy new transition next same order order' none timely code taken moves printed ready state =
    let taken' : IsTakenLoosely class m.code (state_at m) m.lines transition (state_at new) new.lines = subst (λ (p : MachineView). IsTakenLoosely class p.code (state_at p) p.lines transition (state_at new) new.lines) same taken in
    let goes = taken_goes class m.code limits (state_at m) (state_at new) m.lines new.lines transition order order' timely taken' in
    let g : Effect = in_state taken'.effect (state_at new) in
    let is_code : new.code ≡ m.code = code ∙ ap (λ (p : MachineView). p.code) same in (
      record {
        effect = g;
        goes = subst (λ (l : List LooseTransition). GoesLooselyTo class (design_of m.code) limits (state_at m) l g) (sym moves) goes;
        printed = printed ∙ (taken'.lines_are ∙ ap (λ l. l ++ taken'.effect.lines) none);
        holds = record { ready = subst (λ (k : Compiled). IsReadyNode k next.node) is_code ready; state_is = state };
      },
      moves,
      (taken'.entry, taken'.effect, taken'.transition_is, taken'.is_step),
    )

-- the end of a run whose turn is too long
pub long_is_way : (class : ℕ → ℕ) (code : Compiled) (limits : Limits) (s : State) (transition : LooseTransition) (ended : EndedPath LooseTransition End) → IsInOrder s → 0 < limits.max_entries → s.finished ≡ false → (tells : TellsTurn transition ended) → HasLongTurn (design_of code) s tells.process
    → IsWayBy class code limits s transition (Long ended)
long_is_way class code limits s transition ended order few going tells long =
    let here : EndsHere (design_of code) limits (silent s) (Stopped (TooLong tells.process)) = ((λ e. cc), (λ e. cc), (few, going, long)) in (
      record {
        effect = silent s;
        goes = subst (λ (l : List LooseTransition). GoesLooselyTo class (design_of code) limits s l (silent s)) (sym tells.here) (no_move_stays class (design_of code) limits s order);
        printed = tells.silent;
        here = subst (EndsHere (design_of code) limits (silent s)) (sym tells.end_is) here;
      },
      record { told = tells; long = long },
    )

-- ways cover what leads on from a state where each transition is followed
pub followed_cover : (class : ℕ → ℕ) (design : Design) (limits : Limits) (s : State) (ways : List (List LooseTransition)) → FollowMoves class design limits s ways → CoverMoves class design limits s ways
followed_cover class design limits s ways follow transition more g end goes timely here =
    option_and_then_some (λ x. moves_from class design (joined (silent s) x) more) (move class design s transition) g goes
    (λ x at_x later.
    let now = All-head (IsTimelyMove limits) transition more timely in
    let (k, within, is) = follow transition x at_x now in
    let first : moves_from class design (silent s) (transition ∷ []) ≡ Some (joined (silent s) x) = then_some (λ z. moves_from class design (joined (silent s) z) []) (move class design s transition) x (joined (silent s) x) at_x refl in
    let alone : AreTimelyMoves limits (transition ∷ []) = All-cons (IsTimelyMove limits) transition [] now (All-nil (IsTimelyMove limits)) in
    (transition ∷ [], more, omega arith, refl, (k, transition ∷ [], within, is, (joined (silent s) x, joined (silent s) x, first, first, alone, (refl, states_in-same class x.state)))))

-- what covers does so with no ways to ends

pub covers_without_ends : (class : ℕ → ℕ) (design : Design) (limits : Limits) (s : State) (ways : List (List LooseTransition)) → CoverMoves class design limits s ways → CoverToFinish class design limits s ways []
covers_without_ends class design limits s ways covers transition more g end goes timely here = inl (covers transition more g end goes timely here)

pub none_finish : (class : ℕ → ℕ) (design : Design) (s : State) → LeadToFinish class design s []
none_finish class design s way f (k, less, at) goes = absurd (omega (arith, less))

pub none_to_tell : (class : ℕ → ℕ) (design : Design) (s : State) (ended : List (EndedPath LooseTransition End)) → TellsWaysToEnds class design s [] ended
none_to_tell class design s ended way f (k, less, at) goes = absurd (omega (arith, less))

-- nothing is left out where each transition that may be taken was followed
pub all_followed : (class : ℕ → ℕ) (code : Compiled) (limits : Limits) (s : State) (transitions : List LooseTransition) (successors : List (Successor LooseNode LooseTransition)) (ended : List (EndedPath LooseTransition End)) → IsInOrder s → GoesOn limits s
    → ((transition : LooseTransition) → MayBeTaken class s transition → Contains transitions transition) → AreLooseWaysFor class code limits s transitions successors ended → AreAllLooseWays class code limits s successors ended
all_followed class code limits s transitions successors ended order on within ways =
    let design = design_of code in
    let follow : FollowLooseEntries class design limits s (loose_ways_to successors) =
    λ entry f at_f timely.
    let (transition, g, its, moved, like) = loose_step_has_move class design s entry f order at_f in
    let can : MayBeTaken class s transition = (entry, its, step_is_permitted_loosely class design s entry f at_f) in
    let one = All-contains (IsFollowedIn class code limits s successors ended) transitions transition ways.followed (within transition can) in
    (transition, its, one.steps (entry, f, its, at_f) ((transition_is_timely class limits s entry transition its).0 timely)) in
    record {
      ends = [];
      finish = none_finish class design s;
      cover = covers_without_ends class design limits s (loose_ways_to successors)
          (followed_cover class design limits s (loose_ways_to successors) (entries_follow class design limits s s (loose_ways_to successors) order order (states_in-same class s) follow));
      ways_told = none_to_tell class design s ended;
      told = λ end here.
          let (p, is, (n, there, long)) = only_long_turns_end design limits s on.entry end on.next here in
          let going : s.finished ≡ false = (where_none s.finished Finished (entry_refusal s on.entry) on.next.0).0 in
          let (its, permitted) = long_may_be_taken class s n p going there in
          let one = All-contains (IsFollowedIn class code limits s successors ended) transitions (Process p) ways.followed (within (Process p) (Turn n, its, permitted)) in
          subst (IsToldHere ended) (sym is) (one.stops p refl (n, there, long));
    }

-- the ways from a node, as those of the runs at which it stands

pub here_or_there : (class : ℕ → ℕ) (code : Compiled) (node : LooseNode) (e : Effect) (P : Compiled → State → Type 0) → HoldsEffect code node e → P node.machine.value.code (state_at node.machine.value) → P code e.state
here_or_there class code node e P holds p =
    subst (P code) holds.state_is (subst (λ (k : Compiled). P k (state_at node.machine.value)) holds.ready.code_is p)

pub node_next : (class : ℕ → ℕ) (code : Compiled) (limits : Limits) (node : LooseNode) (run : List LooseTransition) (successors : List (Successor LooseNode LooseTransition)) → StandsLoosely (HoldsEffect code) class (design_of code) limits node run → All (IsLooseWayOn class node.machine.value.code limits (state_at node.machine.value)) successors → All (IsSuccessor (searched_runs code class limits) run) successors
node_next class code limits node run successors at on =
    let there = here_or_there class code node at.held (λ k s. All (IsLooseWayOn class k limits s) successors) at.holds on in
    All-weaker (IsLooseWayOn class code limits at.held.state) (IsSuccessor (searched_runs code class limits) run)
    (λ next way. moves_lead_to_next (HoldsEffect code) class (design_of code) limits node run way.effect next at way.goes way.printed (record { ready = way.holds.ready; state_is = way.holds.state_is })) successors there

pub node_ended : (class : ℕ → ℕ) (code : Compiled) (limits : Limits) (node : LooseNode) (run : List LooseTransition) (ended : List (EndedPath LooseTransition End)) → StandsLoosely (HoldsEffect code) class (design_of code) limits node run → All (IsLooseWayToEnd class node.machine.value.code limits (state_at node.machine.value)) ended → All (IsEndedPath (searched_runs code class limits) run) ended
node_ended class code limits node run ended at to =
    let there = here_or_there class code node at.held (λ k s. All (IsLooseWayToEnd class k limits s) ended) at.holds to in
    All-weaker (IsLooseWayToEnd class code limits at.held.state) (IsEndedPath (searched_runs code class limits) run)
    (λ x way. moves_lead_to_end (HoldsEffect code) class (design_of code) limits node run way.effect x at way.goes way.printed way.here) ended there

pub node_covered : (class : ℕ → ℕ) (code : Compiled) (limits : Limits) (node : LooseNode) (run : List LooseTransition) (successors : List (Successor LooseNode LooseTransition)) (ended : List (EndedPath LooseTransition End)) → StandsLoosely (HoldsEffect code) class (design_of code) limits node run → AreAllLooseWays class node.machine.value.code limits (state_at node.machine.value) successors ended → IsCovered (searched_runs code class limits) successors ended run
node_covered class code limits node run successors ended at all =
    let there = here_or_there class code node at.held (λ k s. AreAllLooseWays class k limits s successors ended) at.holds all in
    covering_to_ends_is_covered (HoldsEffect code) class (design_of code) limits successors ended node run there.ends at there.cover there.ways_told there.told

-- the node of a machine that took no transition stands at the run of none
pub node_at_start : (class : ℕ → ℕ) (code : Compiled) (limits : Limits) (node : LooseNode) (m : MachineView) → node.machine.value ≡ m → m.code ≡ code → m.core.controls ≡ controls_of m.code → m.lines ≡ [] → state_at m ≡ start (design_of code) → StandsLoosely (HoldsEffect code) class (design_of code) limits node []
node_at_start class code limits node m same code_is controls silent_is state =
    let ready : IsReadyNode code node =
    record {
      code_is = ap (λ (p : MachineView). p.code) same ∙ code_is;
      controls = ap (λ (p : MachineView). p.core.controls) same ∙ (controls ∙ ap controls_of code_is);
      silent = ap (λ (p : MachineView). p.lines) same ∙ silent_is;
    } in
    let begun = silent (start (design_of code)) in
    record {
      effect = begun;
      held = begun;
      comes = (refl, All-nil (IsTimelyMove limits));
      one_node = (refl, states_in-same class begun.state);
      in_order = start_is_in_order (design_of code);
      holds = record { ready = ready; state_is = ap state_at same ∙ state };
    }
