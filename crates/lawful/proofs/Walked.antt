-- What a walk from a node comes to, and what comes of going on where it took no transition.
use Rattle.std.proofs.Common.{◌≡◌, ◌≢◌, ℕ, ◌==◌, ◌<◌, Bool, true, false, List, [], ◌∷◌, length, Some, Vec, Global, vec_len, inl, inr, refl, sym, ap, ◌∙◌, subst, arith}
use Rattle.std.specs.List.{All, Any}
use Rattle.std.proofs.lemmas.Grind.{common_steps}
use Rattle.std.proofs.lemmas.List.Elements.{All-nil, All-cons, All-weaker}
use Rattle.model.specs.declared.end.Limits.{Limits}
use Rattle.model.specs.declared.end.Why.TheVariants.{Finish}
use Rattle.model.specs.declared.end.End.{End}
use Rattle.model.specs.declared.end.End.TheVariants.{Stopped}
use Rattle.model.specs.Design.{Design}
use Rattle.model.specs.States.{State, start}
use Rattle.model.specs.Runs.{Effect, silent, joined}
use Rattle.model.specs.Texts.{EndsHere}
use Rattle.orders.specs.Alike.{IsInOrder}
use Rattle.orders.proofs.StatesInOrder.{start_is_in_order}
use Rattle.design.specs.Compiled.{Compiled, design_of}
use Rattle.regions.specs.Machine.{MachineView, state_at}
use Rattle.explore.specs.declared.Successor.{Successor}
use Rattle.explore.specs.declared.EndedPath.{EndedPath}
use Rattle.explore.specs.declared.Expanded.{Expanded}
use Rattle.loose.specs.declared.transition.LooseTransition.{LooseTransition}
use Rattle.loose.specs.Loose.{AlikeIn}
use Rattle.loose.proofs.ClassStates.{states_in-sym}
use Rattle.looseruns.specs.LooseMoves.{IsTimelyMove}
use Rattle.looseruns.specs.LooseRuns.{StandsLoosely}
use Rattle.looseruns.specs.LooseCover.{LeadToOneLooseNode, CoverMoves, loose_ways_to}
use Rattle.looseruns.specs.LooseGoing.{GoesLooselyTo}
use Rattle.looseruns.proofs.Moves.{moves_keep_order, moves_are_loose_run, alike_moves_on}
use Rattle.looseruns.proofs.RunsOfMoves.{ends_alike_in}
use Rattle.looseruns.proofs.LooseGoing.{loose_ways_go_on}
use Rattle.looseruns.specs.ObservedEnding.{CoverToFinish, LeadsToFinish}
use Rattle.looseparts.specs.EndingCover.{TellsWaysToEnds}
use Rattle.loosewalks.specs.Sole.{StandsForAllLoosely, IsLikeReached}
use Rattle.loosewalks.specs.LooseWalking.{HasWalkedLoosely}
use Rattle.loosewalks.proofs.SoleLooseWays.{lead_alike}
use Rattle.lawful.specs.LooseNodes.{IsReadyNode, HoldsEffect, IsLooseWayOn, IsLooseWayToEnd, LeadToFinish, AreAllLooseWays, IsExpandedAt}
use Rattle.lawful.specs.Following.{IsArrived}
use Rattle.lawful.specs.declared.node.LooseNode.{LooseNode}
use Rattle.lawful.proofs.Ways.{in_state, covers_without_ends, none_finish, none_to_tell}

-- where a node stands is like what a loose run comes to
pub node_like_reached : (class : ℕ → ℕ) (code : Compiled) (limits : Limits) (node : LooseNode) (run : List LooseTransition) → StandsLoosely (HoldsEffect code) class (design_of code) limits node run → IsLikeReached class (design_of node.machine.value.code) (state_at node.machine.value)
node_like_reached class code limits node run at =
    let design = design_of code in
    let (entries, as_many, timely, reached) = moves_are_loose_run class design limits (silent (start design)) at.effect run (start_is_in_order design) at.comes.0 in
    let like : IsLikeReached class design at.held.state = record { order = at.in_order; journal = entries; effect = at.effect; reached = reached; alike = at.one_node.1 } in
    subst (λ (k : Compiled). IsLikeReached class (design_of k) (state_at node.machine.value)) (sym at.holds.ready.code_is)
    (subst (IsLikeReached class design) (sym at.holds.state_is) like)

-- A machine stands, with no lines, where a state is alike in classes to one before.
pub record StandsAlike (class : ℕ → ℕ) (s : State) (m : MachineView) : Type 0 where
  pub order : IsInOrder (state_at m)
  pub alike : AlikeIn class s (state_at m)
  pub silent_is : m.lines ≡ []

-- where a walk stands that took no transition
pub walked_nowhere : (class : ℕ → ℕ) (limits : Limits) (s : State) (m : MachineView) (moves : List LooseTransition) → HasWalkedLoosely class limits s m moves → moves ≡ [] → StandsAlike class s m
walked_nowhere class limits s m moves walked none =
    let goes : GoesLooselyTo class (design_of m.code) limits s [] walked.effect = subst (λ (l : List LooseTransition). GoesLooselyTo class (design_of m.code) limits s l walked.effect) none walked.goes in
    let here : Some (silent s) ≡ Some goes.effect = goes.goes in
    let same : silent s ≡ goes.effect = cc in
    let alike : AlikeIn class s walked.effect.state = subst (λ (e : Effect). AlikeIn class e.state walked.effect.state) (sym same) goes.one_node.1 in
    record {
      order = subst IsInOrder (sym walked.state_is) goes.in_order;
      alike = subst (AlikeIn class s) (sym walked.state_is) alike;
      silent_is = walked.lines_are ∙ (sym goes.one_node.0 ∙ ap (λ (e : Effect). e.lines) (sym same));
    }

-- what leads on from a state leads on from one that is alike in classes

-- no transition leads to a state that is alike
stays_there : (class : ℕ → ℕ) (design : Design) (limits : Limits) (s t : State) → IsInOrder t → AlikeIn class s t → GoesLooselyTo class design limits s [] (in_state (silent s) t)
stays_there class design limits s t order alike =
    record { effect = silent s; goes = refl; timely = All-nil (IsTimelyMove limits); one_node = (refl, alike); in_order = order }

way_on_too : (class : ℕ → ℕ) (code : Compiled) (limits : Limits) (s t : State) (next : Successor LooseNode LooseTransition) → IsInOrder s → IsInOrder t → AlikeIn class s t → IsLooseWayOn class code limits t next → IsLooseWayOn class code limits s next
way_on_too class code limits s t next i j alike way =
    let first : Effect = in_state (silent s) t in
    record {
      effect = joined first way.effect;
      goes = loose_ways_go_on class (design_of code) limits s first way.effect [] next.moves.items i (stays_there class (design_of code) limits s t j alike) way.goes;
      printed = way.printed;
      holds = record { ready = way.holds.ready; state_is = way.holds.state_is };
    }

way_to_end_too : (class : ℕ → ℕ) (code : Compiled) (limits : Limits) (s t : State) (ended : EndedPath LooseTransition End) → IsInOrder s → IsInOrder t → AlikeIn class s t → IsLooseWayToEnd class code limits t ended → IsLooseWayToEnd class code limits s ended
way_to_end_too class code limits s t ended i j alike way =
    let first : Effect = in_state (silent s) t in
    record {
      effect = joined first way.effect;
      goes = loose_ways_go_on class (design_of code) limits s first way.effect [] ended.moves.items i (stays_there class (design_of code) limits s t j alike) way.goes;
      printed = way.printed;
      here = way.here;
    }

any_weaker : {X : Type 0} (P Q : X → Type 0) (xs : List X) → ((x : X) → P x → Q x) → Any P xs → Any Q xs
any_weaker P Q xs each (k, x, within, at, p) = (k, x, within, at, each x p)

-- a way leads to where the run has finished from a state that is alike, too
leads_too : (class : ℕ → ℕ) (design : Design) (limits : Limits) (s t : State) (lines others : List ℕ) (way : List LooseTransition) → IsInOrder s → IsInOrder t → AlikeIn class t s → others ≡ lines → LeadsToFinish class design limits t lines way → LeadsToFinish class design limits s others way
leads_too class design limits s t lines others way i j alike same (f, goes, timely, finished, prints) =
    let (k, goes', near, printed) = alike_moves_on class design (silent t) (silent s) f way j i alike goes in
    (k, goes', timely, sym near.finished ∙ finished, sym (printed refl) ∙ (prints ∙ sym same))

covers_too : (class : ℕ → ℕ) (design : Design) (limits : Limits) (s t : State) (ways ends : List (List LooseTransition)) → IsInOrder s → IsInOrder t → AlikeIn class s t → CoverToFinish class design limits t ways ends → CoverToFinish class design limits s ways ends
covers_too class design limits s t ways ends i j alike covers transition more g end goes timely here =
    let (k, goes', near, lines) = alike_moves_on class design (silent s) (silent t) g (transition ∷ more) i j alike goes in
    let here' : EndsHere design limits k end =
    ends_alike_in class design limits g k end (moves_keep_order class design (silent s) g (transition ∷ more) i goes) (moves_keep_order class design (silent t) k (transition ∷ more) j goes') near here in
    let back : AlikeIn class t s = states_in-sym class s t alike in
    elim (covers transition more k end goes' timely here') [
      | inl (part, rest, some, split, any) ↦ inl (part, rest, some, split, any_weaker (LeadToOneLooseNode class design limits t part) (LeadToOneLooseNode class design limits s part) ways (λ way. lead_alike class design limits t s part way j i back) any)
      | inr (finished, time, any) ↦ inr (finished, near.time ∙ (time ∙ sym alike.time), any_weaker (LeadsToFinish class design limits t k.lines) (LeadsToFinish class design limits s g.lines) ends (λ way. leads_too class design limits s t k.lines g.lines way i j back (lines refl)) any)
    ]

told_too : (class : ℕ → ℕ) (design : Design) (s t : State) (ends : List (List LooseTransition)) (ended : List (EndedPath LooseTransition End)) → IsInOrder s → IsInOrder t → AlikeIn class s t → TellsWaysToEnds class design t ends ended → TellsWaysToEnds class design s ends ended
told_too class design s t ends ended i j alike told way f there goes =
    let (k, goes', near, lines) = alike_moves_on class design (silent s) (silent t) f way i j alike goes in
    any_weaker (λ (path : EndedPath LooseTransition End). (path.printed.items ≡ k.lines) × (path.end ≡ Stopped Finish)) (λ path. (path.printed.items ≡ f.lines) × (path.end ≡ Stopped Finish)) ended
    (λ path (printed, finished). (printed ∙ sym (lines refl), finished)) (told way k there goes')

finish_too : (class : ℕ → ℕ) (design : Design) (s t : State) (ends : List (List LooseTransition)) → IsInOrder s → IsInOrder t → AlikeIn class s t → LeadToFinish class design t ends → LeadToFinish class design s ends
finish_too class design s t ends i j alike finish way f there goes =
    let (k, goes', near, lines) = alike_moves_on class design (silent s) (silent t) f way i j alike goes in
    near.finished ∙ finish way k there goes'

all_too : (class : ℕ → ℕ) (code : Compiled) (limits : Limits) (s t : State) (xs : List (Successor LooseNode LooseTransition)) (ys : List (EndedPath LooseTransition End)) → IsInOrder s → IsInOrder t → AlikeIn class s t → AreAllLooseWays class code limits t xs ys → AreAllLooseWays class code limits s xs ys
all_too class code limits s t xs ys i j alike all =
    record {
      ends = all.ends;
      finish = finish_too class (design_of code) s t all.ends i j alike all.finish;
      cover = covers_too class (design_of code) limits s t (loose_ways_to xs) all.ends i j alike all.cover;
      ways_told = told_too class (design_of code) s t all.ends ys i j alike all.ways_told;
      told = λ end here. all.told end (ends_alike_in class (design_of code) limits (silent s) (silent t) end i j alike here);
    }

-- what comes of following each transition where a walk stands that took none

pub followed : (class : ℕ → ℕ) (code other : Compiled) (limits : Limits) (s : State) (m : MachineView) (x : Expanded LooseNode LooseTransition End) → IsInOrder s → StandsAlike class s m → other ≡ code → IsExpandedAt class other limits (state_at m) x → IsExpandedAt class code limits s x
followed class code other limits s m x order stands same at =
    let here : IsExpandedAt class code limits (state_at m) x = subst (λ (k : Compiled). IsExpandedAt class k limits (state_at m) x) same at in
    record {
      nexts = All-weaker (IsLooseWayOn class code limits (state_at m)) (IsLooseWayOn class code limits s) (λ next. way_on_too class code limits s (state_at m) next order stands.order stands.alike) x.successors.items here.nexts;
      ends = All-weaker (IsLooseWayToEnd class code limits (state_at m)) (IsLooseWayToEnd class code limits s) (λ ended. way_to_end_too class code limits s (state_at m) ended order stands.order stands.alike) x.ended.items here.ends;
      all = λ whole. all_too class code limits s (state_at m) x.successors.items x.ended.items order stands.order stands.alike (here.all whole);
    }

-- what comes of a walk of one transition or more

walk_is_way : (class : ℕ → ℕ) (code : Compiled) (limits : Limits) (s : State) (m : MachineView) (moves : List LooseTransition) (next : Successor LooseNode LooseTransition) → m.code ≡ code → HasWalkedLoosely class limits s m moves → next.moves.items ≡ moves → next.printed.items ≡ m.lines → IsReadyNode m.code next.node → state_at next.node.machine.value ≡ state_at m
    → IsLooseWayOn class code limits s next
walk_is_way class code limits s m moves next same walked moves_are printed ready state =
    let goes : GoesLooselyTo class (design_of code) limits s moves walked.effect = subst (λ (k : Compiled). GoesLooselyTo class (design_of k) limits s moves walked.effect) same walked.goes in
    record {
      effect = walked.effect;
      goes = subst (λ (l : List LooseTransition). GoesLooselyTo class (design_of code) limits s l walked.effect) (sym moves_are) goes;
      printed = printed ∙ walked.lines_are;
      holds = record { ready = subst (λ (k : Compiled). IsReadyNode k next.node) same ready; state_is = state ∙ walked.state_is };
    }

arrived_next : (class : ℕ → ℕ) (code : Compiled) (limits : Limits) (s : State) (m : MachineView) (moves : List LooseTransition) (xs : List (Successor LooseNode LooseTransition)) → m.code ≡ code → HasWalkedLoosely class limits s m moves → IsArrived m moves xs → All (IsLooseWayOn class code limits s) xs
arrived_next class code limits s m moves xs same walked (next, is, moves_are, printed, ready, state) =
    subst (All (IsLooseWayOn class code limits s)) (sym is)
    (All-cons (IsLooseWayOn class code limits s) next [] (walk_is_way class code limits s m moves next same walked moves_are printed ready state) (All-nil (IsLooseWayOn class code limits s)))

arrived_sound : (class : ℕ → ℕ) (code : Compiled) (limits : Limits) (s : State) (ys : List (EndedPath LooseTransition End)) → ys ≡ [] → All (IsLooseWayToEnd class code limits s) ys
arrived_sound class code limits s ys none = subst (All (IsLooseWayToEnd class code limits s)) (sym none) (All-nil (IsLooseWayToEnd class code limits s))

arrived_all : (class : ℕ → ℕ) (code : Compiled) (limits : Limits) (s : State) (m : MachineView) (moves : List LooseTransition) (xs : List (Successor LooseNode LooseTransition)) (ys : List (EndedPath LooseTransition End)) → m.code ≡ code → HasWalkedLoosely class limits s m moves → moves ≢ [] → IsArrived m moves xs → AreAllLooseWays class code limits s xs ys
arrived_all class code limits s m moves xs ys same walked some (next, is, moves_are, printed, ready, state) =
    let sole : StandsForAllLoosely class (design_of code) limits s moves = subst (λ (k : Compiled). StandsForAllLoosely class (design_of k) limits s moves) same (walked.sole some) in
    let all : AreAllLooseWays class code limits s (next ∷ []) ys =
    record {
      ends = [];
      finish = none_finish class (design_of code) s;
      cover = covers_without_ends class (design_of code) limits s (next.moves.items ∷ [])
          (subst (λ (l : List LooseTransition). CoverMoves class (design_of code) limits s (l ∷ [])) (sym moves_are) sole.covers);
      ways_told = none_to_tell class (design_of code) s ys;
      told = λ end here. absurd (sole.goes_on end here);
    } in
    subst (λ (l : List (Successor LooseNode LooseTransition)). AreAllLooseWays class code limits s l ys) (sym is) all

pub arrived : (class : ℕ → ℕ) (code : Compiled) (limits : Limits) (s : State) (m : MachineView) (moves : List LooseTransition) (x : Expanded LooseNode LooseTransition End) → m.code ≡ code → HasWalkedLoosely class limits s m moves → moves ≢ [] → IsArrived m moves x.successors.items → x.ended.items ≡ []
    → IsExpandedAt class code limits s x
arrived class code limits s m moves x same walked some one none =
    record {
      nexts = arrived_next class code limits s m moves x.successors.items same walked one;
      ends = arrived_sound class code limits s x.ended.items none;
      all = λ whole. arrived_all class code limits s m moves x.successors.items x.ended.items same walked some one;
    }

-- what an answer of `is_empty` says of the elements

no_elements : {X : Type 0} (xs : List X) → length xs ≡ 0 → xs ≡ []
no_elements [] none = refl
no_elements (x ∷ xs) none = absurd (omega (arith, none))

pub none_if_empty : (v : Vec LooseTransition Global) (b : Bool) → b ≡ (vec_len v == 0) → b ≡ true → v.items ≡ []
none_if_empty v b is yes_it_is =
    let none : length v.items ≡ 0 = grind (arith, common_steps) in
    no_elements v.items none

pub some_if_not_empty : (v : Vec LooseTransition Global) (b : Bool) → b ≡ (vec_len v == 0) → b ≡ false → v.items ≢ []
some_if_not_empty v b is not_it =
    let some : 0 < length v.items = grind (arith, common_steps) in
    λ e. omega (arith, some, ap length e)
