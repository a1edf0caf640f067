-- What following ways by parts from a state comes to.
use Rattle.std.proofs.Common.{◌≡◌, ℕ, true, List, [], ◌∷◌, ◌++◌, append_assoc, map, length, Some, refl, sym, ap, ◌∙◌, subst, arith}
use Rattle.std.specs.List.{All, Contains}
use Rattle.std.specs.Global.{Vec}
use Rattle.std.proofs.lemmas.List.{map-append}
use Rattle.std.proofs.lemmas.List.Elements.{All-nil, All-cons, All-head, All-tail, All-push, All-weaker, All-contains, Contains-append_left, Contains-append_right}
use Rattle.model.specs.declared.end.Limits.{Limits}
use Rattle.model.specs.declared.end.Why.TheVariants.{Finish}
use Rattle.model.specs.declared.end.End.{End}
use Rattle.model.specs.declared.end.End.TheVariants.{Stopped}
use Rattle.model.specs.States.{State}
use Rattle.model.specs.Runs.{Effect, silent}
use Rattle.model.specs.Texts.{EndsHere}
use Rattle.design.specs.Compiled.{Compiled, design_of}
use Rattle.regions.specs.Machine.{MachineView, state_at}
use Rattle.explore.specs.declared.Successor.{Successor}
use Rattle.explore.specs.declared.EndedPath.{EndedPath}
use Rattle.explore.specs.declared.Expanded.{Expanded}
use Rattle.loose.specs.declared.transition.LooseTransition.{LooseTransition}
use Rattle.looseruns.specs.LooseMoves.{moves_from, AreTimelyMoves}
use Rattle.looseruns.specs.LooseCover.{loose_ways_to}
use Rattle.looseruns.specs.LooseGoing.{GoesLooselyTo}
use Rattle.looseruns.proofs.LooseCovering.{any_of_map}
use Rattle.runs.specs.Halting.{GoesOn}
use Rattle.runs.proofs.Halts.{only_long_turns_end}
use Rattle.looseruns.specs.ObservedEnding.{CoverToFinish}
use Rattle.looseparts.specs.EndingCover.{TellsWaysToEnds}
use Rattle.looseparts.specs.FoundWays.{ways_in}
use Rattle.looseparts.proofs.Lists.{contains_here, all_contained}
use Rattle.looseparts.specs.declared.parts.CoveringWays.{CoveringWays}
use Rattle.lawful.specs.Again.{HasTakenEach}
use Rattle.lawful.specs.LooseNodes.{IsReadyNode, IsLooseWayOn, IsLooseWayToEnd, LeadToFinish, AreAllLooseWays, IsExpandedAt}
use Rattle.lawful.specs.ByParts.{IsWithin, StandForAll, IsOnInTime, IsWayTaken, AreWaysTaken, moves_to_ends, IsFinishedAt, IsFinishedInTime, AreEndsOf, AreFollowed}
use Rattle.lawful.specs.declared.node.LooseNode.{LooseNode}

-- one way

pub way_taken : (class : ℕ → ℕ) (m copy new : MachineView) (way : List LooseTransition) (next : Successor LooseNode LooseTransition) → copy ≡ m → m.lines ≡ [] → HasTakenEach class copy way new → next.moves.items ≡ way → next.printed.items ≡ new.lines → IsReadyNode new.code next.node → state_at next.node.machine.value ≡ state_at new
    → IsWayTaken class m.code (state_at m) way next
way_taken class m copy new way next same none taken moves printed ready state =
    let taken' : HasTakenEach class m way new = subst (λ (p : MachineView). HasTakenEach class p way new) same taken in
    let gone = taken'.gone in (
      moves,
      λ limits timely.
          record {
            effect = gone.effect;
            goes = subst (λ (l : List LooseTransition). GoesLooselyTo class (design_of m.code) limits (state_at m) l gone.effect) (sym moves) (gone.goes limits (subst (AreTimelyMoves limits) moves timely));
            printed = printed ∙ (taken'.lines_are ∙ ap (λ l. l ++ gone.effect.lines) none);
            holds = record { ready = subst (λ (k : Compiled). IsReadyNode k next.node) gone.code_is ready; state_is = state ∙ gone.state_is };
          },
    )

end_taken : (class : ℕ → ℕ) (code : Compiled) (s : State) (next : Successor LooseNode LooseTransition) (ended : EndedPath LooseTransition End) → IsOnInTime class code s next → IsFinishedAt next ended → IsFinishedInTime class code s ended
end_taken class code s next ended on (finished, moves, printed, end) = (
  end,
  λ limits timely.
      let way = on limits (subst (AreTimelyMoves limits) moves timely) in
      let over : way.effect.state.finished ≡ true = sym (ap (λ (s : State). s.finished) way.holds.state_is) ∙ finished in
      let here : EndsHere (design_of code) limits way.effect (Stopped Finish) = ((λ e. cc), (λ e. cc), over) in
      record {
        effect = way.effect;
        goes = subst (λ (l : List LooseTransition). GoesLooselyTo class (design_of code) limits s l way.effect) (sym moves) way.goes;
        printed = printed ∙ way.printed;
        here = subst (EndsHere (design_of code) limits way.effect) (sym end) here;
      },
)

-- one end more
pub one_more_end : (xs : List (Successor LooseNode LooseTransition)) (next : Successor LooseNode LooseTransition) (ys more : List (EndedPath LooseTransition End)) (ended : EndedPath LooseTransition End) → more ≡ ys ++ ended ∷ [] → AreEndsOf xs ys → IsFinishedAt next ended → AreEndsOf (xs ++ next ∷ []) more
one_more_end xs next ys more ended longer before at =
    let both : moves_to_ends (ys ++ ended ∷ []) ≡ loose_ways_to (xs ++ next ∷ []) =
    map-append (λ (path : EndedPath LooseTransition End). path.moves.items) ys (ended ∷ [])
    ∙ (ap (λ l. l ++ ended.moves.items ∷ []) before.ways_are ∙ (ap (λ w. loose_ways_to xs ++ w ∷ []) at.1 ∙ sym (map-append (λ (next : Successor LooseNode LooseTransition). next.moves.items) xs (next ∷ [])))) in
    record {
      ways_are = ap moves_to_ends longer ∙ both;
      to = λ class code s on.
          let firsts : All (IsOnInTime class code s) xs = all_contained (IsOnInTime class code s) xs (xs ++ next ∷ []) (λ x there. Contains-append_left xs (next ∷ []) x there) on in
          let last : IsOnInTime class code s next = All-contains (IsOnInTime class code s) (xs ++ next ∷ []) next on (Contains-append_right xs (next ∷ []) next (contains_here next [])) in
          subst (All (IsFinishedInTime class code s)) (sym longer) (All-push (IsFinishedInTime class code s) ys ended (before.to class code s firsts) (end_taken class code s next ended last at));
    }

-- ways, one after another

pub one_more_way : {X : Type 0} (f : X → List LooseTransition) (all : List (List LooseTransition)) (xs : List X) (x : X) (way : List LooseTransition) (rest : List (List LooseTransition)) → f x ≡ way → map f xs ++ way ∷ rest ≡ all → map f (xs ++ x ∷ []) ++ rest ≡ all
one_more_way f all xs x way rest is before =
    ap (λ l. l ++ rest) (map-append f xs (x ∷ [])) ∙ (append_assoc (map f xs) (f x ∷ []) rest ∙ (ap (λ w. map f xs ++ w ∷ rest) is ∙ before))

pub last_way : (class : ℕ → ℕ) (code : Compiled) (s : State) (ways others : List (Vec LooseTransition)) (last : Vec LooseTransition) (xs more : List (Successor LooseNode LooseTransition)) (x : Successor LooseNode LooseTransition) → ways ≡ others ++ last ∷ [] → more ≡ xs ++ x ∷ []
    → AreWaysTaken class code s (ways_in others) xs → IsWayTaken class code s last.items x → AreWaysTaken class code s (ways_in ways) more
last_way class code s ways others last xs more x all longer before (moves, on) =
    let both : loose_ways_to (xs ++ x ∷ []) ≡ ways_in others ++ last.items ∷ [] =
    map-append (λ (next : Successor LooseNode LooseTransition). next.moves.items) xs (x ∷ []) ∙ (ap (λ l. l ++ x.moves.items ∷ []) before.ways_are ∙ ap (λ w. ways_in others ++ w ∷ []) moves) in
    record {
      ways_are = ap (λ (l : List (Successor LooseNode LooseTransition)). loose_ways_to l) longer ∙ (both ∙ (sym (map-append (λ (way : Vec LooseTransition). way.items) others (last ∷ [])) ∙ ap (λ (l : List (Vec LooseTransition)). ways_in l) (sym all)));
      on = subst (All (IsOnInTime class code s)) (sym longer) (All-push (IsOnInTime class code s) xs x before.on on);
    }

none_at_all : {X : Type 0} (xs : List X) → length xs ≡ 0 → xs ≡ []
none_at_all [] none = refl
none_at_all (x ∷ xs) none = absurd (omega (arith, none))

pub no_ways_taken : (class : ℕ → ℕ) (code : Compiled) (s : State) (ways : List (Vec LooseTransition)) (xs : List (Successor LooseNode LooseTransition)) → length ways ≡ 0 → xs ≡ [] → AreWaysTaken class code s (ways_in ways) xs
no_ways_taken class code s ways xs none silent =
    record {
      ways_are = ap (λ (l : List (Successor LooseNode LooseTransition)). loose_ways_to l) silent ∙ ap (λ (l : List (Vec LooseTransition)). ways_in l) (sym (none_at_all ways none));
      on = subst (All (IsOnInTime class code s)) (sym silent) (All-nil (IsOnInTime class code s));
    }

-- what holds of each of some ways, and of each that was taken by one of them

both_hold : {X : Type 0} (f : X → List LooseTransition) (P : List LooseTransition → Type 0) (Q R : X → Type 0) (xs : List X) → ((x : X) → P (f x) → Q x → R x) → All P (map f xs) → All Q xs → All R xs
both_hold f P Q R [] each ps qs = All-nil R
both_hold f P Q R (x ∷ xs) each ps qs =
    All-cons R x xs (each x (All-head P (f x) (map f xs) ps) (All-head Q x xs qs)) (both_hold f P Q R xs each (All-tail P (f x) (map f xs) ps) (All-tail Q x xs qs))

-- the run has finished at the end of a way
abbrev IsToFinish : (ℕ → ℕ) → Compiled → Limits → State → EndedPath LooseTransition End → Type 0
IsToFinish class code limits s ended = (ended.end ≡ Stopped Finish) × IsLooseWayToEnd class code limits s ended

module _ (class : ℕ → ℕ) (code : Compiled) (limits : Limits) (s : State) (entries : ℕ) (found : CoveringWays) (xs : List (Successor LooseNode LooseTransition)) (ys : List (EndedPath LooseTransition End)) (followed : AreFollowed class code s found xs ys) where
  parts_next : All (IsWithin limits entries) (ways_in found.ways.items) → All (IsLooseWayOn class code limits s) xs
  parts_next within =
      both_hold (λ (next : Successor LooseNode LooseTransition). next.moves.items) (IsWithin limits entries) (IsOnInTime class code s) (IsLooseWayOn class code limits s) xs (λ next (timely, few) on. on limits timely) (subst (All (IsWithin limits entries)) (sym followed.nexts.ways_are) within) followed.nexts.on

  to_finish : All (IsWithin limits entries) (ways_in found.ends.items) → All (IsToFinish class code limits s) ys
  to_finish within =
      both_hold (λ (path : EndedPath LooseTransition End). path.moves.items) (IsWithin limits entries) (IsFinishedInTime class code s) (IsToFinish class code limits s) ys (λ path (timely, few) (end, to). (end, to limits timely)) (subst (All (IsWithin limits entries)) (sym followed.ends.ways_are) within) followed.ends.to

  parts_sound : All (IsWithin limits entries) (ways_in found.ends.items) → All (IsLooseWayToEnd class code limits s) ys
  parts_sound within = All-weaker (IsToFinish class code limits s) (IsLooseWayToEnd class code limits s) (λ path (end, to). to) ys (to_finish within)

-- two effects of one way
one_effect : (e f : Effect) → Some e ≡ Some f → e ≡ f
one_effect e f same = cc

-- what a way to an end prints is told
tells_path : (class : ℕ → ℕ) (code : Compiled) (limits : Limits) (s : State) (way : List LooseTransition) (f : Effect) (path : EndedPath LooseTransition End) → path.moves.items ≡ way → IsToFinish class code limits s path → moves_from class (design_of code) (silent s) way ≡ Some f
    → (path.printed.items ≡ f.lines) × (path.end ≡ Stopped Finish)
tells_path class code limits s way f path moves (end, to) goes =
    let same : to.goes.effect ≡ f = one_effect to.goes.effect f (sym to.goes.goes ∙ (ap (moves_from class (design_of code) (silent s)) moves ∙ goes)) in
    (to.printed ∙ (sym to.goes.one_node.0 ∙ ap (λ (e : Effect). e.lines) same), end)

-- each of these ways to ends is told
ways_to_ends_told : (class : ℕ → ℕ) (code : Compiled) (limits : Limits) (s : State) (ends : List (List LooseTransition)) (ys : List (EndedPath LooseTransition End)) → moves_to_ends ys ≡ ends → All (IsToFinish class code limits s) ys → TellsWaysToEnds class (design_of code) s ends ys
ways_to_ends_told class code limits s ends ys same all way f there goes =
    let (k, less, at) = subst (λ (l : List (List LooseTransition)). Contains l way) (sym same) there in
    let (j, path, low, is, moves) = any_of_map (λ (path : EndedPath LooseTransition End). path.moves.items) (λ l. l ≡ way) ys (k, way, less, at, refl) in
    (j, path, low, is, tells_path class code limits s way f path moves (All-contains (IsToFinish class code limits s) ys path all (j, low, is)) goes)

-- the run has finished where each of these ways to ends leads
ways_finish : (class : ℕ → ℕ) (code : Compiled) (limits : Limits) (s : State) (ends : List (List LooseTransition)) (ys : List (EndedPath LooseTransition End)) → moves_to_ends ys ≡ ends → All (IsToFinish class code limits s) ys → LeadToFinish class (design_of code) s ends
ways_finish class code limits s ends ys same all way f there goes =
    let (k, less, at) = subst (λ (l : List (List LooseTransition)). Contains l way) (sym same) there in
    let (j, path, low, is, moves) = any_of_map (λ (path : EndedPath LooseTransition End). path.moves.items) (λ l. l ≡ way) ys (k, way, less, at, refl) in
    let (end, to) = All-contains (IsToFinish class code limits s) ys path all (j, low, is) in
    let here : EndsHere (design_of code) limits to.effect (Stopped Finish) = subst (EndsHere (design_of code) limits to.effect) end to.here in
    let one : to.goes.effect ≡ f = one_effect to.goes.effect f (sym to.goes.goes ∙ (ap (moves_from class (design_of code) (silent s)) moves ∙ goes)) in
    ap (λ (e : Effect). e.state.finished) (sym one) ∙ (to.goes.one_node.1.finished ∙ here.2)

-- nothing is left out where the ways by parts stand for all
parts_all : (class : ℕ → ℕ) (limits : Limits) (m : MachineView) (found : CoveringWays) (xs : List (Successor LooseNode LooseTransition)) (ys : List (EndedPath LooseTransition End)) → GoesOn limits (state_at m) → StandForAll class limits m found → AreFollowed class m.code (state_at m) found xs ys
    → AreAllLooseWays class m.code limits (state_at m) xs ys
parts_all class limits m found xs ys on stand followed =
    let design = design_of m.code in
    record {
      ends = ways_in found.ends.items;
      finish = ways_finish class m.code limits (state_at m) (ways_in found.ends.items) ys followed.ends.ways_are (to_finish class m.code limits (state_at m) m.core.entries found xs ys followed stand.ends_within);
      cover = subst (λ (l : List (List LooseTransition)). CoverToFinish class design limits (state_at m) l (ways_in found.ends.items)) (sym followed.nexts.ways_are) stand.cover;
      ways_told = ways_to_ends_told class m.code limits (state_at m) (ways_in found.ends.items) ys followed.ends.ways_are (to_finish class m.code limits (state_at m) m.core.entries found xs ys followed stand.ends_within);
      told = λ end here.
          let (p, is, long) = only_long_turns_end design limits (state_at m) on.entry end on.next here in
          absurd (stand.short p long);
    }

pub parts_expanded : (class : ℕ → ℕ) (limits : Limits) (m : MachineView) (found : CoveringWays) (x : Expanded LooseNode LooseTransition End) → GoesOn limits (state_at m) → StandForAll class limits m found → AreFollowed class m.code (state_at m) found x.successors.items x.ended.items
    → IsExpandedAt class m.code limits (state_at m) x
parts_expanded class limits m found x on stand followed =
    record {
      nexts = parts_next class m.code limits (state_at m) m.core.entries found x.successors.items x.ended.items followed stand.ways_within;
      ends = parts_sound class m.code limits (state_at m) m.core.entries found x.successors.items x.ended.items followed stand.ends_within;
      all = λ whole. parts_all class limits m found x.successors.items x.ended.items on stand followed;
    }
