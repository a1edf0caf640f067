-- What an expansion comes to where a run halts.
use Rattle.std.proofs.Common.{ℕ, ◌≡◌, ◌<◌, List, [], ◌∷◌, Result, Ok, Err, inl, refl, sym, ◌∙◌, subst, arith}
use Rattle.std.specs.Prelude.{IfOk}
use Rattle.std.specs.List.{All, Contains}
use Rattle.std.proofs.lemmas.List.Elements.{All-nil, All-cons}
use Rattle.model.specs.declared.end.Limits.{Limits}
use Rattle.model.specs.declared.end.End.{End}
use Rattle.model.specs.Design.{Design}
use Rattle.model.specs.States.{State}
use Rattle.model.specs.Runs.{silent}
use Rattle.model.specs.Texts.{EndsHere}
use Rattle.orders.specs.Alike.{IsInOrder}
use Rattle.design.specs.Compiled.{Compiled, design_of}
use Rattle.loose.specs.declared.transition.LooseTransition.{LooseTransition}
use Rattle.loose.proofs.ClassStates.{states_in-same}
use Rattle.looseruns.specs.LooseCover.{FollowMoves, FollowLooseEntries}
use Rattle.looseruns.specs.LooseGoing.{GoesLooselyTo}
use Rattle.looseruns.proofs.LooseGoing.{no_move_stays}
use Rattle.looseruns.proofs.LooseCovering.{entries_follow}
use Rattle.loosesteps.specs.LooselyTaken.{MayBeTaken}
use Rattle.runs.specs.Halting.{GoesOn, HaltsAt}
use Rattle.explore.specs.declared.Successor.{Successor}
use Rattle.explore.specs.declared.EndedPath.{EndedPath}
use Rattle.explore.specs.declared.Expanded.{Expanded}
use Rattle.lawful.specs.LooseNodes.{IsLooseWayOn, IsLooseWayToEnd, AreLooseWaysFor, AreAllLooseWays, IsExpandedAt}
use Rattle.lawful.specs.declared.node.LooseNode.{LooseNode}
use Rattle.lawful.proofs.LongTurns.{step_is_permitted_loosely, some_may_be_next}
use Rattle.lawful.proofs.Ways.{all_followed, followed_cover, covers_without_ends, none_finish, none_to_tell}

-- the end of a run that halts, as what an expansion tells
abbrev pub IsRested : End → List (EndedPath LooseTransition End) → Type 0
IsRested end xs = (one : EndedPath LooseTransition End) × (xs ≡ one ∷ []) × (one.end ≡ end) × (one.printed.items ≡ []) × (one.moves.items ≡ [])

halted_sound : (class : ℕ → ℕ) (code : Compiled) (limits : Limits) (s : State) (end : End) (xs : List (EndedPath LooseTransition End)) → IsInOrder s → 0 < limits.max_entries → HaltsAt (design_of code) limits s end → IsRested end xs → All (IsLooseWayToEnd class code limits s) xs
halted_sound class code limits s end xs order few halts (one, is, end_is, printed, moves) =
    let way : IsLooseWayToEnd class code limits s one =
    record {
      effect = silent s;
      goes = subst (λ (l : List LooseTransition). GoesLooselyTo class (design_of code) limits s l (silent s)) (sym moves) (no_move_stays class (design_of code) limits s order);
      printed = printed;
      here = subst (EndsHere (design_of code) limits (silent s)) (sym end_is) (halts.ends (inl few));
    } in
    subst (All (IsLooseWayToEnd class code limits s)) (sym is) (All-cons (IsLooseWayToEnd class code limits s) one [] way (All-nil (IsLooseWayToEnd class code limits s)))

-- nothing leads on in time from where a run halts
none_follow : (class : ℕ → ℕ) (design : Design) (limits : Limits) (s : State) (end : End) → HaltsAt design limits s end → FollowLooseEntries class design limits s []
none_follow class design limits s end halts entry f at_f timely =
    let (other, next) = some_may_be_next class limits s entry (step_is_permitted_loosely class design s entry f at_f) timely in
    absurd (halts.nothing other next)

halted_all : (class : ℕ → ℕ) (code : Compiled) (limits : Limits) (s : State) (end : End) (successors : List (Successor LooseNode LooseTransition)) (xs : List (EndedPath LooseTransition End)) → IsInOrder s → HaltsAt (design_of code) limits s end → IsRested end xs → successors ≡ [] → AreAllLooseWays class code limits s successors xs
halted_all class code limits s end successors xs order halts (one, is, end_is, printed, moves) none =
    let design = design_of code in
    let follow : FollowMoves class design limits s [] = entries_follow class design limits s s [] order order (states_in-same class s) (none_follow class design limits s end halts) in
    let all : AreAllLooseWays class code limits s [] (one ∷ []) =
    record {
      ends = [];
      finish = none_finish class design s;
      cover = covers_without_ends class design limits s [] (followed_cover class design limits s [] follow);
      ways_told = none_to_tell class design s (one ∷ []);
      told = λ other here. (0, one, omega arith, refl, (printed, end_is ∙ sym (halts.only other here)));
    } in
    subst (λ (l : List (Successor LooseNode LooseTransition)). AreAllLooseWays class code limits s l xs) (sym none)
    (subst (λ (l : List (EndedPath LooseTransition End)). AreAllLooseWays class code limits s [] l) (sym is) all)

pub halted : (class : ℕ → ℕ) (code : Compiled) (limits : Limits) (s : State) (end : End) (x : Expanded LooseNode LooseTransition End) → IsInOrder s → 0 < limits.max_entries → HaltsAt (design_of code) limits s end → IsRested end x.ended.items → x.successors.items ≡ [] → IsExpandedAt class code limits s x
halted class code limits s end x order few halts rested none =
    record {
      nexts = subst (All (IsLooseWayOn class code limits s)) (sym none) (All-nil (IsLooseWayOn class code limits s));
      ends = halted_sound class code limits s end x.ended.items order few halts rested;
      all = λ whole. halted_all class code limits s end x.successors.items x.ended.items order halts rested none;
    }

-- what comes of following each transition that may be taken
pub branched : (class : ℕ → ℕ) (code : Compiled) (limits : Limits) (s : State) (transitions : List LooseTransition) (x : Expanded LooseNode LooseTransition End) → IsInOrder s → GoesOn limits s
    → ((transition : LooseTransition) → MayBeTaken class s transition → Contains transitions transition) → AreLooseWaysFor class code limits s transitions x.successors.items x.ended.items → IsExpandedAt class code limits s x
branched class code limits s transitions x order on within ways =
    record {
      nexts = ways.nexts;
      ends = ways.ends;
      all = λ whole. all_followed class code limits s transitions x.successors.items x.ended.items order on within ways;
    }

pub both_ok : {T E : Type 0} (r : Result T E) (P Q : T → Type 0) → IfOk r P → IfOk r Q → IfOk r (λ x. P x × Q x)
both_ok (Ok x) P Q p q = (p, q)
both_ok (Err e) P Q p q = tt
