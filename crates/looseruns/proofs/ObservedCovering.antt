-- Ways cover observed loose runs, and the runs are covered then.
use Rattle.std.proofs.Common.{◌≡◌, ℕ, ◌<◌, List, [], ◌∷◌, ◌++◌, length, slice_index_or, Some, inl, inr, refl, sym, ap, ◌∙◌, subst, arith}
use Rattle.std.specs.List.{All, Any}
use Rattle.std.proofs.lemmas.List.{append-nil}
use Rattle.std.proofs.lemmas.List.Elements.{All-nil, All-cons, All-head, All-tail}
use Rattle.std.proofs.lemmas.Option.{option_and_then_some}
use Rattle.model.specs.declared.entry.Entry.TheVariants.{Advance}
use Rattle.model.specs.declared.end.Limits.{Limits}
use Rattle.model.specs.Design.{Design}
use Rattle.model.specs.States.{State}
use Rattle.model.specs.Runs.{Effect, silent, joined}
use Rattle.model.specs.Texts.{EndsHere}
use Rattle.orders.specs.Alike.{IsInOrder}
use Rattle.orders.proofs.SearchLaws.{then_some}
use Rattle.loose.specs.declared.transition.LooseTransition.{LooseTransition}
use Rattle.loose.specs.declared.transition.LooseTransition.TheVariants.{Change}
use Rattle.loose.specs.Loose.{AlikeIn}
use Rattle.loose.specs.LooseLaws.{IsOneLooseNode}
use Rattle.loose.proofs.ClassStates.{states_in-same}
use Rattle.explore.specs.declared.Successor.{Successor}
use Rattle.explore.specs.declared.EndedPath.{EndedPath}
use Rattle.looseruns.specs.LooseMoves.{move, moves_from, IsTimelyMove, AreTimelyMoves}
use Rattle.looseruns.specs.LooseCover.{LeadToOneLooseNode, loose_ways_to}
use Rattle.looseruns.specs.LooseGoing.{GoesLooselyTo}
use Rattle.looseruns.specs.ObservedJournals.{Observer, SeenEnd, effect_with_seen}
use Rattle.looseruns.specs.ObservedMoves.{SeesAlike, seen_at_move, observed_move, observed_moves_from, StaysInTime, PassesTimeFirst, seen_first}
use Rattle.looseruns.specs.ObservedRuns.{ComesObserved, MayEndObserved, observed_text_of_moves, ComeToOneObservedNode, StandsObserved}
use Rattle.looseruns.specs.ObservedGoing.{GoesObservedTo}
use Rattle.looseruns.specs.ObservedCover.{FollowedMovesCoverObserved, CoveringMovesCoverObserved, CoveringObservedIsCovered, TellsObservedEnds, FollowingObservedIsCovered}
use Rattle.looseruns.proofs.Moves.{moves_keep_order, move_keeps_order, alike_moves_on}
use Rattle.looseruns.proofs.RunsOfMoves.{first_part_timely, ends_alike_in}
use Rattle.looseruns.proofs.LooseGoing.{node_sym, node_trans, node_behind}
use Rattle.looseruns.proofs.LooseCovering.{in_state, any_of_map, entries_follow}
use Rattle.looseruns.proofs.FutureTimes.{IsAhead, ahead_alike}
use Rattle.looseruns.proofs.PassingTime.{KindOf, kind_of, move_passes, stayed, stay_in_time, run_ahead, time_passes_alone}
use Rattle.looseruns.proofs.Observing.{observed_move_is_move}
use Rattle.looseruns.proofs.ObservedParts.{observed_of_more, observed_came_of_more, observed_run_in_order, observed_comes_plainly, observed_is_plain, move_unseen}
use Rattle.looseruns.proofs.ObservedSearches.{ends_seen_alike}
use Rattle.looseruns.proofs.ObservedGoing.{loose_way_is_observed, leads_on_observed}

pub followed_moves_cover_observed : FollowedMovesCoverObserved
followed_moves_cover_observed class design limits observe run e ways at_e follow transition more end (g, at_g, here) =
    let (goes, timely) = observed_came_of_more class design limits observe run (transition ∷ more) e g at_e at_g in
    option_and_then_some (λ x. observed_moves_from class design observe (joined e x) more) (observed_move class design observe e.state transition) g goes
    (λ x at_x later.
    let now = All-head (IsTimelyMove limits) transition more timely in
    let (y, at_y, seen) = observed_move_is_move class design observe e.state transition x at_x in
    let (k, within, is) = follow transition y at_y now in
    let first : observed_moves_from class design observe e (transition ∷ []) ≡ Some (joined e x) =
    then_some (λ z. observed_moves_from class design observe (joined e z) []) (observed_move class design observe e.state transition) x (joined e x) at_x refl in
    let there : ComesObserved class design limits observe (run ++ transition ∷ []) (joined e x) =
    observed_of_more class design limits observe run (transition ∷ []) e (joined e x) at_e first (All-cons (IsTimelyMove limits) transition [] now (All-nil (IsTimelyMove limits))) in
    (transition ∷ [], more, omega arith, refl, (k, transition ∷ [], within, is, (joined e x, joined e x, there, there, (refl, states_in-same class x.state)))))

-- a part and a way that lead to states of one time let it pass at one transition, the first of both, or not at all

-- the same is seen at the first transitions, where alone time may pass
abbrev pub BeginAlike : Observer → State → List LooseTransition → List LooseTransition → Type 0
BeginAlike observe s part way = PassesTimeFirst part × (seen_first observe s part ≡ seen_first observe s way)

begin_unseen : (class : ℕ → ℕ) (design : Design) (observe : Observer) (s : State) (u : LooseTransition) (p way : List LooseTransition) (a : Effect) → IsInOrder s → IsAhead s → moves_from class design (silent s) (u ∷ p) ≡ Some a → a.state.time ≡ s.time → seen_first observe s way ≡ []
    → BeginAlike observe s (u ∷ p) way
begin_unseen class design observe s u p way a i ahead at_a time none =
    let stay = stayed class design (silent s) a (u ∷ p) i ahead at_a time in
    (All-tail StaysInTime u p stay, move_unseen observe s u (All-head StaysInTime u p stay) ∙ sym none)

begin_with : (class : ℕ → ℕ) (design : Design) (observe : Observer) (s : State) (u t : LooseTransition) (p w : List LooseTransition) (a b : Effect) → KindOf t → IsInOrder s → IsAhead s → moves_from class design (silent s) (u ∷ p) ≡ Some a → moves_from class design (silent s) (t ∷ w) ≡ Some b
    → a.state.time ≡ b.state.time → PassesTimeFirst (t ∷ w) → BeginAlike observe s (u ∷ p) (t ∷ w)
begin_with class design observe s u t p w a b (inl stays) i ahead at_a at_b same first =
    let time = stay_in_time class design (silent s) b (t ∷ w) i ahead (All-cons StaysInTime t w stays first) at_b in
    begin_unseen class design observe s u p (t ∷ w) a i ahead at_a (same ∙ time) (move_unseen observe s t stays)
begin_with class design observe s u t p w a b (inr (time, is)) i ahead at_a at_b same first =
    option_and_then_some (λ x. moves_from class design (joined (silent s) x) p) (move class design s u) a at_a
    (λ x at_x later.
    option_and_then_some (λ y. moves_from class design (joined (silent s) y) w) (move class design s t) b at_b
    (λ y at_y later'.
    let advance : move class design s (Change (Advance time)) ≡ Some y = subst (λ z. move class design s z ≡ Some y) is at_y in
    let one : u ≡ Change (Advance time) = time_passes_alone class design s time u y x advance at_x in
    let (less, at_time, ahead') = move_passes class design s time y ahead advance in
    let (less', at_time', ahead'') = move_passes class design s time x ahead (subst (λ z. move class design s z ≡ Some x) one at_x) in
    let there = stay_in_time class design (joined (silent s) y) b w (move_keeps_order class design s t y i at_y) ahead' first later' in
    let stay = stayed class design (joined (silent s) x) a p (move_keeps_order class design s u x i at_x) ahead'' later (same ∙ (there ∙ (at_time ∙ sym at_time'))) in
    (stay, ap (seen_at_move observe s) (one ∙ sym is))))

pub begin_alike : (class : ℕ → ℕ) (design : Design) (observe : Observer) (s : State) (part way : List LooseTransition) (a b : Effect) → IsInOrder s → IsAhead s → 0 < length part → moves_from class design (silent s) part ≡ Some a → moves_from class design (silent s) way ≡ Some b
    → a.state.time ≡ b.state.time → PassesTimeFirst way → BeginAlike observe s part way
begin_alike class design observe s [] way a b i ahead some at_a at_b same first = absurd (omega (arith, some))
begin_alike class design observe s (u ∷ p) [] a b i ahead some at_a at_b same first =
    let last : silent s ≡ b = cc in
    begin_unseen class design observe s u p [] a i ahead at_a (same ∙ ap (λ x. x.state.time) (sym last)) refl
begin_alike class design observe s (u ∷ p) (t ∷ w) a b i ahead some at_a at_b same first =
    begin_with class design observe s u t p w a b (kind_of t) i ahead at_a at_b same first

-- what leads to one loose node from a state, seen alike, comes to one observed node behind a run that leads to one that is alike
pub come_together : (class : ℕ → ℕ) (design : Design) (limits : Limits) (observe : Observer) (run part way : List LooseTransition) (e a b : Effect) (s : State) → SeesAlike observe → ComesObserved class design limits observe run e → IsInOrder s → AlikeIn class e.state s
    → GoesObservedTo class design limits observe s part a → GoesObservedTo class design limits observe s way b → IsOneLooseNode class a b → ComeToOneObservedNode class design limits observe (run ++ part) (run ++ way)
come_together class design limits observe run part way e a b s sees at_e j alike to_a to_b node =
    let i = observed_run_in_order class design observe run e at_e.0 in
    let d : Effect = in_state e s in
    let one : IsOneLooseNode class e d = (refl, alike) in
    let (k, at_k, near_a) = leads_on_observed class design limits observe e d a part sees i j one to_a in
    let (m, at_m, near_b) = leads_on_observed class design limits observe e d b way sees i j one to_b in
    let both : IsOneLooseNode class k (joined d b) = node_trans class k (joined d a) (joined d b) near_a (node_behind class d a b node) in
    let same : IsOneLooseNode class k m = node_trans class k (joined d b) m both (node_sym class m (joined d b) near_b) in
    (k, m, observed_of_more class design limits observe run part e k at_e at_k to_a.timely, observed_of_more class design limits observe run way e m at_e at_m to_b.timely, same)

-- every future event is later than the time in a state that is alike to where a run leads
pub reached_ahead : (class : ℕ → ℕ) (design : Design) (limits : Limits) (observe : Observer) (run : List LooseTransition) (e : Effect) (s : State) → ComesObserved class design limits observe run e → AlikeIn class e.state s → IsAhead s
reached_ahead class design limits observe run e s at_e alike =
    let (f, at_f, state) = observed_comes_plainly class design limits observe run e at_e in
    ahead_alike class e.state s alike (subst IsAhead (sym state) (run_ahead class design run f at_f.0))

-- a part and a way that lead to one loose node do so observed, where time passes on the way at its first transition alone, or nowhere
pub lead_together : (class : ℕ → ℕ) (design : Design) (limits : Limits) (observe : Observer) (run part way : List LooseTransition) (e : Effect) (s : State) → SeesAlike observe → ComesObserved class design limits observe run e → IsInOrder s → AlikeIn class e.state s
    → 0 < length part → AreTimelyMoves limits part → PassesTimeFirst way → LeadToOneLooseNode class design limits s part way → ComeToOneObservedNode class design limits observe (run ++ part) (run ++ way)
lead_together class design limits observe run part way e s sees at_e j alike moved timely first (a, b, at_a, at_b, timely', (lines, near)) =
    let ahead : IsAhead s = reached_ahead class design limits observe run e s at_e alike in
    let (first', seen) = begin_alike class design observe s part way a b j ahead moved at_a at_b near.time first in
    let to_a : GoesLooselyTo class design limits s part a =
    record { effect = a; goes = at_a; timely = timely; one_node = (refl, states_in-same class a.state); in_order = moves_keep_order class design (silent s) a part j at_a } in
    let to_b : GoesLooselyTo class design limits s way b =
    record { effect = b; goes = at_b; timely = timely'; one_node = (refl, states_in-same class b.state); in_order = moves_keep_order class design (silent s) b way j at_b } in
    let a' : Effect = effect_with_seen (seen_first observe s part) a in
    let b' : Effect = effect_with_seen (seen_first observe s way) b in
    let node : IsOneLooseNode class a' b' = (ap (λ l. l ++ a.lines) seen ∙ ap (λ l. seen_first observe s way ++ l) lines, near) in
    come_together class design limits observe run part way e a' b' s sees at_e j alike (loose_way_is_observed class design limits observe s part a first' to_a) (loose_way_is_observed class design limits observe s way b first to_b) node

pub passes_first : (ways : List (List LooseTransition)) (n : ℕ) (way : List LooseTransition) → All PassesTimeFirst ways → n < length ways → slice_index_or ways n way ≡ way → PassesTimeFirst way
passes_first ways n way firsts within is = subst PassesTimeFirst is (firsts n way within)

pub covering_moves_cover_observed : CoveringMovesCoverObserved
covering_moves_cover_observed class design limits observe run e s ways sees at_e j alike covers firsts transition more end (g, at_g, (here, seen)) =
    let (goes, timely) = observed_came_of_more class design limits observe run (transition ∷ more) e g at_e at_g in
    let i = observed_run_in_order class design observe run e at_e.0 in
    let (f, goes', state) = observed_is_plain class design observe e e g (transition ∷ more) refl goes in
    let (k, goes'', near, lines) = alike_moves_on class design e (silent s) f (transition ∷ more) i j alike goes' in
    let near' : AlikeIn class g.state k.state = subst (λ t. AlikeIn class t k.state) (sym state) near in
    let here' : EndsHere design limits k end.end =
    ends_alike_in class design limits g k end.end (observed_run_in_order class design observe (run ++ transition ∷ more) g at_g.0) (moves_keep_order class design (silent s) k (transition ∷ more) j goes'') near' here in
    let (part, rest, moved, split, (n, way, within, is, together)) = covers transition more k end.end goes'' timely here' in
    let timely' : AreTimelyMoves limits part = first_part_timely limits part rest (transition ∷ more) split timely in
    let first = passes_first ways n way firsts within is in
    (part, rest, moved, split, (n, way, within, is, lead_together class design limits observe run part way e s sees at_e j alike moved timely' first together))

-- where nothing more is taken or printed, the observed text is as it was
text_stays : (class : ℕ → ℕ) (design : Design) (observe : Observer) (run : List LooseTransition) (printed : List ℕ) → printed ≡ [] → observed_text_of_moves class design observe run ++ printed ≡ observed_text_of_moves class design observe (run ++ [])
text_stays class design observe run printed none =
    ap (λ t. observed_text_of_moves class design observe run ++ t) none ∙ (append-nil (observed_text_of_moves class design observe run) ∙ ap (observed_text_of_moves class design observe) (sym (append-nil run)))

-- an end at the run itself is told where the ends that a run may have where the node holds it are
pub ends_where_it_stands : {Node : Type 0} (Holds : Node → Effect → Type 0) (class : ℕ → ℕ) (design : Design) (limits : Limits) (observe : Observer) (ended : List (EndedPath LooseTransition SeenEnd)) (node : Node) (run : List LooseTransition) (at : StandsObserved Holds class design limits observe node run) (end : SeenEnd)
    → SeesAlike observe → TellsObservedEnds design limits observe ended at.held → MayEndObserved class design limits observe (run ++ []) end
    → Any (λ (s : EndedPath LooseTransition SeenEnd). (observed_text_of_moves class design observe run ++ s.printed.items ≡ observed_text_of_moves class design observe (run ++ [])) × (s.end ≡ end)) ended
ends_where_it_stands Holds class design limits observe ended node run at end sees tells ends =
    let may : MayEndObserved class design limits observe run end = subst (λ way. MayEndObserved class design limits observe way end) (append-nil run) ends in
    let (e, at_e, here) = may in
    let i = observed_run_in_order class design observe run e at_e.0 in
    let both : Some at.effect ≡ Some e = sym at.comes.0 ∙ at_e.0 in
    let same : at.effect ≡ e = cc in
    let alike : AlikeIn class e.state at.held.state = subst (λ (x : Effect). AlikeIn class x.state at.held.state) same at.one_node.1 in
    let (k, way, within, is, (printed, ended_so)) = tells end (ends_seen_alike class design limits observe e at.held end sees i at.in_order alike here) in
    (k, way, within, is, (text_stays class design observe run way.printed.items printed, ended_so))

pub covering_observed_is_covered : {Node : Type 0} (Holds : Node → Effect → Type 0) → CoveringObservedIsCovered Holds
covering_observed_is_covered Holds class design limits observe successors ended node run at sees covers tells [] end ends =
    inl (ends_where_it_stands Holds class design limits observe ended node run at end sees tells ends)
covering_observed_is_covered {Node} Holds class design limits observe successors ended node run at sees covers tells (transition ∷ more) end ends =
    let (part, rest, moved, split, alike) = covers transition more end ends in
    inr
    (record {
      part = part;
      rest = rest;
      moved = moved;
      split = sym split;
      leads = any_of_map (λ (next : Successor Node LooseTransition). next.moves.items) (λ way. ComeToOneObservedNode class design limits observe (run ++ part) (run ++ way)) successors alike;
    })

pub following_observed_is_covered : {Node : Type 0} (Holds : Node → Effect → Type 0) → FollowingObservedIsCovered Holds
following_observed_is_covered Holds class design limits observe successors ended node run at sees follow tells =
    let i = observed_run_in_order class design observe run at.effect at.comes.0 in
    let moves = entries_follow class design limits at.effect.state at.held.state (loose_ways_to successors) i at.in_order at.one_node.1 follow in
    covering_observed_is_covered Holds class design limits observe successors ended node run at sees (followed_moves_cover_observed class design limits observe run at.effect (loose_ways_to successors) at.comes moves) tells
