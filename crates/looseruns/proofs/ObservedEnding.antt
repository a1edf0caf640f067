-- What ways to ends cover is covered in a search of observed runs.
use Rattle.std.proofs.Common.{◌≡◌, ◌≢◌, ℕ, ◌<◌, true, List, [], ◌∷◌, ◌++◌, length, Some, inl, inr, refl, sym, ap, ◌∙◌, subst, arith}
use Rattle.std.specs.List.{All}
use Rattle.model.specs.declared.end.Limits.{Limits}
use Rattle.model.specs.declared.end.Why.TheVariants.{Finish}
use Rattle.model.specs.declared.end.End.{End}
use Rattle.model.specs.declared.end.End.TheVariants.{Stopped}
use Rattle.model.specs.Design.{Design}
use Rattle.model.specs.States.{State}
use Rattle.model.specs.Runs.{Effect, silent}
use Rattle.model.specs.Texts.{EndsHere}
use Rattle.orders.specs.Alike.{IsInOrder}
use Rattle.loose.specs.declared.transition.LooseTransition.{LooseTransition}
use Rattle.loose.specs.Loose.{AlikeIn}
use Rattle.loose.proofs.ClassStates.{states_in-same}
use Rattle.explore.specs.declared.Successor.{Successor}
use Rattle.looseruns.specs.LooseMoves.{moves_from, AreTimelyMoves}
use Rattle.looseruns.specs.LooseCover.{loose_ways_to}
use Rattle.looseruns.specs.ObservedJournals.{Observer, SeenEnd}
use Rattle.looseruns.specs.ObservedMoves.{SeesAlike, StaysInTime}
use Rattle.looseruns.specs.ObservedRuns.{ComesObserved, observed_text_of_moves, ComeToOneObservedNode}
use Rattle.looseruns.specs.ObservedGoing.{GoesObservedTo}
use Rattle.looseruns.specs.ObservedEnding.{CoveringToFinishIsCovered}
use Rattle.looseruns.proofs.Moves.{moves_keep_order, alike_moves_on}
use Rattle.looseruns.proofs.RunsOfMoves.{first_part_timely, ends_alike_in}
use Rattle.looseruns.proofs.LooseCovering.{in_state, any_of_map}
use Rattle.looseruns.proofs.FutureTimes.{IsAhead}
use Rattle.looseruns.proofs.PassingTime.{stayed}
use Rattle.looseruns.proofs.ObservedParts.{observed_of_more, observed_came_of_more, observed_text_is, observed_run_in_order, observed_is_plain, unseen_moves}
use Rattle.looseruns.proofs.ObservedGoing.{leads_on_observed}
use Rattle.looseruns.proofs.ObservedCovering.{reached_ahead, lead_together, passes_first, ends_where_it_stands}

-- the observed text of a run that goes on while no time passes is what its transitions print from what is alike, behind its text before
text_behind : (class : ℕ → ℕ) (design : Design) (limits : Limits) (observe : Observer) (run transitions : List LooseTransition) (e k : Effect) (s : State) → SeesAlike observe → ComesObserved class design limits observe run e → IsInOrder s → AlikeIn class e.state s
    → moves_from class design (silent s) transitions ≡ Some k → AreTimelyMoves limits transitions → All StaysInTime transitions → observed_text_of_moves class design observe run ++ k.lines ≡ observed_text_of_moves class design observe (run ++ transitions)
text_behind class design limits observe run transitions e k s sees at_e j alike goes timely stay =
    let i = observed_run_in_order class design observe run e at_e.0 in
    let to : GoesObservedTo class design limits observe s transitions k =
    record { effect = k; goes = unseen_moves class design observe (silent s) transitions stay ∙ goes; timely = timely; one_node = (refl, states_in-same class k.state); in_order = moves_keep_order class design (silent s) k transitions j goes } in
    let (h, at_h, node) = leads_on_observed class design limits observe e (in_state e s) k transitions sees i j (refl, alike) to in
    let at_h' : ComesObserved class design limits observe (run ++ transitions) h = observed_of_more class design limits observe run transitions e h at_e at_h timely in
    ap (λ z. z ++ k.lines) (observed_text_is class design observe run e at_e.0) ∙ (sym node.0 ∙ sym (observed_text_is class design observe (run ++ transitions) h at_h'.0))

-- an end is told by how it ends and by what is seen
told_end : (end : SeenEnd) (how : End) (seen : List ℕ) → end.end ≡ how → end.seen ≡ seen → record { end = how; seen = seen } ≡ end
told_end end how seen is same =
    ap (λ (h : End). record { end = h; seen = seen }) (sym is) ∙ ap (λ (l : List ℕ). record { end = end.end; seen = l }) (sym same)

-- there is some way
some_way : (ends : List (List LooseTransition)) (n : ℕ) → n < length ends → ends ≢ []
some_way ends n within none = omega (arith, within, ap length none)

-- where a run has finished
finished_so : (design : Design) (limits : Limits) (k : Effect) (end : End) → end ≡ Stopped Finish → EndsHere design limits k end → k.state.finished ≡ true
finished_so design limits k end is here = (subst (EndsHere design limits k) is here).2

pub covering_to_finish_is_covered : {Node : Type 0} (Holds : Node → Effect → Type 0) → CoveringToFinishIsCovered Holds
covering_to_finish_is_covered Holds class design limits observe successors ended node run ends at sees one_finish covers firsts tells here_told [] end ends' =
    inl (ends_where_it_stands Holds class design limits observe ended node run at end sees here_told ends')
covering_to_finish_is_covered {Node} Holds class design limits observe successors ended node run ends at sees one_finish covers firsts tells here_told (transition ∷ more) end (g, at_g, (here, seen)) =
    let e : Effect = at.effect in
    let s : State = at.held.state in
    let (goes, timely) = observed_came_of_more class design limits observe run (transition ∷ more) e g at.comes at_g in
    let i = observed_run_in_order class design observe run e at.comes.0 in
    let (x, goes', state) = observed_is_plain class design observe e e g (transition ∷ more) refl goes in
    let (k, goes'', near, lines) = alike_moves_on class design e (silent s) x (transition ∷ more) i at.in_order at.one_node.1 goes' in
    let near' : AlikeIn class g.state k.state = subst (λ t. AlikeIn class t k.state) (sym state) near in
    let here' : EndsHere design limits k end.end =
    ends_alike_in class design limits g k end.end (observed_run_in_order class design observe (run ++ transition ∷ more) g at_g.0) (moves_keep_order class design (silent s) k (transition ∷ more) at.in_order goes'') near' here in
    let ahead : IsAhead s = reached_ahead class design limits observe run e s at.comes at.one_node.1 in
    elim (covers transition more k end.end goes'' timely here') [
      | inl (part, rest, moved, split, (n, way, within, is, together)) ↦
          let timely' : AreTimelyMoves limits part = first_part_timely limits part rest (transition ∷ more) split timely in
          let first = passes_first (loose_ways_to successors) n way firsts within is in
          inr
          (record {
            part = part;
            rest = rest;
            moved = moved;
            split = sym split;
            leads = any_of_map (λ (next : Successor Node LooseTransition). next.moves.items) (λ way. ComeToOneObservedNode class design limits observe (run ++ part) (run ++ way)) successors
                (n, way, within, is, lead_together class design limits observe run part way e s sees at.comes at.in_order at.one_node.1 moved timely' first together);
          })
      | inr (finished, time, (n, way, within, is, (f, leads, timely', over, same))) ↦
          let (m, path, less, there, (printed, ended_so)) = tells way f (n, within, is) leads in
          let stay : All StaysInTime (transition ∷ more) = stayed class design (silent s) k (transition ∷ more) at.in_order ahead goes'' time in
          let one = one_finish (some_way ends n within) f.state k.state over (finished_so design limits k end.end finished here') in
          let sight : end.seen ≡ observe f.state = seen ∙ (sees class g.state k.state near' ∙ sym one) in
          inl (
            m,
            path,
            less,
            there,
            (
              ap (λ z. observed_text_of_moves class design observe run ++ z) (printed ∙ same) ∙ text_behind class design limits observe run (transition ∷ more) e k s sees at.comes at.in_order at.one_node.1 goes'' timely stay,
              ended_so ∙ told_end end (Stopped Finish) (observe f.state) finished sight,
            ),
          )
    ]
