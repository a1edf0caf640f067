-- Ways that stand for all observed loose runs from a state, and such ways that are put together.
use Rattle.std.proofs.Common.{◌≡◌, ℕ, ◌<◌, zero, suc, List, [], ◌∷◌, ◌++◌, append_assoc, length, Some, refl, sym, ap, ◌∙◌, subst, arith}
use Rattle.std.specs.Prelude.{option_and_then}
use Rattle.std.specs.List.{Any}
use Rattle.std.proofs.lemmas.List.Elements.{All-append}
use Rattle.std.proofs.lemmas.Option.{option_and_then_some}
use Rattle.model.specs.declared.entry.Entry.{Entry}
use Rattle.model.specs.declared.end.Limits.{Limits}
use Rattle.model.specs.Design.{Design}
use Rattle.model.specs.States.{State, start}
use Rattle.model.specs.Runs.{Effect, silent, joined}
use Rattle.model.specs.Texts.{EndsHere}
use Rattle.orders.specs.Alike.{IsInOrder}
use Rattle.loose.specs.declared.transition.LooseTransition.{LooseTransition}
use Rattle.loose.specs.Loose.{AlikeIn, loose_step, loose_run_from}
use Rattle.loose.specs.LooseLaws.{IsOneLooseNode}
use Rattle.loose.proofs.ClassStates.{states_in-same, states_in-trans}
use Rattle.looseruns.specs.LooseMoves.{IsTimelyMove, AreTimelyMoves}
use Rattle.looseruns.specs.LooseCover.{LeadToOneLooseNode}
use Rattle.looseruns.specs.ObservedJournals.{Observer, SeenEnd, effect_with_seen}
use Rattle.looseruns.specs.ObservedMoves.{SeesAlike, observed_moves_from, PassesTimeFirst, seen_first}
use Rattle.looseruns.specs.ObservedRuns.{EndsHereObserved}
use Rattle.looseruns.specs.ObservedGoing.{GoesObservedTo}
use Rattle.looseruns.specs.ObservedSole.{LeadToOneObservedNode, CoverObservedMoves, StandsForAllObserved, CoveringMovesAreObserved, ObservedMovesCover, ObservedSoleWaysGoOn}
use Rattle.looseruns.proofs.RunsOfMoves.{first_part_timely, timely_moves_after, ends_alike_in}
use Rattle.looseruns.proofs.LooseGoing.{node_sym, node_trans, node_behind}
use Rattle.looseruns.proofs.FutureTimes.{IsAhead, time_after, ahead_loose_step, ahead_still, ahead_alike}
use Rattle.looseruns.proofs.Observing.{observed_moves_keep_order, alike_observed_on}
use Rattle.looseruns.proofs.ObservedParts.{observed_from-append, observed_came_of_more, observed_run_in_order, observed_is_plain, seen_first_alone}
use Rattle.looseruns.proofs.ObservedSearches.{ends_seen_alike}
use Rattle.looseruns.proofs.ObservedGoing.{leads_on_observed}
use Rattle.looseruns.proofs.ObservedCovering.{begin_alike, passes_first, come_together}

-- every future event is later than the time where a loose run of entries leads

loose_from_ahead : (class : ℕ → ℕ) (design : Design) (e f : Effect) (entries : List Entry) → IsAhead e.state → loose_run_from class design e entries ≡ Some f → IsAhead f.state
loose_from_ahead class design e f [] ahead is =
    let same : e ≡ f = cc in
    subst (λ (x : Effect). IsAhead x.state) same ahead
loose_from_ahead class design e f (entry ∷ entries) ahead is =
    option_and_then_some (λ x. loose_run_from class design (joined e x) entries) (loose_step class design e.state entry) f is
    (λ x at_x later. loose_from_ahead class design (joined e x) f entries (ahead_still (time_after e.state entry) x.state (ahead_loose_step class design e.state entry x at_x ahead)) later)

-- what leads to one loose node leads to one of one observed text
lead_observed : (class : ℕ → ℕ) (design : Design) (limits : Limits) (observe : Observer) (s : State) (part way : List LooseTransition) → IsInOrder s → IsAhead s → 0 < length part → PassesTimeFirst way → LeadToOneLooseNode class design limits s part way
    → LeadToOneObservedNode class design limits observe s part way
lead_observed class design limits observe s part way i ahead moved first (a, b, at_a, at_b, timely, (lines, near)) =
    let (first', seen) = begin_alike class design observe s part way a b i ahead moved at_a at_b near.time first in (
      effect_with_seen (seen_first observe s part) a,
      effect_with_seen (seen_first observe s way) b,
      seen_first_alone class design observe s a part first' at_a,
      seen_first_alone class design observe s b way first at_b,
      timely,
      (ap (λ l. l ++ a.lines) seen ∙ ap (λ l. seen_first observe s way ++ l) lines, near),
    )

pub covering_moves_are_observed : CoveringMovesAreObserved
covering_moves_are_observed class design limits observe s ways journal e i reached alike covers firsts transition more g end goes timely (here, seen) =
    let ahead : IsAhead s = ahead_alike class e.state s alike (loose_from_ahead class design (silent (start design)) e journal (tt, tt) reached) in
    let (f, goes', state) = observed_is_plain class design observe (silent s) (silent s) g (transition ∷ more) refl goes in
    let here' : EndsHere design limits f end.end = subst (λ (t : State). EndsHere design limits (record f { state = t }) end.end) state here in
    let (part, rest, moved, split, (n, way, within, is, together)) = covers transition more f end.end goes' timely here' in
    let first = passes_first ways n way firsts within is in
    (part, rest, moved, split, (n, way, within, is, lead_observed class design limits observe s part way i ahead moved first together))

-- what leads in time from a state where these do
goes_to : (class : ℕ → ℕ) (design : Design) (limits : Limits) (observe : Observer) (s : State) (transitions : List LooseTransition) (k : Effect) → IsInOrder s → observed_moves_from class design observe (silent s) transitions ≡ Some k → AreTimelyMoves limits transitions → GoesObservedTo class design limits observe s transitions k
goes_to class design limits observe s transitions k i goes timely =
    record { effect = k; goes = goes; timely = timely; one_node = (refl, states_in-same class k.state); in_order = observed_moves_keep_order class design observe (silent s) k transitions i goes }

pub observed_moves_cover : ObservedMovesCover
observed_moves_cover class design limits observe run e s ways sees at_e j alike covers transition more end (g, at_g, here) =
    let (goes, timely) = observed_came_of_more class design limits observe run (transition ∷ more) e g at_e at_g in
    let i = observed_run_in_order class design observe run e at_e.0 in
    let (k, goes', near, lines) = alike_observed_on class design observe e (silent s) g (transition ∷ more) sees i j alike goes in
    let here' : EndsHereObserved design limits observe k end =
    ends_seen_alike class design limits observe g k end sees (observed_run_in_order class design observe (run ++ transition ∷ more) g at_g.0) (observed_moves_keep_order class design observe (silent s) k (transition ∷ more) j goes') near here in
    let (part, rest, moved, split, (n, way, within, is, (a, b, at_a, at_b, timely', node))) = covers transition more k end goes' timely here' in
    let first : AreTimelyMoves limits part = first_part_timely limits part rest (transition ∷ more) split timely in (
      part,
      rest,
      moved,
      split,
      (n, way, within, is, come_together class design limits observe run part way e a b s sees at_e j alike (goes_to class design limits observe s part a j at_a first) (goes_to class design limits observe s way b j at_b timely') node),
    )

-- one way stands for all together with one from where it leads

only_way : {P : List LooseTransition → Type 0} (way : List LooseTransition) → Any P (way ∷ []) → P way
only_way {P} way (zero, x, within, is, p) = subst P (sym is) p
only_way way (suc n, x, within, is, p) = absurd (omega (arith, within))

some_more : (part more : List LooseTransition) → 0 < length part → 0 < length (part ++ more)
some_more [] more some = absurd (omega (arith, some))
some_more (x ∷ part) more some = omega arith

split_through : (part part' rest' rest transitions : List LooseTransition) → part' ++ rest' ≡ rest → part ++ rest ≡ transitions → (part ++ part') ++ rest' ≡ transitions
split_through part part' rest' rest transitions later whole = append_assoc part part' rest' ∙ (ap (λ l. part ++ l) later ∙ whole)

module _ (class : ℕ → ℕ) (design : Design) (limits : Limits) (observe : Observer) (s : State) (way more : List LooseTransition) (f : Effect) (sees : SeesAlike observe) (order : IsInOrder s) (to : GoesObservedTo class design limits observe s way f)
    (second : StandsForAllObserved class design limits observe f.state more) where
  -- a first part of the transitions leads to one observed node with both ways
  abbrev Covered : List LooseTransition → Type 0
  Covered transitions =
      (part : List LooseTransition) × (rest : List LooseTransition) × (0 < length part) × (part ++ rest ≡ transitions) × Any (λ w. LeadToOneObservedNode class design limits observe s part w) ((way ++ more) ∷ [])

  -- transitions go on from where two ways have led to one node
  goes_behind : (front transitions : List LooseTransition) (d k : Effect) → observed_moves_from class design observe (silent s) front ≡ Some d → IsOneLooseNode class d f → observed_moves_from class design observe (silent f.state) transitions ≡ Some k → AreTimelyMoves limits transitions
      → (p : Effect) × (observed_moves_from class design observe (silent s) (front ++ transitions) ≡ Some p) × IsOneLooseNode class p (joined f k)
  goes_behind front transitions d k at_d node at_k timely =
      let i = observed_moves_keep_order class design observe (silent s) d front order at_d in
      let (p, at_p, near) = leads_on_observed class design limits observe d f k transitions sees i to.in_order node (goes_to class design limits observe f.state transitions k to.in_order at_k timely) in
      (p, observed_from-append class design observe (silent s) front transitions ∙ (ap (option_and_then (λ x. observed_moves_from class design observe x transitions)) at_d ∙ at_p), near)

  joins : (transitions part rest : List LooseTransition) (a b g : Effect) (end : SeenEnd) → 0 < length part → part ++ rest ≡ transitions → observed_moves_from class design observe (silent s) part ≡ Some a → observed_moves_from class design observe (silent s) way ≡ Some b → AreTimelyMoves limits way → IsOneLooseNode class a b
      → IsOneLooseNode class b f → observed_moves_from class design observe a rest ≡ Some g → AreTimelyMoves limits rest → EndsHereObserved design limits observe g end → Covered transitions
  joins transitions part [] a b g end moved split at_a at_b timely node near goes timely' (here, seen) =
      let same : a ≡ g = cc in
      let i = observed_moves_keep_order class design observe (silent s) a part order at_a in
      let here' : EndsHere design limits a end.end = subst (λ (x : Effect). EndsHere design limits x end.end) (sym same) here in
      let alike : AlikeIn class a.state f.state = states_in-trans class a.state b.state f.state node.1 near.1 in
      absurd (second.goes_on end.end (ends_alike_in class design limits a (silent f.state) end.end i to.in_order alike here'))
  joins transitions part (u ∷ rest) a b g end moved split at_a at_b timely node near goes timely' here =
      let i = observed_moves_keep_order class design observe (silent s) a part order at_a in
      let whole : IsOneLooseNode class a f = node_trans class a b f node near in
      let (k, goes', alike, lines) = alike_observed_on class design observe a (silent f.state) g (u ∷ rest) sees i to.in_order whole.1 goes in
      let here' : EndsHereObserved design limits observe k end =
      ends_seen_alike class design limits observe g k end sees (observed_moves_keep_order class design observe a g (u ∷ rest) i goes) (observed_moves_keep_order class design observe (silent f.state) k (u ∷ rest) to.in_order goes') alike here in
      let (part', rest', moved', split', any) = second.covers u rest k end goes' timely' here' in
      let (c, d, at_c, at_d, timely_more, node') = only_way more any in
      let first : AreTimelyMoves limits part' = first_part_timely limits part' rest' (u ∷ rest) split' timely' in
      let (p, at_p, near_p) = goes_behind part part' a c at_a whole at_c first in
      let (q, at_q, near_q) = goes_behind way more b d at_b near at_d timely_more in
      let both : IsOneLooseNode class p (joined f d) = node_trans class p (joined f c) (joined f d) near_p (node_behind class f c d node') in
      let one : IsOneLooseNode class p q = node_trans class p (joined f d) q both (node_sym class q (joined f d) near_q) in (
        part ++ part',
        rest',
        some_more part part' moved,
        split_through part part' rest' (u ∷ rest) transitions split' split,
        (0, way ++ more, omega arith, refl, (p, q, at_p, at_q, All-append (IsTimelyMove limits) way more timely timely_more, one)),
      )

  covered_together : CoverObservedMoves class design limits observe s (way ∷ []) → CoverObservedMoves class design limits observe s ((way ++ more) ∷ [])
  covered_together covers transition others g end goes timely here =
      let (part, rest, moved, split, any) = covers transition others g end goes timely here in
      let (a, b, at_a, at_b, timely_way, node) = only_way way any in
      let both : Some b ≡ Some to.effect = sym at_b ∙ to.goes in
      let same : to.effect ≡ b = cc in
      let near : IsOneLooseNode class b f = subst (λ x. IsOneLooseNode class x f) same to.one_node in
      let through : option_and_then (λ x. observed_moves_from class design observe x rest) (observed_moves_from class design observe (silent s) part) ≡ Some g =
      sym (observed_from-append class design observe (silent s) part rest) ∙ (ap (observed_moves_from class design observe (silent s)) split ∙ goes) in
      let later : observed_moves_from class design observe a rest ≡ Some g = sym (ap (option_and_then (λ x. observed_moves_from class design observe x rest)) at_a) ∙ through in
      let timely_rest : AreTimelyMoves limits rest = timely_moves_after limits part rest (subst (AreTimelyMoves limits) (sym split) timely) in
      joins (transition ∷ others) part rest a b g end moved split at_a at_b timely_way node near later timely_rest here

pub observed_sole_ways_go_on : ObservedSoleWaysGoOn
observed_sole_ways_go_on class design limits observe s way more f sees i first to second =
    record { covers = covered_together class design limits observe s way more f sees i to second first.covers; goes_on = first.goes_on }
