-- Ways that stand for all, one after another, and from states that are alike.
use Rattle.std.proofs.Common.{◌≡◌, ◌<◌, ℕ, List, [], ◌∷◌, ◌++◌, length, zero, suc, Option, Some, refl, sym, ap, subst, ◌∙◌, append_assoc, arith}
use Rattle.std.specs.Prelude.{option_and_then}
use Rattle.std.specs.List.{Any}
use Rattle.std.proofs.lemmas.List.{length-append}
use Rattle.std.proofs.lemmas.List.Elements.{All-append}
use Rattle.std.proofs.lemmas.Option.{option_and_then_some}
use Rattle.model.specs.declared.entry.Entry.{Entry}
use Rattle.model.specs.declared.end.Limits.{Limits}
use Rattle.model.specs.declared.end.End.{End}
use Rattle.model.specs.Design.{Design}
use Rattle.model.specs.States.{State, start}
use Rattle.model.specs.Runs.{Effect, silent, joined}
use Rattle.model.specs.Texts.{EndsHere}
use Rattle.orders.specs.Alike.{IsInOrder}
use Rattle.orders.proofs.SearchLaws.{then_some}
use Rattle.orders.proofs.StatesInOrder.{start_is_in_order}
use Rattle.loose.specs.declared.transition.LooseTransition.{LooseTransition}
use Rattle.loose.specs.Loose.{AlikeIn, loose_step, loose_run_from}
use Rattle.loose.specs.LooseLaws.{IsOneLooseNode}
use Rattle.loose.proofs.ClassStates.{states_in-same, states_in-sym, states_in-trans}
use Rattle.loose.proofs.LooseSteps.{loose_run_keeps_order}
use Rattle.looseruns.specs.LooseMoves.{moves_from, IsTimelyMove, AreTimelyMoves}
use Rattle.looseruns.specs.LooseCover.{LeadToOneLooseNode, CoverMoves}
use Rattle.looseruns.specs.LooseGoing.{GoesLooselyTo}
use Rattle.looseruns.proofs.Moves.{moves_keep_order, moves_are_loose_run, alike_moves_on}
use Rattle.looseruns.proofs.RunsOfMoves.{moves_from-append, timely_moves_after, first_part_timely, ends_alike_in}
use Rattle.looseruns.proofs.LooseGoing.{node_sym, node_trans, node_behind, leads_on}
use Rattle.loosewalks.specs.Sole.{StandsForAllLoosely, LikeReachedGoesOn, AlikeStandForAll, SoleLooseWaysGoOn}

-- what holds of some of one holds of it, and the other way round
pub of_one : {X : Type 0} (P : X → Type 0) (x : X) → Any P (x ∷ []) → P x
of_one P x (zero, y, within, at, p) = subst P (sym at) p
of_one P x (suc k, y, within, at, p) = absurd (omega (arith, within))

pub one_is : {X : Type 0} (P : X → Type 0) (x : X) → P x → Any P (x ∷ [])
one_is P x p = (0, x, omega arith, refl, p)

-- entries behind entries

runs_on : (class : ℕ → ℕ) (design : Design) (before after : List Entry) (e f g : Effect) → loose_run_from class design e before ≡ Some f → loose_run_from class design f after ≡ Some g → loose_run_from class design e (before ++ after) ≡ Some g
runs_on class design [] after e f g first later =
    let same : e ≡ f = cc in
    ap (λ x. loose_run_from class design x after) same ∙ later
runs_on class design (entry ∷ before) after e f g first later =
    option_and_then_some (λ x. loose_run_from class design (joined e x) before) (loose_step class design e.state entry) f first
    (λ x at_x rest. then_some (λ y. loose_run_from class design (joined e y) (before ++ after)) (loose_step class design e.state entry) x g at_x (runs_on class design before after (joined e x) f g rest later))

pub like_reached_goes_on : LikeReachedGoesOn
like_reached_goes_on class design limits s g moves like goes =
    let i : IsInOrder like.effect.state = loose_run_keeps_order class design (silent (start design)) like.effect like.journal (start_is_in_order design) like.reached in
    let (k, at_k, near, lines) = alike_moves_on class design (silent s) like.effect goes.effect moves like.order i (states_in-sym class like.effect.state s like.alike) goes.goes in
    let (entries, as_many, timely, run) = moves_are_loose_run class design limits like.effect k moves i at_k in
    record {
      order = goes.in_order;
      journal = like.journal ++ entries;
      effect = k;
      reached = runs_on class design like.journal entries (silent (start design)) like.effect k like.reached run;
      alike = states_in-trans class k.state goes.effect.state g.state (states_in-sym class goes.effect.state k.state near) goes.one_node.1;
    }

-- transitions up to where others go on

pub goes_behind : (class : ℕ → ℕ) (design : Design) (s : State) (part rest whole : List LooseTransition) (a g : Effect) → part ++ rest ≡ whole → moves_from class design (silent s) part ≡ Some a → moves_from class design (silent s) whole ≡ Some g → moves_from class design a rest ≡ Some g
goes_behind class design s part rest whole a g split first all =
    sym (ap (option_and_then (λ x. moves_from class design x rest)) first) ∙ (sym (moves_from-append class design (silent s) part rest) ∙ (ap (moves_from class design (silent s)) split ∙ all))

same_outcome : (o : Option Effect) (a b : Effect) → o ≡ Some a → o ≡ Some b → a ≡ b
same_outcome o a b is is' = cc

-- what transitions do from a state, they do from one that is alike

pub lead_alike : (class : ℕ → ℕ) (design : Design) (limits : Limits) (s t : State) (part way : List LooseTransition) → IsInOrder s → IsInOrder t → AlikeIn class s t → LeadToOneLooseNode class design limits s part way → LeadToOneLooseNode class design limits t part way
lead_alike class design limits s t part way i j alike (a, b, at_a, at_b, timely, (lines, near)) =
    let (c, at_c, near_a, lines_a) = alike_moves_on class design (silent s) (silent t) a part i j alike at_a in
    let (d, at_d, near_b, lines_b) = alike_moves_on class design (silent s) (silent t) b way i j alike at_b in
    (c, d, at_c, at_d, timely, (sym (lines_a refl) ∙ (lines ∙ lines_b refl), states_in-trans class c.state a.state d.state (states_in-sym class a.state c.state near_a) (states_in-trans class a.state b.state d.state near near_b)))

pub covers_alike : (class : ℕ → ℕ) (design : Design) (limits : Limits) (s t : State) (way : List LooseTransition) → IsInOrder s → IsInOrder t → AlikeIn class s t → CoverMoves class design limits s (way ∷ []) → CoverMoves class design limits t (way ∷ [])
covers_alike class design limits s t way i j alike covers transition more g end goes timely here =
    let (k, goes', near, lines) = alike_moves_on class design (silent t) (silent s) g (transition ∷ more) j i (states_in-sym class s t alike) goes in
    let here' : EndsHere design limits k end =
    ends_alike_in class design limits g k end (moves_keep_order class design (silent t) g (transition ∷ more) j goes) (moves_keep_order class design (silent s) k (transition ∷ more) i goes') near here in
    let (part, rest, some, split, any) = covers transition more k end goes' timely here' in
    (part, rest, some, split, one_is (LeadToOneLooseNode class design limits t part) way (lead_alike class design limits s t part way i j alike (of_one (LeadToOneLooseNode class design limits s part) way any)))

pub alike_stand_for_all : AlikeStandForAll
alike_stand_for_all class design limits s t way i j alike sole =
    record {
      covers = covers_alike class design limits s t way i j alike sole.covers;
      goes_on = λ end here. sole.goes_on end (ends_alike_in class design limits (silent t) (silent s) end j i (states_in-sym class s t alike) here);
    }

-- ways one after another

-- a first part of some transitions leads to one loose node with a way
abbrev Meets : (ℕ → ℕ) → Design → Limits → State → List LooseTransition → List LooseTransition → Type 0
Meets class design limits s way whole =
    (part : List LooseTransition) × (rest : List LooseTransition) × (0 < length part) × (part ++ rest ≡ whole)
    × Any (λ w. LeadToOneLooseNode class design limits s part w) (way ∷ [])

module _ (class : ℕ → ℕ) (design : Design) (limits : Limits) (s : State) (order : IsInOrder s) (way more : List LooseTransition) (f : Effect) (first : GoesLooselyTo class design limits s way f) where
  -- what leads on from where the way leads
  leads : (moves : List LooseTransition) (c : Effect) → moves_from class design (silent f.state) moves ≡ Some c → AreTimelyMoves limits moves → GoesLooselyTo class design limits f.state moves c
  leads moves c at_c timely =
      record { effect = c; goes = at_c; timely = timely; one_node = (refl, states_in-same class c.state); in_order = moves_keep_order class design (silent f.state) c moves first.in_order at_c }

  meets_behind : (transition : LooseTransition) (others part whole : List LooseTransition) (a g : Effect) (end : End) → 0 < length part → part ++ (transition ∷ others) ≡ whole → moves_from class design (silent s) part ≡ Some a → IsOneLooseNode class a f
      → moves_from class design a (transition ∷ others) ≡ Some g → AreTimelyMoves limits (transition ∷ others) → EndsHere design limits g end → StandsForAllLoosely class design limits f.state more → Meets class design limits s (way ++ more) whole
  meets_behind transition others part whole a g end some split at_a node goes timely here sole =
      let i : IsInOrder a.state = moves_keep_order class design (silent s) a part order at_a in
      let (k, at_k, near, lines) = alike_moves_on class design a (silent f.state) g (transition ∷ others) i first.in_order node.1 goes in
      let here' : EndsHere design limits k end =
      ends_alike_in class design limits g k end (moves_keep_order class design a g (transition ∷ others) i goes) (moves_keep_order class design (silent f.state) k (transition ∷ others) first.in_order at_k) near here in
      let (part', rest', some', split', any) = sole.covers transition others k end at_k timely here' in
      let (c, d, at_c, at_d, timely_more, node') = of_one (LeadToOneLooseNode class design limits f.state part') more any in
      let (x, at_x, near_x) = leads_on class design limits a f c part' i first.in_order node (leads part' c at_c (first_part_timely limits part' rest' (transition ∷ others) split' timely)) in
      let j : IsInOrder first.effect.state = moves_keep_order class design (silent s) first.effect way order first.goes in
      let (y, at_y, near_y) = leads_on class design limits first.effect f d more j first.in_order first.one_node (leads more d at_d timely_more) in
      let both : IsOneLooseNode class x y = node_trans class x (joined f c) y near_x (node_trans class (joined f c) (joined f d) y (node_behind class f c d node') (node_sym class y (joined f d) near_y)) in
      let one : LeadToOneLooseNode class design limits s (part ++ part') (way ++ more) = (
        x,
        y,
        moves_from-append class design (silent s) part part' ∙ (ap (option_and_then (λ z. moves_from class design z part')) at_a ∙ at_x),
        moves_from-append class design (silent s) way more ∙ (ap (option_and_then (λ z. moves_from class design z more)) first.goes ∙ at_y),
        All-append (IsTimelyMove limits) way more first.timely timely_more,
        both,
      ) in
      (part ++ part', rest', omega (arith, some, length-append part part'), append_assoc part part' rest' ∙ (ap (λ l. part ++ l) split' ∙ split), one_is (LeadToOneLooseNode class design limits s (part ++ part')) (way ++ more) one)

  after_timely : (part rest whole : List LooseTransition) → part ++ rest ≡ whole → AreTimelyMoves limits whole → AreTimelyMoves limits rest
  after_timely part rest whole split h = timely_moves_after limits part rest (subst (AreTimelyMoves limits) (sym split) h)

  meets_both : (part rest whole : List LooseTransition) (a g : Effect) (end : End) → 0 < length part → part ++ rest ≡ whole → moves_from class design (silent s) part ≡ Some a → IsOneLooseNode class a f → moves_from class design a rest ≡ Some g → AreTimelyMoves limits rest
      → EndsHere design limits g end → StandsForAllLoosely class design limits f.state more → Meets class design limits s (way ++ more) whole
  meets_both part [] whole a g end some split at_a node goes timely here sole =
      let same : g ≡ a = cc in
      let i : IsInOrder a.state = moves_keep_order class design (silent s) a part order at_a in
      absurd (sole.goes_on end (ends_alike_in class design limits a (silent f.state) end i first.in_order node.1 (subst (λ x. EndsHere design limits x end) same here)))
  meets_both part (transition ∷ others) whole a g end some split at_a node goes timely here sole = meets_behind transition others part whole a g end some split at_a node goes timely here sole

  covers_both : CoverMoves class design limits s (way ∷ []) → StandsForAllLoosely class design limits f.state more → CoverMoves class design limits s ((way ++ more) ∷ [])
  covers_both covers sole transition others g end goes timely here =
      let (part, rest, some, split, any) = covers transition others g end goes timely here in
      let (a, b, at_a, at_b, timely_way, node) = of_one (LeadToOneLooseNode class design limits s part) way any in
      let same : b ≡ first.effect = same_outcome (moves_from class design (silent s) way) b first.effect at_b first.goes in
      let node' : IsOneLooseNode class a f = node_trans class a first.effect f (subst (λ x. IsOneLooseNode class a x) same node) first.one_node in
      meets_both part rest (transition ∷ others) a g end some split at_a node' (goes_behind class design s part rest (transition ∷ others) a g split at_a goes) (after_timely part rest (transition ∷ others) split timely) here sole

pub sole_loose_ways_go_on : SoleLooseWaysGoOn
sole_loose_ways_go_on class design limits s way more f order sole first later =
    record { covers = covers_both class design limits s order way more f first sole.covers later; goes_on = sole.goes_on }
