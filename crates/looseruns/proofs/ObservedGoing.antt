-- Transitions lead on before an observer, whatever was printed and seen before.
use Rattle.std.proofs.Common.{◌≡◌, ℕ, List, [], ◌∷◌, ◌++◌, Some, refl, sym, ap, ◌∙◌, subst}
use Rattle.std.specs.Prelude.{option_and_then}
use Rattle.std.proofs.lemmas.List.Elements.{All-nil, All-append}
use Rattle.std.proofs.lemmas.Option.{option_and_then_some}
use Rattle.model.specs.declared.end.Limits.{Limits}
use Rattle.model.specs.Design.{Design}
use Rattle.model.specs.Runs.{Effect, silent, joined}
use Rattle.orders.specs.Alike.{IsInOrder}
use Rattle.orders.proofs.SearchLaws.{then_some}
use Rattle.loose.specs.declared.transition.LooseTransition.{LooseTransition}
use Rattle.loose.specs.Loose.{AlikeIn}
use Rattle.loose.specs.LooseLaws.{IsOneLooseNode}
use Rattle.loose.proofs.ClassStates.{states_in-same, states_in-sym, states_in-trans}
use Rattle.looseruns.specs.LooseMoves.{IsTimelyMove}
use Rattle.looseruns.specs.LooseGoing.{GoesLooselyTo}
use Rattle.looseruns.specs.ObservedJournals.{Observer, effect_with_seen}
use Rattle.looseruns.specs.ObservedMoves.{SeesAlike, seen_at_move, observed_move, observed_moves_from, StaysInTime, seen_first}
use Rattle.looseruns.specs.ObservedRuns.{ComesObserved, EndsHereObserved, MayEndObserved, observed_text_of_moves, StandsObserved}
use Rattle.looseruns.specs.ObservedGoing.{GoesObservedTo, NoObservedMoveStays, ObservedStepGoesOn, LooseWayIsObserved, ObservedWaysGoOn, ObservedMovesLeadToNext, ObservedMovesLeadToEnd, ObservedStandsAgain}
use Rattle.looseruns.proofs.Moves.{alike_moves_on}
use Rattle.looseruns.proofs.LooseGoing.{joined-alone, joined-joined, node_sym, node_trans, node_behind, loose_step_goes_on}
use Rattle.looseruns.proofs.Observing.{entry_is_seen, observed_moves_keep_order, one_node_observed_on}
use Rattle.looseruns.proofs.ObservedParts.{observed_from-append, observed_of_more, observed_came_of_more, observed_is_plain, observed_text_is, observed_run_in_order, seen_first_alone}
use Rattle.looseruns.proofs.ObservedSearches.{ends_seen_alike}

-- what comes of transitions and is seen at them doesn't depend on what was printed, seen and changed before

observed_behind : (class : ℕ → ℕ) (design : Design) (observe : Observer) (d e g : Effect) (moves : List LooseTransition) → observed_moves_from class design observe e moves ≡ Some g → observed_moves_from class design observe (joined d e) moves ≡ Some (joined d g)
observed_behind class design observe d e g [] is =
    let same : e ≡ g = cc in
    ap (λ x. Some (joined d x)) same
observed_behind class design observe d e g (transition ∷ more) is =
    option_and_then_some (λ x. observed_moves_from class design observe (joined e x) more) (observed_move class design observe e.state transition) g is
    (λ x at_x later.
    then_some (λ y. observed_moves_from class design observe (joined (joined d e) y) more) (observed_move class design observe e.state transition) x (joined d g) at_x
    (ap (λ y. observed_moves_from class design observe y more) (joined-joined d e x) ∙ observed_behind class design observe d (joined e x) g more later))

observed_on_alone : (class : ℕ → ℕ) (design : Design) (observe : Observer) (e g : Effect) (moves : List LooseTransition) → observed_moves_from class design observe (silent e.state) moves ≡ Some g → observed_moves_from class design observe e moves ≡ Some (joined e g)
observed_on_alone class design observe e g moves is =
    ap (λ x. observed_moves_from class design observe x moves) (sym (joined-alone e)) ∙ observed_behind class design observe e (silent e.state) g moves is

-- from what is one loose node with an effect, transitions lead on as from its state
abbrev pub LeadsOnObserved : (ℕ → ℕ) → Design → Observer → Effect → List LooseTransition → Effect → Type 0
LeadsOnObserved class design observe d moves g = (k : Effect) × (observed_moves_from class design observe d moves ≡ Some k) × IsOneLooseNode class k g

pub leads_on_observed : (class : ℕ → ℕ) (design : Design) (limits : Limits) (observe : Observer) (d e g : Effect) (moves : List LooseTransition) → SeesAlike observe → IsInOrder d.state → IsInOrder e.state → IsOneLooseNode class d e → GoesObservedTo class design limits observe e.state moves g
    → LeadsOnObserved class design observe d moves (joined e g)
leads_on_observed class design limits observe d e g moves sees i j node goes =
    let whole = observed_on_alone class design observe e goes.effect moves goes.goes in
    let (k, at_k, later) = one_node_observed_on class design observe e d (joined e goes.effect) moves sees j i (node_sym class d e node) whole in
    (k, at_k, node_trans class k (joined e goes.effect) (joined e g) (node_sym class (joined e goes.effect) k later) (node_behind class e goes.effect g goes.one_node))

-- the laws

pub no_observed_move_stays : NoObservedMoveStays
no_observed_move_stays class design limits observe s i =
    record { effect = silent s; goes = refl; timely = All-nil (IsTimelyMove limits); one_node = (refl, states_in-same class s); in_order = i }

pub loose_way_is_observed : LooseWayIsObserved
loose_way_is_observed class design limits observe s transitions g first goes =
    let seen = seen_first observe s transitions in
    record {
      effect = effect_with_seen seen goes.effect;
      goes = seen_first_alone class design observe s goes.effect transitions first goes.goes;
      timely = goes.timely;
      one_node = (ap (λ l. seen ++ l) goes.one_node.0, goes.one_node.1);
      in_order = goes.in_order;
    }

pub observed_step_goes_on : ObservedStepGoesOn
observed_step_goes_on class design limits observe s entry f transition i at_f timely its =
    let goes : GoesLooselyTo class design limits s (transition ∷ []) f = loose_step_goes_on class design limits s entry f transition i at_f timely its in
    let observed : GoesObservedTo class design limits observe s (transition ∷ []) (effect_with_seen (seen_at_move observe s transition) f) =
    loose_way_is_observed class design limits observe s (transition ∷ []) f (All-nil StaysInTime) goes in
    subst (λ l. GoesObservedTo class design limits observe s (transition ∷ []) (effect_with_seen l f)) (entry_is_seen class observe s entry transition its) observed

pub observed_ways_go_on : ObservedWaysGoOn
observed_ways_go_on class design limits observe s f g transitions more sees i first second =
    let j = observed_moves_keep_order class design observe (silent s) first.effect transitions i first.goes in
    let (k, at_k, node) = leads_on_observed class design limits observe first.effect f g more sees j first.in_order first.one_node second in
    record {
      effect = k;
      goes = observed_from-append class design observe (silent s) transitions more ∙ (ap (option_and_then (λ x. observed_moves_from class design observe x more)) first.goes ∙ at_k);
      timely = All-append (IsTimelyMove limits) transitions more first.timely second.timely;
      one_node = node;
      in_order = second.in_order;
    }

-- what a run prints and is seen at it that goes on from a node
prints_on : (class : ℕ → ℕ) (design : Design) (observe : Observer) (run moves : List LooseTransition) (e d g k : Effect) (printed : List ℕ) → observed_text_of_moves class design observe run ≡ e.lines → observed_text_of_moves class design observe (run ++ moves) ≡ k.lines → e.lines ≡ d.lines
    → k.lines ≡ d.lines ++ g.lines → printed ≡ g.lines → observed_text_of_moves class design observe (run ++ moves) ≡ observed_text_of_moves class design observe run ++ printed
prints_on class design observe run moves e d g k printed before after held lines told =
    after ∙ (lines ∙ (ap (λ t. t ++ g.lines) (sym (before ∙ held)) ∙ ap (λ t. observed_text_of_moves class design observe run ++ t) (sym told)))

pub observed_moves_lead_to_next : {Node : Type 0} (Holds : Node → Effect → Type 0) → ObservedMovesLeadToNext Holds
observed_moves_lead_to_next Holds class design limits observe node run g next at sees goes told holds =
    let i = observed_run_in_order class design observe run at.effect at.comes.0 in
    let (k, at_k, later) = leads_on_observed class design limits observe at.effect at.held g next.moves.items sees i at.in_order at.one_node goes in
    let comes : ComesObserved class design limits observe (run ++ next.moves.items) k = observed_of_more class design limits observe run next.moves.items at.effect k at.comes at_k goes.timely in
    let stands : StandsObserved Holds class design limits observe next.node (run ++ next.moves.items) =
    record { effect = k; held = joined at.held g; comes = comes; one_node = later; in_order = goes.in_order; holds = holds } in (
      stands,
      prints_on class design observe run next.moves.items at.effect at.held g k next.printed.items (observed_text_is class design observe run at.effect at.comes.0) (observed_text_is class design observe (run ++ next.moves.items) k comes.0) at.one_node.0 later.0 told,
    )

pub observed_moves_lead_to_end : {Node : Type 0} (Holds : Node → Effect → Type 0) → ObservedMovesLeadToEnd Holds
observed_moves_lead_to_end Holds class design limits observe node run g ended at sees goes told here =
    let i = observed_run_in_order class design observe run at.effect at.comes.0 in
    let (k, at_k, later) = leads_on_observed class design limits observe at.effect at.held g ended.moves.items sees i at.in_order at.one_node goes in
    let comes : ComesObserved class design limits observe (run ++ ended.moves.items) k = observed_of_more class design limits observe run ended.moves.items at.effect k at.comes at_k goes.timely in
    let j = observed_run_in_order class design observe (run ++ ended.moves.items) k comes.0 in
    let here' : EndsHereObserved design limits observe k ended.end = ends_seen_alike class design limits observe g k ended.end sees goes.in_order j (states_in-sym class k.state g.state later.1) here in
    let may : MayEndObserved class design limits observe (run ++ ended.moves.items) ended.end = (k, comes, here') in (
      may,
      prints_on class design observe run ended.moves.items at.effect at.held g k ended.printed.items (observed_text_is class design observe run at.effect at.comes.0) (observed_text_is class design observe (run ++ ended.moves.items) k comes.0) at.one_node.0 later.0 told,
      tt,
    )

-- what goes on again line by line stands where it stood
pub observed_stands_again : {Node : Type 0} (Holds : Node → Effect → Type 0) → ObservedStandsAgain Holds
observed_stands_again Holds class design limits observe node other again run moves g at to goes holds =
    let e : Effect = at.effect in
    let k : Effect = to.effect in
    let i = observed_run_in_order class design observe run e at.comes.0 in
    let (came, timely) = observed_came_of_more class design limits observe run moves e k at.comes to.comes in
    let (h, at_h, state) = observed_is_plain class design observe e e k moves refl came in
    let (m, at_m, near, lines) = alike_moves_on class design e (silent at.held.state) h moves i at.in_order at.one_node.1 at_h in
    let both : Some m ≡ Some goes.effect = sym at_m ∙ goes.goes in
    let same : m ≡ goes.effect = cc in
    let here : AlikeIn class k.state m.state = subst (λ s. AlikeIn class s m.state) (sym state) near in
    let there : AlikeIn class k.state goes.effect.state = subst (λ (x : Effect). AlikeIn class k.state x.state) same here in
    let held : Effect = record { state = g.state; lines = k.lines; changes = [] } in
    record {
      effect = k;
      held = held;
      comes = to.comes;
      one_node = (refl, states_in-trans class k.state goes.effect.state g.state there goes.one_node.1);
      in_order = goes.in_order;
      holds = holds held refl;
    }
