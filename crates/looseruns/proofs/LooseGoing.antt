-- Transitions lead on, whatever was printed and changed before.
use Rattle.std.proofs.Common.{◌≡◌, ℕ, List, [], ◌∷◌, ◌++◌, Some, refl, sym, ap, ◌∙◌, append_assoc}
use Rattle.std.specs.Prelude.{option_and_then}
use Rattle.std.proofs.lemmas.List.{append-nil}
use Rattle.std.proofs.lemmas.List.Elements.{All-nil, All-cons, All-append}
use Rattle.std.proofs.lemmas.Option.{option_and_then_some}
use Rattle.model.specs.declared.end.Limits.{Limits}
use Rattle.model.specs.Design.{Design}
use Rattle.model.specs.Runs.{Effect, silent, joined}
use Rattle.model.specs.Texts.{EndsHere}
use Rattle.orders.specs.Alike.{IsInOrder}
use Rattle.orders.proofs.SearchLaws.{then_some}
use Rattle.loose.specs.declared.transition.LooseTransition.{LooseTransition}
use Rattle.loose.specs.LooseLaws.{IsOneLooseNode}
use Rattle.loose.proofs.LooseSteps.{loose_step_keeps_order}
use Rattle.loose.proofs.ClassStates.{states_in-same, states_in-sym, states_in-trans}
use Rattle.looseruns.specs.LooseMoves.{move, moves_from, IsTimelyMove}
use Rattle.looseruns.specs.LooseRuns.{ComesOfMoves, MayEndLoosely, text_of_moves, StandsLoosely}
use Rattle.looseruns.specs.LooseGoing.{GoesLooselyTo, NoMoveStays, LooseStepGoesOn, LooseWaysGoOn, MovesLeadToNext, MovesLeadToEnd}
use Rattle.looseruns.proofs.Moves.{step_has_move, transition_is_timely, moves_keep_order, one_loose_node_moves_on}
use Rattle.looseruns.proofs.RunsOfMoves.{moves_from-append, comes_of_more, loose_text_is, moves_run_in_order, ends_alike_in}

-- what comes of transitions doesn't depend on what was printed and changed before

pub joined-alone : (e : Effect) → joined e (silent e.state) ≡ e
joined-alone e = rw (append-nil e.lines, append-nil e.changes) refl

pub joined-joined : (d e f : Effect) → joined (joined d e) f ≡ joined d (joined e f)
joined-joined d e f = rw (append_assoc d.lines e.lines f.lines, append_assoc d.changes e.changes f.changes) refl

pub moves_behind : (class : ℕ → ℕ) (design : Design) (d e g : Effect) (moves : List LooseTransition) → moves_from class design e moves ≡ Some g → moves_from class design (joined d e) moves ≡ Some (joined d g)
moves_behind class design d e g [] is =
    let same : e ≡ g = cc in
    ap (λ x. Some (joined d x)) same
moves_behind class design d e g (transition ∷ more) is =
    option_and_then_some (λ x. moves_from class design (joined e x) more) (move class design e.state transition) g is
    (λ x at_x later.
    then_some (λ y. moves_from class design (joined (joined d e) y) more) (move class design e.state transition) x (joined d g) at_x
    (ap (λ y. moves_from class design y more) (joined-joined d e x) ∙ moves_behind class design d (joined e x) g more later))

pub moves_on_alone : (class : ℕ → ℕ) (design : Design) (e g : Effect) (moves : List LooseTransition) → moves_from class design (silent e.state) moves ≡ Some g → moves_from class design e moves ≡ Some (joined e g)
moves_on_alone class design e g moves is =
    ap (λ x. moves_from class design x moves) (sym (joined-alone e)) ∙ moves_behind class design e (silent e.state) g moves is

-- one loose node

pub node_sym : (class : ℕ → ℕ) (e f : Effect) → IsOneLooseNode class e f → IsOneLooseNode class f e
node_sym class e f (lines, alike) = (sym lines, states_in-sym class e.state f.state alike)

pub node_trans : (class : ℕ → ℕ) (e f g : Effect) → IsOneLooseNode class e f → IsOneLooseNode class f g → IsOneLooseNode class e g
node_trans class e f g (lines, alike) (lines', alike') = (lines ∙ lines', states_in-trans class e.state f.state g.state alike alike')

pub node_behind : (class : ℕ → ℕ) (d e f : Effect) → IsOneLooseNode class e f → IsOneLooseNode class (joined d e) (joined d f)
node_behind class d e f (lines, alike) = (ap (λ ls. d.lines ++ ls) lines, alike)

-- from what is one loose node with an effect, transitions lead on as from its state
abbrev pub LeadsOn : (ℕ → ℕ) → Design → Effect → List LooseTransition → Effect → Type 0
LeadsOn class design d moves g = (k : Effect) × (moves_from class design d moves ≡ Some k) × IsOneLooseNode class k g

pub leads_on : (class : ℕ → ℕ) (design : Design) (limits : Limits) (d e g : Effect) (moves : List LooseTransition) → IsInOrder d.state → IsInOrder e.state → IsOneLooseNode class d e → GoesLooselyTo class design limits e.state moves g
    → LeadsOn class design d moves (joined e g)
leads_on class design limits d e g moves i j node goes =
    let whole = moves_on_alone class design e goes.effect moves goes.goes in
    let (k, at_k, later) = one_loose_node_moves_on class design e d (joined e goes.effect) moves j i (node_sym class d e node) whole in
    (k, at_k, node_trans class k (joined e goes.effect) (joined e g) (node_sym class (joined e goes.effect) k later) (node_behind class e goes.effect g goes.one_node))

-- the laws

pub no_move_stays : NoMoveStays
no_move_stays class design limits s i =
    record { effect = silent s; goes = refl; timely = All-nil (IsTimelyMove limits); one_node = (refl, states_in-same class s); in_order = i }

pub loose_step_goes_on : LooseStepGoesOn
loose_step_goes_on class design limits s entry f transition i at_f timely its =
    let (g, moved, (lines, changes, alike)) = step_has_move class design s entry f transition i at_f its in
    record {
      effect = joined (silent s) g;
      goes = then_some (λ x. moves_from class design (joined (silent s) x) []) (move class design s transition) g (joined (silent s) g) moved refl;
      timely = All-cons (IsTimelyMove limits) transition [] ((transition_is_timely class limits s entry transition its).0 timely) (All-nil (IsTimelyMove limits));
      one_node = (sym lines, states_in-sym class f.state g.state alike);
      in_order = loose_step_keeps_order class design s entry f i at_f;
    }

pub loose_ways_go_on : LooseWaysGoOn
loose_ways_go_on class design limits s f g transitions more i first second =
    let j = moves_keep_order class design (silent s) first.effect transitions i first.goes in
    let (k, at_k, node) = leads_on class design limits first.effect f g more j first.in_order first.one_node second in
    record {
      effect = k;
      goes = moves_from-append class design (silent s) transitions more ∙ (ap (option_and_then (λ x. moves_from class design x more)) first.goes ∙ at_k);
      timely = All-append (IsTimelyMove limits) transitions more first.timely second.timely;
      one_node = node;
      in_order = second.in_order;
    }

-- what a run prints that goes on from a node
prints_on : (class : ℕ → ℕ) (design : Design) (run moves : List LooseTransition) (e d g k : Effect) (printed : List ℕ) → text_of_moves class design run ≡ e.lines → text_of_moves class design (run ++ moves) ≡ k.lines → e.lines ≡ d.lines
    → k.lines ≡ d.lines ++ g.lines → printed ≡ g.lines → text_of_moves class design (run ++ moves) ≡ text_of_moves class design run ++ printed
prints_on class design run moves e d g k printed before after held lines told =
    after ∙ (lines ∙ (ap (λ t. t ++ g.lines) (sym (before ∙ held)) ∙ ap (λ t. text_of_moves class design run ++ t) (sym told)))

pub moves_lead_to_next : {Node : Type 0} (Holds : Node → Effect → Type 0) → MovesLeadToNext Holds
moves_lead_to_next Holds class design limits node run g next at goes told holds =
    let i = moves_run_in_order class design run at.effect at.comes.0 in
    let (k, at_k, later) = leads_on class design limits at.effect at.held g next.moves.items i at.in_order at.one_node goes in
    let comes : ComesOfMoves class design limits (run ++ next.moves.items) k = comes_of_more class design limits run next.moves.items at.effect k at.comes at_k goes.timely in
    let stands : StandsLoosely Holds class design limits next.node (run ++ next.moves.items) =
    record { effect = k; held = joined at.held g; comes = comes; one_node = later; in_order = goes.in_order; holds = holds } in (
      stands,
      prints_on class design run next.moves.items at.effect at.held g k next.printed.items (loose_text_is class design run at.effect at.comes.0) (loose_text_is class design (run ++ next.moves.items) k comes.0) at.one_node.0 later.0 told,
    )

pub moves_lead_to_end : {Node : Type 0} (Holds : Node → Effect → Type 0) → MovesLeadToEnd Holds
moves_lead_to_end Holds class design limits node run g ended at goes told here =
    let i = moves_run_in_order class design run at.effect at.comes.0 in
    let (k, at_k, later) = leads_on class design limits at.effect at.held g ended.moves.items i at.in_order at.one_node goes in
    let comes : ComesOfMoves class design limits (run ++ ended.moves.items) k = comes_of_more class design limits run ended.moves.items at.effect k at.comes at_k goes.timely in
    let j = moves_run_in_order class design (run ++ ended.moves.items) k comes.0 in
    let here' : EndsHere design limits k ended.end = ends_alike_in class design limits g k ended.end goes.in_order j (states_in-sym class k.state g.state later.1) here in
    let may : MayEndLoosely class design limits (run ++ ended.moves.items) ended.end = (k, comes, here') in (
      may,
      prints_on class design run ended.moves.items at.effect at.held g k ended.printed.items (loose_text_is class design run at.effect at.comes.0) (loose_text_is class design (run ++ ended.moves.items) k comes.0) at.one_node.0 later.0 told,
      tt,
    )
