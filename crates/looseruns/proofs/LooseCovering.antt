-- Ways cover loose runs where each transition is followed, and the runs are covered then.
use Rattle.std.proofs.Common.{◌≡◌, ℕ, zero, suc, List, [], ◌∷◌, ◌++◌, map, Some, inl, inr, refl, sym, ap, ◌∙◌, subst, arith}
use Rattle.std.specs.List.{Any, Contains}
use Rattle.std.proofs.lemmas.List.{append-nil}
use Rattle.std.proofs.lemmas.List.Elements.{All-nil, All-cons, All-head}
use Rattle.std.proofs.lemmas.Option.{option_and_then_some}
use Rattle.model.specs.declared.end.Limits.{Limits}
use Rattle.model.specs.Design.{Design}
use Rattle.model.specs.States.{State}
use Rattle.model.specs.Runs.{Effect, silent, joined}
use Rattle.model.specs.Texts.{EndsHere}
use Rattle.orders.specs.Alike.{IsInOrder}
use Rattle.orders.proofs.SearchLaws.{then_some}
use Rattle.loose.specs.declared.transition.LooseTransition.{LooseTransition}
use Rattle.loose.specs.Loose.{AlikeIn, loose_transition_of}
use Rattle.loose.specs.LooseLaws.{IsOneLooseNode}
use Rattle.loose.proofs.ClassStates.{states_in-same}
use Rattle.explore.specs.declared.Successor.{Successor}
use Rattle.looseruns.specs.LooseMoves.{move, moves_from, IsTimelyMove, AreTimelyMoves}
use Rattle.looseruns.specs.LooseRuns.{ComesOfMoves, MayEndLoosely, text_of_moves, ComeToOneLooseNode}
use Rattle.looseruns.specs.LooseCover.{FollowMoves, FollowLooseEntries, FollowedMovesCover, LeadToOneLooseNode, CoveringMovesCover, loose_ways_to, CoveringLooseIsCovered, FollowingLooseIsCovered}
use Rattle.looseruns.specs.LooseGoing.{GoesLooselyTo}
use Rattle.looseruns.proofs.Moves.{one_transition, move_is_loose_step, alike_in_states_move_alike, transition_is_timely, moves_keep_order, alike_moves_on}
use Rattle.looseruns.proofs.RunsOfMoves.{first_part_timely, comes_of_more, came_of_more, moves_run_in_order, ends_alike_in}
use Rattle.looseruns.proofs.LooseGoing.{node_sym, node_trans, node_behind, leads_on}

pub followed_moves_cover : FollowedMovesCover
followed_moves_cover class design limits run e ways at_e follow transition more end (g, at_g, here) =
    let (goes, timely) = came_of_more class design limits run (transition ∷ more) e g at_e at_g in
    option_and_then_some (λ x. moves_from class design (joined e x) more) (move class design e.state transition) g goes
    (λ x at_x later.
    let now = All-head (IsTimelyMove limits) transition more timely in
    let (k, within, is) = follow transition x at_x now in
    let first : moves_from class design e (transition ∷ []) ≡ Some (joined e x) = then_some (λ z. moves_from class design (joined e z) []) (move class design e.state transition) x (joined e x) at_x refl in
    let there : ComesOfMoves class design limits (run ++ transition ∷ []) (joined e x) =
    comes_of_more class design limits run (transition ∷ []) e (joined e x) at_e first (All-cons (IsTimelyMove limits) transition [] now (All-nil (IsTimelyMove limits))) in
    (transition ∷ [], more, omega arith, refl, (k, transition ∷ [], within, is, (joined e x, joined e x, there, there, (refl, states_in-same class x.state)))))

-- each transition is followed from a state where each entry is from one that is alike
pub entries_follow : (class : ℕ → ℕ) (design : Design) (limits : Limits) (s t : State) (ways : List (List LooseTransition)) → IsInOrder s → IsInOrder t → AlikeIn class s t → FollowLooseEntries class design limits t ways → FollowMoves class design limits s ways
entries_follow class design limits s t ways i j alike follow transition f moved timely =
    let (g, moved', like) = alike_in_states_move_alike class design s t transition f i j alike moved in
    let (entry, its, at_g) = move_is_loose_step class design t transition g j moved' in
    let (found, its', there) = follow entry g at_g ((transition_is_timely class limits t entry transition its).1 timely) in
    one_transition (λ x. Contains ways (x ∷ [])) (loose_transition_of class t entry) found transition its' its there

-- an effect as it is, but in another state
abbrev pub in_state : Effect → State → Effect
in_state e s = record e { state = s }

-- what leads to one loose node from a state comes to one loose node behind a run that leads to one that is alike
come_together : (class : ℕ → ℕ) (design : Design) (limits : Limits) (run part way : List LooseTransition) (e : Effect) (s : State) → ComesOfMoves class design limits run e → IsInOrder s → AlikeIn class e.state s → AreTimelyMoves limits part
    → LeadToOneLooseNode class design limits s part way → ComeToOneLooseNode class design limits (run ++ part) (run ++ way)
come_together class design limits run part way e s at_e j alike timely (a, b, at_a, at_b, timely', node) =
    let i = moves_run_in_order class design run e at_e.0 in
    let d : Effect = in_state e s in
    let one : IsOneLooseNode class e d = (refl, alike) in
    let to_a : GoesLooselyTo class design limits s part a =
    record { effect = a; goes = at_a; timely = timely; one_node = (refl, states_in-same class a.state); in_order = moves_keep_order class design (silent s) a part j at_a } in
    let to_b : GoesLooselyTo class design limits s way b =
    record { effect = b; goes = at_b; timely = timely'; one_node = (refl, states_in-same class b.state); in_order = moves_keep_order class design (silent s) b way j at_b } in
    let (k, at_k, near_a) = leads_on class design limits e d a part i j one to_a in
    let (m, at_m, near_b) = leads_on class design limits e d b way i j one to_b in
    let both : IsOneLooseNode class k (joined d b) = node_trans class k (joined d a) (joined d b) near_a (node_behind class d a b node) in
    let same : IsOneLooseNode class k m = node_trans class k (joined d b) m both (node_sym class m (joined d b) near_b) in
    (k, m, comes_of_more class design limits run part e k at_e at_k timely, comes_of_more class design limits run way e m at_e at_m timely', same)

pub covering_moves_cover : CoveringMovesCover
covering_moves_cover class design limits run e s ways at_e j alike covers transition more end (g, at_g, here) =
    let (goes, timely) = came_of_more class design limits run (transition ∷ more) e g at_e at_g in
    let i = moves_run_in_order class design run e at_e.0 in
    let (k, goes', near, lines) = alike_moves_on class design e (silent s) g (transition ∷ more) i j alike goes in
    let here' : EndsHere design limits k end =
    ends_alike_in class design limits g k end (moves_run_in_order class design (run ++ transition ∷ more) g at_g.0) (moves_keep_order class design (silent s) k (transition ∷ more) j goes') near here in
    let (part, rest, moved, split, (n, way, within, is, together)) = covers transition more k end goes' timely here' in
    let first : AreTimelyMoves limits part = first_part_timely limits part rest (transition ∷ more) split timely in
    (part, rest, moved, split, (n, way, within, is, come_together class design limits run part way e s at_e j alike first together))

-- what holds of some element of a mapped list holds of what one is mapped to
pub any_of_map : {X Y : Type 0} (h : X → Y) (P : Y → Type 0) (xs : List X) → Any P (map h xs) → Any (λ x. P (h x)) xs
any_of_map h P [] (k, y, within, at, p) = absurd (omega (arith, within))
any_of_map h P (x ∷ xs) (zero, y, within, at, p) = (0, x, omega arith, refl, subst P (sym at) p)
any_of_map h P (x ∷ xs) (suc k, y, within, at, p) =
    let (j, z, low, there, q) = any_of_map h P xs (k, y, omega (arith, within), at, p) in
    (suc j, z, omega (arith, low), there, q)

-- where nothing more is taken or printed, the text is as it was
text_stays : (class : ℕ → ℕ) (design : Design) (run : List LooseTransition) (printed : List ℕ) → printed ≡ [] → text_of_moves class design run ++ printed ≡ text_of_moves class design (run ++ [])
text_stays class design run printed none =
    ap (λ t. text_of_moves class design run ++ t) none ∙ (append-nil (text_of_moves class design run) ∙ ap (text_of_moves class design) (sym (append-nil run)))

pub covering_loose_is_covered : {Node : Type 0} (Holds : Node → Effect → Type 0) → CoveringLooseIsCovered Holds
covering_loose_is_covered Holds class design limits successors ended node run at covers tells [] end ends =
    let may : MayEndLoosely class design limits run end = subst (λ way. MayEndLoosely class design limits way end) (append-nil run) ends in
    let (e, at_e, here) = may in
    let i = moves_run_in_order class design run e at_e.0 in
    let both : Some at.effect ≡ Some e = sym at.comes.0 ∙ at_e.0 in
    let same : at.effect ≡ e = cc in
    let alike : AlikeIn class e.state at.held.state = subst (λ (x : Effect). AlikeIn class x.state at.held.state) same at.one_node.1 in
    let (k, way, within, is, (printed, ended_so)) = tells end (ends_alike_in class design limits e at.held end i at.in_order alike here) in
    inl (k, way, within, is, (text_stays class design run way.printed.items printed, ended_so))
covering_loose_is_covered {Node} Holds class design limits successors ended node run at covers tells (transition ∷ more) end ends =
    let (part, rest, moved, split, alike) = covers transition more end ends in
    inr
    (record {
      part = part;
      rest = rest;
      moved = moved;
      split = sym split;
      leads = any_of_map (λ (next : Successor Node LooseTransition). next.moves.items) (λ way. ComeToOneLooseNode class design limits (run ++ part) (run ++ way)) successors alike;
    })

pub following_loose_is_covered : {Node : Type 0} (Holds : Node → Effect → Type 0) → FollowingLooseIsCovered Holds
following_loose_is_covered Holds class design limits successors ended node run at follow tells =
    let i = moves_run_in_order class design run at.effect at.comes.0 in
    let moves = entries_follow class design limits at.effect.state at.held.state (loose_ways_to successors) i at.in_order at.one_node.1 follow in
    covering_loose_is_covered Holds class design limits successors ended node run at (followed_moves_cover class design limits run at.effect (loose_ways_to successors) at.comes moves) tells
