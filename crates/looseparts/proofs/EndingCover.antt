-- What ways by parts cover is covered in a search.
use Rattle.std.proofs.Common.{◌≡◌, ℕ, List, [], ◌∷◌, ◌++◌, Some, inl, inr, refl, sym, ap, ◌∙◌, subst}
use Rattle.std.proofs.lemmas.List.{append-nil}
use Rattle.model.specs.declared.end.Limits.{Limits}
use Rattle.model.specs.Design.{Design}
use Rattle.model.specs.States.{State}
use Rattle.model.specs.Runs.{Effect, silent, joined}
use Rattle.model.specs.Texts.{EndsHere}
use Rattle.orders.specs.Alike.{IsInOrder}
use Rattle.loose.specs.declared.transition.LooseTransition.{LooseTransition}
use Rattle.loose.specs.Loose.{AlikeIn}
use Rattle.loose.specs.LooseLaws.{IsOneLooseNode}
use Rattle.loose.proofs.ClassStates.{states_in-same}
use Rattle.explore.specs.declared.Successor.{Successor}
use Rattle.looseruns.specs.LooseMoves.{moves_from, AreTimelyMoves}
use Rattle.looseruns.specs.LooseRuns.{ComesOfMoves, MayEndLoosely, text_of_moves, ComeToOneLooseNode}
use Rattle.looseruns.specs.LooseCover.{LeadToOneLooseNode}
use Rattle.looseruns.specs.LooseGoing.{GoesLooselyTo}
use Rattle.looseruns.proofs.Moves.{moves_keep_order, alike_moves_on}
use Rattle.looseruns.proofs.RunsOfMoves.{first_part_timely, comes_of_more, came_of_more, loose_text_is, moves_run_in_order, ends_alike_in}
use Rattle.looseruns.proofs.LooseCovering.{any_of_map}
use Rattle.looseruns.proofs.LooseGoing.{node_sym, node_trans, node_behind, leads_on}
use Rattle.looseparts.specs.EndingCover.{CoveringToEndsIsCovered}

module _ (class : ℕ → ℕ) (design : Design) (limits : Limits) where
  -- an effect as it is, but in another state
  abbrev in_state : Effect → State → Effect
  in_state e s = record e { state = s }

  goes_to : (s : State) (transitions : List LooseTransition) (k : Effect) → IsInOrder s → moves_from class design (silent s) transitions ≡ Some k → AreTimelyMoves limits transitions → GoesLooselyTo class design limits s transitions k
  goes_to s transitions k order goes timely =
      record { effect = k; goes = goes; timely = timely; one_node = (refl, states_in-same class k.state); in_order = moves_keep_order class design (silent s) k transitions order goes }

  -- what transitions lead to behind a run that leads to a state that is alike
  abbrev Behind : Effect → State → List LooseTransition → Effect → Type 0
  Behind e s transitions k = (g : Effect) × (moves_from class design e transitions ≡ Some g) × IsOneLooseNode class g (joined (in_state e s) k)

  goes_behind : (run transitions : List LooseTransition) (e k : Effect) (s : State) → ComesOfMoves class design limits run e → IsInOrder s → AlikeIn class e.state s → moves_from class design (silent s) transitions ≡ Some k → AreTimelyMoves limits transitions → Behind e s transitions k
  goes_behind run transitions e k s at_e order alike goes timely =
      leads_on class design limits e (in_state e s) k transitions (moves_run_in_order class design run e at_e.0) order (refl, alike) (goes_to s transitions k order goes timely)

  come_together : (run part way : List LooseTransition) (e : Effect) (s : State) → ComesOfMoves class design limits run e → IsInOrder s → AlikeIn class e.state s → AreTimelyMoves limits part
      → LeadToOneLooseNode class design limits s part way → ComeToOneLooseNode class design limits (run ++ part) (run ++ way)
  come_together run part way e s at_e order alike timely (a, b, at_a, at_b, timely', node) =
      let d : Effect = in_state e s in
      let (k, at_k, near_a) = goes_behind run part e a s at_e order alike at_a timely in
      let (m, at_m, near_b) = goes_behind run way e b s at_e order alike at_b timely' in
      let both : IsOneLooseNode class k (joined d b) = node_trans class k (joined d a) (joined d b) near_a (node_behind class d a b node) in
      let same : IsOneLooseNode class k m = node_trans class k (joined d b) m both (node_sym class m (joined d b) near_b) in
      (k, m, comes_of_more class design limits run part e k at_e at_k timely, comes_of_more class design limits run way e m at_e at_m timely', same)

  -- the text of a run that goes on is what its transitions print from what is alike, behind its text before
  text_behind : (run transitions : List LooseTransition) (e g k : Effect) (s : State) → ComesOfMoves class design limits run e → ComesOfMoves class design limits (run ++ transitions) g → IsInOrder s → AlikeIn class e.state s → moves_from class design (silent s) transitions ≡ Some k
      → AreTimelyMoves limits transitions → text_of_moves class design run ++ k.lines ≡ text_of_moves class design (run ++ transitions)
  text_behind run transitions e g k s at_e at_g order alike goes timely =
      let (h, at_h, node) = goes_behind run transitions e k s at_e order alike goes timely in
      let at_h' : ComesOfMoves class design limits (run ++ transitions) h = comes_of_more class design limits run transitions e h at_e at_h timely in
      ap (λ z. z ++ k.lines) (loose_text_is class design run e at_e.0) ∙ sym node.0 ∙ sym (loose_text_is class design (run ++ transitions) h at_h'.0)

-- where nothing more is taken or printed, the text is as it was
text_stays : (class : ℕ → ℕ) (design : Design) (run : List LooseTransition) (printed : List ℕ) → printed ≡ [] → text_of_moves class design run ++ printed ≡ text_of_moves class design (run ++ [])
text_stays class design run printed none =
    ap (λ t. text_of_moves class design run ++ t) none ∙ (append-nil (text_of_moves class design run) ∙ ap (text_of_moves class design) (sym (append-nil run)))

pub covering_to_ends_is_covered : {Node : Type 0} (Holds : Node → Effect → Type 0) → CoveringToEndsIsCovered Holds
covering_to_ends_is_covered Holds class design limits successors ended node run ends at covers tells here_told [] end may' =
    let may : MayEndLoosely class design limits run end = subst (λ way. MayEndLoosely class design limits way end) (append-nil run) may' in
    let (e, at_e, here) = may in
    let order = moves_run_in_order class design run e at_e.0 in
    let both : Some at.effect ≡ Some e = sym at.comes.0 ∙ at_e.0 in
    let same : at.effect ≡ e = cc in
    let alike : AlikeIn class e.state at.held.state = subst (λ (x : Effect). AlikeIn class x.state at.held.state) same at.one_node.1 in
    let (k, way, within, is, (printed, ended_so)) = here_told end (ends_alike_in class design limits e at.held end order at.in_order alike here) in
    inl (k, way, within, is, (text_stays class design run way.printed.items printed, ended_so))
covering_to_ends_is_covered {Node} Holds class design limits successors ended node run ends at covers tells here_told (transition ∷ more) end (g, at_g, here) =
    let e : Effect = at.effect in
    let s : State = at.held.state in
    let (goes, timely) = came_of_more class design limits run (transition ∷ more) e g at.comes at_g in
    let order = moves_run_in_order class design run e at.comes.0 in
    let (k, goes', near, lines) = alike_moves_on class design e (silent s) g (transition ∷ more) order at.in_order at.one_node.1 goes in
    let here' : EndsHere design limits k end =
    ends_alike_in class design limits g k end (moves_run_in_order class design (run ++ transition ∷ more) g at_g.0) (moves_keep_order class design (silent s) k (transition ∷ more) at.in_order goes') near here in
    elim (covers transition more k end goes' timely here') [
      | inl (part, rest, moved, split, (n, way, within, is, together)) ↦
          let first : AreTimelyMoves limits part = first_part_timely limits part rest (transition ∷ more) split timely in
          inr
          (record {
            part = part;
            rest = rest;
            moved = moved;
            split = sym split;
            leads = any_of_map (λ (next : Successor Node LooseTransition). next.moves.items) (λ way. ComeToOneLooseNode class design limits (run ++ part) (run ++ way)) successors
                (n, way, within, is, come_together class design limits run part way e s at.comes at.in_order at.one_node.1 first together);
          })
      | inr (finished, time, (n, way, within, is, (f, leads, timely', over, same))) ↦
          let (m, path, less, there, (printed, ended_so)) = tells way f (n, within, is) leads in
          inl (
            m,
            path,
            less,
            there,
            (
              ap (λ z. text_of_moves class design run ++ z) (printed ∙ same) ∙ text_behind class design limits run (transition ∷ more) e g k s at.comes at_g at.in_order at.one_node.1 goes' timely,
              ended_so ∙ sym finished,
            ),
          )
    ]
