-- The only entry that may be taken stands for all.
use Rattle.std.proofs.Common.{◌≡◌, ℕ, [], ◌∷◌, Bool, true, false, Option, Some, None, refl, sym, ap, ◌∙◌, arith}
use Rattle.std.specs.Prelude.{option_map}
use Rattle.std.proofs.lemmas.List.Elements.{All-nil, All-cons}
use Rattle.std.proofs.lemmas.Option.{option_and_then_some}
use Rattle.model.specs.declared.entry.Entry.{Entry}
use Rattle.model.specs.declared.entry.Entry.TheVariants.{Turn}
use Rattle.model.specs.declared.entry.Refusal.{Refusal}
use Rattle.model.specs.declared.entry.Refusal.TheVariants.{Finished}
use Rattle.model.specs.declared.end.Limits.{Limits}
use Rattle.model.specs.declared.end.End.{End}
use Rattle.model.specs.Design.{Design}
use Rattle.model.specs.States.{State}
use Rattle.model.specs.Runs.{Effect, silent, joined, action_in, turn_refusal, refused_where, entry_refusal, refusal, turn_effect, action_effect, effect, unless_refused, step, HasLongTurn}
use Rattle.model.specs.Texts.{EndsHere}
use Rattle.orders.specs.Alike.{IsInOrder}
use Rattle.orders.proofs.SearchLaws.{then_some}
use Rattle.loose.specs.declared.transition.LooseTransition.{LooseTransition}
use Rattle.loose.specs.Loose.{loose_refusal, loose_transition_of}
use Rattle.loose.proofs.ClassStates.{states_in-same}
use Rattle.runs.proofs.Halts.{only_long_turns_end}
use Rattle.looseruns.specs.LooseMoves.{move, moves_from, IsTimelyMove}
use Rattle.looseruns.specs.LooseCover.{LeadToOneLooseNode, CoverMoves}
use Rattle.looseruns.proofs.Moves.{move_is_loose_step, transition_is_timely}
use Rattle.loosewalks.specs.Sole.{IsOnlyLooseEntry, OnlyEntryStandsForAll}
use Rattle.loosewalks.proofs.SoleLooseWays.{one_is}

permitted_if : (o : Option Refusal) (x : Option Effect) (f : Effect) → unless_refused o x ≡ Some f → o ≡ None
permitted_if None x f is = refl
permitted_if (Some reason) x f is = cc

one_transition : (o : Option LooseTransition) (a b : LooseTransition) → o ≡ Some a → o ≡ Some b → a ≡ b
one_transition o a b is is' = cc

-- a transition that may be taken is that of the only entry
its_transition : (class : ℕ → ℕ) (design : Design) (limits : Limits) (s : State) (entry : Entry) (transition other : LooseTransition) (x : Effect) → IsInOrder s → IsOnlyLooseEntry class limits s entry → loose_transition_of class s entry ≡ Some transition
    → move class design s other ≡ Some x → other ≡ transition
its_transition class design limits s entry transition other x order one its moved =
    let (found, is, at_x) = move_is_loose_step class design s other x order moved in
    let same : found ≡ entry = one.only found (permitted_if (loose_refusal class s found) (effect design s found) x at_x) in
    one_transition (loose_transition_of class s entry) other transition (ap (loose_transition_of class s) (sym same) ∙ is) its

only_covers : (class : ℕ → ℕ) (design : Design) (limits : Limits) (s : State) (entry : Entry) (transition : LooseTransition) → IsInOrder s → IsOnlyLooseEntry class limits s entry → loose_transition_of class s entry ≡ Some transition
    → CoverMoves class design limits s ((transition ∷ []) ∷ [])
only_covers class design limits s entry transition order one its other more g end goes timely here =
    option_and_then_some (λ x. moves_from class design (joined (silent s) x) more) (move class design s other) g goes
    (λ x at_x later.
    let same : other ≡ transition = its_transition class design limits s entry transition other x order one its at_x in
    let first : moves_from class design (silent s) (other ∷ []) ≡ Some (joined (silent s) x) =
    then_some (λ y. moves_from class design (joined (silent s) y) []) (move class design s other) x (joined (silent s) x) at_x refl in
    let now : IsTimelyMove limits transition = (transition_is_timely class limits s entry transition its).0 one.timely in
    let lead : LeadToOneLooseNode class design limits s (other ∷ []) (transition ∷ []) = (
      joined (silent s) x,
      joined (silent s) x,
      first,
      ap (λ (t : LooseTransition). moves_from class design (silent s) (t ∷ [])) (sym same) ∙ first,
      All-cons (IsTimelyMove limits) transition [] now (All-nil (IsTimelyMove limits)),
      (refl, states_in-same class x.state),
    ) in
    (other ∷ [], more, omega arith, refl, one_is (LeadToOneLooseNode class design limits s (other ∷ [])) (transition ∷ []) lead))

running : (b : Bool) (o : Option Refusal) → refused_where b Finished o ≡ None → b ≡ false
running true o is = cc
running false o is = refl

-- a turn that is too long has no step, and is permitted loosely
long_turn_stuck : (class : ℕ → ℕ) (design : Design) (s : State) (p : ℕ) → s.finished ≡ false → (long : HasLongTurn design s p) → (loose_refusal class s (Turn long.0) ≡ None) × (step design s (Turn long.0) ≡ None)
long_turn_stuck class design s p going (n, there, long) =
    let permitted : refusal s (Turn n) ≡ None = ap (λ b. refused_where b Finished (turn_refusal (action_in s.active n))) going ∙ ap turn_refusal there in
    let nothing : effect design s (Turn n) ≡ None = ap (action_effect design s n) there ∙ ap (option_map (turn_effect s n p)) long in
    (permitted, ap (λ o. unless_refused o (effect design s (Turn n))) permitted ∙ nothing)

-- no run ends where the only entry takes a step in time
no_end : (class : ℕ → ℕ) (design : Design) (limits : Limits) (s : State) (entry : Entry) (f : Effect) (end : End) → IsOnlyLooseEntry class limits s entry → step design s entry ≡ Some f → EndsHere design limits (silent s) end → ⊥
no_end class design limits s entry f end one at_f here =
    let (p, is, long) = only_long_turns_end design limits s entry end (one.permitted, one.timely) here in
    let (free, stuck) = long_turn_stuck class design s p (running s.finished (entry_refusal s entry) one.permitted) long in
    let same : Turn long.0 ≡ entry = one.only (Turn long.0) free in
    let gone : None ≡ Some f = sym stuck ∙ (ap (step design s) same ∙ at_f) in
    cc

pub only_entry_stands_for_all : OnlyEntryStandsForAll
only_entry_stands_for_all class design limits s entry f transition order one at_f its =
    record { covers = only_covers class design limits s entry transition order one its; goes_on = λ end here. no_end class design limits s entry f end one at_f here }
