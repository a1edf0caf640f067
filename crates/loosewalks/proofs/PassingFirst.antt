-- A walk lets time pass at its first move alone, or nowhere.
use Rattle.std.proofs.Common.{◌≡◌, ◌≢◌, ℕ, ◌==◌, Bool, true, false, not, List, [], ◌∷◌, ◌++◌, length, Option, Some, None, Vec, Global, vec_len, refl, sym, subst, arith}
use Rattle.std.specs.List.{All}
use Rattle.std.proofs.lemmas.Grind.{common_steps}
use Rattle.std.proofs.lemmas.List.Elements.{All-nil, All-cons, All-tail, All-append}
use Rattle.model.specs.declared.entry.Entry.{Entry}
use Rattle.model.specs.declared.entry.Entry.TheVariants.{Turn, Update, ActivateInactive, ActivateNba, ActivateMonitor, Advance}
use Rattle.model.specs.declared.end.Limits.{Limits}
use Rattle.model.specs.States.{State, Action, Evaluate}
use Rattle.model.specs.Runs.{action_in}
use Rattle.loose.specs.declared.transition.LooseTransition.{LooseTransition}
use Rattle.loose.specs.declared.transition.LooseTransition.TheVariants.{Process, FirstOf, Change}
use Rattle.loose.specs.Loose.{loose_transition_of, loose_transition_of_action}
use Rattle.looseruns.specs.ObservedMoves.{StaysAtEntry, StaysInTime, PassesTimeFirst}
use Rattle.combinational.specs.declared.network.Network.{Network}
use Rattle.regions.specs.Machine.{MachineView}
use Rattle.loosewalks.specs.EventWays.{AreOfActors}
use Rattle.loosewalks.specs.LooseWalking.{HasPassedPhase}
use Rattle.loosewalks.specs.Certified.{HasCertified}
use Rattle.loosewalks.specs.Held.{HasHeld, HasHeldUntilSettled}

-- no time passes at events

pub actors_stay : (moves : List LooseTransition) → AreOfActors moves → All StaysInTime moves
actors_stay [] actors = All-nil StaysInTime
actors_stay (Process p ∷ moves) actors = All-cons StaysInTime (Process p) moves tt (actors_stay moves actors)
actors_stay (FirstOf c ∷ moves) actors = All-cons StaysInTime (FirstOf c) moves tt (actors_stay moves actors)
actors_stay (Change entry ∷ moves) actors = absurd actors

-- each way through what is active takes events alone

pub phase_actors : (class : ℕ → ℕ) (limits : Limits) (old new : MachineView) (network : Network) (members : List ℕ) (moves : List LooseTransition) → HasPassedPhase class limits old network members moves new → AreOfActors moves
phase_actors class limits old new network members moves through = through.passed.takes.actors

pub certified_actors : (class : ℕ → ℕ) (limits : Limits) (old new : MachineView) (moves : List LooseTransition) → HasCertified class limits old moves new → AreOfActors moves
certified_actors class limits old new moves certified = certified.takes.takes.actors

pub held_actors : (class : ℕ → ℕ) (limits : Limits) (old new : MachineView) (network : Network) (held : List ℕ) (moves : List LooseTransition) → HasHeld class limits old network held moves new → AreOfActors moves
held_actors class limits old new network held moves through = through.passed.takes.actors

pub settled_actors : (class : ℕ → ℕ) (limits : Limits) (old new : MachineView) (network : Network) (held : List ℕ) (moves : List LooseTransition) → HasHeldUntilSettled class limits old network held moves new → AreOfActors moves
settled_actors class limits old new network held moves through = through.through.passed.takes.actors

-- no time passes at the transition of an entry that lets none pass

action_stays : (class : ℕ → ℕ) (o : Option Action) (t : LooseTransition) → loose_transition_of_action class o ≡ Some t → StaysInTime t
action_stays class None t is = cc
action_stays class (Some (Evaluate p)) t is =
    let same : Process p ≡ t = cc in
    subst StaysInTime same tt
action_stays class (Some (Action.Update r v)) t is =
    let same : FirstOf (class r) ≡ t = cc in
    subst StaysInTime same tt

pub entry_stays : (class : ℕ → ℕ) (s : State) (entry : Entry) (t : LooseTransition) → loose_transition_of class s entry ≡ Some t → StaysAtEntry entry → StaysInTime t
entry_stays class s (Turn n) t its stays = action_stays class (action_in s.active n) t its
entry_stays class s (Update n) t its stays = action_stays class (action_in s.active n) t its
entry_stays class s ActivateInactive t its stays =
    let same : Change ActivateInactive ≡ t = cc in
    subst StaysInTime same tt
entry_stays class s ActivateNba t its stays =
    let same : Change ActivateNba ≡ t = cc in
    subst StaysInTime same tt
entry_stays class s ActivateMonitor t its stays =
    let same : Change ActivateMonitor ≡ t = cc in
    subst StaysInTime same tt
entry_stays class s (Advance time) t its stays = absurd stays

-- what lets no time pass may stand behind other moves, and any one transition behind none

stays_behind_first : (way : List LooseTransition) → All StaysInTime way → PassesTimeFirst way
stays_behind_first [] stay = tt
stays_behind_first (t ∷ way) stay = All-tail StaysInTime t way stay

pub passes_on : (before way after : List LooseTransition) → after ≡ before ++ way → All StaysInTime way → PassesTimeFirst before → PassesTimeFirst after
passes_on [] way after is stay first = subst PassesTimeFirst (sym is) (stays_behind_first way stay)
passes_on (t ∷ before) way after is stay first = subst PassesTimeFirst (sym is) (All-append StaysInTime before way first stay)

pub passes_one : (before after : List LooseTransition) (t : LooseTransition) → after ≡ before ++ t ∷ [] → (before ≢ [] → StaysInTime t) → PassesTimeFirst before → PassesTimeFirst after
passes_one [] after t is stays first = subst PassesTimeFirst (sym is) (All-nil StaysInTime)
passes_one (u ∷ before) after t is stays first =
    passes_on (u ∷ before) (t ∷ []) after is (All-cons StaysInTime t [] (stays (λ none. cc)) (All-nil StaysInTime)) first

-- a walk has made moves

no_elements : {X : Type 0} (xs : List X) → length xs ≡ 0 → xs ≡ []
no_elements [] none = refl
no_elements (x ∷ xs) none = absurd (omega (arith, none))

empty_items : (v : Vec LooseTransition Global) (b : Bool) → b ≡ (vec_len v == 0) → b ≡ true → v.items ≡ []
empty_items v b is yes_it_is =
    let none : length v.items ≡ 0 = grind (arith, common_steps) in
    no_elements v.items none

no_moves : (moves since : List LooseTransition) → moves ≡ [] → since ≡ [] → moves ++ since ≡ []
no_moves moves since none none' = rw (none, none') refl

pub some_since : (moves since : Vec LooseTransition Global) (a b : Bool) → a ≡ (vec_len moves == 0) → b ≡ (vec_len since == 0) → a ≡ true → moves.items ++ since.items ≢ [] → not b ≡ true
some_since moves since a false at_a at_b none some = refl
some_since moves since a true at_a at_b none some =
    absurd (some (no_moves moves.items since.items (empty_items moves a at_a none) (empty_items since true at_b refl)))
