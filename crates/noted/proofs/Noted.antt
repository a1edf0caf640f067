-- Notes of footprints, and the update that the rules permit.
use Rattle.std.proofs.Common.{◌≡◌, ℕ, ◌+◌, ◌==◌, Bool, true, false, not, List, [], ◌∷◌, ◌++◌, map, length, Option, Some, None, option_map, refl, sym, ap, subst, ◌∙◌, eqb, eq-eqb, eqb-true, if◌then◌else◌}
use Rattle.std.specs.Prelude.{◌≢◌, IsSome, IfSome, is_some, MatchOption, Result, Ok, Err, MatchResult}
use Rattle.std.specs.Option.{option_eq}
use Rattle.std.proofs.lemmas.List.{append-nil}
use Rattle.logic4.specs.Vector.{Vector}
use Rattle.model.specs.declared.entry.Entry.{Entry}
use Rattle.model.specs.declared.entry.Entry.TheVariants as entries
use Rattle.model.specs.declared.entry.Refusal.{Refusal}
use Rattle.model.specs.declared.entry.Refusal.TheVariants.{Finished}
use Rattle.model.specs.Design.{Design, Trigger}
use Rattle.model.specs.Turns.{Remainder, contains}
use Rattle.model.specs.States.{Action, Evaluate, Event, State, triggers_of, is_evaluation}
use Rattle.model.specs.Runs.{Effect, action_in, has_any, turn_effect, update_effect, action_effect, refused_where, turn_refusal, update_refusal, refusal, least, effect, unless_refused, step}
use Rattle.model.proofs.RunLaws.{where_none}
use Rattle.design.specs.Compiled.{Compiled, design_of}
use Rattle.design.specs.DesignInvariant.{controls_of}
use Rattle.turn.specs.TurnLogs.{LogView, wait_of}
use Rattle.design.specs.declared.code.ProcState.{ProcState}
use Rattle.regions.specs.Queue.{Core, state_of}
use Rattle.regions.specs.Find.{update_numbers, IsFirstUpdate}
use Rattle.regions.specs.Order.{InOrder, IsSoundAction, IsOrdered}
use Rattle.regions.specs.StepLogs.{IsLogFor}
use Rattle.regions.specs.Machine.{MachineView, IsTurnLogged, IsChange}
use Rattle.regions.proofs.Permitted.{other_update}
use Rattle.footprints.specs.Footprints.{Footprint, changes_made, woken_by_changes, awaited_by_all, assigned, turn_footprint, update_footprint, action_footprint, footprint}
use Rattle.certificates.specs.Notes.{NoteView, TellsOf}
use Rattle.heldmoves.specs.WithoutHeld.{without_held}
use Rattle.heldmoves.proofs.LeftAside.{found_there, turn_same, without_none}
use Rattle.noted.specs.declared.fault.NotedFault.{NotedFault}
use Rattle.noted.specs.NotedSteps.{note_of, IsEntryNoted, IsTakenNoted, IsLeftOut, awaited_at, with_effects, own_note, IsTurnNoted, IsFirstUpdated, IsOfOther}

-- a footprint's note tells of it

no_lines : (xs : List ℕ) → has_any xs ≡ false → xs ≡ []
no_lines [] none = refl
no_lines (x ∷ xs) none = cc

tells_of : (f : Footprint) → TellsOf (note_of f) f
tells_of f =
    record {
      owner = refl;
      uses = λ r h. h;
      writes = λ r h. h;
      changes = λ c h. h;
      awaits = λ t h. h;
      woken = λ p. refl;
      ended = λ t h. h;
      assigns = λ a h. h;
      prints = λ none. no_lines f.lines none;
      strobes = λ h. h;
      finishes = λ h. h;
    }

noted_by : (class : ℕ → ℕ) (code : Compiled) (s : State) (entry : Entry) (note : NoteView) (f : Footprint) → footprint class (design_of code) s entry ≡ Some f → note ≡ note_of f
    → IsEntryNoted class code s entry note
noted_by class code s entry note f there is =
    record { own = f; own_is = there; is = is; tells = subst (λ (n : NoteView). TellsOf n f) (sym is) (tells_of f) }

-- a turn
pub turn_noted : (class : ℕ → ℕ) (code : Compiled) (held : ℕ → Bool) (s : State) (n p : ℕ) (note : NoteView) → action_in s.active n ≡ Some (Evaluate p) → held p ≡ false → IsTurnNoted class code (without_held held s) p note
    → IsEntryNoted class code (without_held held s) (entries.Turn n) note
turn_noted class code held s n p note action other h =
    let t : State = without_held held s in
    noted_by class code t (entries.Turn n) note (turn_footprint class t p h.turn)
    (ap (action_footprint class (design_of code) t) (found_there held n (Evaluate p) s.active action other) ∙ ap (option_map (turn_footprint class t p)) h.is_turn) h.is

-- an update
pub update_noted : (class : ℕ → ℕ) (code : Compiled) (held : ℕ → Bool) (s : State) (n r : ℕ) (v : Vector) (note : NoteView) → action_in s.active n ≡ Some (Action.Update r v)
    → note ≡ note_of (update_footprint class (without_held held s) r v) → IsEntryNoted class code (without_held held s) (entries.Update n) note
update_noted class code held s n r v note action is =
    let t : State = without_held held s in
    noted_by class code t (entries.Update n) note (update_footprint class t r v) (ap (action_footprint class (design_of code) t) (found_there held n (Action.Update r v) s.active action refl)) is

-- without what is held where nothing is, the state is as it is
pub noted_alone : (class : ℕ → ℕ) (code : Compiled) (s : State) (entry : Entry) (note : NoteView) → IsEntryNoted class code (without_held (contains []) s) entry note → IsEntryNoted class code s entry note
noted_alone class code s entry note h = subst (λ (t : State). IsEntryNoted class code t entry note) (without_none (contains []) s (λ p. refl)) h

pub none_held : (s : State) (entry : Entry) → IsOfOther (contains []) s entry
none_held s (entries.Turn n) = λ p at. refl
none_held s (entries.Update n) = tt
none_held s entries.ActivateInactive = tt
none_held s entries.ActivateNba = tt
none_held s entries.ActivateMonitor = tt
none_held s (entries.Advance time) = tt

-- what a log says is what its turn does
pub log_noted : (class : ℕ → ℕ) (code : Compiled) (controls : List (List Trigger)) (held : ℕ → Bool) (s : State) (p : ℕ) (log : LogView) (note : NoteView) → IsLogFor code s p log → controls ≡ controls_of code
    → note ≡ with_effects (own_note class controls (without_held held s) p log) (without_held held s) log.writes → IsTurnNoted class code (without_held held s) p note
log_noted class code controls held s p log note h same is =
    let l = h.is_log in
    let t = h.turn in
    let u = without_held held s in
    let ps = u.processes in
    let wait = ap (λ (c : List (List Trigger)). wait_of c log.suspend) same ∙ l.wait in
    let ended : awaited_by_all ps (p ∷ []) ++ awaited_by_all ps (woken_by_changes (changes_made s.store log.writes) ps) ≡ awaited_by_all ps (p ∷ woken_by_changes (changes_made s.store t.writes) ps) =
    ap (λ ts. ts ++ awaited_by_all ps (woken_by_changes (changes_made s.store log.writes) ps)) (append-nil (awaited_at ps p))
    ∙ ap (λ (ws : List (ℕ × Vector)). awaited_by_all ps (p ∷ woken_by_changes (changes_made s.store ws) ps)) l.writes in
    let whole : with_effects (own_note class controls u p log) u log.writes ≡ note_of (turn_footprint class u p t) =
    λ k. record {
      owner = (turn_footprint class u p t).owner;
      uses = l.uses k;
      writes = map (λ (w : ℕ × Vector). w.0) (l.writes k);
      changes = changes_made s.store (l.writes k);
      awaits = triggers_of (wait k);
      woken = woken_by_changes (changes_made s.store (l.writes k)) ps;
      ended = ended k;
      assigns = assigned class (l.nbas k);
      prints = has_any (l.lines k);
      strobes = has_any (l.strobes k);
      finishes = l.finish k;
    } in
    record { turn = t; is_turn = turn_same (design_of code) held s p ∙ h.is_turn; is = is ∙ whole }

-- the code stays, whatever came of an entry
pub code_stays : (class : ℕ → ℕ) (held : ℕ → Bool) (old : MachineView) (entry : Entry) (new : MachineView) (note : NoteView) (r : Result (Unit {0}) NotedFault)
    → MatchResult r (λ _. IsTakenNoted class held old entry new note) (IsLeftOut old entry new) → new.code ≡ old.code
code_stays class held old entry new note (Ok x) took = took.code
code_stays class held old entry new note (Err fault) left = ap (λ (m : MachineView). m.code) left.same

-- such an entry has a step

has_step : (o : Option Refusal) (x : Option Effect) (e : Effect) → o ≡ None → x ≡ Some e → IsSome (unless_refused o x)
has_step None x e none is = ap is_some is
has_step (Some r) x e none is = cc

pub turn_steps : (code : Compiled) (s : State) (n p : ℕ) (log : LogView) → IsTurnLogged code s n p log → IsSome (step (design_of code) s (entries.Turn n))
turn_steps code s n p log h =
    let design : Design = design_of code in
    let permitted : refusal s (entries.Turn n) ≡ None = ap (λ b. refused_where b Finished (turn_refusal (action_in s.active n))) h.running ∙ ap turn_refusal h.action in
    has_step (refusal s (entries.Turn n)) (effect design s (entries.Turn n)) (turn_effect s n p h.is_log.turn) permitted
    (ap (action_effect design s n) h.action ∙ ap (option_map (turn_effect s n p)) h.is_log.is_turn)

pub update_steps : (code : Compiled) (s : State) (n : ℕ) (x : ℕ × Vector) → IsFirstUpdated code s n x → IsSome (step (design_of code) s (entries.Update n))
update_steps code s n x h =
    has_step (refusal s (entries.Update n)) (effect (design_of code) s (entries.Update n)) (update_effect s n x.0 x.1) h.permitted (ap (action_effect (design_of code) s n) h.action)

-- an entry that is refused has none

no_step : (o : Option Refusal) (x : Option Effect) (e : Effect) → IsSome o → unless_refused o x ≡ Some e → ⊥
no_step None x e some is = cc
no_step (Some r) x e some is = cc

pub refused_steps_not : (design : Design) (s : State) (entry : Entry) (e : Effect) → IsSome (refusal s entry) → step design s entry ≡ Some e → ⊥
refused_steps_not design s entry e some is = no_step (refusal s entry) (effect design s entry) e some is

-- which update the rules permit

is_refused : (o : Option Refusal) → (o ≡ None → ⊥) → IsSome o
is_refused None some = absurd (some refl)
is_refused (Some r) some = refl

refused_at : (b : Bool) (o : Option Refusal) → b ≡ true → IsSome (refused_where b Finished o)
refused_at true o is = refl
refused_at false o is = cc

pub finished_refused : (s : State) (n : ℕ) → s.finished ≡ true → IsSome (refusal s (entries.Update n))
finished_refused s n is = refused_at s.finished (update_refusal s n (action_in s.active n)) is

not_here : (b c : Bool) (e : Event) (es : List Event) (n r : ℕ) (v : Vector) → (e.0 == n) ≡ b → is_evaluation e.1 ≡ c → update_numbers (e ∷ es) ≡ [] → action_in (e ∷ es) n ≡ Some (Action.Update r v)
    → (update_numbers es ≡ [] → action_in es n ≡ Some (Action.Update r v) → ⊥) → ⊥
not_here b false e es n r v same evaluates none is rest =
    let some : update_numbers (e ∷ es) ≡ e.0 ∷ update_numbers es = rw evaluates refl in
    let clash : e.0 ∷ update_numbers es ≡ [] = sym some ∙ none in
    cc
not_here true true e es n r v same evaluates none is rest =
    let here : Some e.1 ≡ Some (Action.Update r v) = rw same at is in
    let act : e.1 ≡ Action.Update r v = cc in
    let clash : true ≡ false = sym evaluates ∙ ap is_evaluation act in
    cc
not_here false true e es n r v same evaluates none is rest = rest (rw evaluates at none) (rw same at is)

-- no update is active where none is listed
not_listed : (es : List Event) (n r : ℕ) (v : Vector) → update_numbers es ≡ [] → action_in es n ≡ Some (Action.Update r v) → ⊥
not_listed [] n r v none is = cc
not_listed (e ∷ es) n r v none is = not_here (e.0 == n) (is_evaluation e.1) e es n r v refl refl none is (not_listed es n r v)

no_update : (s : State) (n : ℕ) (o : Option Action) → action_in s.active n ≡ o → update_numbers s.active ≡ [] → update_refusal s n o ≡ None → ⊥
no_update s n None is none permitted = cc
no_update s n (Some (Evaluate p)) is none permitted = cc
no_update s n (Some (Action.Update r v)) is none permitted = not_listed s.active n r v none is

no_numbers : (ns : List ℕ) → None ≡ least ns → ns ≡ []
no_numbers [] is = refl
no_numbers (n ∷ ns) is = cc

same_update : (k n : ℕ) → Some (entries.Update k) ≡ Some (entries.Update n) → Some k ≡ Some n
same_update k n is = cc

only_first : (s : State) (n : ℕ) (o : Option ℕ) → o ≡ least (update_numbers s.active) → IfSome o (λ k. refusal s (entries.Update k) ≡ None) → o ≢ Some n → refusal s (entries.Update n) ≡ None → ⊥
only_first s n None first its other permitted =
    no_update s n (action_in s.active n) refl (no_numbers (update_numbers s.active) first) (where_none s.finished Finished (update_refusal s n (action_in s.active n)) permitted).1
only_first s n (Some k) first its other permitted =
    other (same_update k n ((other_update s k its (entries.Update n)).1 (λ t. let clash : entries.Update n ≡ entries.Turn t.0 = t.1 in cc, permitted)))

-- an update other than the first is refused
pub other_refused : (s : State) (n : ℕ) (o : Option ℕ) → o ≡ least (update_numbers s.active) → IfSome o (λ k. refusal s (entries.Update k) ≡ None) → o ≢ Some n → IsSome (refusal s (entries.Update n))
other_refused s n o first its other = is_refused (refusal s (entries.Update n)) (only_first s n o first its other)

-- and any is where no update is active
pub none_refused : (s : State) (n : ℕ) → update_numbers s.active ≡ [] → IsSome (refusal s (entries.Update n))
none_refused s n none =
    is_refused (refusal s (entries.Update n)) (λ permitted.
    no_update s n (action_in s.active n) refl none (where_none s.finished Finished (update_refusal s n (action_in s.active n)) permitted).1)

sound_here : (b : Bool) (P : Action → Type 0) (e : Event) (rest : Option Action) (a : Action) → (if b then Some e.1 else rest) ≡ Some a → P e.1 → (rest ≡ Some a → P a) → P a
sound_here true P e rest a is first others = let same : e.1 ≡ a = cc in subst P same first
sound_here false P e rest a is first others = others is

sound_at : (P : Action → Type 0) (low : ℕ) (es : List Event) (high n : ℕ) (a : Action) → InOrder P low es high → action_in es n ≡ Some a → P a
sound_at P low [] high n a order is = cc
sound_at P low (e ∷ es) high n a order is = sound_here (e.0 == n) P e (action_in es n) a is order.1 (sound_at P (e.0 + 1) es high n a order.2)

same_some : (k n : ℕ) → Some k ≡ Some n → k ≡ n
same_some k n is = cc

-- the first update is permitted, and its value is one of its register
pub first_updated : (code : Compiled) (s : State) (n : ℕ) (x : ℕ × Vector) → IsOrdered code.widths (length s.processes) s → refusal s (entries.Update n) ≡ None → Some n ≡ least (update_numbers s.active)
    → IsFirstUpdate s.active x → IsFirstUpdated code s n x
first_updated code s n x order permitted first (k, (least_is, action)) =
    let same : k ≡ n = same_some k n (sym least_is ∙ sym first) in
    let own : action_in s.active n ≡ Some (Action.Update x.0 x.1) = ap (action_in s.active) (sym same) ∙ action in
    record {
      permitted = permitted;
      action = own;
      fits = sound_at (IsSoundAction code.widths (length s.processes)) 0 s.active s.next_event n (Action.Update x.0 x.1) order.active own;
    }

-- where the first update is permitted
pub permitted_first : (core : Core) (rem : ProcState → Remainder) (values : List Vector) (o : Option ℕ)
    → IfSome o (λ n. (r : ProcState → Remainder) (vs : List Vector) → core.finished ≡ false → refusal (state_of r vs core) (entries.Update n) ≡ None) → core.finished ≡ false
    → IfSome o (λ n. refusal (state_of rem values core) (entries.Update n) ≡ None)
permitted_first core rem values None its going = tt
permitted_first core rem values (Some n) its going = its rem values going

-- the first update, where it has this number
pub updated_at : (code : Compiled) (s : State) (n : ℕ) (first : Option ℕ) (o : Option (ℕ × Vector)) → IsOrdered code.widths (length s.processes) s → first ≡ least (update_numbers s.active)
    → IfSome first (λ k. refusal s (entries.Update k) ≡ None) → first ≡ Some n → MatchOption o (update_numbers s.active ≡ []) (IsFirstUpdate s.active)
    → MatchOption o (IsSome (refusal s (entries.Update n))) (IsFirstUpdated code s n)
updated_at code s n first None order least_is its here found = none_refused s n found
updated_at code s n first (Some x) order least_is its here found =
    let permitted = subst (λ (o : Option ℕ). IfSome o (λ k. refusal s (entries.Update k) ≡ None)) here its in
    first_updated code s n x order permitted (sym here ∙ least_is) found

-- an entry that takes no event is a change of the regions
pub is_change : (entry : Entry) → ((n : ℕ) → entry ≡ entries.Turn n → ⊥) → ((n : ℕ) → entry ≡ entries.Update n → ⊥) → IsChange entry
is_change (entries.Turn n) no_turn no_update = no_turn n refl
is_change (entries.Update n) no_turn no_update = no_update n refl
is_change entries.ActivateInactive no_turn no_update = tt
is_change entries.ActivateNba no_turn no_update = tt
is_change entries.ActivateMonitor no_turn no_update = tt
is_change (entries.Advance time) no_turn no_update = tt

-- whether a number is the one that was found

pub other_than : (o : Option ℕ) (n : ℕ) → true ≡ not (option_eq eqb o (Some n)) → o ≢ Some n
other_than None n differ same = cc
other_than (Some k) n differ same =
    let on : eqb k n ≡ true = eq-eqb k n (same_some k n same) in
    let off : true ≡ false = differ ∙ ap not on in
    cc

no_longer : (b : Bool) → false ≡ not b → b ≡ true
no_longer true h = refl
no_longer false h = cc

pub same_as : (o : Option ℕ) (n : ℕ) → false ≡ not (option_eq eqb o (Some n)) → o ≡ Some n
same_as None n h = cc
same_as (Some k) n h = ap (λ m. Some m) (eqb-true k n (no_longer (eqb k n) h))
