-- What is noted of an entry is what comes of its step, and so it is told behind a journal.
use Rattle.std.proofs.Common.{◌≡◌, ℕ, ◌==◌, Bool, true, false, List, [], ◌∷◌, ◌++◌, map, Option, Some, None, refl, sym, ◌∙◌, ap, subst, if◌then◌else◌}
use Rattle.std.specs.Prelude.{min, option_and_then}
use Rattle.logic4.specs.Vector.{Vector}
use Rattle.model.specs.declared.entry.Entry.{Entry}
use Rattle.model.specs.declared.entry.Entry.TheVariants as entries
use Rattle.model.specs.Design.{Design}
use Rattle.model.specs.Expressions.{Store, value_of}
use Rattle.model.specs.States.{Action, Evaluate, Event, State, start}
use Rattle.model.specs.Runs.{Effect, action_in, turn_effect, update_effect, changes_of, step, run, run_from, silent, joined, version}
use Rattle.model.proofs.RunLaws.{run_from-append}
use Rattle.design.specs.Compiled.{Compiled, design_of}
use Rattle.turn.specs.TurnLogs.{LogView, assignment_of}
use Rattle.turn.specs.Reads.{registers}
use Rattle.turn.specs.Evaluate.{written}
use Rattle.regions.specs.Queue.{update_event, evaluation_event}
use Rattle.regions.specs.declared.queue.Update as queued
use Rattle.regions.specs.declared.queue.Evaluation.{Evaluation}
use Rattle.regions.specs.StepLogs.{IsTaken}
use Rattle.regions.specs.Machine.{MachineView, state_at, IsTurnLogged}
use Rattle.steps.specs.declared.cells.VersionedValue.{VersionedValue}
use Rattle.steps.specs.declared.entry_account.Reading.{Reading}
use Rattle.steps.specs.declared.entry_account.EntryActor.TheVariants as actors
use Rattle.steps.specs.Accounts.{Account, greatest_version, reading, changed_from, IsRegionsTold, IsActorTold}
use Rattle.steps.specs.Cells.{cell_values, version_at, reading_in, HasChanged, AreWritten}
use Rattle.steps.specs.ExplainerStanding.{Standing, IsSoundState, IsNoted, IsExplainerBehind, IsExplained, update_of}
use Rattle.steps.proofs.Writes.{count_append, changed_none}
use Rattle.steps.proofs.Effects.{turn_effect_is, update_effect_is, store_turned, store_updated, sound_turned, sound_updated, IsQuietStep, quiet_inactive, quiet_nonblocking, quiet_monitor, quiet_advance}

-- a turn
pub turn_noted : (code : Compiled) (s : State) (n p : ℕ) (log : LogView) (old new : List VersionedValue) (a : Account) → IsTurnLogged code s n p log
    → a.actor ≡ actors.Turn p → a.reads ≡ map (reading_in old) (registers log.reads) → a.assigned ≡ log.nbas → AreWritten old log.writes [] new a.changes
    → (e : Effect) → cell_values old ≡ s.store → step (design_of code) s (entries.Turn n) ≡ Some e → IsNoted code s old (entries.Turn n) e new a
turn_noted code s n p log old new a logged actor reads assigned writes e values is =
    let l = logged.is_log in
    let t = l.turn in
    let same : changes_of (cell_values old) log.writes ≡ changes_of s.store t.writes = ap (λ (v : Store). changes_of v log.writes) values ∙ ap (changes_of s.store) l.is_log.writes in
    let own : IsNoted code s old (entries.Turn n) (turn_effect s n p t) new a =
    record {
      actor =
          record {
            process = p;
            action = logged.action;
            turn = t;
            is_turn = l.is_turn;
            actor = actor;
            reads = reads ∙ ap (map (reading_in old)) l.is_log.uses;
            assigned = ap (map assignment_of) assigned ∙ l.is_log.nbas;
          };
      changes = writes.told ∙ ap (λ (v : Store). changed_from v (changes_of (cell_values old) log.writes)) values ∙ ap (changed_from s.store) same;
      changed = subst (λ (cs : List (ℕ × Vector)). HasChanged old cs new) same writes.changed;
      store = store_turned s n p t;
    } in
    subst (λ (f : Effect). IsNoted code s old (entries.Turn n) f new a) (turn_effect_is (design_of code) s n p t e logged.action l.is_turn is) own

pub turn_sound : (code : Compiled) (s : State) (n p : ℕ) (log : LogView) → IsSoundState code s → IsTurnLogged code s n p log
    → (e : Effect) → step (design_of code) s (entries.Turn n) ≡ Some e → IsSoundState code e.state
turn_sound code s n p log sound logged e is =
    let l = logged.is_log in
    subst (λ (f : Effect). IsSoundState code f.state) (turn_effect_is (design_of code) s n p l.turn e logged.action l.is_turn is)
    (sound_turned code s n p l.turn log.nbas sound logged.action l.is_log.nbas l.fits.nbas)

-- an update
pub update_noted : (code : Compiled) (s : State) (n r : ℕ) (v : Vector) (old new : List VersionedValue) (a : Account) → action_in s.active n ≡ Some (Action.Update r v)
    → a.actor ≡ actors.Update r v → a.reads ≡ [] → a.assigned ≡ [] → AreWritten old ((r, v) ∷ []) [] new a.changes
    → (e : Effect) → cell_values old ≡ s.store → step (design_of code) s (entries.Update n) ≡ Some e → IsNoted code s old (entries.Update n) e new a
update_noted code s n r v old new a action actor reads assigned writes e values is =
    let ws : List (ℕ × Vector) = (r, v) ∷ [] in
    let same : changes_of (cell_values old) ws ≡ changes_of s.store ws = ap (λ (x : Store). changes_of x ws) values in
    let own : IsNoted code s old (entries.Update n) (update_effect s n r v) new a =
    record {
      actor = record { register = r; value = v; action = action; actor = actor; reads = reads; assigned = assigned };
      changes = writes.told ∙ ap (λ (x : Store). changed_from x (changes_of (cell_values old) ws)) values ∙ ap (changed_from s.store) same;
      changed = subst (λ (cs : List (ℕ × Vector)). HasChanged old cs new) same writes.changed;
      store = store_updated s n r v;
    } in
    subst (λ (f : Effect). IsNoted code s old (entries.Update n) f new a) (update_effect_is (design_of code) s n r v e action is) own

pub update_sound : (code : Compiled) (s : State) (n r : ℕ) (v : Vector) → IsSoundState code s → action_in s.active n ≡ Some (Action.Update r v)
    → (e : Effect) → step (design_of code) s (entries.Update n) ≡ Some e → IsSoundState code e.state
update_sound code s n r v sound action e is =
    subst (λ (f : Effect). IsSoundState code f.state) (update_effect_is (design_of code) s n r v e action is) (sound_updated code s n r v sound)

-- a change of the regions
regions_noted : (code : Compiled) (s : State) (entry : Entry) (cells : List VersionedValue) (a : Account) (e : Effect) → IsQuietStep code s e → IsActorTold (design_of code) s (reading_in cells) entry a
    → a.changes ≡ [] → IsNoted code s cells entry e cells a
regions_noted code s entry cells a e quiet actor changes =
    record {
      actor = actor;
      changes = changes ∙ sym (ap (changed_from s.store) quiet.changes);
      changed = subst (λ (cs : List (ℕ × Vector)). HasChanged cells cs cells) (sym quiet.changes) ((changed_none cells []).changed);
      store = quiet.store ∙ sym (ap (written s.store) quiet.changes);
    }

pub other_noted : (code : Compiled) (s : State) (entry : Entry) (cells : List VersionedValue) (a : Account) → ((n : ℕ) → entry ≡ entries.Turn n → ⊥) → ((n : ℕ) → entry ≡ entries.Update n → ⊥)
    → IsSoundState code s → a.actor ≡ actors.Regions → a.reads ≡ [] → a.changes ≡ [] → a.assigned ≡ []
    → (e : Effect) → step (design_of code) s entry ≡ Some e → IsNoted code s cells entry e cells a
other_noted code s (entries.Turn n) cells a no_turn no_update sound actor reads changes assigned e is = absurd (no_turn n refl)
other_noted code s (entries.Update n) cells a no_turn no_update sound actor reads changes assigned e is = absurd (no_update n refl)
other_noted code s entries.ActivateInactive cells a no_turn no_update sound actor reads changes assigned e is =
    regions_noted code s entries.ActivateInactive cells a e (quiet_inactive code s e sound is) (record { actor = actor; reads = reads; assigned = assigned }) changes
other_noted code s entries.ActivateNba cells a no_turn no_update sound actor reads changes assigned e is =
    regions_noted code s entries.ActivateNba cells a e (quiet_nonblocking code s e sound is) (record { actor = actor; reads = reads; assigned = assigned }) changes
other_noted code s entries.ActivateMonitor cells a no_turn no_update sound actor reads changes assigned e is =
    regions_noted code s entries.ActivateMonitor cells a e (quiet_monitor code s e sound is) (record { actor = actor; reads = reads; assigned = assigned }) changes
other_noted code s (entries.Advance time) cells a no_turn no_update sound actor reads changes assigned e is =
    regions_noted code s (entries.Advance time) cells a e (quiet_advance code s time e sound is) (record { actor = actor; reads = reads; assigned = assigned }) changes

pub other_sound : (code : Compiled) (s : State) (entry : Entry) → ((n : ℕ) → entry ≡ entries.Turn n → ⊥) → ((n : ℕ) → entry ≡ entries.Update n → ⊥)
    → IsSoundState code s → (e : Effect) → step (design_of code) s entry ≡ Some e → IsSoundState code e.state
other_sound code s (entries.Turn n) no_turn no_update sound e is = absurd (no_turn n refl)
other_sound code s (entries.Update n) no_turn no_update sound e is = absurd (no_update n refl)
other_sound code s entries.ActivateInactive no_turn no_update sound e is = (quiet_inactive code s e sound is).sound
other_sound code s entries.ActivateNba no_turn no_update sound e is = (quiet_nonblocking code s e sound is).sound
other_sound code s entries.ActivateMonitor no_turn no_update sound e is = (quiet_monitor code s e sound is).sound
other_sound code s (entries.Advance time) no_turn no_update sound e is = (quiet_advance code s time e sound is).sound

-- the update with a number

evaluations_none : (es : List Evaluation) (n : ℕ) → update_of (action_in (map evaluation_event es) n) ≡ None
evaluations_none [] n = refl
evaluations_none (x ∷ es) n = one_none (x.number == n) x (action_in (map evaluation_event es) n) (evaluations_none es n)
  where
    one_none : (b : Bool) (x : Evaluation) (o : Option Action) → update_of o ≡ None → update_of (if b then Some (Evaluate x.process) else o) ≡ None
    one_none true x o is = refl
    one_none false x o is = is

both_here : (b : Bool) (u : queued.Update) (o o' : Option Action) → update_of o ≡ update_of o' → update_of (if b then Some (Action.Update u.register u.value) else o) ≡ update_of (if b then Some (Action.Update u.register u.value) else o')
both_here true u o o' is = refl
both_here false u o o' is = is

-- evaluations behind updates count for nothing
pub update_among : (us : List queued.Update) (es : List Evaluation) (n : ℕ) → update_of (action_in (map update_event us ++ map evaluation_event es) n) ≡ update_of (action_in (map update_event us) n)
update_among [] es n = evaluations_none es n
update_among (u ∷ us) es n = both_here (u.number == n) u (action_in (map update_event us ++ map evaluation_event es) n) (action_in (map update_event us) n) (update_among us es n)

some_update : (o : Option Action) (r : ℕ) (v : Vector) → update_of o ≡ Some (r, v) → o ≡ Some (Action.Update r v)
some_update None r v is = cc
some_update (Some (Evaluate p)) r v is = cc
some_update (Some (Action.Update q w)) r v is =
    let first : q ≡ r = ap (λ (o : Option (ℕ × Vector)). register_or o) is in
    let second : w ≡ v = ap (λ (o : Option (ℕ × Vector)). value_or o) is in
    rw (first, second) refl
  where
    register_or : Option (ℕ × Vector) → ℕ
    register_or None = 0
    register_or (Some x) = x.0

    value_or : Option (ℕ × Vector) → Vector
    value_or None = []
    value_or (Some x) = x.1

pub update_found : (s : State) (us : List queued.Update) (es : List Evaluation) (n r : ℕ) (v : Vector) → map update_event us ++ map evaluation_event es ≡ s.active
    → update_of (action_in (map update_event us) n) ≡ Some (r, v) → action_in s.active n ≡ Some (Action.Update r v)
update_found s us es n r v active found =
    some_update (action_in s.active n) r v
    (ap (λ (xs : List Event). update_of (action_in xs n)) (sym active) ∙ update_among us es n ∙ found)

-- what is noted is told behind a journal

run_more : (design : Design) (journal : List Entry) (entry : Entry) (e f : Effect) → run design journal ≡ Some e → step design e.state entry ≡ Some f
    → run design (journal ++ entry ∷ []) ≡ Some (joined e f)
run_more design journal entry e f ran next =
    run_from-append design (silent (start design)) journal (entry ∷ [])
    ∙ (ap (option_and_then (λ g. run_from design g (entry ∷ []))) ran
    ∙ ap (option_and_then (λ g. run_from design (joined e g) [])) next)

map_same : (f g : ℕ → Reading) (rs : List ℕ) → ((r : ℕ) → f r ≡ g r) → map f rs ≡ map g rs
map_same f g [] same = refl
map_same f g (r ∷ rs) same = λ k. same r k ∷ map_same f g rs same k

-- these tell the same of who does an entry
pub record TellSame (a b : Account) : Type 0 where
  pub actor : b.actor ≡ a.actor
  pub reads : b.reads ≡ a.reads
  pub changes : b.changes ≡ a.changes
  pub assigned : b.assigned ≡ a.assigned

regions_told : (a b : Account) → TellSame a b → IsRegionsTold a → IsRegionsTold b
regions_told a b same h = record { actor = same.actor ∙ h.actor; reads = same.reads ∙ h.reads; assigned = same.assigned ∙ h.assigned }

actor_told : (design : Design) (s : State) (f g : ℕ → Reading) (entry : Entry) (a b : Account) → ((r : ℕ) → f r ≡ g r) → TellSame a b
    → IsActorTold design s f entry a → IsActorTold design s g entry b
actor_told design s f g (entries.Turn n) a b reads same h =
    record {
      process = h.process;
      action = h.action;
      turn = h.turn;
      is_turn = h.is_turn;
      actor = same.actor ∙ h.actor;
      reads = same.reads ∙ h.reads ∙ map_same f g h.turn.uses reads;
      assigned = ap (map assignment_of) same.assigned ∙ h.assigned;
    }
actor_told design s f g (entries.Update n) a b reads same h =
    record { register = h.register; value = h.value; action = h.action; actor = same.actor ∙ h.actor; reads = same.reads ∙ h.reads; assigned = same.assigned ∙ h.assigned }
actor_told design s f g entries.ActivateInactive a b reads same h = regions_told a b same h
actor_told design s f g entries.ActivateNba a b reads same h = regions_told a b same h
actor_told design s f g entries.ActivateMonitor a b reads same h = regions_told a b same h
actor_told design s f g (entries.Advance time) a b reads same h = regions_told a b same h

-- an entry was noted in the state of a machine
abbrev pub NotedAt : Standing → Entry → List VersionedValue → Account → Type 0
NotedAt old entry cells a =
    (e : Effect) → cell_values old.cells ≡ old.position.values → step (design_of old.position.code) (state_at old.position) entry ≡ Some e
    → IsNoted old.position.code (state_at old.position) old.cells entry e cells a

-- it was noted and taken, and its lines were taken out
pub explained : (journal : List Entry) (entry : Entry) (old new : Standing) (mid : MachineView) (a : Account) → new.position.code ≡ old.position.code → state_at new.position ≡ state_at mid
    → new.position.lines ≡ [] → IsTaken old.position.code (state_at old.position) old.position.lines entry (state_at mid) mid.lines → NotedAt old entry new.cells a
    → TellSame a new.account → new.account.lines ≡ mid.lines → new.account.time ≡ (state_at mid).time → IsExplainerBehind journal old → IsExplained journal entry old new
explained journal entry old new mid a code state quiet taken noted same lines time b =
    let design : Design = design_of old.position.code in
    let e : Effect = taken.effect in
    let next : step design b.effect.state entry ≡ Some e = ap (λ (s : State). step design s entry) b.state_is ∙ taken.is_step in
    let values : cell_values old.cells ≡ old.position.values = b.values ∙ ap (λ (s : State). s.store) b.state_is in
    let n : IsNoted old.position.code b.effect.state old.cells entry e new.cells a =
    subst (λ (s : State). IsNoted old.position.code s old.cells entry e new.cells a) (sym b.state_is) (noted e values taken.is_step) in
    record {
      before = b.effect;
      is_run = b.is_run;
      effect = e;
      told =
          record {
            is_step = next;
            time = time ∙ sym (ap (λ (s : State). s.time) taken.state_is);
            actor =
                actor_told design b.effect.state (reading_in old.cells) (reading b.effect) entry a new.account
                (λ r k. record { register = r; value = value_of (b.values k) r; version = b.versions r k }) same n.actor;
            changes = same.changes ∙ n.changes;
            lines = lines ∙ taken.lines_are ∙ ap (λ (l : List ℕ). l ++ e.lines) b.quiet;
          };
      behind =
          record {
            effect = joined b.effect e;
            is_run = ap (λ (c : Compiled). run (design_of c) (journal ++ entry ∷ [])) code ∙ run_more design journal entry b.effect e b.is_run next;
            state_is = taken.state_is ∙ sym state;
            values = n.changed.values ∙ ap (λ (v : Store). written v e.changes) b.values ∙ sym n.store;
            versions = λ r. n.changed.versions r (version b.effect r) (b.versions r) ∙ ap (λ n. min n greatest_version) (sym (count_append r b.effect.changes e.changes));
            quiet = quiet;
          };
    }

-- the start
pub behind_start : (x : Standing) (code : Compiled) → x.position.code ≡ code → state_at x.position ≡ start (design_of code) → x.position.lines ≡ []
    → cell_values x.cells ≡ (start (design_of code)).store → ((r : ℕ) → version_at x.cells r ≡ 0) → IsExplainerBehind [] x
behind_start x code same first lines values versions =
    let at : start (design_of x.position.code) ≡ start (design_of code) = ap (λ (c : Compiled). start (design_of c)) same in
    record {
      effect = silent (start (design_of x.position.code));
      is_run = refl;
      state_is = at ∙ sym first;
      values = values ∙ ap (λ (s : State). s.store) (sym at);
      versions = versions;
      quiet = lines;
    }
