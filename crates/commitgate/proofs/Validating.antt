-- A turn's reads against the histories, and what the seat has met once the turn is appended.
use Rattle.std.proofs.Common.{◌≡◌, ℕ, zero, suc, ◌+◌, ◌<◌, List, [], ◌∷◌, map, length, Option, Some, None, refl, sym, ap, ◌∙◌, subst, inl, inr, arith}
use Rattle.std.specs.Prelude.{slice_get, option_and_then, IfNone, IfSome}
use Rattle.std.specs.List.{All}
use mathlib.Core.List.{IsPrefix}
use Rattle.logic4.specs.Vector.{Vector}
use Rattle.model.specs.declared.entry.Entry.TheVariants as entries
use Rattle.model.specs.States.{Evaluate}
use Rattle.model.specs.Runs.{action_in, turn_of, least}
use Rattle.regions.specs.Find.{update_numbers}
use Rattle.design.specs.Compiled.{Compiled, design_of}
use Rattle.design.specs.DesignInvariant.{IsStateOf}
use Rattle.design.specs.Fits.{FitsRegister}
use Rattle.turn.specs.declared.memory.Seen.{Seen}
use Rattle.turn.specs.TurnLogs.{LogView}
use Rattle.turn.specs.TurnAnswers.{IsTurnLog}
use Rattle.turn.specs.Reads.{Agrees, GaveAll}
use Rattle.regcells.specs.Values.{last_value}
use Rattle.commitgate.specs.Named.{Named}
use Rattle.runstate.specs.Ledger.{Ledger, entries_of}
use Rattle.runstate.specs.GateState.{GateState, state_in}
use Rattle.commitgate.specs.GateInvariant.{GateInvariant}
use Rattle.regcells.specs.Meetings.{fresh_of, IsCurrentOf, IsFirstMovedOf, AreReadsIn, AreWritesIn}
use Rattle.commitgate.specs.Tickets.{TicketView, IsCurrent}
use Rattle.runstate.specs.Histories.{hist, IsRead, IsFirstMovedIn}
use Rattle.runstate.specs.SeatMeetings.{IsLogIn, register_in, updated_register, HasMetLog}
use Rattle.runstate.specs.Evaluated.{IsLogOfEvent}
use Rattle.commitgate.specs.GateAnswers.{IsRecorded, AreCurrent}
use Rattle.commitgate.specs.SeatAnswers.{HasMet, HasMetEntry}
use Rattle.runstate.proofs.Beginnings.{prefix_get, prefix_self}
use Rattle.regcells.proofs.Places.{or_of, within}
use Rattle.commitgate.proofs.Agreeing.{agrees}
use Rattle.regions.proofs.Evaluated.{turn_of-is}
use Rattle.commitgate.proofs.AtLock.{at_lock}

pub if_none : {A : Type 0} (o : Option A) (P Q : Type 0) → IfNone o P → (P → Q) → IfNone o Q
if_none None P Q h f = f h
if_none (Some x) P Q h f = tt

pub if_some : {A : Type 0} (o : Option A) (P Q : A → Type 0) → IfSome o P → ((x : A) → P x → Q x) → IfSome o Q
if_some None P Q h f = tt
if_some (Some x) P Q h f = f x h

pub if_some_both : {A : Type 0} (o : Option A) (P Q R : A → Type 0) → IfSome o P → IfSome o Q → ((x : A) → P x → Q x → R x) → IfSome o R
if_some_both None P Q R h k f = tt
if_some_both (Some x) P Q R h k f = f x h k

pub get_all : {A : Type 0} (P : A → Type 0) (xs : List A) → All P xs → (k : ℕ) (x : A) → slice_get xs k ≡ Some x → P x
get_all P xs all k x at = subst P (or_of xs k x x at) (all k x (within xs k x at))

pub all_of : {A : Type 0} (P : A → Type 0) (xs : List A) → ((k : ℕ) (x : A) → slice_get xs k ≡ Some x → P x) → All P xs
all_of P [] h k d low = absurd (omega arith)
all_of P (x ∷ xs) h zero d low = h 0 x refl
all_of P (x ∷ xs) h (suc k) d low = all_of P xs (λ j y at. h (suc j) y at) k d (omega arith)

all_map : {A : Type 0} (P : ℕ → Type 0) (xs : List (ℕ × A)) → ((k : ℕ) (x : ℕ × A) → slice_get xs k ≡ Some x → P x.0) → All P (map (λ x. x.0) xs)
all_map P [] h k d low = absurd (omega arith)
all_map P (x ∷ xs) h zero d low = h 0 x refl
all_map P (x ∷ xs) h (suc k) d low = all_map P xs (λ j y at. h (suc j) y at) k d (omega arith)

pub gave_at : (P : ℕ → Seen → Type 0) (reads : List (ℕ × Seen)) → GaveAll P reads → (k : ℕ) (d : ℕ × Seen) → slice_get reads k ≡ Some d → P d.0 d.1
gave_at P [] gave k d at = absurd (cc)
gave_at P (x ∷ xs) gave zero d at = let same : x ≡ d = cc at in subst (λ (y : ℕ × Seen). P y.0 y.1) same gave.0
gave_at P (x ∷ xs) gave (suc k) d at = gave_at P xs gave.1 k d at

-- what was read is of declared registers
pub reads_in : (code : Compiled) (m : ℕ) (ticket : TicketView) (log : LogView) → m ≡ length code.widths → IsStateOf code ticket.process ticket.state → IsTurnLog code ticket.state ticket.time log → AreReadsIn m log.reads
reads_in code m ticket log e own turn k d at =
    subst (λ j. d.0 < j) (sym e) (get_all (λ (r : ℕ × Seen). r.0 < length code.widths) log.reads (turn.declared ticket.process own) k d at)

pub log_in : (code : Compiled) (m : ℕ) (ticket : TicketView) (log : LogView) → m ≡ length code.widths → IsStateOf code ticket.process ticket.state → IsTurnLog code ticket.state ticket.time log → IsLogIn m (Some log)
log_in code m ticket log e own turn = (
  reads_in code m ticket log e own turn,
  λ k d at. subst (λ j. d.0 < j) (sym e) (get_all (λ (w : ℕ × Vector). FitsRegister code.widths w.0 w.1) log.writes (turn.fits ticket.process own).writes k d at).0,
)

recorded_at : (code : Compiled) (all fresh : List (List Vector)) (d : ℕ × Seen) → IsRecorded code all fresh d.0 d.1 → IsPrefix (fresh_of fresh d.0) (fresh_of all d.0) → IsRead code all d.0 d.1
recorded_at code all fresh d (inl h) begins = h
recorded_at code all fresh d (inr h) begins = λ low. prefix_get (fresh_of fresh d.0) (fresh_of all d.0) d.1.version d.1.value begins (h low)

-- what was recorded stands in the lists under the lock, where what a seat has seen is a beginning of them
pub recorded_in : (code : Compiled) (all fresh : List (List Vector)) (reads : List (ℕ × Seen)) → GaveAll (IsRecorded code all fresh) reads
    → ((k : ℕ) (d : ℕ × Seen) → slice_get reads k ≡ Some d → IsPrefix (fresh_of fresh d.0) (fresh_of all d.0)) → GaveAll (IsRead code all) reads
recorded_in code all fresh [] gave begins = tt
recorded_in code all fresh (d ∷ ds) gave begins =
    (recorded_at code all fresh d gave.0 (begins 0 d refl), recorded_in code all fresh ds gave.1 (λ k e at. begins (suc k) e at))

pub gave_map : (P Q : ℕ → Seen → Type 0) (reads : List (ℕ × Seen)) → ((r : ℕ) (s : Seen) → P r s → Q r s) → GaveAll P reads → GaveAll Q reads
gave_map P Q [] f gave = tt
gave_map P Q (d ∷ ds) f gave = (f d.0 d.1 gave.0, gave_map P Q ds f gave.1)

-- what stands in what a seat has seen is so recorded, whatever the lists
pub recorded_seen : (code : Compiled) (all fresh : List (List Vector)) (reads : List (ℕ × Seen)) → GaveAll (IsRead code fresh) reads → GaveAll (IsRecorded code all fresh) reads
recorded_seen code all fresh reads gave = gave_map (IsRead code fresh) (IsRecorded code all fresh) reads (λ r s h. inr h) gave

-- and so is what stands in the lists, whatever a seat has seen
pub recorded_held : (code : Compiled) (all fresh : List (List Vector)) (reads : List (ℕ × Seen)) → GaveAll (IsRead code all) reads → GaveAll (IsRecorded code all fresh) reads
recorded_held code all fresh reads gave = gave_map (IsRead code all) (IsRecorded code all fresh) reads (λ r s h. inl h) gave

-- current by the lists is current by the journal
pub current_by : (n : Named) (held : GateState) (reads : List (ℕ × Seen)) → GateInvariant n held → AreReadsIn (length n.code.widths) reads
    → ((k : ℕ) (d : ℕ × Seen) → slice_get reads k ≡ Some d → IsCurrentOf held.histories d) → AreCurrent n.code held reads
current_by n held reads kept low cur k d at = ap length (sym (kept.histories d.0 (low k d at))) ∙ cur k d at

-- and moved by the lists is moved by the journal
pub moved_by : (n : Named) (held : GateState) (reads : List (ℕ × Seen)) (r : ℕ) (fresh : List (List Vector)) → GateInvariant n held → AreReadsIn (length n.code.widths) reads
    → IsFirstMovedOf held.histories reads r → GaveAll (IsRecorded n.code held.histories fresh) reads → IsPrefix (fresh_of fresh r) (fresh_of held.histories r)
    → IsFirstMovedIn (design_of n.code) held.journal reads r
moved_by n held reads r fresh kept low m gave begins =
    let d = m.read in
    let here = low m.at d m.there in
    let begins' : IsPrefix (fresh_of fresh d.0) (fresh_of held.histories d.0) = subst (λ q. IsPrefix (fresh_of fresh q) (fresh_of held.histories q)) (sym m.register) begins in
    let there = recorded_at n.code held.histories fresh d (gave_at (IsRecorded n.code held.histories fresh) reads gave m.at d m.there) begins' here in
    let long = within (fresh_of held.histories d.0) d.1.version d.1.value there in
    let same = ap length (kept.histories d.0 here) in
    record {
      at = m.at;
      read = d;
      there = m.there;
      register = m.register;
      moved = apart (length (fresh_of held.histories d.0)) d.1.version (length (hist (design_of n.code) held.journal d.0)) long m.moved same;
      before = λ k e lt at. ap length (sym (kept.histories e.0 (low k e at))) ∙ m.before k e lt at;
    }
  where
    apart : (len version other : ℕ) → version < len → (len ≡ version + 1 → ⊥) → len ≡ other → version + 1 < other
    apart len version other lt ne same = omega (arith, lt, ne, same)

-- the log is that of the ticket's turn
pub given_by : (n : Named) (held : GateState) (ticket : TicketView) (log : LogView) → GateInvariant n held → IsCurrent held.core ticket → IsStateOf n.code ticket.process ticket.state
    → IsTurnLog n.code ticket.state ticket.time log → GaveAll (IsRead n.code held.histories) log.reads → AreCurrent n.code held log.reads
    → length held.values ≡ length n.code.widths
    → IsLogOfEvent n.code held ticket.event log
given_by n held ticket log kept current own turn gave cur count =
    let low = reads_in n.code (length n.code.widths) ticket log refl own turn in
    let agree : Agrees log.reads (map last_value held.histories) =
    agrees n.code held.histories held.histories log.reads gave (turn.declared ticket.process own) (λ k d at. prefix_self (fresh_of held.histories d.0)) (λ k d at. ap length (kept.histories d.0 (low k d at)) ∙ cur k d at) in
    record {
      process = ticket.process;
      state = ticket.state;
      evaluation = current.evaluation;
      turn = at_lock n.code held ticket.process ticket.state log own count
          (subst (λ t. IsTurnLog n.code ticket.state t log) (sym current.time) turn)
          (subst (Agrees log.reads) (sym kept.values) agree);
    }

same_number : (p q : ℕ) → Some (Evaluate p) ≡ Some (Evaluate q) → p ≡ q
same_number p q e = cc

-- the seat has met what the turn read and wrote
pub met_turn : (n : Named) (held held' : GateState) (event : ℕ) (log : LogView) (seen : Ledger) (fresh : List (List Vector)) (m : ℕ) → GateInvariant n held' → seen ≡ held'.ledger
    → IsLogOfEvent n.code held event log → AreReadsIn (length n.code.widths) log.reads → AreWritesIn (length n.code.widths) log.writes
    → HasMetLog held'.histories fresh m None (Some log) → HasMetEntry n (state_in n.code held) (entries.Turn event) seen fresh
met_turn n held held' event log seen fresh m kept is h reads writes met p turn action found =
    let process : h.process ≡ p = same_number h.process p (sym h.evaluation.0 ∙ action) in
    let both : Some h.turn.turn ≡ Some turn = sym h.turn.is_turn ∙ sym (turn_of-is n.code held.core held.values event h.process h.state h.evaluation) ∙ ap (turn_of (design_of n.code) (state_in n.code held)) process ∙ found in
    let same : h.turn.turn ≡ turn = cc in
    let whole : (r : ℕ) → r < length n.code.widths → fresh_of held'.histories r ≡ hist (design_of n.code) (entries_of seen) r =
    λ r low. kept.histories r low ∙ ap (λ j. hist (design_of n.code) j r) (kept.journal_is ∙ ap entries_of (sym is)) in
    record {
      uses = subst (All (HasMet n seen fresh)) (h.turn.is_log.uses ∙ ap (λ t. t.uses) same)
          (all_map (HasMet n seen fresh) log.reads (λ k d at. met.0 k d at ∙ whole d.0 (reads k d at)));
      writes = subst (All (λ (w : ℕ × Vector). HasMet n seen fresh w.0)) (h.turn.is_log.writes ∙ ap (λ t. t.writes) same)
          (all_of (λ (w : ℕ × Vector). HasMet n seen fresh w.0) log.writes (λ k d at. met.1 k d at ∙ whole d.0 (writes k d at)));
    }

-- the seat has met the register of an update
pub met_update : (n : Named) (held held' : GateState) (number : ℕ) (seen : Ledger) (fresh : List (List Vector)) (m : ℕ) → m ≡ length n.code.widths → GateInvariant n held' → seen ≡ held'.ledger
    → least (update_numbers held.core.active) ≡ Some number
    → HasMetLog held'.histories fresh m (updated_register held.core.active (entries.Update number)) None → HasMetEntry n (state_in n.code held) (entries.Update number) seen fresh
met_update n held held' number seen fresh m e kept is first met r v action low =
    let register : updated_register held.core.active (entries.Update number) ≡ Some r =
    ap (λ o. register_in (option_and_then (action_in held.core.active) o)) first ∙ ap register_in action in
    met.1 r register (subst (λ j. r < j) (sym e) low) ∙ kept.histories r low ∙ ap (λ j. hist (design_of n.code) j r) (kept.journal_is ∙ ap entries_of (sym is))
