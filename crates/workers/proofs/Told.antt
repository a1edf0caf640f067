-- What the gate's answers say of a worker's seat.
use Rattle.std.specs.List.{All}
use Rattle.std.proofs.lemmas.List.Elements.{All-pop}
use Rattle.std.proofs.Common.{◌≡◌, inl, inr, Some, ℕ, ◌+◌, ◌≤◌, List, [], ◌∷◌, length, arith, refl, sym, subst, ap, append-nil}
use Rattle.model.specs.declared.entry.Entry.{Entry}
use Rattle.model.specs.declared.entry.Entry.TheVariants.{Turn, Update, ActivateInactive, ActivateNba, ActivateMonitor, Advance}
use Rattle.model.specs.declared.end.Why.{Why}
use Rattle.turn.specs.declared.memory.Seen.{Seen}
use Rattle.commitgate.specs.declared.reply.Reply.{Reply}
use Rattle.commitgate.specs.declared.reply.Reply.TheVariants.{Accepted, Stale, Gone, Stopped, NoMemory}
use Rattle.logic4.specs.Vector.{Vector}
use Rattle.design.specs.Compiled.{Compiled}
use Rattle.turn.specs.Reads.{GaveAll}
use Rattle.regcells.specs.Meetings.{fresh_of, HaveGrown}
use Rattle.runstate.specs.Histories.{IsRead}
use Rattle.runstate.proofs.Beginnings.{prefix_get}
use Rattle.commitgate.proofs.Batches.{answered_follows}
use Rattle.commitgate.specs.Named.{Named}
use Rattle.commitgate.specs.Seats.{SeatView}
use Rattle.commitgate.specs.Tickets.{TicketView}
use Rattle.commitgate.specs.GateAnswers.{IsRegionChange}
use Rattle.commitgate.specs.SeatAnswers.{CommitCauses, AnsweredTo, LongAnsweredTo, HeldAnsweredTo, IsUpdatedTo, IsChangedTo}
use Rattle.workers.specs.Counting.{turn_count}
use Rattle.workers.specs.WorkerInvariant.{Goes, IsSettled}
use Rattle.turn.specs.TurnLogs.{LogView}
use Rattle.commitgate.specs.Batches.{AreUpdatedTo, UpdatesEndedTo, UpdatesAnsweredTo, AreAnsweredTo, AnswersEnd, HadMemory}
use Rattle.commitgate.specs.declared.reply.UpdatesEnd.{UpdatesEnd}
use Rattle.commitgate.specs.declared.reply.UpdatesEnd.TheVariants as ends
use Rattle.commitgate.specs.declared.reply.Grant.{Grant}
use Rattle.workers.proofs.Seats.{goes_appended, goes_refused, goes_stopped, goes_self, goes_first, goes_then, goes_more, goes_few, begins_more}

-- the seat goes on, with one more turn at most
abbrev pub GoesOnce : SeatView → SeatView → Type 0
GoesOnce old new = (turns : ℕ) × (turns ≤ 1) × Goes turns turns old new

module _ {A : Type 0} where
  pub answered : (n : Named) (causes : Why → Type 0) (old : SeatView) (ticket : TicketView) (reads : List (ℕ × Seen)) (new : SeatView) (r : Reply A)
      → AnsweredTo n causes old ticket reads new r → GoesOnce old new
  answered n causes old ticket reads new (Accepted grant) a = (1, omega arith, goes_appended n old (Turn ticket.event) grant.position grant.entry grant.tickets.items new a.appended)
  answered n causes old ticket reads new (Stale r back) a = (0, omega arith, goes_refused n old new a.refused)
  answered n causes old ticket reads new Gone a = (0, omega arith, goes_refused n old new a.refused)
  answered n causes old ticket reads new (Stopped why) a = (0, omega arith, goes_stopped n causes old why new a)
  answered n causes old ticket reads new (NoMemory back) a = (0, omega arith, goes_refused n old new a.0)

  -- a turn that is too long isn't appended
  pub long_goes : (n : Named) (old : SeatView) (ticket : TicketView) (reads : List (ℕ × Seen)) (new : SeatView) (r : Reply A)
      → LongAnsweredTo n old ticket reads new r → Goes 0 0 old new
  long_goes n old ticket reads new (Accepted grant) a = absurd a
  long_goes n old ticket reads new (Stale r back) a = goes_refused n old new a.refused
  long_goes n old ticket reads new Gone a = goes_refused n old new a.refused
  long_goes n old ticket reads new (Stopped why) a = goes_stopped n _ old why new a
  long_goes n old ticket reads new (NoMemory back) a = absurd a

  pub long_answered : (n : Named) (old : SeatView) (ticket : TicketView) (reads : List (ℕ × Seen)) (new : SeatView) (r : Reply A)
      → LongAnsweredTo n old ticket reads new r → GoesOnce old new
  long_answered n old ticket reads new r a = (0, omega arith, long_goes n old ticket reads new r a)

  pub held_answered : (n : Named) (old : SeatView) (ticket : TicketView) (new : SeatView) (r : Reply A)
      → HeldAnsweredTo n old ticket new r → GoesOnce old new
  held_answered n old ticket new (Accepted grant) a = (1, omega arith, goes_appended n old (Turn ticket.event) grant.position grant.entry grant.tickets.items new a.appended)
  held_answered n old ticket new (Stale r back) a = absurd a
  held_answered n old ticket new Gone a = (0, omega arith, goes_refused n old new a.refused)
  held_answered n old ticket new (Stopped why) a = (0, omega arith, goes_stopped n _ old why new a)
  held_answered n old ticket new (NoMemory back) a = (0, omega arith, goes_refused n old new a.0)

pub updated : (n : Named) (old : SeatView) (position : ℕ) (named : Entry) (tickets : List TicketView) (new : SeatView) → IsUpdatedTo n old position named tickets new → Goes 0 1 old new
updated n old position named tickets new u = goes_appended n old (Update u.number) position named tickets new u.appended

no_turn : (entry : Entry) → IsRegionChange entry → turn_count entry ≡ 0
no_turn (Turn e) h = absurd h
no_turn (Update e) h = absurd h
no_turn ActivateInactive h = refl
no_turn ActivateNba h = refl
no_turn ActivateMonitor h = refl
no_turn (Advance time) h = refl

pub changed : (n : Named) (old : SeatView) (position : ℕ) (named : Entry) (tickets : List TicketView) (new : SeatView) → IsChangedTo n old position named tickets new → Goes 0 1 old new
changed n old position named tickets new c = subst (λ (k : ℕ). Goes k 1 old new) (no_turn c.change c.is_change) (goes_appended n old c.change position named tickets new c.appended)

pub first_on : (a b c : SeatView) → Goes 0 0 a b → GoesOnce b c → GoesOnce a c
first_on a b c f g = (g.0, g.1, goes_first g.0 g.0 a b c f g.2)

pub on_then : (a b c : SeatView) → GoesOnce a b → Goes 0 0 b c → GoesOnce a c
on_then a b c f g = (f.0, f.1, goes_then f.0 f.0 a b c f.2 g)

-- a seat that appended updates
appended_go : {A : Type 0} → (n : Named) (old : SeatView) (grants : List (Grant A)) (new : SeatView) → AreUpdatedTo n old grants new → Goes 0 (length grants) old new
appended_go n old [] new same = subst (λ (s : SeatView). Goes 0 0 old s) (sym same) (goes_self old)
appended_go n old (grant ∷ grants) new chain =
    goes_few 0 (1 + length grants) (length (grant ∷ grants)) old new (omega arith)
    (goes_more 0 0 1 (length grants) old chain.0 new (updated n old grant.position grant.entry grant.tickets.items chain.0 chain.1) (appended_go n chain.0 grants new chain.2))

-- the same behind them, by why there are no more
ended_go : (n : Named) (old : SeatView) (end : UpdatesEnd) (new : SeatView) → UpdatesEndedTo n old end new → Goes 0 0 old new
ended_go n old ends.Woke new same = subst (λ (s : SeatView). Goes 0 0 old s) (sym same) (goes_self old)
ended_go n old ends.Nothing new a = goes_refused n old new a.0
ended_go n old (ends.Stopped why) new a = goes_stopped n CommitCauses old why new a
ended_go n old ends.NoMemory new a = goes_refused n old new a
ended_go n old ends.NoRoom new same = subst (λ (s : SeatView). Goes 0 0 old s) (sym same) (goes_self old)

pub updates_go : {A : Type 0} → (n : Named) (old : SeatView) (grants : List (Grant A)) (end : UpdatesEnd) (new : SeatView) → UpdatesAnsweredTo n old grants end new → Goes 0 (length grants) old new
updates_go n old grants end new all = goes_then 0 (length grants) old all.0 new (appended_go n old grants all.0 all.1) (ended_go n all.0 end new all.2)

-- a seat that was answered several tickets: it appended at most as many turns
pub answers_go : {A : Type 0} → (n : Named) (old : SeatView) (tickets : List TicketView) (logs : List LogView) (replies : List (Reply A)) (left : List TicketView) (new : SeatView)
    → AreAnsweredTo n old tickets logs replies left new → (turns : ℕ) × (turns + length left ≤ length tickets) × Goes turns turns old new
answers_go n old tickets logs [] left new same =
    (0, (let l : length left ≡ length tickets = ap length same.0 in omega (arith, l)), subst (λ (s : SeatView). Goes 0 0 old s) (sym same.1) (goes_self old))
answers_go n old [] logs (r ∷ rs) left new a = absurd a
answers_go n old (t ∷ ts) [] (r ∷ rs) left new a = absurd a
answers_go n old (t ∷ ts) (l ∷ ls) (r ∷ rs) left new a =
    let one = answered n CommitCauses old t l.reads a.0 r a.1 in
    let more = answers_go n a.0 ts ls rs left new a.2 in
    let few = one.1 in
    let most = more.1 in
    (one.0 + more.0, omega (arith, few, most), goes_more one.0 more.0 one.0 more.0 old a.0 new one.2 more.2)

rises_self : (fresh : List (List Vector)) → HaveGrown fresh fresh
rises_self fresh r = ([], append-nil (fresh_of fresh r))

rises_both : (a b c : List (List Vector)) → HaveGrown a b → HaveGrown b c → HaveGrown a c
rises_both a b c f g r = begins_more (fresh_of a r) (fresh_of b r) (fresh_of c r) (f r) (g r)

-- a seat that was answered several tickets has seen of the registers all that it had seen
pub answers_rise : {A : Type 0} → (n : Named) (old : SeatView) (tickets : List TicketView) (logs : List LogView) (replies : List (Reply A)) (left : List TicketView) (new : SeatView)
    → AreAnsweredTo n old tickets logs replies left new → HaveGrown old.fresh new.fresh
answers_rise n old tickets logs [] left new same = subst (λ (s : SeatView). HaveGrown old.fresh s.fresh) (sym same.1) (rises_self old.fresh)
answers_rise n old [] logs (r ∷ rs) left new a = absurd a
answers_rise n old (t ∷ ts) [] (r ∷ rs) left new a = absurd a
answers_rise n old (t ∷ ts) (l ∷ ls) (r ∷ rs) left new a =
    rises_both old.fresh a.0.fresh new.fresh (answered_follows n CommitCauses old t l.reads a.0 r a.1).rises (answers_rise n a.0 ts ls rs left new a.2)

-- what was read stays so where more was seen of the registers
pub gave_later : (code : Compiled) (fresh fresh' : List (List Vector)) (reads : List (ℕ × Seen)) → HaveGrown fresh fresh'
    → GaveAll (IsRead code fresh) reads → GaveAll (IsRead code fresh') reads
gave_later code fresh fresh' [] rises gave = tt
gave_later code fresh fresh' (d ∷ ds) rises gave =
    (λ low. prefix_get (fresh_of fresh d.0) (fresh_of fresh' d.0) d.1.version d.1.value (rises d.0) (gave.0 low), gave_later code fresh fresh' ds rises gave.1)

-- there is at most an answer to each ticket
pub few_answers : {A : Type 0} → (n : Named) (old : SeatView) (tickets : List TicketView) (logs : List LogView) (replies : List (Reply A)) (left : List TicketView) (new : SeatView)
    → AreAnsweredTo n old tickets logs replies left new → length replies ≤ length tickets
few_answers n old tickets logs [] left new same = omega arith
few_answers n old [] logs (r ∷ rs) left new a = absurd a
few_answers n old (t ∷ ts) [] (r ∷ rs) left new a = absurd a
few_answers n old (t ∷ ts) (l ∷ ls) (r ∷ rs) left new a = let few = few_answers n a.0 ts ls rs left new a.2 in omega (arith, few)

-- memory was refused for none that is settled
had_memory : {A : Type 0} → (reply : Reply A) → IsSettled reply → HadMemory reply
had_memory (Accepted grant) is = is
had_memory (Stale r back) is = is
had_memory Gone is = is
had_memory (Stopped why) is = tt
had_memory (NoMemory back) is = is

-- no ticket is left where each is settled
pub none_left : {A : Type 0} → (replies : List (Reply A)) (left : List TicketView) → AnswersEnd replies left → All IsSettled replies → left ≡ []
none_left replies left (inl end) all = end.1
none_left replies left (inr end) all = absurd (end.4 (had_memory end.1 (All-pop IsSettled replies end.0 (Some end.1) end.2 all).1))
