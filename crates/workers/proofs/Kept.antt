-- A worker loses no ticket: what each answer of the gate gives is put, and what its ends got comes in hand.
use Rattle.std.specs.List.{All, AllByRecursion}
use Rattle.std.proofs.Common.{◌≡◌, ℕ, suc, ◌+◌, ◌<◌, ◌≤◌, List, [], ◌∷◌, ◌++◌, length, refl, sym, ap, ◌∙◌, subst, arith, append-nil, ◌==◌, if◌then◌else◌}
use mathlib.Core.List.{IsPrefix}
use Rattle.model.specs.declared.entry.Entry.{Entry}
use Rattle.model.specs.declared.entry.Entry.TheVariants.{Turn, Update, ActivateInactive, ActivateNba, ActivateMonitor, Advance}
use Rattle.model.specs.declared.end.Why.{Why}
use Rattle.turn.specs.declared.memory.Seen.{Seen}
use Rattle.turn.specs.TurnLogs.{LogView}
use Rattle.runstate.specs.Ledger.{Ledger, entries_of}
use Rattle.commitgate.specs.Named.{Named}
use Rattle.commitgate.specs.Seats.{SeatView, SeatReadsOn}
use Rattle.commitgate.specs.Tickets.{TicketView, again}
use Rattle.commitgate.specs.GateAnswers.{IsRegionChange}
use Rattle.commitgate.specs.SeatAnswers.{CommitCauses, IsAppended, IsRefused, IsSeenGone, AnsweredTo, LongAnsweredTo, HeldAnsweredTo, IsUpdatedTo, IsChangedTo}
use Rattle.commitgate.specs.Batches.{AreUpdatedTo, UpdatesEndedTo, UpdatesAnsweredTo, AreAnsweredTo}
use Rattle.commitgate.specs.declared.reply.Grant.{Grant}
use Rattle.commitgate.specs.declared.reply.Reply.{Reply}
use Rattle.commitgate.specs.declared.reply.Reply.TheVariants.{Accepted, Stale, Gone, Stopped, NoMemory}
use Rattle.commitgate.specs.declared.reply.UpdatesEnd.{UpdatesEnd}
use Rattle.commitgate.specs.declared.reply.UpdatesEnd.TheVariants as ends
use Rattle.eventpool.specs.Ends.{Owning, Stealing}
use Rattle.workers.specs.Keeping.{weigh, GotOne, GotNone, is_for, tickets_for, is_turn, turn_entries_of_event, granted, WasGone, LosesNone}
use Rattle.workers.specs.WorkerInvariant.{tickets_in, tickets_of, granted_by, IsSettled}
use Rattle.workers.proofs.Seats.{begins_more, entries_begin, below_longer, begins_length, goes_appended}
use Rattle.workers.proofs.Weighing.{weigh_append, turned_round}
use Rattle.workers.proofs.Places.{turned_same, granted_same, turned_more, granted_more}

gone_later : (n : Named) (seen seen' : Ledger) (gone : List TicketView) → IsPrefix seen seen' → AllByRecursion (WasGone n seen) gone → AllByRecursion (WasGone n seen') gone
gone_later n seen seen' [] later h = tt
gone_later n seen seen' (t ∷ ts) later h = (
  record {
    ledger = h.0.ledger;
    begins = begins_more h.0.ledger seen seen' h.0.begins later;
    is_ledger = h.0.is_ledger;
    gone = h.0.gone;
  },
  gone_later n seen seen' ts later h.1,
)

module _ (n : Named) (placed : List TicketView) where
  -- the same tickets, in another order
  pub kept_hand : (s : SeatView) (o : Owning TicketView) (row : List (Stealing TicketView)) (due due' hand hand' : List TicketView)
      → ((event : ℕ) → tickets_for event due' ≡ tickets_for event due) → ((event : ℕ) → tickets_for event hand' ≡ tickets_for event hand)
      → LosesNone n placed s o row due hand → LosesNone n placed s o row due' hand'
  kept_hand s o row due due' hand hand' same equal k = record {
    has_positions = k.has_positions;
    back = k.back;
    gone = k.gone;
    were_gone = k.were_gone;
    puts = λ event. let a = k.puts event in let b = same event in omega (arith, a, b);
    gots = λ event. let a = k.gots event in let b = equal event in omega (arith, a, b);
  }

  -- a ticket that goes back
  pub kept_back : (s : SeatView) (o : Owning TicketView) (row : List (Stealing TicketView)) (ticket back : TicketView) (due hand : List TicketView)
      → back.event ≡ ticket.event → LosesNone n placed s o row due (ticket ∷ hand) → LosesNone n placed s o row (back ∷ due) hand
  kept_back s o row ticket back due hand same k = record {
    has_positions = k.has_positions;
    back = back ∷ k.back;
    gone = k.gone;
    were_gone = k.were_gone;
    puts = λ event. let a = k.puts event in omega (arith, a);
    gots = λ event.
        let a = k.gots event in
        let b : is_for event back ≡ is_for event ticket = ap (λ (e : ℕ). if e == event then 1 else 0) same in
        omega (arith, a, b);
  }

  -- a seat that appended nothing
  pub kept_looks : (s s' : SeatView) (o : Owning TicketView) (row : List (Stealing TicketView)) (due hand : List TicketView)
      → IsPrefix s.seen s'.seen → s'.positions ≡ s.positions → LosesNone n placed s o row due hand → LosesNone n placed s' o row due hand
  kept_looks s s' o row due hand later positions k = record {
    has_positions = subst (λ ps. AllByRecursion (λ q. q < length (entries_of s'.seen)) ps) (sym positions)
        (below_longer (length (entries_of s.seen)) (length (entries_of s'.seen)) s.positions (begins_length (entries_of s.seen) (entries_of s'.seen) (entries_begin s.seen s'.seen later)) k.has_positions);
    back = k.back;
    gone = k.gone;
    were_gone = gone_later n s.seen s'.seen k.gone later k.were_gone;
    puts = λ event. let a = k.puts event in let r = granted_same n event s s' later positions k.has_positions in omega (arith, a, r);
    gots = λ event. let a = k.gots event in let t = turned_same event s s' later positions k.has_positions in omega (arith, a, t);
  }

  pub kept_refused : (s s' : SeatView) (o : Owning TicketView) (row : List (Stealing TicketView)) (due hand : List TicketView)
      → IsRefused n s s' → LosesNone n placed s o row due hand → LosesNone n placed s' o row due hand
  kept_refused s s' o row due hand r k = kept_looks s s' o row due hand r.looks_on.follows.later r.looks_on.positions k

  pub kept_read : (s s' : SeatView) (o : Owning TicketView) (row : List (Stealing TicketView)) (due hand : List TicketView)
      → SeatReadsOn s s' → LosesNone n placed s o row due hand → LosesNone n placed s' o row due hand
  kept_read s s' o row due hand r k = kept_looks s s' o row due hand ([], append-nil s.seen ∙ sym r.seen) r.positions k

  -- a seat that appended an entry: its tickets are to be put, and that of its turn isn't in hand any more
  pub kept_appended : (s s' : SeatView) (o : Owning TicketView) (row : List (Stealing TicketView)) (due hand hand' : List TicketView)
      (entry : Entry) (position : ℕ) (named : Entry) (tickets : List TicketView) → IsAppended n s entry position named tickets s'
      → ((event : ℕ) → tickets_for event hand' + is_turn event entry ≡ tickets_for event hand)
      → LosesNone n placed s o row due hand → LosesNone n placed s' o row (tickets ++ due) hand'
  kept_appended s s' o row due hand hand' entry position named tickets a same k = record {
    has_positions = (goes_appended n s entry position named tickets s' a).has_positions k.has_positions;
    back = k.back;
    gone = k.gone;
    were_gone = gone_later n s.seen s'.seen k.gone a.follows.later k.were_gone;
    puts = λ event.
        let b = k.puts event in
        let d = weigh_append (is_for event) tickets due in
        let r = granted_more n s entry position named tickets s' a event k.has_positions in
        omega (arith, b, d, r);
    gots = λ event.
        let b = k.gots event in
        let h = same event in
        let t = turned_more n s entry position named tickets s' a event k.has_positions in
        omega (arith, b, h, t);
  }

  -- a ticket that was gone
  pub kept_gone : (s s' : SeatView) (o : Owning TicketView) (row : List (Stealing TicketView)) (ticket : TicketView) (due hand : List TicketView)
      → IsSeenGone n s ticket s' → LosesNone n placed s o row due (ticket ∷ hand) → LosesNone n placed s' o row due hand
  kept_gone s s' o row ticket due hand g k =
      let later = kept_refused s s' o row due (ticket ∷ hand) g.refused k in record {
        has_positions = later.has_positions;
        back = later.back;
        gone = ticket ∷ later.gone;
        were_gone = (record { ledger = s'.seen; begins = ([], append-nil s'.seen); is_ledger = g.refused.ledger; gone = g.gone }, later.were_gone);
        puts = later.puts;
        gots = λ event. let a = later.gots event in omega (arith, a);
      }

  -- the first of the tickets that are to be put are put
  pub kept_put : (s : SeatView) (o o' : Owning TicketView) (row : List (Stealing TicketView)) (tickets due hand : List TicketView)
      → o'.put ≡ o.put ++ tickets → o'.taken ≡ o.taken → LosesNone n placed s o row (tickets ++ due) hand → LosesNone n placed s o' row due hand
  kept_put s o o' row tickets due hand put taken k = record {
    has_positions = k.has_positions;
    back = k.back;
    gone = k.gone;
    were_gone = k.were_gone;
    puts = λ event.
        let a = k.puts event in
        let h = weigh_append (is_for event) tickets due in
        let p : tickets_for event o'.put ≡ tickets_for event o.put + tickets_for event tickets = ap (tickets_for event) put ∙ weigh_append (is_for event) o.put tickets in
        omega (arith, a, h, p);
    gots = λ event.
        let a = k.gots event in
        let t : weigh (is_for event) o'.taken ≡ weigh (is_for event) o.taken = ap (weigh (is_for event)) taken in
        omega (arith, a, t);
  }

  -- a ticket that the ends got comes in hand
  pub kept_taken : (s : SeatView) (o o' : Owning TicketView) (row row' : List (Stealing TicketView)) (ticket : TicketView) (due hand : List TicketView)
      → GotOne o row o' row' ticket → o'.put ≡ o.put
      → LosesNone n placed s o row due hand → LosesNone n placed s o' row' due (ticket ∷ hand)
  kept_taken s o o' row row' ticket due hand got put k = record {
    has_positions = k.has_positions;
    back = k.back;
    gone = k.gone;
    were_gone = k.were_gone;
    puts = λ event. let a = k.puts event in let p : tickets_for event o'.put ≡ tickets_for event o.put = ap (tickets_for event) put in omega (arith, a, p);
    gots = λ event. let a = k.gots event in let g = got (is_for event) in omega (arith, a, g);
  }

  -- ends that got none
  pub kept_ends : (s : SeatView) (o o' : Owning TicketView) (row row' : List (Stealing TicketView)) (due hand : List TicketView)
      → GotNone o row o' row' → o'.put ≡ o.put → LosesNone n placed s o row due hand → LosesNone n placed s o' row' due hand
  kept_ends s o o' row row' due hand got put k = record {
    has_positions = k.has_positions;
    back = k.back;
    gone = k.gone;
    were_gone = k.were_gone;
    puts = λ event. let a = k.puts event in let p : tickets_for event o'.put ≡ tickets_for event o.put = ap (tickets_for event) put in omega (arith, a, p);
    gots = λ event. let a = k.gots event in let g = got (is_for event) in omega (arith, a, g);
  }

-- what is seen behind updates
ended_kept : (n : Named) (placed : List TicketView) (last new : SeatView) (end : UpdatesEnd) (o : Owning TicketView) (row : List (Stealing TicketView)) (due hand : List TicketView)
    → UpdatesEndedTo n last end new → LosesNone n placed last o row due hand → LosesNone n placed new o row due hand
ended_kept n placed last new ends.Woke o row due hand same k = subst (λ (v : SeatView). LosesNone n placed v o row due hand) (sym same) k
ended_kept n placed last new ends.Nothing o row due hand a k = kept_refused n placed last new o row due hand a.0 k
ended_kept n placed last new (ends.Stopped why) o row due hand a k = kept_looks n placed last new o row due hand a.follows.later a.positions k
ended_kept n placed last new ends.NoMemory o row due hand a k = kept_refused n placed last new o row due hand a k
ended_kept n placed last new ends.NoRoom o row due hand same k = subst (λ (v : SeatView). LosesNone n placed v o row due hand) (sym same) k

-- these tickets are all that are to be put, and are put
put_due : (n : Named) (placed : List TicketView) (new s : SeatView) (o o' : Owning TicketView) (row : List (Stealing TicketView)) (tickets rest : List TicketView)
    → s ≡ new → o'.put ≡ o.put ++ tickets → o'.taken ≡ o.taken → LosesNone n placed new o row (tickets ++ []) rest → LosesNone n placed s o' row [] rest
put_due n placed new s o o' row tickets rest same put taken k =
    subst (λ (v : SeatView). LosesNone n placed v o' row [] rest) (sym same) (kept_put n placed new o o' row tickets [] rest put taken k)

module _ {A : Type 0} where
  -- what the gate did with a ticket, by its answer
  abbrev pub Deals : Named → SeatView → TicketView → SeatView → Reply A → Type 0
  Deals n old ticket new (Accepted grant) = IsAppended n old (Turn ticket.event) grant.position grant.entry grant.tickets.items new
  Deals n old ticket new (Stale r back) = IsRefused n old new × (back ≡ again ticket)
  Deals n old ticket new Gone = IsSeenGone n old ticket new
  Deals n old ticket new (Stopped why) = Unit {0}
  Deals n old ticket new (NoMemory back) = Unit {0}

  pub answered_deals : (n : Named) (causes : Why → Type 0) (old : SeatView) (ticket : TicketView) (reads : List (ℕ × Seen)) (new : SeatView) (r : Reply A)
      → AnsweredTo n causes old ticket reads new r → Deals n old ticket new r
  answered_deals n causes old ticket reads new (Accepted grant) a = a.appended
  answered_deals n causes old ticket reads new (Stale r back) a = (a.refused, a.back_is)
  answered_deals n causes old ticket reads new Gone a = a
  answered_deals n causes old ticket reads new (Stopped why) a = tt
  answered_deals n causes old ticket reads new (NoMemory back) a = tt

  pub long_deals : (n : Named) (old : SeatView) (ticket : TicketView) (reads : List (ℕ × Seen)) (new : SeatView) (r : Reply A)
      → LongAnsweredTo n old ticket reads new r → Deals n old ticket new r
  long_deals n old ticket reads new (Accepted grant) a = absurd a
  long_deals n old ticket reads new (Stale r back) a = (a.refused, a.back_is)
  long_deals n old ticket reads new Gone a = a
  long_deals n old ticket reads new (Stopped why) a = tt
  long_deals n old ticket reads new (NoMemory back) a = tt

  pub held_deals : (n : Named) (old : SeatView) (ticket : TicketView) (new : SeatView) (r : Reply A) → HeldAnsweredTo n old ticket new r → Deals n old ticket new r
  held_deals n old ticket new (Accepted grant) a = a.appended
  held_deals n old ticket new (Stale r back) a = absurd a
  held_deals n old ticket new Gone a = a
  held_deals n old ticket new (Stopped why) a = tt
  held_deals n old ticket new (NoMemory back) a = tt

  -- what the answer gives is to be put, in the place of the ticket
  dealt : (n : Named) (placed : List TicketView) (old new : SeatView) (o : Owning TicketView) (row : List (Stealing TicketView)) (ticket : TicketView) (due rest : List TicketView) (reply : Reply A)
      → Deals n old ticket new reply → IsSettled reply → LosesNone n placed old o row due (ticket ∷ rest) → LosesNone n placed new o row (tickets_in reply ++ due) rest
  dealt n placed old new o row ticket due rest (Accepted grant) d is k =
      kept_appended n placed old new o row due (ticket ∷ rest) rest (Turn ticket.event) grant.position grant.entry grant.tickets.items d (λ event. omega arith) k
  dealt n placed old new o row ticket due rest (Stale r back) d is k =
      kept_back n placed new o row ticket back due rest (ap (λ (t : TicketView). t.event) d.1) (kept_refused n placed old new o row due (ticket ∷ rest) d.0 k)
  dealt n placed old new o row ticket due rest Gone d is k = kept_gone n placed old new o row ticket due rest d k
  dealt n placed old new o row ticket due rest (Stopped why) d is k = absurd is
  dealt n placed old new o row ticket due rest (NoMemory back) d is k = absurd is

  -- and is put
  pub settled : (n : Named) (placed : List TicketView) (old new s : SeatView) (o o' : Owning TicketView) (row : List (Stealing TicketView)) (ticket : TicketView) (rest : List TicketView) (reply : Reply A)
      → Deals n old ticket new reply → IsSettled reply → s ≡ new → o'.put ≡ o.put ++ tickets_in reply → o'.taken ≡ o.taken
      → LosesNone n placed old o row [] (ticket ∷ rest) → LosesNone n placed s o' row [] rest
  settled n placed old new s o o' row ticket rest reply d is same put taken k =
      put_due n placed new s o o' row (tickets_in reply) rest same put taken (dealt n placed old new o row ticket [] rest reply d is k)

  -- the same of several tickets
  all_dealt : (n : Named) (placed : List TicketView) (old new : SeatView) (o : Owning TicketView) (row : List (Stealing TicketView)) (tickets : List TicketView) (logs : List LogView)
      (replies : List (Reply A)) (left due rest : List TicketView) → AreAnsweredTo n old tickets logs replies left new → AllByRecursion IsSettled replies → left ≡ []
      → LosesNone n placed old o row due (tickets ++ rest) → LosesNone n placed new o row (tickets_of replies ++ due) rest
  all_dealt n placed old new o row tickets logs [] left due rest same is none k =
      subst (λ (p : SeatView × List TicketView). LosesNone n placed p.0 o row due (p.1 ++ rest)) (λ i. (sym same.1 i, (sym same.0 ∙ none) i)) k
  all_dealt n placed old new o row [] logs (r ∷ rs) left due rest a is none k = absurd a
  all_dealt n placed old new o row (t ∷ ts) [] (r ∷ rs) left due rest a is none k = absurd a
  all_dealt n placed old new o row (t ∷ ts) (l ∷ ls) (r ∷ rs) left due rest a is none k =
      let given : List TicketView = tickets_in r in
      let others : List TicketView = tickets_of rs in
      let one = dealt n placed old a.0 o row t due (ts ++ rest) r (answered_deals n CommitCauses old t l.reads a.0 r a.1) is.0 k in
      let more = all_dealt n placed a.0 new o row ts ls rs left (given ++ due) rest a.2 is.1 none one in
      kept_hand n placed new o row (others ++ (given ++ due)) ((given ++ others) ++ due) rest rest (λ event. turned_round (is_for event) others given due) (λ event. refl) more

  pub all_settled : (n : Named) (placed : List TicketView) (old new s : SeatView) (o o' : Owning TicketView) (row : List (Stealing TicketView)) (tickets : List TicketView) (logs : List LogView)
      (replies : List (Reply A)) (left rest : List TicketView) → AreAnsweredTo n old tickets logs replies left new → All IsSettled replies → left ≡ [] → s ≡ new
      → o'.put ≡ o.put ++ tickets_of replies → o'.taken ≡ o.taken → LosesNone n placed old o row [] (tickets ++ rest) → LosesNone n placed s o' row [] rest
  all_settled n placed old new s o o' row tickets logs replies left rest a is none same put taken k =
      put_due n placed new s o o' row (tickets_of replies) rest same put taken (all_dealt n placed old new o row tickets logs replies left [] rest a (each replies is) none k)
    where
      each : (rs : List (Reply A)) → All IsSettled rs → AllByRecursion IsSettled rs
      each [] h = tt
      each (r ∷ rs) h = (h 0 r (omega arith), each rs (λ k d lt. h (suc k) d (omega (arith, lt))))

  -- what updates granted is to be put
  appended_kept : (n : Named) (placed : List TicketView) (old last : SeatView) (o : Owning TicketView) (row : List (Stealing TicketView)) (grants : List (Grant A)) (due : List TicketView)
      → AreUpdatedTo n old grants last → LosesNone n placed old o row due [] → LosesNone n placed last o row (granted_by grants ++ due) []
  appended_kept n placed old last o row [] due same k = subst (λ (v : SeatView). LosesNone n placed v o row due []) (sym same) k
  appended_kept n placed old last o row (grant ∷ grants) due chain k =
      let tickets : List TicketView = grant.tickets.items in
      let others : List TicketView = granted_by grants in
      let more = appended_kept n placed chain.0 last o row grants (tickets ++ due) chain.2
      (kept_appended n placed old chain.0 o row due [] [] (Update chain.1.number) grant.position grant.entry tickets chain.1.appended (λ event. refl) k) in
      kept_hand n placed last o row (others ++ (tickets ++ due)) ((tickets ++ others) ++ due) [] [] (λ event. turned_round (is_for event) others tickets due) (λ event. refl) more

  -- and is put
  pub updates_put : (n : Named) (placed : List TicketView) (old new s : SeatView) (end : UpdatesEnd) (o o' : Owning TicketView) (row : List (Stealing TicketView)) (grants : List (Grant A))
      → UpdatesAnsweredTo n old grants end new → s ≡ new → o'.put ≡ o.put ++ granted_by grants → o'.taken ≡ o.taken
      → LosesNone n placed old o row [] [] → LosesNone n placed s o' row [] []
  updates_put n placed old new s end o o' row grants all same put taken k =
      put_due n placed new s o o' row (granted_by grants) [] same put taken
      (ended_kept n placed all.0 new end o row (granted_by grants ++ []) [] all.2 (appended_kept n placed old all.0 o row grants [] all.1 k))

  -- none was made
  pub updates_none : (n : Named) (placed : List TicketView) (old new : SeatView) (end : UpdatesEnd) (o : Owning TicketView) (row : List (Stealing TicketView)) (grants : List (Grant A))
      → UpdatesAnsweredTo n old grants end new → length grants ≡ 0 → LosesNone n placed old o row [] [] → LosesNone n placed new o row [] []
  updates_none n placed old new end o row [] all none k = ended_kept n placed all.0 new end o row [] [] all.2 (appended_kept n placed old all.0 o row [] [] all.1 k)
  updates_none n placed old new end o row (grant ∷ grants) all none k = absurd (omega (arith, none))

-- a change of the regions is no turn
no_turn : (event : ℕ) (entry : Entry) → IsRegionChange entry → is_turn event entry ≡ 0
no_turn event (Turn e) h = absurd h
no_turn event (Update e) h = absurd h
no_turn event ActivateInactive h = refl
no_turn event ActivateNba h = refl
no_turn event ActivateMonitor h = refl
no_turn event (Advance time) h = refl

-- what a change of the regions granted is put
pub changed_put : (n : Named) (placed : List TicketView) (old new s : SeatView) (o o' : Owning TicketView) (row : List (Stealing TicketView)) (position : ℕ) (named : Entry) (tickets : List TicketView)
    → IsChangedTo n old position named tickets new → s ≡ new → o'.put ≡ o.put ++ tickets → o'.taken ≡ o.taken → LosesNone n placed old o row [] [] → LosesNone n placed s o' row [] []
changed_put n placed old new s o o' row position named tickets c same put taken k =
    put_due n placed new s o o' row tickets [] same put taken
    (kept_appended n placed old new o row [] [] [] c.change position named tickets c.appended (λ event. let z = no_turn event c.change c.is_change in omega (arith, z)) k)
