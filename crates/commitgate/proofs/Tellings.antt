-- From what the lock keeps to what a seat is told.
use Rattle.std.proofs.Common.{◌≡◌, ◌⊎◌, ℕ, zero, suc, ◌<◌, ◌≤◌, Bool, true, false, not, ◌&&◌, if◌then◌else◌, List, [], ◌∷◌, ◌++◌, map, length, Option, Some, None, refl, sym, ap, ◌∙◌, subst, inl, inr, arith}
use Rattle.std.specs.Prelude.{option_map, slice_index_or, slice_get, IsSomeAnd, IsTrue, ◌↔◌}
use Rattle.std.specs.List.{filter}
use mathlib.Core.List.{IsPrefix}
use Rattle.logic4.specs.Vector.{Vector}
use Rattle.model.specs.declared.entry.Entry.{Entry}
use Rattle.model.specs.declared.end.Why.{Why}
use Rattle.model.specs.declared.end.Why.TheVariants.{Finish}
use Rattle.model.specs.declared.end.End.TheVariants.{Stopped}
use Rattle.model.specs.Design.{Trigger}
use Rattle.model.specs.Turns.{Remainder}
use Rattle.model.specs.States.{State, Action, Evaluate, Update, Event, is_evaluation}
use Rattle.model.specs.Runs.{after, action_in, has_any, EndsIn, IsLawful, AreTimely}
use Rattle.design.specs.declared.code.ProcState.{ProcState}
use Rattle.design.specs.Compiled.{Compiled, design_of}
use Rattle.design.specs.DesignInvariant as standing
use Rattle.design.specs.DesignInvariant.{IsStateOf}
use Rattle.design.proofs.Numbered.{states_are_equal}
use Rattle.regions.specs.Queue.{Core, state_of}
use Rattle.regions.specs.Queue as queue
use Rattle.regions.specs.StatePassing.{HasOwnStates}
use Rattle.regions.specs.Find.{update_numbers}
use Rattle.turn.specs.declared.memory.Seen.{Seen}
use Rattle.runstate.specs.declared.ledger.Item.TheVariants.{Ended}
use Rattle.commitgate.specs.Named.{Named}
use Rattle.runstate.specs.Ledger.{Ledger, entries_of, end_in, items_of}
use Rattle.runstate.specs.GateState.{GateState, state_in}
use Rattle.runstate.specs.Guarded.{MayStoreEnd, Guarded}
use Rattle.commitgate.specs.GateInvariant.{GateInvariant}
use Rattle.regcells.specs.Meetings.{HaveGrown}
use Rattle.commitgate.specs.Seats.{SeatView, Follows}
use Rattle.commitgate.specs.Tickets.{TicketView, IsCurrent, process_of_action, ticket_for}
use Rattle.commitgate.specs.GateJournals.{HasNoActiveUpdate, EndHolds, IsLedger, IsActiveTicket, made_active, AreTicketsOf}
use Rattle.commitgate.specs.GateAnswers.{IsGranted, stopped}
use Rattle.commitgate.specs.declared.reply.Reply.{Reply}
use Rattle.commitgate.specs.declared.reply.Reply.TheVariants as replies
use Rattle.commitgate.specs.declared.reply.Reply.TheVariants.{Accepted, Stale, Gone, NoMemory}
use Rattle.commitgate.specs.SeatAnswers.{AnsweredTo, HasMetEntry, IsAppended, IsRefused, IsSeenStopped, IsSeenGone}
use Rattle.runstate.proofs.Beginnings.{prefix_trans}
use Rattle.commitgate.proofs.Guards.{guarded_stop, lawful_of}
use Rattle.commitgate.proofs.Standings.{kept_stop, process_below}
use Rattle.regions.specs.MadeEvents.{has_event}
use Rattle.commitgate.proofs.Staying.{end_stays}
use Rattle.commitgate.proofs.Meetings.{rises_self, rises_both}

-- the state after what the lock has
pub after_ledger : (n : Named) (held : GateState) → Guarded n.code n.limits held → GateInvariant n held → after (design_of n.code) (entries_of held.ledger) ≡ Some (state_in n.code held)
after_ledger n held g k =
    ap (after (design_of n.code)) (sym k.journal_is) ∙ ap (option_map (λ e. e.state)) g.ran.is_run ∙ ap Some g.ran.state_is

-- what holds of the state after a journal
some_after : (o : Option State) (s : State) (P : State → Type 0) → o ≡ Some s → P s → IsSomeAnd o P
some_after o s P is h = subst (λ (x : Option State). IsSomeAnd x P) (sym is) h

-- the ledger under the lock is one of the gate's
pub is_ledger : (n : Named) (held : GateState) → Guarded n.code n.limits held → GateInvariant n held → IsLedger n held.ledger
is_ledger n held g k = record {
  lawful = subst (IsLawful (design_of n.code)) k.journal_is (lawful_of n.code n.limits held g);
  few = subst (λ (j : List Entry). length j ≤ n.limits.max_entries) k.journal_is g.few;
  timely = subst (AreTimely n.limits) k.journal_is k.timely;
  last = k.last;
  end = holds held.end k.end_is g.ends;
  workers = k.workers;
}
  where
    holds : (end : Option Why) → end ≡ end_in held.ledger → MayStoreEnd (design_of n.code) n.limits (length held.journal) (state_in n.code held) end → EndHolds n held.ledger (end_in held.ledger)
    holds None is h = subst (EndHolds n held.ledger) is (some_after (after (design_of n.code) (entries_of held.ledger)) (state_in n.code held) (λ s. s.finished ≡ false) (after_ledger n held g k) h)
    holds (Some why) is h =
        subst (EndHolds n held.ledger) is
        (some_after (after (design_of n.code) (entries_of held.ledger)) (state_in n.code held) (λ s. EndsIn (design_of n.code) n.limits (length (entries_of held.ledger)) s (Stopped why)) (after_ledger n held g k)
        (subst (λ (j : List Entry). EndsIn (design_of n.code) n.limits (length j) (state_in n.code held) (Stopped why)) k.journal_is h))

module _ (n : Named) (old : SeatView) (held : GateState) (g : Guarded n.code n.limits held) (k : GateInvariant n held) (later : IsPrefix old.seen held.ledger) where
  -- a seat that has seen the ledger, and perhaps more of the registers
  abbrev pub synchronized : List (List Vector) → SeatView
  synchronized fresh = record old { seen = held.ledger; fresh = fresh }

  pub tell_refused : (new : SeatView) (fresh : List (List Vector)) → new ≡ synchronized fresh → HaveGrown old.fresh fresh → held.end ≡ None → IsRefused n old new
  tell_refused new fresh is rises running = subst (IsRefused n old) (sym is) (record {
    ledger = is_ledger n held g k;
    running = sym k.end_is ∙ running;
    looks_on = record { follows = record { worker = refl; later = later; rises = rises }; positions = refl; stored = refl };
  })

  pub tell_stopped : (causes : Why → Type 0) (why : Why) (new : SeatView) → new ≡ synchronized old.fresh → held.end ≡ Some why → IsSeenStopped n causes old why new
  tell_stopped causes why new is ended = subst (IsSeenStopped n causes old why) (sym is) (record {
    ledger = is_ledger n held g k;
    follows = record { worker = refl; later = later; rises = rises_self old.fresh };
    positions = refl;
    end = sym k.end_is ∙ ended;
    stays = end_stays n held.ledger why (sym k.end_is ∙ ended);
    stored = inl refl;
  })

  pub tell_stops : (causes : Why → Type 0) (why : Why) (new : SeatView) → new ≡ record old { seen = (stopped old.worker why held).ledger; stored = Some why } → held.end ≡ None
      → EndsIn (design_of n.code) n.limits (length held.journal) (state_in n.code held) (Stopped why) → old.worker < n.workers → causes why → IsSeenStopped n causes old why new
  tell_stops causes why new is running ends low cause =
      let g' = guarded_stop n.code n.limits old.worker held why g ends in
      let k' = kept_stop n held old.worker why k low running in
      subst (IsSeenStopped n causes old why) (sym is) (record {
        ledger = is_ledger n (stopped old.worker why held) g' k';
        follows = record { worker = refl; later = prefix_trans old.seen held.ledger (held.ledger ++ (old.worker, Ended why) ∷ []) later ((old.worker, Ended why) ∷ [], refl); rises = rises_self old.fresh };
        positions = refl;
        end = sym k'.end_is;
        stays = end_stays n (held.ledger ++ (old.worker, Ended why) ∷ []) why (sym k'.end_is);
        stored = inr (refl, cause);
      })

-- what a process has still to run, read off its state
remainder_at : (rem : ProcState → Remainder) (processes : List (ProcState × List Trigger)) (p : ℕ) (d : ProcState × List Trigger) → p < length processes
    → rem (slice_index_or processes p d).0 ≡ (slice_index_or (map (queue.standing rem) processes) p (record { remainder = []; triggers = [] })).remainder
remainder_at rem [] p d h = absurd (omega arith)
remainder_at rem (x ∷ xs) zero d h = refl
remainder_at rem (x ∷ xs) (suc p) d h = remainder_at rem xs p d (omega arith)

evaluates : (a : Action) → is_evaluation a ≡ true → a ≡ Evaluate (process_of_action a)
evaluates (Evaluate p) h = refl
evaluates (Update r v) h = cc

-- each event is an evaluation
abbrev pub AllEvaluate : List Event → Type 0
AllEvaluate [] = Unit {0}
AllEvaluate (e ∷ es) = (is_evaluation e.1 ≡ true) × AllEvaluate es

-- a new ticket for each of these evaluations
pub tickets_of : (code : Compiled) (values : List Vector) (core : Core) (es : List Event) → AllEvaluate es
    → ((j : ℕ) (t : TicketView) → slice_get (map (ticket_for core) es) j ≡ Some t → t.process < length core.processes)
    → AreTicketsOf code (state_of (standing.remainder_of_state code) values core) es (map (ticket_for core) es)
tickets_of code values core [] all within = tt
tickets_of code values core (e ∷ es) all within = (
  record {
    event = refl;
    process = evaluates e.1 all.0;
    remainder = remainder_at (standing.remainder_of_state code) core.processes (process_of_action e.1) (record { place = 0; pending = None }, []) (within 0 (ticket_for core e) refl);
    time = refl;
    tries = refl;
  },
  tickets_of code values core es all.1 (λ j t at. within (suc j) t at),
)

evaluation_test : (p : Event → Bool) (e : Event) (es : List Event) (a b : Bool) → is_evaluation e.1 ≡ a → AllEvaluate es → AllEvaluate (if a && b then e ∷ es else es)
evaluation_test p e es true true is rest = (is, rest)
evaluation_test p e es true false is rest = rest
evaluation_test p e es false b is rest = rest

pub evaluations_only : (p : Event → Bool) (es : List Event) → AllEvaluate (filter (λ e. is_evaluation e.1 && p e) es)
evaluations_only p [] = tt
evaluations_only p (e ∷ es) = evaluation_test p e (filter (λ e. is_evaluation e.1 && p e) es) (is_evaluation e.1) (p e) refl (evaluations_only p es)

-- an active ticket of the definitions is one under the lock, where its state is one of its process's own
pub active_current : (code : Compiled) (held : GateState) (ticket : TicketView) → HasOwnStates (IsStateOf code) held.core → IsStateOf code ticket.process ticket.state
    → ticket.process < length held.core.processes → IsActiveTicket code (state_in code held) ticket → IsCurrent held.core ticket
active_current code held ticket own mine low h = record {
  evaluation = (
    h.evaluation,
    λ d.
        let there : IsStateOf code ticket.process (slice_index_or held.core.processes ticket.process d).0 = own ticket.process d low in
        (states_are_equal code ticket.process ticket.process (slice_index_or held.core.processes ticket.process d).0 ticket.state there mine).1
        (refl, remainder_at (standing.remainder_of_state code) held.core.processes ticket.process d low ∙ h.remainder),
  );
  time = h.time;
}

pub current_active : (code : Compiled) (held : GateState) (ticket : TicketView) → ticket.process < length held.core.processes → IsCurrent held.core ticket → IsActiveTicket code (state_in code held) ticket
current_active code held ticket low h =
    let d : ProcState × List Trigger = (ticket.state, []) in
    record {
      evaluation = h.evaluation.0;
      remainder = sym (remainder_at (standing.remainder_of_state code) held.core.processes ticket.process d low) ∙ ap (standing.remainder_of_state code) (h.evaluation.1 d);
      time = h.time;
    }

pub current_below : (core : Core) (ticket : TicketView) → IsCurrent core ticket → ticket.process < length core.processes
current_below core ticket h = process_below core.processes ticket.process ticket.state h.evaluation.1

module _ (n : Named) (old : SeatView) (held : GateState) (g : Guarded n.code n.limits held) (k : GateInvariant n held) (later : IsPrefix old.seen held.ledger) where
  -- the entry was appended
  abbrev pub tell_appended : (held' : GateState) (g' : Guarded n.code n.limits held') (k' : GateInvariant n held') (entry : Entry) (position : ℕ) (named : Entry) (tickets : List TicketView) (new : SeatView)
      → IsGranted n.code old.worker held entry position named tickets held'
      → new.worker ≡ old.worker → new.seen ≡ held'.ledger → new.positions ≡ old.positions ++ position ∷ []
      → new.stored ≡ (if (state_in n.code held').finished then Some Finish else old.stored) → HaveGrown old.fresh new.fresh
      → HasMetEntry n (state_in n.code held) entry new.seen new.fresh
      → IsAppended n old entry position named tickets new
  tell_appended held' g' k' entry position named tickets new h worker seen positions stored rises met = record {
    ledger = subst (IsLedger n) (sym seen) (is_ledger n held' g' k');
    follows = record {
      worker = worker;
      later = prefix_trans old.seen held.ledger new.seen later (items_of old.worker entry (state_in n.code held').finished, sym (seen ∙ h.ledger_is));
      rises = rises;
    };
    before = held.ledger;
    extends = later;
    from = state_in n.code held;
    from_is = after_ledger n held g k;
    to = state_in n.code held';
    to_is = ap (λ (l : Ledger). after (design_of n.code) (entries_of l)) seen ∙ after_ledger n held' g' k';
    ends = seen ∙ h.ledger_is;
    positions = positions;
    stored = stored;
    position_is = h.position_is ∙ ap length k.journal_is;
    entry_is = h.entry_is;
    tickets_are =
        subst (AreTicketsOf n.code (state_in n.code held') (made_active held.core.active held'.core.active)) (sym h.tickets_are)
        (tickets_of n.code held'.values held'.core (made_active held.core.active held'.core.active)
        (evaluations_only (λ e. not (has_event held.core.active e.0)) held'.core.active)
        (λ j t at. h.within j t (ap (λ ts. slice_get ts j) h.tickets_are ∙ at)));
    rising = h.rising;
    met = met;
  }

-- the run is stopped for this reason, in what the seat has then seen
pub tell_ended : (n : Named) (causes : Why → Type 0) (old new : SeatView) (why : Why) (held' : GateState) → Guarded n.code n.limits held' → GateInvariant n held' → Follows old new → new.positions ≡ old.positions
    → new.seen ≡ held'.ledger → held'.end ≡ Some why → (new.stored ≡ old.stored) ⊎ ((new.stored ≡ Some why) × causes why) → IsSeenStopped n causes old why new
tell_ended n causes old new why held' g' k' follows positions seen ended stored =
    let end : end_in new.seen ≡ Some why = ap end_in seen ∙ sym k'.end_is ∙ ended in
    record {
      ledger = subst (IsLedger n) (sym seen) (is_ledger n held' g' k');
      follows = follows;
      positions = positions;
      end = end;
      stays = end_stays n new.seen why end;
      stored = stored;
    }

refused_by : (b : Bool) (P : Type 0) → (IsTrue b ↔ P) → b ≡ false → P → ⊥
refused_by true P h f = cc
refused_by false P h f = λ p. clash (h.1 p)
  where
    clash : false ≡ true → ⊥
    clash e = cc

-- no active evaluation is the ticket's
pub tell_gone : (n : Named) (old : SeatView) (held : GateState) (ticket : TicketView) (current : Bool) (new : SeatView) → Guarded n.code n.limits held → GateInvariant n held → IsPrefix old.seen held.ledger
    → new ≡ record old { seen = held.ledger } → held.end ≡ None → IsStateOf n.code ticket.process ticket.state
    → (IsTrue current ↔ IsCurrent held.core ticket) → current ≡ false
    → ((p : ℕ) → action_in held.core.active ticket.event ≡ Some (Evaluate p) → p < length held.core.processes)
    → IsSeenGone n old ticket new
tell_gone n old held ticket current new g k later is running own test isnt below = record {
  refused = tell_refused n old held g k later new old.fresh is (rises_self old.fresh) running;
  gone = (
    state_in n.code held,
    ap (λ (v : SeatView). after (design_of n.code) (entries_of v.seen)) is ∙ after_ledger n held g k,
    λ h. refused_by current (IsCurrent held.core ticket) test isnt
        (active_current n.code held ticket g.states own (below ticket.process h.evaluation) h),
  );
}

-- What a call told a seat that had first seen the whole ledger, and perhaps more of the registers, it told the seat as it was before.
module _ (n : Named) (old : SeatView) (ledger : Ledger) (later : IsPrefix old.seen ledger) (fresh : List (List Vector)) (rises : HaveGrown old.fresh fresh) where
  abbrev pub met_first : SeatView
  met_first = record old { seen = ledger; fresh = fresh }

  pub follows_first : (new : SeatView) → Follows met_first new → Follows old new
  follows_first new f = record {
    worker = f.worker;
    later = prefix_trans old.seen ledger new.seen later f.later;
    rises = rises_both old.fresh fresh new.fresh rises f.rises;
  }

  refused_first : (new : SeatView) → IsRefused n met_first new → IsRefused n old new
  refused_first new r = record {
    ledger = r.ledger;
    running = r.running;
    looks_on = record { follows = follows_first new r.looks_on.follows; positions = r.looks_on.positions; stored = r.looks_on.stored };
  }

  pub stopped_first : (causes : Why → Type 0) (why : Why) (new : SeatView) → IsSeenStopped n causes met_first why new → IsSeenStopped n causes old why new
  stopped_first causes why new s = record {
    ledger = s.ledger;
    follows = follows_first new s.follows;
    positions = s.positions;
    end = s.end;
    stays = s.stays;
    stored = s.stored;
  }

  abbrev pub appended_first : (entry : Entry) (position : ℕ) (named : Entry) (tickets : List TicketView) (new : SeatView) → IsAppended n met_first entry position named tickets new
      → IsAppended n old entry position named tickets new
  appended_first entry position named tickets new a = record {
    ledger = a.ledger;
    follows = follows_first new a.follows;
    before = a.before;
    extends = prefix_trans old.seen ledger a.before later a.extends;
    from = a.from;
    from_is = a.from_is;
    to = a.to;
    to_is = a.to_is;
    ends = a.ends;
    positions = a.positions;
    stored = a.stored;
    position_is = a.position_is;
    entry_is = a.entry_is;
    tickets_are = a.tickets_are;
    rising = a.rising;
    met = a.met;
  }

  pub answered_first : {A : Type 0} (causes : Why → Type 0) (ticket : TicketView) (reads : List (ℕ × Seen)) (new : SeatView) (r : Reply A) → AnsweredTo n causes met_first ticket reads new r → AnsweredTo n causes old ticket reads new r
  answered_first causes ticket reads new (Accepted grant) h = record {
    appended = appended_first _ _ _ _ new h.appended;
    was = h.was;
  }
  answered_first causes ticket reads new (Stale register back) h = record { refused = refused_first new h.refused; back_is = h.back_is; moved = h.moved; met = h.met }
  answered_first causes ticket reads new Gone h = record { refused = refused_first new h.refused; gone = h.gone }
  answered_first causes ticket reads new (replies.Stopped why) h = stopped_first causes why new h
  answered_first causes ticket reads new (NoMemory back) h = (refused_first new h.0, h.1)

any_of : (xs : List Event) → map (λ e. e.0) xs ≡ [] → has_any xs ≡ false
any_of [] h = refl
any_of (x ∷ xs) h = cc

-- no update is active
pub no_updates : (s : State) → update_numbers s.active ≡ [] → HasNoActiveUpdate s
no_updates s h = any_of (filter (λ e. not (is_evaluation e.1)) s.active) h
