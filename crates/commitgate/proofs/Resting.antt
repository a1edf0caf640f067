-- What a worker at rest is told.
use Rattle.std.proofs.Common.{◌≡◌, ℕ, ◌<◌, ◌≤◌, Bool, true, false, not, List, [], ◌∷◌, ◌++◌, map, length, Option, Some, None, refl, sym, ap, ◌∙◌, subst, inl, inr, arith}
use Rattle.std.specs.Prelude.{IsSomeAnd, IsTrue, ◌↔◌}
use Rattle.std.specs.List.{filter}
use mathlib.Core.List.{IsPrefix}
use Rattle.model.specs.declared.entry.Entry.{Entry}
use Rattle.model.specs.declared.entry.Entry.TheVariants.{Turn, Update, ActivateInactive, ActivateNba, ActivateMonitor, Advance}
use Rattle.model.specs.declared.end.Why.{Why}
use Rattle.model.specs.declared.end.Why.TheVariants.{Memory}
use Rattle.model.specs.declared.end.End.TheVariants.{Quiet}
use Rattle.model.specs.States.{State, Event, is_evaluation}
use Rattle.model.specs.Runs.{run, after, has_any, is_quiet, Ends, why_past}
use Rattle.design.specs.Compiled.{design_of}
use Rattle.runstate.specs.declared.ledger.Item.TheVariants.{Did, Ended}
use Rattle.commitgate.specs.Named.{Named}
use Rattle.runstate.specs.Ledger.{Ledger, entries_of, end_from, end_in}
use Rattle.runstate.specs.GateState.{GateState, state_in}
use Rattle.runstate.specs.Guarded.{Guarded}
use Rattle.commitgate.specs.GateInvariant.{GateInvariant}
use Rattle.regcells.specs.Meetings.{HaveGrown}
use Rattle.commitgate.specs.Seats.{SeatView}
use Rattle.commitgate.specs.GateJournals.{Stays}
use Rattle.commitgate.specs.GateAnswers.{HasNoUpdate, IsRegionChange, MustWait, stopped}
use Rattle.commitgate.specs.DueRegions.{IsDueChange, IsPassed}
use Rattle.commitgate.specs.SeatAnswers.{MemoryCauses, RestCauses, IsQuietTo, IsBusy, IsRefused, IsSeenStopped, HasMetEntry}
use Rattle.logic4.specs.Vector.{Vector}
use Rattle.model.specs.declared.end.Limits.{Limits}
use Rattle.runstate.proofs.Beginnings.{prefix_trans}
use Rattle.runstate.proofs.Ledgers.{end_join}
use Rattle.commitgate.proofs.Guards.{unfinished}
use Rattle.commitgate.proofs.Meetings.{rises_self}
use Rattle.commitgate.proofs.Staying.{quiet_stays}
use Rattle.commitgate.proofs.Tellings.{after_ledger, tell_refused, tell_ended}

-- no event is left
pub tell_quiet : (n : Named) (old : SeatView) (held : GateState) → Guarded n.code n.limits held → GateInvariant n held → IsPrefix old.seen held.ledger → (new : SeatView) → new ≡ record old { seen = held.ledger }
    → held.end ≡ None → is_quiet (state_in n.code held) ≡ true → IsQuietTo n old new
tell_quiet n old held g k later new is running quiet = record {
  refused = tell_refused n old held g k later new old.fresh is (rises_self old.fresh) running;
  quiet =
      subst (λ (v : SeatView). Ends (design_of n.code) n.limits (entries_of v.seen) Quiet) (sym is)
      (subst (λ (o : Option State). IsSomeAnd o (λ s. (is_quiet s ≡ true) × (s.finished ≡ false))) (sym (after_ledger n held g k)) (quiet, unfinished n.code n.limits held g running));
  stays =
      subst (λ (v : SeatView). Stays n v.seen) (sym is)
      (quiet_stays n held.ledger g.ran.effect (ap (run (design_of n.code)) (sym k.journal_is) ∙ g.ran.is_run) (ap is_quiet g.ran.state_is ∙ quiet));
}

-- the call stored the end
pub tell_stop : (n : Named) (causes : Why → Type 0) (old mid new : SeatView) (why : Why) (held same held' : GateState) → Guarded n.code n.limits held' → GateInvariant n held' → IsPrefix old.seen held.ledger
    → same ≡ held → mid ≡ record old { seen = held.ledger } → held' ≡ stopped mid.worker why same → new ≡ record mid { seen = held'.ledger; stored = Some why } → causes why → IsSeenStopped n causes old why new
tell_stop n causes old mid new why held same held' g' k' later same_is mid_is state new_is cause =
    let ledger : held'.ledger ≡ held.ledger ++ (mid.worker, Ended why) ∷ [] = ap (λ (h : GateState). h.ledger) state ∙ ap (λ (h : GateState). h.ledger ++ (mid.worker, Ended why) ∷ []) same_is in
    let seen : new.seen ≡ held'.ledger = ap (λ (v : SeatView). v.seen) new_is in
    tell_ended n causes old new why held' g' k'
    (record {
      worker = ap (λ (v : SeatView). v.worker) new_is ∙ ap (λ (v : SeatView). v.worker) mid_is;
      later = prefix_trans old.seen held.ledger new.seen later ((mid.worker, Ended why) ∷ [], sym (seen ∙ ledger));
      rises = subst (λ f. HaveGrown old.fresh f) (sym (ap (λ (v : SeatView). v.fresh) new_is ∙ ap (λ (v : SeatView). v.fresh) mid_is)) (rises_self old.fresh);
    })
    (ap (λ (v : SeatView). v.positions) new_is ∙ ap (λ (v : SeatView). v.positions) mid_is)
    seen
    (ap (λ (h : GateState). h.end) state)
    (inr (ap (λ (v : SeatView). v.stored) new_is, cause))

end_remains : (why : Why) (xs : Ledger) → end_from (Some why) xs ≡ None → ⊥
end_remains why [] h = cc
end_remains why ((k, Did entry) ∷ xs) h = end_remains why xs h
end_remains why ((k, Ended other) ∷ xs) h = end_remains other xs h

-- where a ledger has no end none of its beginnings has one
pub no_end_before : (seen ledger : Ledger) → IsPrefix seen ledger → end_in ledger ≡ None → end_in seen ≡ None
no_end_before seen ledger p none = by_case (end_in seen) refl
  where
    by_case : (o : Option Why) → end_in seen ≡ o → o ≡ None
    by_case None is = refl
    by_case (Some why) is = absurd (end_remains why p.0 (sym (ap (λ o. end_from o p.0) is) ∙ sym (end_join None seen p.0) ∙ ap end_in p.1 ∙ none))

-- the call stored that memory was refused: the run went on, with an event left
pub memory_cause : (n : Named) (old new : SeatView) (held held' : GateState) → Guarded n.code n.limits held' → GateInvariant n held' → GateInvariant n held → IsPrefix old.seen held.ledger → held.end ≡ None
    → new.seen ≡ held'.ledger → is_quiet (state_in n.code held') ≡ false → MemoryCauses n old new Memory
memory_cause n old new held held' g' k' k later running seen left = (
  refl,
  no_end_before old.seen held.ledger later (sym k.end_is ∙ running),
  (state_in n.code held', ap (λ (l : Ledger). after (design_of n.code) (entries_of l)) seen ∙ after_ledger n held' g' k', left),
)

none_of : (xs : List Event) → has_any xs ≡ false → map (λ e. e.0) xs ≡ []
none_of [] h = refl
none_of (x ∷ xs) h = cc

below_or : (a b : ℕ) → (a ≤ b → ⊥) → b < a
below_or a b h = omega (arith, h)

-- an event is active, and the worker was not to wait
pub tell_busy : (n : Named) (old : SeatView) (held : GateState) → Guarded n.code n.limits held → GateInvariant n held → IsPrefix old.seen held.ledger → (new : SeatView) → new ≡ record old { seen = held.ledger }
    → held.end ≡ None → has_any held.core.active ≡ true
    → (MustWait held (length (entries_of old.seen)) → ⊥)
    → IsRefused n old new × IsBusy n old new
tell_busy n old held g k later new is running active awake = (
  tell_refused n old held g k later new old.fresh is (rises_self old.fresh) running,
  subst (λ (v : SeatView). IsBusy n old v) (sym is) (by_case (has_any (filter (λ e. not (is_evaluation e.1)) held.core.active)) refl),
)
  where
    by_case : (b : Bool) → has_any (filter (λ e. not (is_evaluation e.1)) held.core.active) ≡ b → IsBusy n old (record old { seen = held.ledger })
    by_case true e = inl (state_in n.code held, after_ledger n held g k, e)
    by_case false e =
        let none : HasNoUpdate held.core = none_of (filter (λ e. not (is_evaluation e.1)) held.core.active) e in
        inr (below_or (length (entries_of held.ledger)) (length (entries_of old.seen)) (λ few. awake (running, active, none, rw k.journal_is few)))

pub due_is_change : (s : State) (change : Entry) → IsDueChange s change → IsRegionChange change
due_is_change s (Turn event) h = h
due_is_change s (Update event) h = h
due_is_change s ActivateInactive h = tt
due_is_change s ActivateNba h = tt
due_is_change s ActivateMonitor h = tt
due_is_change s (Advance time) h = tt

pub met_change : (n : Named) (s : State) (change : Entry) (ledger : Ledger) (fresh : List (List Vector)) → IsRegionChange change → HasMetEntry n s change ledger fresh
met_change n s (Turn event) ledger fresh h = absurd h
met_change n s (Update event) ledger fresh h = absurd h
met_change n s ActivateInactive ledger fresh h = tt
met_change n s ActivateNba ledger fresh h = tt
met_change n s ActivateMonitor ledger fresh h = tt
met_change n s (Advance time) ledger fresh h = tt

past_cause : (until : Option ℕ) → RestCauses (why_past until)
past_cause None = inr (inr refl)
past_cause (Some until) = inr (inl refl)

-- the causes of a stop at rest
pub passed_cause : (limits : Limits) (change : Entry) (why : Why) → IsPassed limits change why → RestCauses why
passed_cause limits (Turn event) why h = absurd h
passed_cause limits (Update event) why h = absurd h
passed_cause limits ActivateInactive why h = absurd h
passed_cause limits ActivateNba why h = absurd h
passed_cause limits ActivateMonitor why h = absurd h
passed_cause limits (Advance time) why h = subst RestCauses (sym h.1) (past_cause limits.until)

-- a test that fails refutes what it stands for
pub not_so : (b : Bool) (P : Type 0) → (IsTrue b ↔ P) → b ≡ false → P → ⊥
not_so true P h f = cc
not_so false P h f = λ p. clash (h.1 p)
  where
    clash : false ≡ true → ⊥
    clash e = cc
