-- What entries of a seat's own are, by their places in the journal that it has seen.
use Rattle.std.proofs.Common.{◌≡◌, ℕ, ◌+◌, ◌<◌, ◌≤◌, List, [], ◌∷◌, ◌++◌, length, take, Option, Some, refl, sym, ap, ◌∙◌, subst, arith, length-append}
use Rattle.std.proofs.lemmas.List.{take-append-le}
use Rattle.std.proofs.Math.Seq.{take-append_seam, take-length}
use Rattle.std.specs.Prelude.{◌==◌, if◌then◌else◌, slice_get}
use Rattle.std.specs.List.{AllByRecursion}
use mathlib.Core.List.{IsPrefix}
use Rattle.model.specs.declared.entry.Entry.{Entry}
use Rattle.model.specs.States.{Event, State}
use Rattle.model.specs.Runs.{after}
use Rattle.design.specs.Compiled.{Compiled, design_of}
use Rattle.runstate.specs.Ledger.{entries_of, items_of}
use Rattle.commitgate.specs.Named.{Named}
use Rattle.commitgate.specs.Seats.{SeatView}
use Rattle.commitgate.specs.Tickets.{TicketView}
use Rattle.commitgate.specs.GateJournals.{AreTicketsOf, made_active}
use Rattle.commitgate.specs.SeatAnswers.{IsAppended}
use Rattle.workers.specs.Keeping.{weigh, tickets_for, is_turn, is_turn_at, turned_at, made_between, granted_at, over_own, turn_entries_of_event, granted}
use Rattle.workers.proofs.Weighing.{weigh_snoc}
use Rattle.workers.proofs.Seats.{get_before, get_last, entries_append, entries_begin, items_entry, begins_more}

-- what an entry weighs stays where the journal grows
abbrev IsStable : (List Entry → ℕ → ℕ) → Type 0
IsStable weight = (J K : List Entry) (place : ℕ) → place < length J → weight (J ++ K) place ≡ weight J place

over_begin : (weight : List Entry → ℕ → ℕ) → IsStable weight → (J K : List Entry) (ps : List ℕ) → AllByRecursion (λ p. p < length J) ps → weigh (weight (J ++ K)) ps ≡ weigh (weight J) ps
over_begin weight stable J K [] h = refl
over_begin weight stable J K (p ∷ ps) h = (λ i. stable J K p h.0 i + over_begin weight stable J K ps h.1 i)

over_later : (weight : List Entry → ℕ → ℕ) → IsStable weight → (J L : List Entry) (ps : List ℕ) → IsPrefix J L → AllByRecursion (λ p. p < length J) ps → weigh (weight L) ps ≡ weigh (weight J) ps
over_later weight stable J L ps p h = ap (λ l. weigh (weight l) ps) (sym p.1) ∙ over_begin weight stable J p.0 ps h

turned_stable : (event : ℕ) → IsStable (turned_at event)
turned_stable event J K place lt = ap (is_turn_at event) (get_before J K place lt)

granted_stable : (n : Named) (event : ℕ) → IsStable (granted_at n event)
granted_stable n event J K place lt =
    (λ i. weigh (λ (e : Event). if e.0 == event then 1 else 0)
    (made_between (after (design_of n.code) (take-append-le place J K (omega (arith, lt)) i)) (after (design_of n.code) (take-append-le (place + 1) J K (omega (arith, lt)) i))))

-- a seat that appended nothing
over_same : (weight : List Entry → ℕ → ℕ) → IsStable weight → (old new : SeatView) → IsPrefix old.seen new.seen → new.positions ≡ old.positions
    → AllByRecursion (λ p. p < length (entries_of old.seen)) old.positions → over_own weight new ≡ over_own weight old
over_same weight stable old new later positions h =
    ap (weigh (weight (entries_of new.seen))) positions ∙ over_later weight stable (entries_of old.seen) (entries_of new.seen) old.positions (entries_begin old.seen new.seen later) h

pub turned_same : (event : ℕ) (old new : SeatView) → IsPrefix old.seen new.seen → new.positions ≡ old.positions
    → AllByRecursion (λ p. p < length (entries_of old.seen)) old.positions → turn_entries_of_event event new ≡ turn_entries_of_event event old
turned_same event old new later positions h = over_same (turned_at event) (turned_stable event) old new later positions h

pub granted_same : (n : Named) (event : ℕ) (old new : SeatView) → IsPrefix old.seen new.seen → new.positions ≡ old.positions
    → AllByRecursion (λ p. p < length (entries_of old.seen)) old.positions → granted n event new ≡ granted n event old
granted_same n event old new later positions h = over_same (granted_at n event) (granted_stable n event) old new later positions h

-- the tickets of an entry are those of the evaluations that it made active
tickets_made : (code : Compiled) (s : State) (es : List Event) (tickets : List TicketView) (event : ℕ) → AreTicketsOf code s es tickets
    → weigh (λ (e : Event). if e.0 == event then 1 else 0) es ≡ tickets_for event tickets
tickets_made code s [] [] event h = refl
tickets_made code s [] (t ∷ ts) event h = absurd h
tickets_made code s (e ∷ es) [] event h = absurd h
tickets_made code s (e ∷ es) (t ∷ ts) event h = (λ i. (if sym h.0.event i == event then 1 else 0) + tickets_made code s es ts event h.1 i)

module _ (n : Named) (old : SeatView) (entry : Entry) (position : ℕ) (named : Entry) (tickets : List TicketView) (new : SeatView) (a : IsAppended n old entry position named tickets new) where
  whole : entries_of new.seen ≡ entries_of a.before ++ entry ∷ []
  whole =
      ap entries_of a.ends ∙ entries_append a.before (items_of old.worker entry a.to.finished) ∙ ap (λ l. entries_of a.before ++ l) (items_entry old.worker entry a.to.finished)

  grown : IsPrefix (entries_of old.seen) (entries_of new.seen)
  grown = begins_more (entries_of old.seen) (entries_of a.before) (entries_of new.seen) (entries_begin old.seen a.before a.extends) (entry ∷ [], sym whole)

  over_one : (weight : List Entry → ℕ → ℕ) → IsStable weight → AllByRecursion (λ p. p < length (entries_of old.seen)) old.positions
      → over_own weight new ≡ over_own weight old + weight (entries_of new.seen) position
  over_one weight stable h =
      ap (weigh (weight (entries_of new.seen))) a.positions ∙ weigh_snoc (weight (entries_of new.seen)) old.positions position
      ∙ (λ i. over_later weight stable (entries_of old.seen) (entries_of new.seen) old.positions grown h i + weight (entries_of new.seen) position)

  turn_last : (event : ℕ) → turned_at event (entries_of new.seen) position ≡ is_turn event entry
  turn_last event =
      (λ i. is_turn_at event (slice_get (whole i) (a.position_is i))) ∙ ap (is_turn_at event) (get_last (entries_of a.before) entry)

  before_last : take position (entries_of new.seen) ≡ entries_of a.before
  before_last = (λ i. take (a.position_is i) (whole i)) ∙ take-append_seam (entries_of a.before) (entry ∷ [])

  all_last : take (position + 1) (entries_of new.seen) ≡ entries_of new.seen
  all_last =
      let long : length (entries_of new.seen) ≡ length (entries_of a.before) + 1 = ap length whole ∙ length-append (entries_of a.before) (entry ∷ []) in
      let at = a.position_is in
      let same : position + 1 ≡ length (entries_of new.seen) = omega (arith, long, at) in
      ap (λ k. take k (entries_of new.seen)) same ∙ take-length (entries_of new.seen)

  granted_last : (event : ℕ) → granted_at n event (entries_of new.seen) position ≡ tickets_for event tickets
  granted_last event =
      (λ i. weigh (λ (e : Event). if e.0 == event then 1 else 0) (made_between (after (design_of n.code) (before_last i)) (after (design_of n.code) (all_last i))))
      ∙ (λ i. weigh (λ (e : Event). if e.0 == event then 1 else 0) (made_between (a.from_is i) (a.to_is i)))
      ∙ tickets_made n.code a.to (made_active a.from.active a.to.active) tickets event a.tickets_are

  -- a seat that appended an entry
  pub turned_more : (event : ℕ) → AllByRecursion (λ p. p < length (entries_of old.seen)) old.positions → turn_entries_of_event event new ≡ turn_entries_of_event event old + is_turn event entry
  turned_more event h = over_one (turned_at event) (turned_stable event) h ∙ ap (λ k. turn_entries_of_event event old + k) (turn_last event)

  pub granted_more : (event : ℕ) → AllByRecursion (λ p. p < length (entries_of old.seen)) old.positions → granted n event new ≡ granted n event old + tickets_for event tickets
  granted_more event h = over_one (granted_at n event) (granted_stable n event) h ∙ ap (λ k. granted n event old + k) (granted_last event)
