-- What the notes of several steps say together, and a step that keeps off all of them.
use Rattle.std.specs.Prelude.{◌≡◌, ℕ, Bool, true, false, ◌&&◌, ◌||◌, ◌==◌, List, [], ◌∷◌}
use Rattle.std.specs.List.{list_any}
use Rattle.model.specs.Turns.{contains}
use Rattle.loose.specs.declared.transition.LooseTransition.{LooseTransition}
use Rattle.loose.specs.declared.transition.LooseTransition.TheVariants.{Process, Change}
use Rattle.footprints.specs.Footprints.{changed_registers}
use Rattle.certificates.specs.declared.summary.Summary.{Summary}
use Rattle.certificates.specs.Masks.{registers_of}
use Rattle.certificates.specs.Marks.{is_marked}
use Rattle.certificates.specs.Actors.{has}
use Rattle.certificates.specs.Coming.{begins, is_of_any}
use Rattle.certificates.specs.Notes.{NoteView}

-- whether an actor takes events: it is a process, or a class of registers
abbrev pub is_event : LooseTransition → Bool
is_event (Change entry) = false
is_event _ = true

-- A summary has the marks that another has, and those of a note.
pub record HasMarked (old new : Summary) (note : NoteView) : Type 0 where
  pub actors : (a : LooseTransition) → has new.actors a ≡ (has old.actors a || begins note a)
  pub written : (r : ℕ) → is_marked new.written.items r ≡ (is_marked old.written.items r || contains note.writes r)
  pub changed : (r : ℕ) → is_marked new.changed.items r ≡ (is_marked old.changed.items r || contains (changed_registers note.changes) r)
  pub seen : (r : ℕ) → is_marked new.seen.items r ≡ (((is_marked old.seen.items r || contains note.uses r) || contains (registers_of note.awaits) r) || contains (registers_of note.ended) r)
  pub assigned : (c : ℕ) → is_marked new.assigned.items c ≡ (is_marked old.assigned.items c || list_any (λ a. a.0 == c) note.assigns)
  pub prints : new.prints ≡ old.prints
  pub strobes : new.strobes ≡ old.strobes

-- A summary has all that another has.
pub record HasMore (old new : Summary) : Type 0 where
  pub actors : (a : LooseTransition) → has old.actors a ≡ true → has new.actors a ≡ true
  pub written : (r : ℕ) → is_marked old.written.items r ≡ true → is_marked new.written.items r ≡ true
  pub changed : (r : ℕ) → is_marked old.changed.items r ≡ true → is_marked new.changed.items r ≡ true
  pub seen : (r : ℕ) → is_marked old.seen.items r ≡ true → is_marked new.seen.items r ≡ true
  pub assigned : (c : ℕ) → is_marked old.assigned.items c ≡ true → is_marked new.assigned.items c ≡ true
  pub prints : old.prints ≡ true → new.prints ≡ true
  pub strobes : old.strobes ≡ true → new.strobes ≡ true

-- A summary has all that a note says, which is that of a step that doesn't end the run.
pub record IsSummed (summary : Summary) (note : NoteView) : Type 0 where
  pub event : is_event note.owner ≡ true
  pub owner : has summary.actors note.owner ≡ true
  pub woken : (p : ℕ) → contains note.woken p ≡ true → has summary.actors (Process p) ≡ true
  pub writes : (r : ℕ) → contains note.writes r ≡ true → is_marked summary.written.items r ≡ true
  pub changes : (r : ℕ) → contains (changed_registers note.changes) r ≡ true → is_marked summary.changed.items r ≡ true
  pub uses : (r : ℕ) → contains note.uses r ≡ true → is_marked summary.seen.items r ≡ true
  pub awaits : (r : ℕ) → contains (registers_of note.awaits) r ≡ true → is_marked summary.seen.items r ≡ true
  pub ended : (r : ℕ) → contains (registers_of note.ended) r ≡ true → is_marked summary.seen.items r ≡ true
  pub assigns : (c : ℕ) → list_any (λ a. a.0 == c) note.assigns ≡ true → is_marked summary.assigned.items c ≡ true
  pub prints : note.prints ≡ true → summary.prints ≡ true
  pub strobes : note.strobes ≡ true → summary.strobes ≡ true
  pub goes_on : note.finishes ≡ false

-- a summary has all that these notes say
abbrev pub AreSummed : Summary → List NoteView → Type 0
AreSummed summary [] = Unit {0}
AreSummed summary (note ∷ notes) = IsSummed summary note × AreSummed summary notes

-- A step writes, changes, uses and awaits no register that is marked against it.
pub record LeavesMarked (summary : Summary) (note : NoteView) : Type 0 where
  pub writes : list_any (λ r. is_marked summary.written.items r) note.writes ≡ false
  pub changes : list_any (λ r. is_marked summary.seen.items r) (changed_registers note.changes) ≡ false
  pub uses : list_any (λ r. is_marked summary.changed.items r) note.uses ≡ false
  pub awaits : list_any (λ r. is_marked summary.changed.items r) (registers_of note.awaits) ≡ false
  pub ended : list_any (λ r. is_marked summary.changed.items r) (registers_of note.ended) ≡ false

-- A step keeps off all that a summary holds.
pub record KeepsOff (summary : Summary) (note : NoteView) : Type 0 where
  pub holds : summary.holds ≡ true
  pub event : is_event note.owner ≡ true
  pub others : is_of_any (has summary.actors) note ≡ false
  pub registers : LeavesMarked summary note
  pub assigns : list_any (λ a. is_marked summary.assigned.items a.0) note.assigns ≡ false
  pub lines : (summary.prints && note.prints) ≡ false
  pub strobes : (summary.strobes && note.strobes) ≡ false
