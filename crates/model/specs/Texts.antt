-- The texts of a design: which text and which end are those of a lawful journal, and what it means that such texts are all (11.4).
-- Whoever believes these words, and what they import, needs no others to read what a search of all orders says: how it finds the
-- texts, and when it may leave an order out, is proved.
use Rattle.std.specs.Prelude.{◌≡◌, ◌≢◌, ℕ, ◌<◌, ◌≤◌, ◌⊎◌, List, ◌++◌, length, Some}
use Rattle.model.specs.declared.entry.Entry.{Entry}
use Rattle.model.specs.declared.end.Limits.{Limits}
use Rattle.model.specs.declared.end.Why.TheVariants.{Finish, Entries, Memory}
use Rattle.model.specs.declared.end.End.{End}
use Rattle.model.specs.declared.end.End.TheVariants.{Quiet, Stopped}
use Rattle.model.specs.Design.{Design}
use Rattle.model.specs.Runs.{Effect, run, lines, AreTimely, EndsIn, Ends}

-- this lawful journal is in time, and this comes of it
abbrev pub ComesOf : Design → Limits → List Entry → Effect → Type 0
ComesOf design limits journal e = (run design journal ≡ Some e) × AreTimely limits journal

-- a journal has no more entries than a run may have
abbrev pub IsWithinLimits : Limits → List Entry → Type 0
IsWithinLimits limits journal = length journal ≤ limits.max_entries

-- A text and an end are those of this journal: it is lawful and in time, the text is its lines, and its run ends so within
-- the limits where it has fewer entries than the most, or where the run is quiet or finished.
pub record IsLawfulText (design : Design) (limits : Limits) (journal : List Entry) (text : List ℕ) (end : End) : Type 0 where
  pub effect : Effect
  pub lawful : run design journal ≡ Some effect
  pub timely : AreTimely limits journal
  pub prints : text ≡ effect.lines
  pub goes_on : (end ≢ Stopped Entries) × (end ≢ Stopped Memory)
  pub ends : length journal < limits.max_entries → Ends design limits journal end
  pub halts : (end ≡ Quiet) ⊎ (end ≡ Stopped Finish) → Ends design limits journal end

-- Of each lawful journal in time and each end of its run, but by the most entries or for want of memory, the lines and
-- that end are there.
abbrev pub AreAllTexts : Design → Limits → (List ℕ → End → Type 0) → Type 0
AreAllTexts design limits IsThere =
    (journal : List Entry) (text : List ℕ) (end : End) → lines design journal ≡ Some text → AreTimely limits journal
    → Ends design limits journal end → end ≢ Stopped Entries → end ≢ Stopped Memory → IsThere text end

-- A run may end in this way where this has come of it, which is none by the most entries or for want of memory. Entries are counted
-- from there on.
abbrev pub EndsHere : Design → Limits → Effect → End → Type 0
EndsHere design limits e end =
    (end ≢ Stopped Entries) × (end ≢ Stopped Memory) × EndsIn design limits 0 e.state end

-- The journal is lawful and in time, and its run may end in this way, which is none by the most entries or for want of
-- memory. Its length is left aside: journals of different lengths come to one state.
abbrev pub MayEnd : Design → Limits → List Entry → End → Type 0
MayEnd design limits journal end = (e : Effect) × ComesOf design limits journal e × EndsHere design limits e end

-- Some lawful orders don't come to an end: this journal is lawful and in time, it has no more entries than it may have, and however
-- it goes on in time, its run comes to no end, but by the most entries or for want of memory.
pub record IsEndlessJournal (design : Design) (limits : Limits) (journal : List Entry) : Type 0 where
  pub effect : Effect
  pub lawful : ComesOf design limits journal effect
  pub within : IsWithinLimits limits journal
  pub never : (more : List Entry) (end : End) → MayEnd design limits (journal ++ more) end → ⊥
