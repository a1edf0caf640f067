-- The notes on a text as they are listed: each kind once, or each note.
use Rattle.std.specs.Prelude.{◌≡◌, ℕ, List, [], ◌∷◌, ◌++◌, Bool, true, false, map, count_by, if◌then◌else◌}
use Rattle.std.specs.List.{list_any}
use Rattle.diagnosis.specs.declared.words.Advice.{Advice}
use Rattle.diagnosis.specs.declared.notes.Note.{Note}
use Rattle.diagnosis.specs.declared.kinds.ListedNote.{ListedNote}
use Rattle.diagnosis.specs.SameAdvice.{same_advice}
use Rattle.diagnosis.specs.Notes.{HasNotes}

-- A note of the kind of this advice.
abbrev pub is_of : Advice → Note → Bool
is_of advice n = same_advice n.advice advice

-- Those of some notes that are the first of their kind: no note before them has it, neither one of these nor one of those that stand
-- before these.
abbrev pub firsts_behind : List Note → List Note → List Note
firsts_behind before [] = []
firsts_behind before (n ∷ ns) = (if list_any (is_of n.advice) before then [] else n ∷ []) ++ firsts_behind (before ++ n ∷ []) ns

-- A note that stands for all of its kind among these.
abbrev pub for_kind : List Note → Note → ListedNote
for_kind ns n = record { note = n; places = count_by (is_of n.advice) ns }

-- The kinds of some notes in the order of their first places: each with its first note, and how many notes it has.
abbrev pub kinds_of : List Note → List ListedNote
kinds_of ns = map (for_kind ns) (firsts_behind [] ns)

-- A note that stands for itself.
abbrev pub for_itself : Note → ListedNote
for_itself n = record { note = n; places = 1 }

-- Some notes as they are listed: each note where all are asked for, and else each kind.
abbrev pub listed_of : Bool → List Note → List ListedNote
listed_of true ns = map for_itself ns
listed_of false ns = kinds_of ns

-- These are the notes on the lexemes of a text as they are listed.
pub record HasListed (source : List ℕ) (all : Bool) (listed : List ListedNote) : Type 0 where
  pub notes : List Note
  pub has_notes : HasNotes source notes
  pub is_listed : listed ≡ listed_of all notes
