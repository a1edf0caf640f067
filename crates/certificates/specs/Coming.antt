-- Which of several noted steps come of which.
use Rattle.std.specs.Prelude.{◌≡◌, Bool, false, ◌&&◌, ◌||◌, ◌==◌, List, [], ◌∷◌}
use Rattle.std.specs.List.{list_any}
use Rattle.model.specs.Turns.{contains}
use Rattle.loose.specs.declared.transition.LooseTransition.{LooseTransition}
use Rattle.loose.specs.declared.transition.LooseTransition.TheVariants.{Process, FirstOf}
use Rattle.certificates.specs.Notes.{NoteView}
use Rattle.certificates.specs.Apart.{SayApart}

-- whether two are the same actor: a process, or a class of registers
abbrev pub is_same : LooseTransition → LooseTransition → Bool
is_same (Process p) (Process q) = p == q
is_same (FirstOf c) (FirstOf d) = c == d
is_same _ _ = false

-- whether a noted step wakes an actor
abbrev pub wakes_actor : NoteView → LooseTransition → Bool
wakes_actor note (Process p) = contains note.woken p
wakes_actor note _ = false

-- the actors whose next step comes of this one: its own, and those that it wakes
abbrev pub begins : NoteView → LooseTransition → Bool
begins note a = is_same note.owner a || wakes_actor note a

-- whether a noted step is of one of some actors, or wakes one
abbrev pub is_of_any : (LooseTransition → Bool) → NoteView → Bool
is_of_any has note = has note.owner || list_any (λ p. has (Process p)) note.woken

-- Some actors' steps come of a step. After one more step those of the processes that it wakes do so too, if it comes of it itself.
abbrev pub with_woken : (LooseTransition → Bool) → NoteView → LooseTransition → Bool
with_woken comes note a = comes a || (comes note.owner && wakes_actor note a)

-- each of these steps comes of a first one, of which those of some actors come, or is apart from it by what the notes say
abbrev pub ComeOrAreApart : NoteView → (LooseTransition → Bool) → List NoteView → Type 0
ComeOrAreApart first comes [] = Unit {0}
ComeOrAreApart first comes (note ∷ notes) =
    (comes note.owner ≡ false → SayApart first note) × ComeOrAreApart first (with_woken comes note) notes

-- none of these steps ends the run, and each later one comes of an earlier one, or is apart from it
abbrev pub AreOrdered : List NoteView → Type 0
AreOrdered [] = Unit {0}
AreOrdered (note ∷ notes) = (note.finishes ≡ false) × ComeOrAreApart note (begins note) notes × AreOrdered notes

-- the actors by whose step, before these, a last step of an actor may come of it
abbrev pub leading : LooseTransition → List NoteView → LooseTransition → Bool
leading last [] a = is_same last a
leading last (note ∷ notes) a = leading last notes a || (is_of_any (leading last notes) note && is_same note.owner a)

-- a last step comes of each of these, or is apart from it by what the notes say
abbrev pub ComesOrIsApart : List NoteView → NoteView → Type 0
ComesOrIsApart [] last = Unit {0}
ComesOrIsApart (note ∷ notes) last =
    (is_of_any (leading last.owner notes) note ≡ false → SayApart note last) × ComesOrIsApart notes last
