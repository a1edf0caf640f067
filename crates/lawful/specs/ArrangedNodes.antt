-- What a node of a search has of its run's text where the lines of each time are in one order, and what is told of the ways from it.
use Rattle.std.specs.Prelude.{◌≡◌, ℕ, zero, suc, List, [], ◌∷◌, ◌++◌, length}
use Rattle.model.specs.declared.entry.Entry.{Entry}
use Rattle.model.specs.declared.end.Limits.{Limits}
use Rattle.model.specs.Design.{Design}
use Rattle.model.specs.States.{State}
use Rattle.model.specs.Runs.{Effect}
use Rattle.design.specs.Compiled.{Compiled, design_of}
use Rattle.design.specs.DesignInvariant.{controls_of}
use Rattle.regions.specs.Machine.{MachineView, state_at}
use Rattle.statekeys.specs.ClassKeys.{IsClassKey}
use Rattle.loose.specs.declared.transition.LooseTransition.{LooseTransition}
use Rattle.explore.specs.declared.EndedPath.{EndedPath}
use Rattle.explore.specs.declared.Successor.{Successor}
use Rattle.explore.specs.SearchedRuns.{Runs}
use Rattle.looseruns.specs.LooseMoves.{AreTimelyMoves}
use Rattle.looseruns.specs.ObservedJournals.{IsObservedText, Observer, SeenEnd}
use Rattle.looseruns.specs.ObservedGoing.{GoesObservedTo}
use Rattle.observers.specs.declared.observing.Observing.{Observing}
use Rattle.observers.specs.Observers.{observer_of}
use Rattle.observers.specs.OneWave.{compared_registers}
use Rattle.wavetexts.specs.AtTimes.{at_times}
use Rattle.wavetexts.specs.Reading.{ReadText, read_on, text_with, unread}
use Rattle.arrangedruns.specs.ArrangedRuns.{arranged_end, arranged_runs_of}
use Rattle.loosejournals.specs.FoundJournals.{IsObservedJournalOf}
use Rattle.lawful.specs.Journals.{IsTextAmong}
use Rattle.lawful.specs.LooseNodes.{HoldsEffect}
use Rattle.lawful.specs.declared.node.LooseNode.{LooseNode}

-- how many registers are observed
abbrev pub registers_seen : Observing → ℕ
registers_seen observing = length (compared_registers observing)

-- what of its run's text isn't in order for good, as a node has it
abbrev pub tail_at : LooseNode → ReadText
tail_at node = text_with [] node.tail

-- the loose runs of a design before an observer, with the lines of each time in order, at which nodes stand
abbrev pub searched_arranged : Compiled → (ℕ → ℕ) → Limits → Observing → Runs LooseTransition LooseNode SeenEnd
searched_arranged code class limits observing =
    arranged_runs_of (HoldsEffect code) tail_at (registers_seen observing) class (design_of code) limits (observer_of observing)

-- A successor of a node where this of the text isn't in order for good: it has the same machine and moves, what is in order for good behind what is
-- told of the way is told, and its node has the rest.
pub record IsNextArranged (registers : ℕ) (tail : ReadText) (next arranged : Successor LooseNode LooseTransition) : Type 0 where
  pub machine_is : arranged.node.machine.value ≡ next.node.machine.value
  pub moves_are : arranged.moves.items ≡ next.moves.items
  pub reads : text_with arranged.printed.items arranged.node.tail ≡ read_on registers tail next.printed.items

-- A way to an end from such a node: the same moves, what is in order for good behind what is told of the way is told, and at the end the rest.
pub record IsPathArranged (registers : ℕ) (tail : ReadText) (ended arranged : EndedPath LooseTransition SeenEnd) : Type 0 where
  pub moves_are : arranged.moves.items ≡ ended.moves.items
  pub printed_is : arranged.printed.items ≡ (read_on registers tail ended.printed.items).done
  pub end_is : arranged.end ≡ arranged_end registers (read_on registers tail ended.printed.items) ended.end

-- the code of a number
abbrev pub number_code : ℕ → List ℕ
number_code zero = 0 ∷ []
number_code (suc n) = 1 ∷ number_code n

-- the code of bytes
abbrev pub bytes_code : List ℕ → List ℕ
bytes_code [] = 0 ∷ []
bytes_code (b ∷ bytes) = 1 ∷ b ∷ bytes_code bytes

-- the code of what isn't in order for good
abbrev pub tail_code : ReadText → List ℕ
tail_code t = number_code t.left ++ (bytes_code t.held ++ bytes_code t.part)

-- these bytes are the key of a node: the code of what it has of its run's text, and a class key of its machine's state
abbrev pub IsTailKey : (ℕ → ℕ) → LooseNode → List ℕ → Type 0
IsTailKey class node key =
    (rest : List ℕ) × IsClassKey class node.machine.value.core node.machine.value.values rest × (key ≡ tail_code (tail_at node) ++ rest)

-- A machine took these transitions one after another, and what it printed and an observer saw at them is told with the lines that are left in it.
pub record HasSeenEach (class : ℕ → ℕ) (observe : Observer) (old : MachineView) (moves : List LooseTransition) (new : MachineView) (told : List ℕ) : Type 0 where
  pub effect : Effect
  pub goes : (limits : Limits) → AreTimelyMoves limits moves → GoesObservedTo class (design_of old.code) limits observe (state_at old) moves effect
  pub state_is : state_at new ≡ effect.state
  pub code_is : new.code ≡ old.code
  pub told_is : told ≡ effect.lines

-- A machine took a transition, and what was told with the lines that it has grew by what was printed and seen at it.
pub record HasSeenOne (class : ℕ → ℕ) (observe : Observer) (old : MachineView) (text : List ℕ) (transition : LooseTransition) (new : MachineView) (told : List ℕ) : Type 0 where
  pub effect : Effect
  pub goes : (limits : Limits) → AreTimelyMoves limits (transition ∷ []) → GoesObservedTo class (design_of old.code) limits observe (state_at old) (transition ∷ []) effect
  pub state_is : state_at new ≡ effect.state
  pub code_is : new.code ≡ old.code
  pub told_is : told ++ new.lines ≡ (text ++ old.lines) ++ effect.lines

-- so it took transitions, with no lines left in it
pub record HasSeenAgain (class : ℕ → ℕ) (observe : Observer) (old : MachineView) (moves : List LooseTransition) (new : MachineView) (told : List ℕ) : Type 0 where
  pub seen : HasSeenEach class observe old moves new told
  pub silent_is : new.lines ≡ []
  pub controls : new.core.controls ≡ controls_of new.code

-- A node is made again by transitions: its machine took them from where another node's stands, and it has the rest of what was printed and seen.
pub record IsMadeAgain (class : ℕ → ℕ) (observing : Observing) (from : LooseNode) (moves : List LooseTransition) (again : LooseNode) : Type 0 where
  pub told : List ℕ
  pub gone : HasSeenAgain class (observer_of observing) from.machine.value moves again.machine.value told
  pub done : List ℕ
  pub reads : text_with done again.tail ≡ read_on (registers_seen observing) (tail_at from) told

-- The text and the end are the observed ones of this lawful journal with the lines of each time in order, and it has no more entries than the limits
-- give.
pub record IsArrangedJournalOf (code : Compiled) (limits : Limits) (observing : Observing) (text : List ℕ) (end : SeenEnd) (journal : List Entry) : Type 0 where
  pub seen_text : List ℕ
  pub seen_end : SeenEnd
  pub observed : IsObservedJournalOf code limits (observer_of observing) seen_text seen_end journal
  pub text_is : text ≡ (read_on (registers_seen observing) unread seen_text).done
  pub end_is : end ≡ arranged_end (registers_seen observing) (read_on (registers_seen observing) unread seen_text) seen_end

-- A text and an end are the observed ones of this lawful journal, before an observer of so many registers, with the lines of each time in order: those
-- of the last time, and what is seen there, stand at the end.
pub record IsArrangedText (design : Design) (limits : Limits) (registers : ℕ) (observe : Observer) (journal : List Entry) (text : List ℕ) (end : SeenEnd) : Type 0 where
  pub seen_text : List ℕ
  pub seen_end : SeenEnd
  pub observed : IsObservedText design limits observe journal seen_text seen_end
  pub whole_is : text ++ end.seen ≡ at_times registers (seen_text ++ seen_end.seen)
  pub end_is : end.end ≡ seen_end.end

-- this text and this end are an observed text and end with the lines of each time in order
abbrev pub IsArrangementOf : ℕ → List ℕ → SeenEnd → List ℕ → SeenEnd → Type 0
IsArrangementOf registers text end arranged last =
    (arranged ++ last.seen ≡ at_times registers (text ++ end.seen)) × (last.end ≡ end.end)

-- what is observed of a journal is among these with the lines of each time in order
abbrev pub IsArrangedAmong : ℕ → List (List ℕ × SeenEnd) → List ℕ → SeenEnd → Type 0
IsArrangedAmong registers told text end =
    IsTextAmong told (read_on registers unread text).done (arranged_end registers (read_on registers unread text) end)
