-- Texts that differ only in the order of lines at one time.
use Rattle.std.specs.Prelude.{◌≡◌, ℕ, ◌<◌, Bool, true, false, List, [], ◌++◌, codes, length}
use Rattle.std.specs.List.{All}
use Rattle.model.specs.declared.entry.Entry.{Entry}
use Rattle.model.specs.declared.end.End.{End}
use Rattle.design.specs.Compiled.{Compiled, design_of}
use Rattle.explore.specs.declared.Shown.{Shown}
use Rattle.looseruns.specs.RegisterObserver.{seen_registers, seen_unless_finished}
use Rattle.observers.specs.declared.observation.Observation.{Observation}
use Rattle.observers.specs.Observations.{IsObservationOf}
use Rattle.wavetexts.specs.AtTimes.{at_times}

-- The journal is lawful, and this is printed in it and seen of the time whenever it passes, with the lines of each time in the order of their bytes.
pub record PrintsAtTimes (code : Compiled) (journal : List Entry) (lines : List ℕ) : Type 0 where
  pub observation : Observation
  pub is_of : IsObservationOf (design_of code) (seen_unless_finished (seen_registers [])) journal observation
  pub lines_is : lines ≡ at_times 0 (observation.text.items ++ observation.seen.items)

-- There are several texts, which have one end, and the same lines are printed at each time of their journals.
pub record DifferInOrder (code : Compiled) (shown : List (Shown Entry End)) : Type 0 where
  pub lines : List ℕ
  pub end : End
  pub several : 1 < length shown
  pub all : All (λ s. (s.end ≡ end) × PrintsAtTimes code s.moves.items lines) shown

-- that texts differ only so, where they do
abbrev pub order_alone_text : Bool → List ℕ
order_alone_text true = codes "the texts differ only in the order of lines at one time (--observe lines-at-times)\n"
order_alone_text false = []
