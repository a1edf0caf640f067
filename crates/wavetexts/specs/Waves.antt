-- Waves: what runs have in common, besides their end, where the order of lines at one time doesn't count.
use Rattle.std.specs.Prelude.{◌≡◌, ℕ, List, [], ◌∷◌, ◌++◌}
use Rattle.model.specs.declared.entry.Entry.{Entry}
use Rattle.model.specs.declared.end.End.{End}
use Rattle.explore.specs.declared.Shown.{Shown}
use Rattle.looseruns.specs.ObservedJournals.{SeenEnd}
use Rattle.wavetexts.specs.AtTimes.{at_times}

-- the wave of an observed text of so many registers and an observed end: both, with the lines of each time in order
abbrev pub wave_text_of : ℕ → List ℕ → SeenEnd → List ℕ
wave_text_of registers text end = at_times registers (text ++ end.seen)

-- this is the wave of an observed text in which the lines of each time are in order: it goes on with what is seen at its end, and has its journal
abbrev pub IsWaveOfText : Shown Entry SeenEnd → Shown Entry End → Type 0
IsWaveOfText s w = (w.text.items ≡ s.text.items ++ s.end.seen) × (w.end ≡ s.end.end) × (w.moves.items ≡ s.moves.items)

-- these are the waves of such texts, one by one
abbrev pub AreWavesOf : List (Shown Entry SeenEnd) → List (Shown Entry End) → Type 0
AreWavesOf [] [] = Unit {0}
AreWavesOf [] (w ∷ ws) = ⊥
AreWavesOf (s ∷ ss) [] = ⊥
AreWavesOf (s ∷ ss) (w ∷ ws) = IsWaveOfText s w × AreWavesOf ss ws
