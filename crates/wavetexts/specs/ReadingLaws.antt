-- What it is to read an observed text.
use Rattle.std.specs.Prelude.{◌≡◌, ℕ, List, ◌++◌}
use Rattle.wavetexts.specs.AtTimes.{at_times}
use Rattle.wavetexts.specs.Reading.{ReadText, read_on, tail_of, text_behind, unread, whole_text}

-- to read two texts, one behind the other, is to read both as one
abbrev pub ReadsOneBehindAnother : Type 0
ReadsOneBehindAnother = (registers : ℕ) (t : ReadText) (one other : List ℕ) → read_on registers t (one ++ other) ≡ read_on registers (read_on registers t one) other

-- what is in order for good stays before all that is read behind it
abbrev pub StaysBefore : Type 0
StaysBefore =
    (registers : ℕ) (t : ReadText) (bytes : List ℕ)
    → (read_on registers t bytes ≡ text_behind t.done (read_on registers (tail_of t) bytes))
    × (whole_text registers t ≡ t.done ++ whole_text registers (tail_of t))

-- a text that is read to its end is the text with the lines that are printed between two times in order
abbrev pub ReadTextIsArranged : Type 0
ReadTextIsArranged = (registers : ℕ) (text : List ℕ) → whole_text registers (read_on registers unread text) ≡ at_times registers text

-- what of a text is in order for good, and the rest with what is read behind it, are both texts as one with their lines in order
abbrev pub ReadInTwo : Type 0
ReadInTwo =
    (registers : ℕ) (text rest : List ℕ)
    → (read_on registers unread text).done ++ whole_text registers (read_on registers (tail_of (read_on registers unread text)) rest)
    ≡ at_times registers (text ++ rest)
