-- An observed text that is read bit by bit.
use Rattle.std.specs.Prelude.{ℕ, ◌==◌, List, [], ◌∷◌, ◌++◌, if◌then◌else◌}
use Rattle.wavetexts.specs.AtTimes.{is_printed, left_after, placed_line}
use Rattle.wavetexts.specs.declared.reading.TextTail.{TextTail}

-- An observed text that was read so far: what of it is in order for good, the lines that were printed since what was seen last, in order, a line
-- that has no newline yet, and how many lines of what is seen are still to come.
pub record ReadText : Type 0 where
  pub done : List ℕ
  pub held : List ℕ
  pub part : List ℕ
  pub left : ℕ

-- nothing was read
abbrev pub unread : ReadText
unread = record { done = []; held = []; part = []; left = 0 }

-- A line was taken: a printed one is held in its place; behind another one all is in order for good.
abbrev pub line_taken : ℕ → List ℕ → ReadText → ReadText
line_taken registers line t =
    record {
      done = if is_printed t.left line then t.done else ((t.done ++ t.held) ++ line);
      held = if is_printed t.left line then placed_line line t.held else [];
      part = t.part;
      left = left_after registers line t.left;
    }

-- a byte was read: a line is taken with its newline
abbrev pub byte_read : ℕ → ReadText → ℕ → ReadText
byte_read registers t b =
    if b == 10 then line_taken registers (t.part ++ b ∷ []) (record t { part = [] }) else record t { part = t.part ++ b ∷ [] }

-- these bytes were read, one after another
abbrev pub read_on : ℕ → ReadText → List ℕ → ReadText
read_on registers t [] = t
read_on registers t (b ∷ bytes) = read_on registers (byte_read registers t b) bytes

-- a last line without a newline was taken, if there is one
abbrev pub last_taken : ℕ → List ℕ → ReadText → ReadText
last_taken registers [] t = t
last_taken registers (b ∷ bytes) t = line_taken registers (b ∷ bytes) (record t { part = [] })

-- all of a text that was read to its end, in order
abbrev pub whole_text : ℕ → ReadText → List ℕ
whole_text registers t = (last_taken registers t.part t).done ++ (last_taken registers t.part t).held

-- what was read, with these bytes before it that are in order for good
abbrev pub text_behind : List ℕ → ReadText → ReadText
text_behind done t = record t { done = done ++ t.done }

-- what of a text that was read isn't in order for good
abbrev pub tail_of : ReadText → ReadText
tail_of t = record t { done = [] }

-- what was read, where this is in order for good and that isn't
abbrev pub text_with : List ℕ → TextTail → ReadText
text_with done tail = record { done = done; held = tail.held.items; part = tail.part.items; left = tail.left }
