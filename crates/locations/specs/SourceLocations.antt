-- Where bytes, tokens and processes stand in a source.
use Rattle.std.specs.Prelude.{◌≡◌, ℕ, ◌+◌, ◌-◌, min, List, [], ◌∷◌, ◌++◌, length, map, take, codes, decimal, string_bytes, Bool, true, false, nat_le, if◌then◌else◌}
use Rattle.tokens.specs.declared.token.Kind.{Kind}
use Rattle.tokens.specs.declared.token.Kind.TheVariants as k
use Rattle.locations.specs.declared.location.Location.{Location}
use Rattle.locations.specs.declared.location.ProcessLocation.{ProcessLocation}
use Rattle.locations.specs.TextLines.{newlines, last_line, columns_of, most}
use Rattle.locations.specs.Spots.{PlainSpot, AreSpots}

-- The location of a byte: one line more than there are newlines before it, and one column more than the text before it takes on
-- its line.
abbrev pub location_of : List ℕ → ℕ → Location
location_of source byte = record {
  line = min (newlines (take byte source) + 1) most;
  column = min (columns_of (last_line (take byte source)) + 1) most;
  byte = byte;
}

-- The byte at which the token of a number begins, counted from 1; the end of the source where there are no more.
abbrev pub byte_of : List PlainSpot → ℕ → ℕ → ℕ
byte_of [] end number = end
byte_of (s ∷ ss) end number = if nat_le number 1 then s.byte else byte_of ss end (number - 1)

-- The location of the token of this number, counted from 1.
pub record IsTokenLocation (source : List ℕ) (number : ℕ) (location : Location) : Type 0 where
  pub spots : List PlainSpot
  pub are_spots : AreSpots source 0 spots
  pub stands : location ≡ location_of source (byte_of spots (length source) number)

-- A token that begins a process.
abbrev pub is_process : Kind → Bool
is_process k.Initial = true
is_process k.Always = true
is_process kind = false

-- A token that begins a process with `always`.
abbrev pub is_always : Kind → Bool
is_always k.Always = true
is_always kind = false

-- A process: whether it begins with `always`, and where that word stands, in words.
pub record PlainProcess : Type 0 where
  pub always : Bool
  pub at : List ℕ

abbrev pub plain_process : ProcessLocation → PlainProcess
plain_process p = record { always = p.always; at = string_bytes p.at }

-- The process that a token begins, else none.
abbrev pub process_in : List ℕ → PlainSpot → List PlainProcess
process_in source s = if is_process s.token.kind then record { always = is_always s.token.kind; at = codes "line " ++ decimal (location_of source s.byte).line } ∷ [] else []

-- The processes that tokens begin.
abbrev pub process_list : List ℕ → List PlainSpot → List PlainProcess
process_list source [] = []
process_list source (s ∷ ss) = process_in source s ++ process_list source ss

-- The processes of a source, in order.
pub record AreProcesses (source : List ℕ) (processes : List ProcessLocation) : Type 0 where
  pub spots : List PlainSpot
  pub are_spots : AreSpots source 0 spots
  pub stand : map plain_process processes ≡ process_list source spots
