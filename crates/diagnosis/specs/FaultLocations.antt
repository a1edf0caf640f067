-- The tokens that faults tell, and where a fault stands.
use Rattle.std.specs.Prelude.{◌≡◌, ℕ, List, ◌∷◌, Bool, true, false, nat_lt, Option, Some, None, string_bytes}
use Rattle.std.specs.Str.{bytes_eq}
use Rattle.tokens.specs.declared.token.Kind.{Kind}
use Rattle.tokens.specs.declared.token.Kind.TheVariants as k
use Rattle.vparse.specs.declared.parser.ParseFault.{ParseFault}
use Rattle.vparse.specs.declared.parser.ParseFault.TheVariants as text
use Rattle.elaborate.specs.declared.fault.ElabFault.{ElabFault}
use Rattle.elaborate.specs.declared.fault.ElabFault.TheVariants as module_fault
use Rattle.frontend.specs.declared.source.SourceFault.{SourceFault}
use Rattle.frontend.specs.declared.source.SourceFault.TheVariants.{Parse, Elaborate}
use Rattle.locations.specs.declared.location.Location.{Location}
use Rattle.diagnosis.specs.declared.wanted.Wanted.{Wanted}
use Rattle.diagnosis.specs.declared.wanted.Wanted.TheVariants as wanted
use Rattle.locations.specs.Spots.{PlainSpot, AreSpots}
use Rattle.locations.specs.SourceLocations.{location_of, is_process, IsTokenLocation}

-- A token that is spelled as a name.
abbrev pub is_named : List ℕ → PlainSpot → Bool
is_named name s = bytes_eq s.token.text name

-- A plain decimal that is greater than the greatest delay.
abbrev pub is_long : PlainSpot → Bool
is_long s = nat_lt 4294967295 s.token.value

-- A name.
abbrev pub is_name : Kind → Bool
is_name k.Name = true
is_name kind = false

-- A word of a call with a format.
abbrev pub is_call : Kind → Bool
is_call k.Display = true
is_call k.Strobe = true
is_call kind = false

-- A token that a search may stop at.
abbrev pub wants : Wanted → PlainSpot → Bool
wants (wanted.Use name) s = is_named name.now s
wants (wanted.Select name width) s = is_named name.now s
wants (wanted.Declaration name) s = is_named name.now s
wants wanted.Register s = is_name s.token.kind
wants wanted.Process s = is_process s.token.kind
wants wanted.Call s = is_call s.token.kind
wants wanted.LongDelay s = is_long s

-- A token that a fault of a module tells: its name, or a register, a process, a call or a delay; the others tell none.
abbrev pub tells : ElabFault → PlainSpot → Bool
tells (module_fault.Undeclared name) s = is_named (string_bytes name) s
tells (module_fault.DeclaredTwice name) s = is_named (string_bytes name) s
tells (module_fault.BadRange name) s = is_named (string_bytes name) s
tells (module_fault.BadIndex name) s = is_named (string_bytes name) s
tells module_fault.TooManyRegisters s = is_name s.token.kind
tells module_fault.TooManyProcesses s = is_process s.token.kind
tells module_fault.BadFormat s = is_call s.token.kind
tells module_fault.LongDelay s = is_long s
tells _ s = false

-- A token of a kind begins at this byte.
pub data IsSpotAt (p : PlainSpot → Bool) : List PlainSpot → ℕ → Type 0 where
  found : {s : PlainSpot} {ss : List PlainSpot} → p s ≡ true → IsSpotAt p (s ∷ ss) s.byte
  later : {s : PlainSpot} {ss : List PlainSpot} {byte : ℕ} → IsSpotAt p ss byte → IsSpotAt p (s ∷ ss) byte

-- The location of a token of a kind.
pub record IsSpotLocation (source : List ℕ) (p : PlainSpot → Bool) (location : Location) : Type 0 where
  pub spots : List PlainSpot
  pub are_spots : AreSpots source 0 spots
  pub byte : ℕ
  pub is_at : IsSpotAt p spots byte
  pub stands : location ≡ location_of source byte

-- Where a fault of a text stands: at its byte, or at its token.
abbrev pub IsTextLocation : List ℕ → ParseFault → Option Location → Type 0
IsTextLocation source (text.Byte byte) location = location ≡ Some (location_of source byte)
IsTextLocation source (text.Literal byte) location = location ≡ Some (location_of source byte)
IsTextLocation source (text.Syntax n) (Some location) = IsTokenLocation source n location
IsTextLocation source (text.Unsized n) (Some location) = IsTokenLocation source n location
IsTextLocation source (text.Deep n) (Some location) = IsTokenLocation source n location
IsTextLocation source text.Memory location = location ≡ None
IsTextLocation source _ None = ⊥

-- Where a fault of a module stands: nowhere, or at a token that it tells.
abbrev pub IsModuleLocation : List ℕ → ElabFault → Option Location → Type 0
IsModuleLocation source fault None = Unit {0}
IsModuleLocation source fault (Some location) = IsSpotLocation source (tells fault) location

-- Where a fault of a source stands.
abbrev pub IsFaultLocation : List ℕ → SourceFault → Option Location → Type 0
IsFaultLocation source (Parse fault) location = IsTextLocation source fault location
IsFaultLocation source (Elaborate fault) location = IsModuleLocation source fault location
