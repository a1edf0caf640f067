-- What an observed text tells of the registers that were seen.
use Rattle.std.specs.Prelude.{◌≡◌, ◌≢◌, ℕ, ◌<◌, ◌≤◌, List, ◌∷◌, ◌++◌, Some}
use Rattle.std.specs.List.{All}
use Rattle.model.specs.declared.entry.Entry.{Entry}
use Rattle.model.specs.declared.entry.Entry.TheVariants.{Advance}
use Rattle.model.specs.Design.{Design, Statement, Print, statement_at}
use Rattle.model.specs.Syntax.{Piece, Byte, Argument}
use Rattle.model.specs.Expressions.{value_of}
use Rattle.model.specs.States.{State}
use Rattle.model.specs.Runs.{Effect, step, run, last_time}
use Rattle.looseruns.specs.ObservedJournals.{observed_text}
use Rattle.looseruns.specs.RegisterObserver.{sight_mark, seen_registers}

-- two states have one time, and each of these registers has one value in both
abbrev pub HaveSameRegisters : List ℕ → State → State → Type 0
HaveSameRegisters registers s t = (s.time ≡ t.time) × All (λ r. value_of s.store r ≡ value_of t.store r) registers

-- where the same is seen of two states, they have the same values of the registers
abbrev pub SightsTellRegisters : Type 0
SightsTellRegisters =
    (registers : List ℕ) (s t : State) → s.time ≤ last_time → t.time ≤ last_time → seen_registers registers s ≡ seen_registers registers t
    → HaveSameRegisters registers s t

-- time passes in a journal behind these first entries, and this has come of them
pub record PassesBehind (design : Design) (journal front : List Entry) (e : Effect) : Type 0 where
  pub time : ℕ
  pub rest : List Entry
  pub split : journal ≡ front ++ Advance time ∷ rest
  pub is_run : run design front ≡ Some e

-- no step of the design prints the byte with which what is seen begins
abbrev pub PrintsNoMark : Design → Type 0
PrintsNoMark design =
    (s : State) (entry : Entry) (f : Effect) → step design s entry ≡ Some f → All (λ byte. byte ≢ sight_mark) f.lines

-- a byte of a format is one of ASCII
abbrev pub IsAsciiPiece : Piece → Type 0
IsAsciiPiece (Byte b) = b < sight_mark
IsAsciiPiece (Argument conversion) = Unit {0}

-- the format of a statement that prints is of ASCII
abbrev pub HasAsciiFormat : Statement → Type 0
HasAsciiFormat (Print task format arguments) = All IsAsciiPiece format
HasAsciiFormat s = Unit {0}

-- each format of a design is
abbrev pub HasAsciiFormats : Design → Type 0
HasAsciiFormats design = (place : ℕ) → HasAsciiFormat (statement_at design place)

-- such a design prints no byte with which what is seen begins
abbrev pub AsciiDesignsPrintNoMark : Type 0
AsciiDesignsPrintNoMark = (design : Design) → HasAsciiFormats design → PrintsNoMark design

-- Where two lawful journals have one observed text, time passes in the one wherever it passes in the other, with the same values of the
-- registers.
abbrev pub OneTextIsOneWave : Type 0
OneTextIsOneWave =
    (design : Design) (registers : List ℕ) (one other : List Entry) (text : List ℕ) (front : List Entry) (e : Effect) → PrintsNoMark design
    → observed_text design (seen_registers registers) one ≡ Some text → observed_text design (seen_registers registers) other ≡ Some text
    → PassesBehind design one front e
    → (front' : List Entry) × (f : Effect) × PassesBehind design other front' f × HaveSameRegisters registers e.state f.state
