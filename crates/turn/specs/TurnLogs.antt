-- What a turn's log stands for.
use Rattle.std.specs.Prelude.{◌≡◌, ℕ, Bool, List, [], map, slice_index_or}
use Rattle.std.specs.List.{All}
use Rattle.std.specs.String.{string_bytes}
use Rattle.logic4.specs.Vector.{Vector}
use Rattle.model.specs.Design.{Trigger}
use Rattle.model.specs.Turns.{Remainder, Wait, Ended, Inactive, Until, OnChange, NonblockingAssignment, Turn}
use Rattle.design.specs.declared.code.ProcState.{ProcState}
use Rattle.design.specs.Fits.{FitsRegister}
use Rattle.turn.specs.declared.log.Nba.{Nba}
use Rattle.turn.specs.declared.log.Suspend.{Suspend}
use Rattle.turn.specs.declared.log.Suspend.TheVariants as suspends
use Rattle.turn.specs.declared.log.TurnChange.{TurnChange}
use Rattle.turn.specs.declared.memory.Seen.{Seen}
use Rattle.turn.specs.declared.running_turn.RunningTurn.{RunningTurn}
use Rattle.turn.specs.Reads.{registers}
use Rattle.turn.specs.TurnChanges.{turn_changes_of}

-- a log, as plain lists
pub record LogView : Type 0 where
  pub reads : List (ℕ × Seen)
  pub writes : List (ℕ × Vector)
  pub turn_changes : List TurnChange
  pub nbas : List Nba
  pub lines : List ℕ
  pub strobes : List ℕ
  pub next : ProcState
  pub suspend : Suspend
  pub finish : Bool
  pub count : ℕ

-- the plain lists of a turn that is over
abbrev pub log_of : RunningTurn → Suspend → Bool → ℕ → LogView
log_of p suspend finish count = record {
  reads = p.memory.reads.entries;
  writes = p.writes;
  turn_changes = turn_changes_of p.writes;
  nbas = p.nbas.items;
  lines = string_bytes p.lines;
  strobes = p.strobes.items;
  next = p.state;
  suspend = suspend;
  finish = finish;
  count = count;
}

-- a nonblocking assignment of the definitions for one of the log
abbrev pub assignment_of : Nba → NonblockingAssignment
assignment_of nba = record { register = nba.reg; value = nba.value; due = nba.due }

-- what a process waits for, where the triggers of each event control are known
abbrev pub wait_of : List (List Trigger) → Suspend → Wait
wait_of controls suspends.Ended = Ended
wait_of controls suspends.Inactive = Inactive
wait_of controls (suspends.Until time) = Until time
wait_of controls (suspends.Event control) = OnChange (slice_index_or controls control [])

-- The log is the turn, where it is known what a process state stands for and which triggers each event control has.
pub record IsLogOf (rem : ProcState → Remainder) (controls : List (List Trigger)) (log : LogView) (turn : Turn) : Type 0 where
  pub uses : registers log.reads ≡ turn.uses
  pub writes : log.writes ≡ turn.writes
  pub nbas : map assignment_of log.nbas ≡ turn.nbas
  pub lines : log.lines ≡ turn.lines
  pub strobes : log.strobes ≡ turn.strobes
  pub rest : rem log.next ≡ turn.rest
  pub wait : wait_of controls log.suspend ≡ turn.wait
  pub finish : log.finish ≡ turn.finish
  pub count : log.count ≡ turn.count

-- what a log keeps to: each register is declared, each value has its register's width, and the turn changes are those of the writes
pub record LogFits (widths : List ℕ) (log : LogView) : Type 0 where
  pub writes : All (λ w. FitsRegister widths w.0 w.1) log.writes
  pub turn_changes : log.turn_changes ≡ turn_changes_of log.writes
  pub nbas : All (λ n. FitsRegister widths n.reg n.value) log.nbas
