-- Turns on the values under the lock.
use Rattle.std.specs.Prelude.{◌≡◌, Bool, true, false, None}
use Rattle.design.specs.Compiled.{Compiled}
use Rattle.turn.specs.TurnLogs.{LogView}
use Rattle.turn.specs.declared.log.FillFault.{FillFault}
use Rattle.turn.specs.declared.log.FillFault.TheVariants.{TooLong, Memory}
use Rattle.turn.specs.TurnAnswers.{IsTurnLog}
use Rattle.turn.specs.Reads.{GaveAll}
use Rattle.runstate.specs.GateState.{GateState}
use Rattle.commitgate.specs.Tickets.{TicketView}
use Rattle.runstate.specs.Histories.{IsRead}
use Rattle.runstate.specs.Evaluated.{turn_at}
use Rattle.commitgate.specs.GateAnswers.{AreCurrent}

-- the log is the turn from a ticket's state on, and what was read of it stands in the histories and is current
pub record IsCurrentTurn (code : Compiled) (held : GateState) (ticket : TicketView) (log : LogView) : Type 0 where
  pub turn : IsTurnLog code ticket.state ticket.time log
  pub recorded : GaveAll (IsRead code held.histories) log.reads
  pub current : AreCurrent code held log.reads

-- memory was refused
abbrev pub is_refused : FillFault → Bool
is_refused TooLong = false
is_refused Memory = true

-- a turn that is too long is no short turn from the ticket's state on
abbrev pub IsNoHeldTurn : Compiled → GateState → TicketView → FillFault → Type 0
IsNoHeldTurn code held ticket TooLong = turn_at code held ticket.process ticket.state ≡ None
IsNoHeldTurn code held ticket Memory = Unit {0}
