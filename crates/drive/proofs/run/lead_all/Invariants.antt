use Rattle.std.proofs.Common.{◌≡◌, take}
use Rattle.runstate.specs.Ledger.{entries_of}
use Rattle.drive.specs.Leading.{IsAlone}
use Rattle.drive.proofs.run.lead_all.Given as goal

abbrev pub invariant-loop-done : goal.invariant-loop-done
invariant-loop-done g l = IsAlone g.K.Naming.named l.seat l.hand.tickets.items × (entries_of l.seat.seen ≡ take l.done l.fn.entries)
