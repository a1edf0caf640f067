-- The machine is led along the entries so far.
use Rattle.std.proofs.Common.{◌≡◌, take}
use Rattle.accesses.specs.ExchangedEntries.{IsLed}
use Rattle.accesses.proofs.follower.lead.Given as goal

abbrev pub invariant-loop-entry : goal.invariant-loop-entry
invariant-loop-entry l = record {
  led : IsLed l.fn.machine (take l.entry-index l.entries) l.machine;
  code : l.machine.code ≡ l.fn.machine.code;
}
