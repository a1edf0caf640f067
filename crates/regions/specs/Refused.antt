-- What an entry that wasn't applied means for a machine.
use Rattle.regions.specs.declared.state.ApplyFault.{ApplyFault}
use Rattle.regions.specs.declared.state.ApplyFault.TheVariants as apply
use Rattle.regions.specs.declared.machine.TakeFault.{TakeFault}
use Rattle.regions.specs.declared.machine.TakeFault.TheVariants.{Refused, ApplyMemory}

-- why an entry that wasn't applied isn't taken
abbrev pub fault_of : ApplyFault → TakeFault
fault_of (apply.Refused r) = Refused r
fault_of apply.Memory = ApplyMemory
