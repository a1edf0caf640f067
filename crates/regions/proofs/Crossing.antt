-- That the regions may cross to another thread: what copies share is never written.
use denote.Param.Send.{IsSend, sendable}
use Rattle.std.proofs.Crossing.{crosses}
use Rattle.regions.specs.contracts.state.State as Regions

pub regions_send : IsSend Regions.the_row
regions_send = search (crosses, sendable) depth 40 fits 5000
