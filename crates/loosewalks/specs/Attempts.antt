-- Where a way through all that is active may be tried.
use Rattle.std.specs.Prelude.{ℕ, List}
use Rattle.combinational.specs.declared.network.Network.{Network}
use Rattle.regions.specs.Machine.{MachineView, state_at}
use Rattle.settling.specs.Settling.{IsPhaseOf, ArePendingOrSettled, MayBeHeld}
use Rattle.loosewalks.specs.declared.way_through.WayThrough.{WayThrough}
use Rattle.loosewalks.specs.declared.way_through.WayThrough.TheVariants.{Phase, Certified, HeldSettled, Held, HeldRest, HeldAsleep}

-- A way may be tried with these processes where a machine stands: one through a phase where they are its members, one while processes are
-- held where these may be, and are pending or settled if they are held as such, and one by what is certified always.
abbrev pub IsFit : WayThrough → MachineView → Network → List ℕ → Type 0
IsFit Phase m network members = IsPhaseOf m.code (state_at m) network members
IsFit Certified m network members = Unit {0}
IsFit HeldSettled m network members = MayBeHeld m.code (state_at m) network members × ArePendingOrSettled m.code (state_at m) network members
IsFit Held m network members = MayBeHeld m.code (state_at m) network members
IsFit HeldRest m network members = MayBeHeld m.code (state_at m) network members
IsFit HeldAsleep m network members = MayBeHeld m.code (state_at m) network members
