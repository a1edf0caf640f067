-- The proofs of walks of loose runs.
pub mod SoleLooseWays
pub mod OnlyEntries
pub mod TimeKept
pub mod PhaseWays
pub mod CertifiedWays
pub mod ActiveEntries
pub mod OtherEntries
pub mod Walks
pub mod Ordered
pub mod TakenAgain
pub mod GoingOn
pub mod PassingFirst
pub mod Certifying
pub mod Holding
pub mod Cones
