-- The proofs of the laws of states that are alike.
pub mod EventLists
pub mod FutureLists
pub mod StatesInOrder
pub mod TurnFrame
pub mod Stores
pub mod Scheduling
pub mod Commuting
pub mod AlikeStates
pub mod AlikeSteps
pub mod AlikeEnds
pub mod GoingOn
pub mod TimelyRuns
pub mod SearchLaws
pub mod CanonLaws
pub mod SearchRows
pub mod MeetingRows
pub mod RaceRows
