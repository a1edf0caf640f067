-- The proofs of what the ways from a node come to.
pub mod Ordered
pub mod LongTurns
pub mod Ways
pub mod Expansions
pub mod Walked
pub mod Remade
pub mod ByParts
pub mod ShownLawfully
pub mod LawfulTexts
pub mod FoundOrders
pub mod EndlessRuns
pub mod ObservedWays
pub mod ObservedNodes
pub mod ArrangedWays
pub mod SeenAgain
pub mod TailCodes
pub mod ArrangedTexts
