-- The proofs of the laws of parts.
pub mod PartLists
pub mod RunLaws
pub mod Squares
pub mod PartsKept
pub mod Projections
pub mod Orders
pub mod Endings
pub mod Together
pub mod Branches
pub mod LargerSets
pub mod Restricted
pub mod Choices
pub mod Combined
pub mod Certificates
pub mod CertifiedSets
pub mod TraceRows
pub mod CertificateRows
