-- Lemmas of flat code: places, sizes, growing code, nodes that mean their statements, and the whole design.
pub mod Generated
pub mod Places
pub mod Measured
pub mod Views
pub mod Lines
pub mod Growing
pub mod Emitted
pub mod Placed
pub mod Fine
pub mod Nodes
pub mod Whole
pub mod Ends
pub mod Reading
pub mod Made
pub mod Numbered
