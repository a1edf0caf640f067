-- Lemmas of faults and where they stand (PlacedFaults), and of the parts of a whole design (Made).
pub mod Made
pub mod PlacedFaults
