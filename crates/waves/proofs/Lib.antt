-- Lemmas of waves: times that rise (Rising), differences of values (Differences), what is told on the way (Tellings), identifier codes
-- (CodeLaws), and texts (DumpLaws, Pieces), with scopes by full names (ScopedLaws, FullNameLaws).
pub mod Rising
pub mod Differences
pub mod Tellings
pub mod CodeLaws
pub mod DumpLaws
pub mod Pieces
pub mod FullNameLaws
pub mod ScopedLaws
