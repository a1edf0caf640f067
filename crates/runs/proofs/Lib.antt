-- Which entries may be next (Permits), where a run halts (Halts), how it goes on by an entry (Journals), a machine with it
-- (Comings), the entry at a place of a list (Choosing), a run that ends by a turn that is too long (LongEnds), and runs that
-- are apart (Parting).
pub mod Permits
pub mod Halts
pub mod Journals
pub mod Comings
pub mod Choosing
pub mod LongEnds
pub mod Parting
