-- Lemmas of observed texts and their lines.
pub mod TextLines
pub mod Named
pub mod TextStanding
pub mod Arranged
pub mod Told
pub mod ReadTexts
