-- Observers see alike (SeeingAlike), what they see is put behind bytes (SeenLines), what they see of journals is told (Tellings), the formats of designs
-- are of ASCII (AsciiFormats), and what is seen tells registers (OneWave).
pub mod SeeingAlike
pub mod SeenLines
pub mod Tellings
pub mod AsciiFormats
pub mod OneWave
