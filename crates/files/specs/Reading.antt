-- What clauses read of a file of which interrupted reads are made again.
use Rattle.files.specs.declared.reading.Retrying.{Retrying}

-- the file inside
abbrev pub inner : {R : Type 0} → Retrying R → R
inner retrying = retrying.file
