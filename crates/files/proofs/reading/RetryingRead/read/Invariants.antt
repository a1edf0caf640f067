use Rattle.std.specs.Io.KnownBytes.{Keeps}
use Rattle.files.proofs.reading.RetryingRead.read.Given as goal

-- reads that were interrupted gave no byte
abbrev pub invariant-loop : goal.invariant-loop
invariant-loop g l = Keeps (g.R.Read.remaining l.initial.self.file) (g.R.Read.remaining l.self.file)
