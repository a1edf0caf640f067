-- The places so far.
use Rattle.std.proofs.Common.{◌≡◌, map, take, string_bytes}
use Rattle.program.proofs.flattening.places_of.Given as goal

abbrev pub invariant-loop-process : goal.invariant-loop-process
invariant-loop-process l = map (λ words. words.now) l.places.items ≡ map (λ p. string_bytes p.at) (take l.process-index l.processes)
