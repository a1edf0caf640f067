-- The waves so far are those of the texts so far.
use Rattle.wavetexts.specs.Waves.{AreWavesOf}
use Rattle.wavetexts.proofs.waves.waves_of.Given as goal

abbrev pub invariant-loop-one : goal.invariant-loop-one
invariant-loop-one l = AreWavesOf l.yielded l.waves.items
