-- The text of the wave.
use Rattle.program.proofs.waving.dump_of.Goals as goal

pub returns : goal.returns
returns g c = record { wave = c.in_ok-wave.wave; is_wave = c.in_ok-wave.ensures; text_is = c.in_ok-text.ensures }
