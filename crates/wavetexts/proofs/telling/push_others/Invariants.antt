use Rattle.std.proofs.Common.{option_map, take}
use Rattle.wavetexts.specs.ToldWaves.{TellsOthers}
use Rattle.wavetexts.proofs.telling.push_others.Given as goal

abbrev pub invariant-loop-place : goal.invariant-loop-place
invariant-loop-place l =
    TellsOthers l.names.design.now.names l.names.registers.now (option_map (λ path. path.now) l.names.prefix) l.first.text.items 2 (take l.place l.others) l.initial.text.items l.text.items
