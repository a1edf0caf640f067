-- With what is left all names are answered.
use Rattle.std.proofs.Common.{length}
use denote.Text.{Utf8}
use denote.Shadow.{shadow}
use Rattle.wavetexts.proofs.Named.{NamesOn, UnknownOn}
use Rattle.wavetexts.proofs.names.registers_named.Given as goal

abbrev pub invariant-loop-name : goal.invariant-loop-name
invariant-loop-name l =
    shadow (Utf8 l.rest) × NamesOn l.design.names l.names l.rest l.found.items × UnknownOn l.design.names l.names l.rest

abbrev pub decreases-loop-name : goal.decreases-loop-name
decreases-loop-name l = length l.rest
