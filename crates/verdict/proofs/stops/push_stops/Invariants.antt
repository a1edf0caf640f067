use Rattle.std.proofs.Common.{◌≡◌, ◌++◌, drop, option_map}
use Rattle.verdict.specs.StopLines.{stops_text}
use Rattle.verdict.proofs.stops.push_stops.Given as goal

abbrev pub invariant-loop-place : goal.invariant-loop-place
invariant-loop-place l =
    l.text.items ++ stops_text l.word (option_map (λ path. path.now) l.prefix) (drop l.place l.stops) ≡ l.initial.text.items ++ stops_text l.word (option_map (λ path. path.now) l.prefix) l.stops
