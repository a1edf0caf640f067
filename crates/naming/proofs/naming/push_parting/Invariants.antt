-- Those that were looked at are told.
use Rattle.std.proofs.Common.{◌+◌, ◌≤◌, option_map, take}
use Rattle.naming.specs.Naming.{TellsSome}
use Rattle.naming.proofs.naming.push_parting.Given as goal

abbrev pub invariant-loop-place : goal.invariant-loop-place
invariant-loop-place l =
    TellsSome l.places l.names.design.now l.names.shown.now (option_map (λ path. path.now) l.names.prefix) (take l.place l.causes) l.initial.text.items l.text.items l.initial.told l.told
    × (l.told.number ≤ l.initial.told.number + l.place)
