use Rattle.std.proofs.Common.{◌≡◌, ◌++◌, take, flat_map}
use Rattle.statekeys.proofs.encode.put_each.Given as goal

abbrev pub invariant-loop-item : goal.invariant-loop-item
invariant-loop-item g l = l.bytes.items ≡ l.initial.bytes.items ++ flat_map g.T.Encode.code (take l.item-index l.items)
