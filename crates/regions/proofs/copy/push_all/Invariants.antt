-- The elements so far are appended.
use Rattle.std.proofs.Common.{◌≡◌, ◌+◌, ◌++◌, take}
use Rattle.std.specs.VecDeque.{deque_len, deque_capacity}
use Rattle.regions.proofs.copy.push_all.Given as goal

abbrev pub invariant-loop-element : goal.invariant-loop-element
invariant-loop-element g l = record {
  items : l.deque.items ≡ l.initial.deque.items ++ take l.element-index l.elements;
  len : deque_len l.deque ≡ deque_len l.initial.deque + l.element-index;
  capacity : deque_capacity l.deque ≡ deque_capacity l.initial.deque;
}
