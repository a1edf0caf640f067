-- The processes of those that were looked at.
use Rattle.std.proofs.Common.{◌≡◌, take}
use Rattle.naming.specs.LineOrders.{numbers_at}
use Rattle.naming.proofs.line_orders.numbers_at.Given as goal

abbrev pub invariant-loop-place : goal.invariant-loop-place
invariant-loop-place l = l.numbers.items ≡ numbers_at l.time (take l.place l.orders)
