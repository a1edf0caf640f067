-- The first of each time of those that were looked at.
use Rattle.std.proofs.Common.{◌≡◌, take}
use Rattle.naming.specs.LineOrders.{each_once, of_time}
use Rattle.naming.proofs.line_orders.first_orders.Given as goal

abbrev pub invariant-loop-place : goal.invariant-loop-place
invariant-loop-place l = l.firsts.items ≡ each_once of_time (take l.place l.orders)
