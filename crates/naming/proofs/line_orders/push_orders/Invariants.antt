-- The lines on those that were looked at.
use Rattle.std.proofs.Common.{◌≡◌, ◌++◌, option_map, take}
use Rattle.std.specs.List.{flat_map}
use Rattle.naming.specs.LineOrders.{order_line}
use Rattle.naming.proofs.line_orders.push_orders.Given as goal

abbrev pub invariant-loop-place : goal.invariant-loop-place
invariant-loop-place l =
    l.text.items ≡ l.initial.text.items ++ flat_map (order_line l.processes (option_map (λ path. path.now) l.prefix) l.orders) (take l.place l.firsts.items)
