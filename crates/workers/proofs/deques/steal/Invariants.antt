use Rattle.std.proofs.Common.{◌≡◌, map, length}
use Rattle.std.specs.List.{sum_by}
use Rattle.eventpool.specs.Ends.{thief_card}
use Rattle.workers.specs.Keeping.{StoleNone}
use Rattle.workers.proofs.deques.steal.Given as goal

abbrev pub invariant-loop-i : goal.invariant-loop-i
invariant-loop-i g l = record {
  ends : map thief_card l.row.items ≡ map thief_card l.fn.row.items;
  count : sum_by (λ t. length t.stolen) l.row.items ≡ sum_by (λ t. length t.stolen) l.fn.row.items;
  none : StoleNone l.fn.row.items l.row.items;
}
