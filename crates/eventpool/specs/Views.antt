-- What contracts see of the ends, and what is true of each.
use Rattle.std.specs.Prelude.{◌≡◌, ◌≤◌, ◌^◌, length}
use Rattle.crossbeam_deque.specs.Handles.{view, taken, IsPassOf, worker_deque, stealer_deque, worker_flavor, stealer_flavor, worker_view, worker_capacity, worker_index}
use Rattle.eventpool.specs.Ends.{Owning, Stealing}
use Rattle.eventpool.specs.DequeRule.{owner, thief}
use Rattle.eventpool.specs.declared.ends.Owner.TheInside as owner_inside
use Rattle.eventpool.specs.declared.ends.Thief.TheInside as thief_inside

module _ {T : Type 0} where
  -- the data of an owner
  abbrev pub owning : owner_inside.Inside T → Owning T
  owning s = record {
    deque = worker_deque s.end;
    given = (worker_view s.end).given;
    put = (worker_view s.end).put;
    taken = (worker_view s.end).got;
    seen = (worker_view s.end).seen;
    back = (worker_view s.end).back;
  }

  -- it owns a FIFO deque, and has counted what it put and took
  pub record IsOwner (s : owner_inside.Inside T) : Type 0 where
    pub owns : worker_view s.end ≡ owner (owning s).given (owning s).put (owning s).taken (owning s).seen (owning s).back
    pub fifo : worker_flavor s.end ≡ 0
    pub puts : s.puts ≡ length (owning s).put
    pub takes : s.takes ≡ length (owning s).taken
    pub fewer : length (owning s).taken ≤ length (owning s).put
    pub most : length (owning s).put ≤ 2 ^ 62
    pub room : (64 ≤ worker_capacity s.end) × (worker_index s.end ≤ length (owning s).put)

  -- the data of a thief
  abbrev pub stealing : thief_inside.Inside T → Stealing T
  stealing s = record {
    deque = stealer_deque s.end;
    name = (view s.pass).name;
    stolen = (view s.pass).got;
    seen = (view s.pass).seen;
    gone = taken s.pass;
  }

  -- it steals from a FIFO deque, by a pass of that deque
  pub record IsThief (s : thief_inside.Inside T) : Type 0 where
    pub steals : view s.pass ≡ thief (stealing s).name (stealing s).stolen (stealing s).seen
    pub fifo : stealer_flavor s.end ≡ 0
    pub deque : IsPassOf (stealer_deque s.end) s.pass
