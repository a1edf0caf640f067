-- What a copy of the regions has.
use Rattle.std.specs.Prelude.{◌≡◌, ◌≤◌}
use Rattle.std.specs.Vec.{vec_len, vec_capacity}
use Rattle.std.specs.VecDeque.{deque_len, deque_capacity}
use Rattle.regions.specs.declared.queue.Queue.{Queue}
use Rattle.regions.specs.Queue.{core_of}

-- the copy is seen as the same regions, and has the same processes and waiters
pub record IsCopy (q copy : Queue) : Type 0 where
  pub core : core_of copy ≡ core_of q
  pub processes : copy.processes.items ≡ q.processes.items
  pub waiters : copy.waiters.items ≡ q.waiters.items

-- Room was made, and nothing else changed.
pub record HasMoreRoom (old new : Queue) : Type 0 where
  pub frame : new ≡ record old { processes = new.processes; waiters = new.waiters; updates = new.updates; evaluations = new.evaluations; inactive = new.inactive; nonblocking = new.nonblocking; monitor = new.monitor; future_inactive = new.future_inactive; future_nonblocking = new.future_nonblocking }
  pub processes : new.processes.items ≡ old.processes.items
  pub waiters : new.waiters.items ≡ old.waiters.items
  pub updates : new.updates.items ≡ old.updates.items
  pub evaluations : new.evaluations.items ≡ old.evaluations.items
  pub inactive : new.inactive.items ≡ old.inactive.items
  pub nonblocking : new.nonblocking.items ≡ old.nonblocking.items
  pub monitor : new.monitor.items ≡ old.monitor.items
  pub future_inactive : new.future_inactive.items ≡ old.future_inactive.items
  pub future_nonblocking : new.future_nonblocking.items ≡ old.future_nonblocking.items

-- a queue has room for the processes, the waiters and the events of another
pub record HasRoomFor (other q : Queue) : Type 0 where
  pub processes : vec_len other.processes ≤ vec_capacity q.processes
  pub waiters : vec_len other.waiters ≤ vec_capacity q.waiters
  pub monitor : vec_len other.monitor ≤ vec_capacity q.monitor
  pub updates : deque_len other.updates ≤ deque_capacity q.updates
  pub evaluations : deque_len other.evaluations ≤ deque_capacity q.evaluations
  pub inactive : deque_len other.inactive ≤ deque_capacity q.inactive
  pub nonblocking : deque_len other.nonblocking ≤ deque_capacity q.nonblocking
  pub future_inactive : deque_len other.future_inactive ≤ deque_capacity q.future_inactive
  pub future_nonblocking : deque_len other.future_nonblocking ≤ deque_capacity q.future_nonblocking
