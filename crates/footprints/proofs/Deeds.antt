-- What a turn or an update makes of a state: each part of it, without the numbers of new events.
use Rattle.std.proofs.Common.{◌≡◌, ℕ, ◌+◌, Bool, false, List, [], ◌∷◌, ◌++◌, map, Option, Some, None, refl, sym, ap, subst, ◌∙◌}
use Rattle.std.specs.Prelude.{slice_set}
use Rattle.std.specs.List.{enumerate_from}
use Rattle.logic4.specs.Vector.{Vector}
use Rattle.model.specs.Turns.{Wait, Ended, NonblockingAssignment, Turn}
use Rattle.model.specs.States.{State, Continuation, change_all, schedule_all, schedule_wait, taking, turned, updated, without, due_at}
use Rattle.model.specs.Laws.{evaluations_in}
use Rattle.orders.specs.Alike.{IsInOrder, times, updates_in}
use Rattle.orders.specs.Apart.{all_given, continuation_after, updates_for}
use Rattle.orders.proofs.StatesInOrder.{in_order-change_all, in_order-taking, in_order-schedule_all, in_order-turned}
use Rattle.orders.proofs.Stores.{append-none}
use Rattle.orders.proofs.Scheduling.{Scheduled, Waiting, schedule_all_is, schedule_wait_is, later_updates, later_times, waits_now, waits_at, wait_times}
use Rattle.footprints.specs.Footprints.{RegisterChange, changes_made}
use Rattle.footprints.proofs.Waking.{after_changes, woken_from, evaluations_made, change_all_is}

-- what a step does: the number of the event that it takes, its writes, what its own process is after it, if it has one, and what it
-- makes for later
pub record Deed : Type 0 where
  pub number : ℕ
  pub writes : List (ℕ × Vector)
  pub own : Option (ℕ × Continuation)
  pub nbas : List NonblockingAssignment
  pub strobes : List ℕ
  pub process : ℕ
  pub wait : Wait
  pub finish : Bool

-- the deed of a turn
abbrev pub turn_deed : ℕ → ℕ → Turn → Deed
turn_deed n p t =
    record { number = n; writes = t.writes; own = Some (p, continuation_after t); nbas = t.nbas; strobes = t.strobes; process = p; wait = t.wait; finish = t.finish }

-- the deed of an update
abbrev pub update_deed : ℕ → ℕ → Vector → Deed
update_deed n r v = record { number = n; writes = (r, v) ∷ []; own = None; nbas = []; strobes = []; process = 0; wait = Ended; finish = false }

-- processes, of which one goes on
abbrev pub placed : Option (ℕ × Continuation) → List Continuation → List Continuation
placed None ps = ps
placed (Some own) ps = slice_set ps own.0 own.1

-- the changes of a deed
abbrev pub changes_by : State → Deed → List RegisterChange
changes_by s d = changes_made s.store d.writes

-- a state after a deed
abbrev pub Done : State → Deed → State → Type 0
Done s d f =
    record {
      order : IsInOrder f;
      time : f.time ≡ s.time;
      store : f.store ≡ all_given s.store d.writes;
      processes : f.processes ≡ placed d.own (map (woken_from (changes_by s d)) s.processes);
      active : f.active ≡ without d.number s.active ++ enumerate_from s.next_event (evaluations_made (changes_by s d) s.processes);
      inactive_updates : updates_in f.inactive ≡ updates_in s.inactive;
      inactive : (q : ℕ) → evaluations_in q f.inactive ≡ evaluations_in q s.inactive + waits_now q d.process d.wait;
      updates : updates_in f.nonblocking ≡ updates_in s.nonblocking ++ updates_for s.time d.nbas;
      evaluations : (q : ℕ) → evaluations_in q f.nonblocking ≡ evaluations_in q s.nonblocking;
      monitor : f.monitor ≡ s.monitor ++ d.strobes;
      waits_times : times f.future_inactive ≡ wait_times d.wait (times s.future_inactive);
      waits_updates : (time : ℕ) → updates_in (due_at time f.future_inactive) ≡ updates_in (due_at time s.future_inactive);
      waits : (time q : ℕ) → evaluations_in q (due_at time f.future_inactive) ≡ evaluations_in q (due_at time s.future_inactive) + waits_at time q d.process d.wait;
      nbas_times : times f.future_nonblocking ≡ later_times s.time d.nbas (times s.future_nonblocking);
      nbas_updates : (time : ℕ) → updates_in (due_at time f.future_nonblocking) ≡ updates_in (due_at time s.future_nonblocking) ++ later_updates s.time time d.nbas;
      nbas_evaluations : (time q : ℕ) → evaluations_in q (due_at time f.future_nonblocking) ≡ evaluations_in q (due_at time s.future_nonblocking);
      finished : f.finished ≡ d.finish;
    }

-- the last part of a deed
abbrev ended : Deed → State → State
ended d z = record z { processes = placed d.own z.processes; monitor = z.monitor ++ d.strobes; finished = d.finish }

done_of : (s : State) (d : Deed) (x y z : State) → x ≡ after_changes (taking d.number s) (changes_by s d) (all_given s.store d.writes) → Scheduled x d.nbas y → Waiting y d.process d.wait z → IsInOrder (ended d z) → Done s d (ended d z)
done_of s d x y z is h i order =
    let time : x.time ≡ s.time = ap (λ a. a.time) is in
    let inactive : y.inactive ≡ s.inactive = h.inactive ∙ ap (λ a. a.inactive) is in
    let nonblocking : x.nonblocking ≡ s.nonblocking = ap (λ a. a.nonblocking) is in
    let fi : y.future_inactive ≡ s.future_inactive = h.future_inactive ∙ ap (λ a. a.future_inactive) is in
    let fn : x.future_nonblocking ≡ s.future_nonblocking = ap (λ a. a.future_nonblocking) is in
    record {
      order = order;
      time = i.time ∙ h.time ∙ time;
      store = i.store ∙ h.store ∙ ap (λ a. a.store) is;
      processes = ap (placed d.own) (i.processes ∙ h.processes ∙ ap (λ a. a.processes) is);
      active = i.active ∙ h.active ∙ ap (λ a. a.active) is;
      inactive_updates = i.updates ∙ ap updates_in inactive;
      inactive = λ q. i.evaluations q ∙ ap (λ es. evaluations_in q es + waits_now q d.process d.wait) inactive;
      updates = ap updates_in i.nonblocking ∙ h.updates ∙ ap (λ es. updates_in es ++ updates_for x.time d.nbas) nonblocking ∙ ap (λ c. updates_in s.nonblocking ++ updates_for c d.nbas) time;
      evaluations = λ q. ap (evaluations_in q) i.nonblocking ∙ h.evaluations q ∙ ap (evaluations_in q) nonblocking;
      monitor = ap (λ ms. ms ++ d.strobes) (i.monitor ∙ h.monitor ∙ ap (λ a. a.monitor) is);
      waits_times = i.times ∙ ap (λ es. wait_times d.wait (times es)) fi;
      waits_updates = λ c. i.due c ∙ ap (λ es. updates_in (due_at c es)) fi;
      waits = λ c q. i.due_evaluations c q ∙ ap (λ es. evaluations_in q (due_at c es) + waits_at c q d.process d.wait) fi;
      nbas_times = ap times i.future_nonblocking ∙ h.times ∙ ap (λ es. later_times x.time d.nbas (times es)) fn ∙ ap (λ c. later_times c d.nbas (times s.future_nonblocking)) time;
      nbas_updates = λ c. ap (λ es. updates_in (due_at c es)) i.future_nonblocking ∙ h.due c ∙ ap (λ es. updates_in (due_at c es) ++ later_updates x.time c d.nbas) fn ∙ ap (λ t. updates_in (due_at c s.future_nonblocking) ++ later_updates t c d.nbas) time;
      nbas_evaluations = λ c q. ap (λ es. evaluations_in q (due_at c es)) i.future_nonblocking ∙ h.due_evaluations c q ∙ ap (λ es. evaluations_in q (due_at c es)) fn;
      finished = refl;
    }

-- a turn does its deed
pub turned_is_done : (s : State) (n p : ℕ) (t : Turn) → IsInOrder s → Done s (turn_deed n p t) (turned s n p t)
turned_is_done s n p t order =
    let x : State = change_all (taking n s) t.writes in
    let y : State = schedule_all x t.nbas in
    let x_order : IsInOrder x = in_order-change_all (taking n s) t.writes (in_order-taking n s order) in
    done_of s (turn_deed n p t) x y (schedule_wait p t.wait y) (change_all_is (taking n s) t.writes) (schedule_all_is x t.nbas x_order)
    (schedule_wait_is y p t.wait (in_order-schedule_all x t.nbas x_order)) (in_order-turned s n p t order)

plain_end : (x : State) (ms : List ℕ) (b : Bool) → ms ≡ x.monitor → b ≡ x.finished → ◌≡◌ {A = State} (record x { monitor = ms; finished = b }) x
plain_end x ms b g h = rw (g, h) refl

-- an update does its deed
pub updated_is_done : (s : State) (n r : ℕ) (v : Vector) → IsInOrder s → s.finished ≡ false → Done s (update_deed n r v) (updated s n r v)
updated_is_done s n r v order going =
    let d : Deed = update_deed n r v in
    let x : State = updated s n r v in
    let x_order : IsInOrder x = in_order-change_all (taking n s) ((r, v) ∷ []) (in_order-taking n s order) in
    let is : x ≡ after_changes (taking n s) (changes_by s d) (all_given s.store d.writes) = change_all_is (taking n s) ((r, v) ∷ []) in
    let done : Done s d (ended d x) = done_of s d x x x is (schedule_all_is x [] x_order) (schedule_wait_is x 0 Ended x_order) x_order in
    let same : ended d x ≡ x = plain_end x (x.monitor ++ []) false (append-none x.monitor) (sym (ap (λ a. a.finished) is ∙ going)) in
    subst (λ f. Done s d f) same done
