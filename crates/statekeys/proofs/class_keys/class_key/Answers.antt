use Rattle.std.proofs.Common.{◌≡◌, ℕ, List, ◌++◌, map, refl, ◌∙◌, ap}
use Rattle.std.proofs.lemmas.Result.{on_ok_weaker}
use Rattle.statekeys.specs.KeyCodes.{nat_code, pair_code, list_code}
use Rattle.statekeys.specs.Keys.{KeyContent, process_code, update_code}
use Rattle.loose.specs.Classes.{class_in}
use Rattle.statekeys.specs.ClassKeys.{IsToldInClasses, IsClassKey}
use Rattle.statekeys.specs.KeyParts.{going_on, unnumbered_update, due_assignment}
use Rattle.statekeys.proofs.Events.{inactive_told, future_inactive_told, processes_told}
use Rattle.statekeys.proofs.ClassKeys.{active_told_in, nonblocking_told_in, future_told_in}
use Rattle.statekeys.proofs.class_keys.class_key.Goals as goal

-- what is told of the state
abbrev told : goal.After-put_times-2 → KeyContent
told c =
    record {
      time = c.args.state.now.time;
      finished = c.args.state.now.finished;
      values = c.args.store.now;
      processes = map going_on c.processes.result.now;
      updates = map unnumbered_update c.put_grouped.new.grouped.items;
      evaluations = c.put_evaluations.new.processes.items;
      inactive = c.put_evaluations-2.new.processes.items;
      nonblocking = map unnumbered_update c.put_grouped-2.new.grouped.items;
      monitor = c.monitor.result.now;
      future_times = map (λ d. d.time) c.future_evaluations-future.result.now.items;
      future_evaluations = c.put_future_evaluations.new.processes.items;
      future_updates = map due_assignment c.put_future_grouped.new.grouped.items;
    }

-- the times of the updates to come
abbrev update_times : goal.After-put_times-2 → List ℕ
update_times c = map (λ d. d.time) c.future_updates-future_updates.result.now.items

is_told : (c : goal.After-put_times-2) → IsToldInClasses (class_in c.args.classes.now) c.args.state.now c.args.store.now (told c) (update_times c)
is_told c = record {
  time = refl;
  finished = refl;
  store = refl;
  processes = processes_told _ _ _ c.processes.ensures;
  active = active_told_in (class_in c.args.classes.now) c.active.result.0.now.items (map unnumbered_update c.put_grouped.new.grouped.items)
      c.active.result.1.now.items c.put_evaluations.new.processes.items c.args.state.now.active
      c.active.ensures c.in_ok-put_grouped.ensures.grouped c.in_ok-put_evaluations.ensures.processes;
  inactive = inactive_told c.inactive.result.now.items c.put_evaluations-2.new.processes.items c.args.state.now.inactive
      c.inactive.ensures c.in_ok-put_evaluations-2.ensures.processes;
  nonblocking = nonblocking_told_in (class_in c.args.classes.now) c.nonblocking.result.now.items
      (map unnumbered_update c.put_grouped-2.new.grouped.items) c.args.state.now.nonblocking c.nonblocking.ensures
      c.in_ok-put_grouped-2.ensures.grouped;
  monitor = c.monitor.ensures;
  future_inactive = future_inactive_told c.future_evaluations-future.result.now.items c.put_future_evaluations.new.processes.items
      c.args.state.now.future_inactive c.future_evaluations-future.ensures c.in_ok-put_future_evaluations.ensures.processes;
  future_nonblocking = future_told_in (class_in c.args.classes.now) c.future_updates-future_updates.result.now.items
      (map due_assignment c.put_future_grouped.new.grouped.items) c.args.state.now.future_nonblocking c.future_updates-future_updates.ensures
      c.in_ok-put_future_grouped.ensures.due c.in_ok-put_future_grouped.ensures.in_time;
}

pub returns : goal.returns
returns c =
    let t : KeyContent = told c in
    let s1 = c.in_ok-put_processes.ensures ∙ ap (λ bs. bs ++ list_code process_code t.processes) c.in_ok-begin_key.ensures in
    let s2 = c.in_ok-put_grouped.ensures.bytes ∙ ap (λ bs. bs ++ list_code update_code t.updates) s1 in
    let s3 = c.in_ok-put_evaluations.ensures.bytes ∙ ap (λ bs. bs ++ list_code nat_code t.evaluations) s2 in
    let s4 = c.in_ok-put_evaluations-2.ensures.bytes ∙ ap (λ bs. bs ++ list_code nat_code t.inactive) s3 in
    let s5 = c.in_ok-put_grouped-2.ensures.bytes ∙ ap (λ bs. bs ++ list_code update_code t.nonblocking) s4 in
    let s6 = c.in_ok-put_slice.ensures ∙ ap (λ bs. bs ++ list_code nat_code t.monitor) s5 in
    let s7 = c.in_ok-put_times.ensures ∙ ap (λ bs. bs ++ list_code nat_code t.future_times) s6 in
    let s8 = c.in_ok-put_future_evaluations.ensures.bytes ∙ ap (λ bs. bs ++ list_code (pair_code nat_code nat_code) t.future_evaluations) s7 in
    let s9 = c.in_ok-put_future_grouped.ensures.bytes ∙ ap (λ bs. bs ++ list_code (pair_code nat_code update_code) t.future_updates) s8 in
    let last : List ℕ = list_code nat_code (update_times c) in
    let before : List ℕ = c.put_future_grouped.new.bytes.items in
    let after : List ℕ = c.put_times-2.new.bytes.items in
    let all : after ≡ before ++ last → IsClassKey (class_in c.args.classes.now) c.args.state.now c.args.store.now after =
    λ e. record { told = told c; update_times = update_times c; of_state = is_told c; bytes = e ∙ ap (λ bs. bs ++ last) s9 } in
    on_ok_weaker c.put_times-2.result all c.put_times-2.ensures
