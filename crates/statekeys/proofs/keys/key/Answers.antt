use Rattle.std.proofs.Common.{◌≡◌, ℕ, List, [], ◌++◌, map, refl, sym, ◌∙◌, ap}
use Rattle.std.proofs.lemmas.Result.{on_ok_weaker}
use Rattle.design.specs.declared.code.ProcState.{ProcState}
use Rattle.statekeys.specs.KeyCodes.{nat_code, pair_code, list_code}
use Rattle.statekeys.specs.Keys.{KeyContent, IsToldOf, IsKey, process_code, update_code, key_code}
use Rattle.statekeys.specs.KeyParts.{going_on, unnumbered_update, due_assignment}
use Rattle.statekeys.proofs.Events.{active_told, inactive_told, nonblocking_told, future_inactive_told, future_nonblocking_told, processes_told}
use Rattle.statekeys.proofs.keys.key.Goals as goal

-- what is told of the state
abbrev told : goal.After-put_future_updates → KeyContent
told c =
    record {
      time = c.args.state.now.time;
      finished = c.args.state.now.finished;
      values = c.args.store.now;
      processes = map going_on c.processes.result.now;
      updates = map unnumbered_update c.active.result.0.now.items;
      evaluations = c.put_evaluations.new.processes.items;
      inactive = c.put_evaluations-2.new.processes.items;
      nonblocking = map unnumbered_update c.nonblocking.result.now.items;
      monitor = c.monitor.result.now;
      future_times = map (λ d. d.time) c.future_evaluations-future.result.now.items;
      future_evaluations = c.put_future_evaluations.new.processes.items;
      future_updates = map due_assignment c.future_updates.result.now.items;
    }

is_told : (c : goal.After-put_future_updates) → IsToldOf c.args.state.now c.args.store.now (told c)
is_told c = record {
  time = refl;
  finished = refl;
  store = refl;
  processes = processes_told _ _ _ c.processes.ensures;
  active = active_told c.active.result.0.now.items c.active.result.1.now.items c.put_evaluations.new.processes.items c.args.state.now.active
      c.active.ensures c.in_ok-put_evaluations.ensures.processes;
  inactive = inactive_told c.inactive.result.now.items c.put_evaluations-2.new.processes.items c.args.state.now.inactive
      c.inactive.ensures c.in_ok-put_evaluations-2.ensures.processes;
  nonblocking = nonblocking_told c.nonblocking.result.now.items c.args.state.now.nonblocking c.nonblocking.ensures;
  monitor = c.monitor.ensures;
  future_inactive = future_inactive_told c.future_evaluations-future.result.now.items c.put_future_evaluations.new.processes.items
      c.args.state.now.future_inactive c.future_evaluations-future.ensures c.in_ok-put_future_evaluations.ensures.processes;
  future_nonblocking = future_nonblocking_told c.future_updates.result.now.items c.args.state.now.future_nonblocking c.future_updates.ensures;
}

pub returns : goal.returns
returns c =
    let t : KeyContent = told c in
    let s1 = c.in_ok-put_processes.ensures ∙ ap (λ bs. bs ++ list_code process_code t.processes) c.in_ok-begin_key.ensures in
    let s2 = c.in_ok-put_updates.ensures ∙ ap (λ bs. bs ++ list_code update_code t.updates) s1 in
    let s3 = c.in_ok-put_evaluations.ensures.bytes ∙ ap (λ bs. bs ++ list_code nat_code t.evaluations) s2 in
    let s4 = c.in_ok-put_evaluations-2.ensures.bytes ∙ ap (λ bs. bs ++ list_code nat_code t.inactive) s3 in
    let s5 = c.in_ok-put_updates-2.ensures ∙ ap (λ bs. bs ++ list_code update_code t.nonblocking) s4 in
    let s6 = c.in_ok-put_slice.ensures ∙ ap (λ bs. bs ++ list_code nat_code t.monitor) s5 in
    let s7 = c.in_ok-put_times.ensures ∙ ap (λ bs. bs ++ list_code nat_code t.future_times) s6 in
    let s8 = c.in_ok-put_future_evaluations.ensures.bytes ∙ ap (λ bs. bs ++ list_code (pair_code nat_code nat_code) t.future_evaluations) s7 in
    let last : List ℕ = list_code (pair_code nat_code update_code) t.future_updates in
    let before : List ℕ = c.put_future_evaluations.new.bytes.items in
    let after : List ℕ = c.put_future_updates.new.bytes.items in
    let all : after ≡ before ++ last → IsKey c.args.state.now c.args.store.now after =
    λ e. (told c, is_told c, e ∙ ap (λ bs. bs ++ last) s8) in
    on_ok_weaker c.put_future_updates.result all c.put_future_updates.ensures
