-- One process more, where it is woken.
use Rattle.std.proofs.Common.{◌≡◌, ℕ, ◌+◌, ◌<◌, ◌≤◌, List, [], ◌++◌, Option, map, take, length, sym, ap, subst, ◌∙◌, arith, eqb-true}
use Rattle.std.proofs.lemmas.List.{append-nil, take_all}
use Rattle.model.specs.Design.{Trigger}
use Rattle.model.specs.Turns.{contains}
use Rattle.design.specs.DesignInvariant.{remainder_of_state}
use Rattle.regions.specs.declared.queue.Continuation as queued
use Rattle.regions.specs.ProcessWaking.{triggers_at}
use Rattle.regions.specs.Queue.{Core, process_wait_of}
use Rattle.regions.specs.Machine.{state_at}
use Rattle.footprints.specs.Footprints.{woken_by_changes}
use Rattle.certificates.specs.Changes.{register_change_of}
use Rattle.noted.proofs.Growing.{grown_by}
use Rattle.heldmoves.specs.WithoutHeld.{without_held}
use Rattle.heldmoves.proofs.LeftAside.{length_asleep}
use Rattle.noted.specs.NotedSteps.{awaited_at, unless_among}
use Rattle.model.specs.States.{Continuation}
use Rattle.noted.proofs.Woken.{no_elements, none_woken, one_where, woken_more, awaited_is, awaited_beside, count_is}
use Rattle.noted.proofs.waking.note_woken.Goals as goal

pub loop-place-preserved : goal.loop-place-preserved
loop-place-preserved c =
    let m = c.args.machine.now in
    let rem = remainder_of_state m.code in
    let ps = (state_at m).processes in
    let held = c.args.held.now in
    let left = (without_held (contains held) (state_at m)).processes in
    let qs = c.processes-processes.result.now in
    let cs = c.args.changes.now in
    let i = c.loop-place.place in
    let p = c.index-processes-place.result in
    let b = c.is_woken.result in
    let n = c.number_at-process.result in
    let controls = c.controls-controls.result.now in
    let o = c.waits_beside-waits.result in
    let ts = triggers_at controls o in
    let are = subst (λ (k : Core). map (process_wait_of k.controls) qs ≡ k.processes) c.state-2.ensures c.processes-processes.ensures in
    let lt : i < length qs = omega arith in
    let within : i < length left = omega (arith, lt, count_is rem m.core qs are, length_asleep (contains held) 0 ps) in
    let same = c.controls-controls.ensures ∙ ap (λ (k : Core). k.controls) c.state.ensures in
    let found : awaited_at ps i ≡ triggers_at controls p.waits = awaited_is rem m.core qs i p are lt c.index-processes-place.is ∙ ap (λ (us : List (List Trigger)). triggers_at us p.waits) (sym same) in
    let own : o ≡ unless_among held i p.waits =
    c.waits_beside-waits.ensures ∙ ap (λ (q : queued.Continuation). unless_among held n q.waits) (sym c.index-processes-place.is) ∙ ap (λ (k : ℕ). unless_among held k p.waits) c.number_at-process.ensures in
    let waits : awaited_at left i ≡ ts = awaited_beside held controls ps i p.waits found ∙ ap (λ (w : Option ℕ). triggers_at controls w) (sym own) in
    let test = c.is_woken.ensures in
    grown_by c.args.woken.now c.loop-place.woken c.note_where.new.woken (woken_by_changes cs (take i left)) (woken_by_changes cs (take (i + 1) left)) (one_where b n) c.loop-place.invariant c.in_ok-note_where.ensures
    (woken_more cs left i n b ts within c.number_at-process.ensures test waits)

pub returns : goal.returns
returns c =
    let m = c.args.machine.now in
    let rem = remainder_of_state m.code in
    let ps = (state_at m).processes in
    let held = c.args.held.now in
    let left = (without_held (contains held) (state_at m)).processes in
    let qs = c.processes-processes.result.now in
    let cs = c.args.changes.now in
    let are = subst (λ (k : Core). map (process_wait_of k.controls) qs ≡ k.processes) c.state-2.ensures c.processes-processes.ensures in
    let all : length left ≤ c.loop-place.place = omega (arith, count_is rem m.core qs are, length_asleep (contains held) 0 ps) in
    c.loop-place.invariant ∙ ap (λ (xs : List Continuation). c.args.woken.now ++ woken_by_changes cs xs) (take_all c.loop-place.place left all)

pub returns-then-is_empty : goal.returns-then-is_empty
returns-then-is_empty c =
    let ps = (without_held (contains c.args.held.now) (state_at c.args.machine.now)).processes in
    let none : c.as_slice.result.now ≡ [] = no_elements c.as_slice.result.now (eqb-true (length c.as_slice.result.now) 0 (sym c.is_empty.ensures ∙ c.if-is_empty.true)) in
    sym (ap (λ ns. c.args.woken.now ++ ns) (none_woken c.args.changes.now ps (sym c.as_slice.ensures ∙ ap (λ cs. map register_change_of cs) none)) ∙ append-nil c.args.woken.now)
