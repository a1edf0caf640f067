-- The outputs of one process more.
use Rattle.std.proofs.Common.{◌<◌, ℕ, length, subst, arith}
use Rattle.std.proofs.lemmas.List.{get_or_default}
use Rattle.regions.specs.Machine.{state_at}
use Rattle.settling.proofs.Listed.{all_there, upto_more}
use Rattle.passing.specs.Moves.{passes_by}
use Rattle.passing.specs.Combinations.{MemberPasses}
use Rattle.passing.proofs.outputs.members_tested.Goals as goal

pub loop-process-preserved : goal.loop-process-preserved
loop-process-preserved c =
    let m = c.args.machine.now in
    let held = c.args.held in
    let members = held.members.now in
    let i = c.loop-process.process-index in
    let within : i < length members = omega arith in
    let Is : ℕ → Type 0 = MemberPasses m.code held.network.now held.cone.now held.values.now (state_at m).time (passes_by c.args.moves.now) in
    upto_more Is members i c.loop-process.invariant (λ d. subst Is (get_or_default members i 0 d within) (c.in_ok-other.ensures c.in-Pass.is))

pub returns : goal.returns
returns c = λ on p there.
    let m = c.args.machine.now in
    let held = c.args.held in
    all_there (MemberPasses m.code held.network.now held.cone.now held.values.now (state_at m).time (passes_by c.args.moves.now)) held.members.now p (λ k d within. c.loop-process.invariant k d (omega (arith, within))) there
