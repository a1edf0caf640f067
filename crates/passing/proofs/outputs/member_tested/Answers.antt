-- Outputs that aren't tracked, or of which one is outside the cone, or that pass.
use Rattle.std.proofs.Common.{◌≡◌, ◌∙◌, [], ℕ, List, length, refl, false, ap, sym, subst}
use Rattle.std.specs.Prelude.{not, slice_get}
use Rattle.std.specs.List.{list_any}
use Rattle.model.specs.Turns.{contains}
use Rattle.phases.specs.Phase.{Block}
use Rattle.design.specs.Compiled.{Compiled}
use Rattle.regions.specs.Machine.{state_at}
use Rattle.settling.specs.Settling.{block_at}
use Rattle.settling.proofs.Phases.{member_block}
use Rattle.passing.specs.Moves.{passes_by}
use Rattle.passing.specs.Combinations.{PassFrom, MemberPasses}
use Rattle.passing.proofs.Chosen.{then_pass}
use Rattle.passing.proofs.Members.{member_if, member_passes, untracked_member, outside_member, some_outside, each_inside}
use Rattle.passing.proofs.outputs.member_tested.Goals as goal

pub inputs_tested-requires-clause-widths : goal.inputs_tested-requires-clause-widths
inputs_tested-requires-clause-widths c = c.requires ∙ ap (λ (k : Compiled). length k.widths) (sym c.design.ensures)

pub inputs_tested-requires-clause-tracked : goal.inputs_tested-requires-clause-tracked
inputs_tested-requires-clause-tracked c = λ r there.
    each_inside c.args.moves.now.tracked.items c.inputs_at-inputs.result.now
    (subst (λ (l : List ℕ). list_any (λ q. not (contains l q)) c.inputs_at-inputs.result.now ≡ false) c.deref-2.ensures.value (sym c.is_any_outside-2.ensures ∙ c.if-is_any_outside-2.false)) r there

pub returns-then-not-share : goal.returns-then-not-share
returns-then-not-share c = λ on.
    let m = c.args.machine.now in
    let held = c.args.held in
    let network = held.network.now in
    let p = c.args.process in
    let moves = c.args.moves.now in
    let outputs = c.outputs_at-outputs.result.now in
    member_if m.code network held.cone.now held.values.now (state_at m).time moves p (slice_get network.logics.items p) refl
    (λ logic found.
    let same : outputs ≡ (block_at m.code network p).outputs = c.outputs_at-outputs.ensures logic found ∙ sym (ap (λ (b : Block). b.outputs) (member_block m.code network p logic found)) in
    untracked_member m.code network held.cone.now held.values.now (state_at m).time moves p
    (λ r there.
    subst (λ (l : List ℕ). contains l r ≡ false) c.deref.ensures.value
    (c.share.ensures.apart c.if-not-share.true r (ap (λ (l : List ℕ). contains l r) same ∙ there))))

pub returns-then-is_any_outside : goal.returns-then-is_any_outside
returns-then-is_any_outside c = λ on.
    let m = c.args.machine.now in
    let held = c.args.held in
    let network = held.network.now in
    let cone = held.cone.now in
    let p = c.args.process in
    let moves = c.args.moves.now in
    let outputs = c.outputs_at-outputs.result.now in
    member_if m.code network cone held.values.now (state_at m).time moves p (slice_get network.logics.items p) refl
    (λ logic found.
    let same : outputs ≡ (block_at m.code network p).outputs = c.outputs_at-outputs.ensures logic found ∙ sym (ap (λ (b : Block). b.outputs) (member_block m.code network p logic found)) in
    outside_member m.code network cone held.values.now (state_at m).time (passes_by moves) p
    (λ inside. some_outside cone outputs (sym c.is_any_outside.ensures ∙ c.if-is_any_outside.true) (λ r there. inside r (sym (ap (λ (l : List ℕ). contains l r) same) ∙ there))))

pub returns : goal.returns
returns c =
    let m = c.args.machine.now in
    let held = c.args.held in
    let network = held.network.now in
    let cone = held.cone.now in
    let values = held.values.now in
    let p = c.args.process in
    let moves = c.args.moves.now in
    let place = c.in-Some.place in
    let inputs = c.inputs_at-inputs.result.now in
    let From : Compiled → ℕ → Type 0 = λ code now. PassFrom code place values now (passes_by moves) [] inputs in
    then_pass c.inputs_tested.result (From c.design.result.now c.time.result) (MemberPasses m.code network cone values (state_at m).time (passes_by moves) p)
    (λ from.
    member_if m.code network cone values (state_at m).time moves p (slice_get network.logics.items p) refl
    (λ logic found.
    let same : inputs ≡ (block_at m.code network p).inputs = c.inputs_at-inputs.ensures logic found ∙ sym (ap (λ (b : Block). b.inputs) (member_block m.code network p logic found)) in
    member_passes m.code network cone values (state_at m).time (passes_by moves) p place inputs same c.in-Some.ensures
    (subst (λ (k : Compiled). From k (state_at m).time) c.design.ensures (subst (λ (n : ℕ). From c.design.result.now n) c.time.ensures from))))
    c.inputs_tested.ensures
