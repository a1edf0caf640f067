-- It was pending, an input has another value, or it is untouched and has settled.
use Rattle.std.proofs.Common.{◌≡◌, ◌∙◌, ℕ, Bool, true, List, ap, sym}
use Rattle.std.proofs.lemmas.Result.{IfOk-weaker}
use Rattle.model.specs.Turns.{contains}
use Rattle.regions.specs.Machine.{state_at}
use Rattle.settling.specs.Settling.{IsPendingOrSettled}
use Rattle.settling.specs.Settled.{HasSettledSince}
use Rattle.settling.proofs.Since.{pending_since, changed_since, kept_since}
use Rattle.settling.proofs.between.settles.Goals as goal

pub returns-then-is_among : goal.returns-then-is_among
returns-then-is_among c = λ on.
    pending_since c.args.begin.now c.args.machine.now c.args.network.now c.args.process
    (ap (λ (l : List ℕ). contains l c.args.process) (sym c.deref.ensures.value) ∙ (sym c.is_among.ensures ∙ c.if-is_among.true))

pub returns-then-any_differs : goal.returns-then-any_differs
returns-then-any_differs c = λ on.
    changed_since c.args.begin.now c.args.machine.now c.args.network.now c.args.process c.in-Some.logic.now c.as_slice.result.now c.store.result.now c.in-Some.ensures.found c.as_slice.ensures.value c.store.ensures
    (c.any_differs.ensures c.if-any_differs.true)

pub returns : goal.returns
returns c =
    let m = c.args.machine.now in
    let begin = c.args.begin.now in
    let network = c.args.network.now in
    let p = c.args.process in
    IfOk-weaker c.is_pending_or_settled.result (λ (b : Bool). b ≡ true → IsPendingOrSettled m.code (state_at m) network p) (λ (b : Bool). b ≡ true → HasSettledSince begin m network p)
    (λ b h on.
    kept_since begin m network p c.in-Some.logic.now c.store-2.result.now c.in-Some.ensures.found c.store-2.ensures (c.is_untouched.ensures.inputs c.if-not-is_untouched.false)
    (c.is_untouched.ensures.outputs c.if-not-is_untouched.false) c.stands.ensures (h on))
    c.is_pending_or_settled.ensures
