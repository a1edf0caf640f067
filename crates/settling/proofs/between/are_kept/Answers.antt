-- Each is kept.
use Rattle.std.proofs.Common.{◌≡◌, ◌<◌, ℕ, length, subst, arith}
use Rattle.std.proofs.lemmas.List.{get_or_default}
use Rattle.model.specs.Expressions.{value_of}
use Rattle.settling.proofs.Listed.{all_there, upto_more}
use Rattle.settling.proofs.between.are_kept.Goals as goal

pub loop-register-preserved : goal.loop-register-preserved
loop-register-preserved c =
    let registers = c.args.registers.now in
    let i = c.loop-register.register-index in
    let within : i < length registers = omega arith in
    upto_more (λ (r : ℕ). value_of c.args.begin.now r ≡ value_of c.args.end.now r) registers i c.loop-register.invariant
    (λ d. subst (λ (r : ℕ). value_of c.args.begin.now r ≡ value_of c.args.end.now r) (get_or_default registers i 0 d within) (c.is_kept.ensures c.if-not-is_kept.false))

pub returns : goal.returns
returns c = λ on r there.
    all_there (λ (q : ℕ). value_of c.args.begin.now q ≡ value_of c.args.end.now q) c.args.registers.now r (λ k d within. c.loop-register.invariant k d (omega (arith, within))) there
