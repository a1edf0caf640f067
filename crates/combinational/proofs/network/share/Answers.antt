-- A register that both have.
use Rattle.std.proofs.Common.{◌==◌, get_or, refl, sym, ◌∙◌, eq-eqb}
use Rattle.std.proofs.lemmas.List.Folds.{list_any_at}
use Rattle.combinational.proofs.network.share.Goals as goal

pub returns-then-is_among-clause-common : goal.returns-then-is_among-clause-common
returns-then-is_among-clause-common c = λ _.
    let registers = c.args.registers.now in
    let register = get_or registers c.loop-register.register-index 0 in
    (register, list_any_at (λ q. q == register) registers c.loop-register.register-index 0 c.loop-register-test.true (eq-eqb register register refl), sym c.is_among.ensures ∙ c.if-is_among.true)
