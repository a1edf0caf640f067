-- Both a seed and a number of workers are given.
use Rattle.std.proofs.Common.{◌∙◌, inl, refl, sym}
use Rattle.std.proofs.lemmas.Result.{err_from_is_err_and}
use Rattle.arguments.proofs.parsing.asked_run.Goals as goal

pub returns-in_err-unless_in_vain-clause-failed : goal.returns-in_err-unless_in_vain-clause-failed
returns-in_err-unless_in_vain-clause-failed c =
    let p = err_from_is_err_and c.from_residual.result c.from_residual.ensures.1 in
    rw (p.1, p.2) (inl (refl, sym c.gives_two_orders.ensures ∙ c.in_err-unless_in_vain.ensures.asks, c.in_err-unless_in_vain.ensures.kind))
