-- Random orders, and something else than lines that is to be observed.
use Rattle.std.proofs.Common.{inl, inr, refl}
use Rattle.std.proofs.lemmas.Result.{err_from_is_err_and}
use Rattle.arguments.proofs.parsing.races_by.Goals as goal

pub returns-in_err-unless_in_vain-clause-failed : goal.returns-in_err-unless_in_vain-clause-failed
returns-in_err-unless_in_vain-clause-failed c =
    let yes = c.in_err-unless_in_vain.ensures.asks in
    let p = err_from_is_err_and c.from_residual.result c.from_residual.ensures.1 in
    rw (p.1, p.2) (inr (inr (inl (refl, c.samples_other.ensures.samples yes, (c.args.observed, c.requires.observed, c.samples_other.ensures.other yes), c.in_err-unless_in_vain.ensures.kind))))
