-- A letter stands for no digits, or the first entry that is to be told stands behind the last one, or the first time does.
use Rattle.std.proofs.Common.{◌∙◌, inl, inr, refl, sym}
use Rattle.std.proofs.lemmas.Result.{err_from_is_err_and}
use Rattle.arguments.proofs.parsing.asked_telling.Goals as goal

pub returns-in_err-unless_in_vain-clause-failed : goal.returns-in_err-unless_in_vain-clause-failed
returns-in_err-unless_in_vain-clause-failed c =
    let p = err_from_is_err_and c.from_residual.result c.from_residual.ensures.1 in
    rw (p.1, p.2) (inr (inr (inr (refl, inl (c.has_no_radix.ensures c.in_err-unless_in_vain.ensures.asks), c.in_err-unless_in_vain.ensures.kind))))

pub returns-in_err-unless_in_vain-2-clause-failed : goal.returns-in_err-unless_in_vain-2-clause-failed
returns-in_err-unless_in_vain-2-clause-failed c =
    let p = err_from_is_err_and c.from_residual-in_err-unless_in_vain-2.result c.from_residual-in_err-unless_in_vain-2.ensures.1 in
    rw (p.1, p.2) (inr (inr (inr (refl, inr (inl (sym c.tells_no_entry.ensures ∙ c.in_err-unless_in_vain-2.ensures.asks)), c.in_err-unless_in_vain-2.ensures.kind))))

pub returns-in_err-unless_in_vain-3-clause-failed : goal.returns-in_err-unless_in_vain-3-clause-failed
returns-in_err-unless_in_vain-3-clause-failed c =
    let p = err_from_is_err_and c.from_residual-in_err-unless_in_vain-3.result c.from_residual-in_err-unless_in_vain-3.ensures.1 in
    rw (p.1, p.2) (inr (inr (inr (refl, inr (inr (sym c.tells_no_time.ensures ∙ c.in_err-unless_in_vain-3.ensures.asks)), c.in_err-unless_in_vain-3.ensures.kind))))
