-- The value is there where it is one of the register.
use Rattle.std.proofs.Common.{[], ◌∷◌, List, sym, subst}
use Rattle.std.specs.List.{Contains}
use Rattle.std.proofs.lemmas.List.Elements.{Contains-append_left, Contains-push}
use Rattle.logic4.specs.Vector.{Vector}
use Rattle.passing.proofs.choices.add_after.Goals as goal

pub returns-then-own-register-clause-kept : goal.returns-then-own-register-clause-kept
returns-then-own-register-clause-kept c = λ v there. there

pub returns-then-own-register-clause-added : goal.returns-then-own-register-clause-added
returns-then-own-register-clause-added c = λ same. absurd (c.if-own-register.true same)

pub returns-clause-kept : goal.returns-clause-kept
returns-clause-kept c = λ v there.
    subst (λ (vs : List Vector). Contains vs v) (sym c.in_ok-push.ensures.items) (Contains-append_left c.args.values.now.items (c.args.own.after ∷ []) v there)

pub returns-clause-added : goal.returns-clause-added
returns-clause-added c = λ same.
    subst (λ (vs : List Vector). Contains vs c.args.own.after) (sym c.in_ok-push.ensures.items) (Contains-push c.args.values.now.items c.args.own.after)
