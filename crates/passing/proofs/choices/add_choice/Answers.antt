-- The move is there where it passes.
use Rattle.std.proofs.Common.{◌∙◌, [], ◌∷◌, List, sym, subst, true≢false}
use Rattle.std.specs.List.{Contains}
use Rattle.std.proofs.lemmas.List.Elements.{Contains-append_left, Contains-push}
use Rattle.certificates.specs.declared.changes.NotedChange.{NotedChange}
use Rattle.passing.proofs.choices.add_choice.Goals as goal

pub returns-then-not-allow-clause-kept : goal.returns-then-not-allow-clause-kept
returns-then-not-allow-clause-kept c = λ m there. there

pub returns-then-not-allow-clause-added : goal.returns-then-not-allow-clause-added
returns-then-not-allow-clause-added c = λ may. absurd (true≢false (sym may ∙ sym c.allow.ensures ∙ c.if-not-allow.true))

pub returns-clause-kept : goal.returns-clause-kept
returns-clause-kept c = λ m there.
    subst (λ (ms : List NotedChange). Contains ms m) (sym c.in_ok-push.ensures.items) (Contains-append_left c.args.choices.now.items (c.args.choice ∷ []) m there)

pub returns-clause-added : goal.returns-clause-added
returns-clause-added c = λ may.
    subst (λ (ms : List NotedChange). Contains ms c.args.choice) (sym c.in_ok-push.ensures.items) (Contains-push c.args.choices.now.items c.args.choice)
