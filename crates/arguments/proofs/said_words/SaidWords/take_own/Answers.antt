-- An option whose value is awaited, or one with its value.
use Rattle.std.proofs.Common.{◌∙◌, ap, sym}
use Rattle.arguments.specs.VerilogWords.{plain_said, settled}
use Rattle.arguments.proofs.SaidLemmas.{fault_back, own_alone, own_with, same_fault, settled_fault}
use Rattle.arguments.proofs.said_words.SaidWords.take_own.Goals as goal

pub returns-then-is_empty-clause-taken : goal.returns-then-is_empty-clause-taken
returns-then-is_empty-clause-taken c = own_alone (plain_said c.args.self.now) c.args.option c.args.value.now (sym c.is_empty.ensures ∙ c.if-is_empty.true)

pub returns-in_err-say-clause-refused : goal.returns-in_err-say-clause-refused
returns-in_err-say-clause-refused c =
    fault_back c.from_residual.result _ _ c.from_residual.ensures.1
    (same_fault _ _ _ (sym (own_with (plain_said c.args.self.now) c.args.option c.args.value.now (sym c.is_empty.ensures ∙ c.if-is_empty.false))) (settled_fault _ _ c.in_err-say.ensures.refused))

pub returns-clause-taken : goal.returns-clause-taken
returns-clause-taken c = own_with (plain_said c.args.self.now) c.args.option c.args.value.now (sym c.is_empty.ensures ∙ c.if-is_empty.false) ∙ ap settled c.in_ok-say.ensures.said
