-- A second module has the advice of one module.
use Rattle.diagnosis.proofs.Noted.{suits_module}
use Rattle.diagnosis.proofs.notes.advice_around.Goals as goal

pub returns-then-is_second_module : goal.returns-then-is_second_module
returns-then-is_second_module c = suits_module c.args.text.now (c.is_second_module.ensures c.if-is_second_module.true)
