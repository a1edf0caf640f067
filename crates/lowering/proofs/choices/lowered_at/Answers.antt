use Rattle.lowering.proofs.choices.lowered_at.Goals as goal

pub returns : goal.returns
returns c = c.in_ok-made.ensures
