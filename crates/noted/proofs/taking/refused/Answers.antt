use Rattle.noted.proofs.taking.refused.Goals as goal

pub returns : goal.returns
returns c = record { stop = c.in-Err.ensures.stop; same = c.in-Err.ensures.err }
