-- The process is made of the one that stands at the token.
use Rattle.std.proofs.Common.{refl}
use Rattle.routines.proofs.processes.plain_process.Goals as goal

pub returns : goal.returns
returns c = record {
  construct = c.in-Some.process.now;
  is_one = (c.in-Some.process, c.in-Some.ensures.1, refl);
  at_token = c.in-Some.ensures.0;
  scope = refl;
  token = refl;
  repeats = refl;
}
