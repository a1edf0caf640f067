-- The tokens of the source that do something, or none.
use Rattle.std.proofs.Common.{inl}
use Rattle.naming.proofs.Begun.{no_statements}
use Rattle.naming.proofs.places.statements_of.Goals as goal

pub returns-in-Ok : goal.returns-in-Ok
returns-in-Ok c = inl c.in-Ok.ensures.found

pub returns-in-Err : goal.returns-in-Err
returns-in-Err c =
    no_statements c.none_uncut.result c.args.source.now c.in-Err.fault c.in-Err.ensures.fault c.none_uncut.ensures.empty c.none_uncut.ensures.known
