-- What is read is spelled, and what is spelled is read.
use Rattle.std.proofs.Common.{map, arith}
use Rattle.std.proofs.lemmas.List.{length-map}
use Rattle.tokens.specs.Tokens.{plain_token}
use Rattle.grammar.proofs.SoundStatements.{sound-source}
use Rattle.vparse.proofs.Answered.{only, memory, syntax}
use Rattle.vparse.proofs.Nested.{deep_at, refused_at}
use Rattle.vparse.proofs.parser.read_module.Goals as goal

pub returns-in_default-clause-spelled : goal.returns-in_default-clause-spelled
returns-in_default-clause-spelled c = sound-source _ _ _ _ (rw c.new-cursor.ensures at c.in-Ok.ensures)

pub returns-in_default-clause-answered : goal.returns-in_default-clause-answered
returns-in_default-clause-answered c m d shallow =
    only _ _ m _ _ (omega (arith, length-map c.args.tokens.now plain_token)) (rw c.new-cursor.ensures at c.in-Ok.ensures) d

pub returns-in-Err-clause-answered : goal.returns-in-Err-clause-answered
returns-in-Err-clause-answered c m d shallow =
    memory _ _ c.in-Err.fault m _ _ _ c.new-cursor.ensures (omega (arith, length-map c.args.tokens.now plain_token)) (λ some. shallow (c.too_deep-stop.ensures.deep.0 some))
    c.in-Err.ensures d

pub returns-in-Err-clause-syntax : goal.returns-in-Err-clause-syntax
returns-in-Err-clause-syntax c m d =
    syntax _ _ c.in-Err.fault m _ _ _ c.new-cursor.ensures (omega (arith, length-map c.args.tokens.now plain_token)) c.in-Err.ensures d

pub returns-in-Err-clause-deep_first : goal.returns-in-Err-clause-deep_first
returns-in-Err-clause-deep_first c is =
    refused_at _ _ c.in-Err.fault (map plain_token c.args.tokens.now) _ _ c.len.result _ _ c.too_deep-stop.ensures.first c.len.ensures
    (length-map c.args.tokens.now plain_token) c.number.ensures.place c.in-Err.ensures is

pub returns-in-Some-clause-deep_first : goal.returns-in-Some-clause-deep_first
returns-in-Some-clause-deep_first c is =
    deep_at _ (map plain_token c.args.tokens.now) c.in-Some.left _ _ c.too_deep-stop.ensures.first c.in-Some.is
    (length-map c.args.tokens.now plain_token) c.number-in-Some.ensures.place
