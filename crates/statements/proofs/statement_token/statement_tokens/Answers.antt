-- One token more, until none is left.
use Rattle.std.proofs.Common.{[], ◌∷◌, ◌++◌, map, ap, arith}
use Rattle.locations.specs.PlainSpots.{plain_spot}
use Rattle.statements.specs.PlainStatementTokens.{plain_statement_token}
use Rattle.statements.specs.StatementTokens.{tokens_behind}
use Rattle.statements.proofs.Behind.{front_more, tokens_end}
use Rattle.statements.proofs.statement_token.statement_tokens.Goals as goal

pub loop-left-init : goal.loop-left-init
loop-left-init c =
    ([], (c.of_nothing-context.ensures, ap (λ l. map plain_statement_token l ++ tokens_behind [] (map plain_spot c.as_slice-left.result.now)) c.new-found.ensures.items))

pub loop-left-preserved : goal.loop-left-preserved
loop-left-preserved c =
    let i = c.loop-left.invariant in (
      _ ∷ i.0,
      (
        c.behind-context.ensures i.0 i.1.0,
        front_more c.loop-left.left.now _ i.0 c.loop-left.context c.next_kind.result _ _ _ (omega (arith, c.in-len1-up.len_at_least)) i.1.0 c.next_kind.ensures c.in_ok-add_token.ensures i.1.1,
      ),
    )

pub returns-clause-found : goal.returns-clause-found
returns-clause-found c =
    let i = c.loop-left.invariant in
    tokens_end c.args.source.now c.in-Ok.spots.items c.as_slice-left.result.now c.loop-left.left.now i.0 (map plain_statement_token c.loop-left.found.items) c.in-Ok.ensures.found c.as_slice-left.ensures.value
    (omega (arith, c.in_default.len_below)) i.1.1
