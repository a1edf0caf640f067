-- One turn of the loop is one step of the recursion that the loop stands for.
use Rattle.std.proofs.Common.{◌≡◌, ℕ, List, Some, true, sym, ◌∙◌, rules, arith}
use Rattle.std.proofs.lemmas.Grind.{common_steps}
use Rattle.tokens.specs.Tokens.{PlainToken, PlainTokens}
use Rattle.grammar.specs.Cursor.{left_of, kind, sees, take}
use Rattle.tokens.specs.declared.token.Kind.TheVariants.{Begin, Else}
use Rattle.model.specs.Syntax.{Text, Expression, SourceStatement}
use Rattle.model.specs.Syntax as tree
use Rattle.model.specs.SourceTrees.{source_statements}
use Rattle.grammar.specs.Nodes.{statements_view}
use Rattle.grammar.specs.Reading as spec
use Rattle.grammar.specs.Reading.{parse_statements}
use Rattle.grammar.proofs.Turns.{one_more, deeper}
use Rattle.grammar.proofs.statement.+statement.Goals as goal

pub parse_block-loop-turn-preserved : goal.parse_block-loop-turn-preserved
unfolding parse_statements
parse_block-loop-turn-preserved t c =
    let e = one_more (λ n. parse_statements (spec.parse_statement c.args.budget) n (statements_view c.loop-turn.found) (left_of c.loop-turn.tokens)) c.args.budget c.loop-turn._turn c.loop-turn-test.true c.loop-turn.invariant in
    grind (arith, common_steps)

guarded_is : (inner : spec.Parser SourceStatement) (budget : ℕ) (t : PlainToken) (test : Expression Text) (body : List SourceStatement) (ts us vs ws : PlainTokens)
    → take ts ≡ Some (t, us) → spec.parse_parenthesized (spec.parse_expression budget) us ≡ Some (test, vs) → spec.parse_block inner budget vs ≡ Some (body, ws)
    → spec.parse_guarded inner budget ts ≡ Some ((test, body), ws)
unfolding spec.parse_guarded
guarded_is inner budget t test body ts us vs ws a b c = rw (a, b, c)

pub parse_guarded-returns : goal.parse_guarded-returns
parse_guarded-returns t c = guarded_is _ _ _ _ _ _ _ _ _ c.in_ok-take.ensures c.in_ok-test.ensures c.in_ok-body.ensures

if_is : (inner : spec.Parser SourceStatement) (budget : ℕ) (p : Expression Text × List SourceStatement) (ts us : PlainTokens)
    → spec.parse_guarded inner budget ts ≡ Some (p, us) → spec.parse_if inner budget ts ≡ spec.parse_else inner budget p.0 p.1 us
unfolding spec.parse_if
if_is inner budget p ts us a = rw a

pub parse_if-returns : goal.parse_if-returns
parse_if-returns t c = rw (if_is _ _ _ _ _ c.in_ok-found.ensures) c.parse_else.ensures

pub parse_statement-returns : goal.parse_statement-returns
parse_statement-returns t c = rw (deeper (λ n. spec.parse_statement n (left_of c.args.tokens.now)) c.args.budget (omega arith)) c.parse_form.ensures

else_is : (inner : spec.Parser SourceStatement) (budget : ℕ) (t : PlainToken) (test : Expression Text) (body other : List SourceStatement) (ts us rest : PlainTokens)
    → sees Else ts ≡ true → take ts ≡ Some (t, us) → spec.parse_block inner budget us ≡ Some (other, rest)
    → spec.parse_else inner budget test body ts ≡ Some (tree.IfElse test (source_statements body) (source_statements other), rest)
unfolding spec.parse_else
else_is inner budget t test body other ts us rest a b c = rw (a, b, c)

pub parse_else-returns : goal.parse_else-returns
parse_else-returns t c = rw c.if_else_of.ensures (else_is _ _ _ _ _ _ _ _ _ (sym c.sees.ensures ∙ c.if-not-sees.false) c.in_ok-take.ensures c.in_ok-other.ensures)

begin_is : (inner : spec.Parser SourceStatement) (budget : ℕ) (body : List SourceStatement) (ts rest : PlainTokens) → kind ts ≡ Begin → spec.parse_block inner budget ts ≡ Some (body, rest)
    → spec.parse_form inner budget ts ≡ Some (tree.Block (source_statements body), rest)
unfolding spec.parse_form
begin_is inner budget body ts rest a b = rw (a, b)

pub parse_form-returns-in_ok-found-in-Begin : goal.parse_form-returns-in_ok-found-in-Begin
parse_form-returns-in_ok-found-in-Begin t c = rw c.block_of.ensures (begin_is _ _ _ _ _ (sym c.kind.ensures ∙ c.in-Begin.is) c.in_ok-found-in-Begin.ensures)

while_is : (inner : spec.Parser SourceStatement) (budget : ℕ) (p : Expression Text × List SourceStatement) (ts us : PlainTokens)
    → spec.parse_guarded inner budget ts ≡ Some (p, us) → spec.parse_while inner budget ts ≡ Some (tree.While p.0 (source_statements p.1), us)
unfolding spec.parse_while
while_is inner budget p ts us a = rw a

pub parse_while-returns : goal.parse_while-returns
parse_while-returns t c = rw c.while_of.ensures (while_is _ _ _ _ _ c.in_ok-found.ensures)
