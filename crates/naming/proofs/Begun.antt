-- Sources that aren't cut into tokens.
use Rattle.std.proofs.Common.{◌≡◌, ap, ℕ, List, [], map, Vec, Result, Ok, Err, IfOk, inr}
use Rattle.tokens.specs.declared.cut.CutFault.{CutFault}
use Rattle.tokens.specs.declared.cut.CutFault.TheVariants.{Memory}
use Rattle.locations.specs.Spots.{IsUncut}
use Rattle.statements.specs.declared.statement_token.StatementToken.{StatementToken}
use Rattle.statements.specs.PlainStatementTokens.{plain_statement_token}
use Rattle.naming.specs.SourcePlaces.{AreStatementsOf}

-- no tokens are known of such a source that do something
pub no_statements : {A E : Type 0} (r : Result (Vec StatementToken A) E) (source : List ℕ) (fault : CutFault) → IsUncut source fault → IfOk r (λ found. found.items ≡ [])
    → IfOk r (λ found. fault ≡ Memory → ⊥) → IfOk r (λ found. AreStatementsOf source (map plain_statement_token found.items))
no_statements (Ok found) source fault uncut empty known = inr (ap (map plain_statement_token) empty, record { fault = fault; is_uncut = uncut; known = known })
no_statements (Err e) source fault uncut empty known = tt
