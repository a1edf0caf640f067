-- Where processes, and what they do, stand in a source.
use Rattle.std.specs.Prelude.{◌≡◌, ◌⊎◌, ℕ, List, [], map}
use Rattle.tokens.specs.declared.cut.CutFault.{CutFault}
use Rattle.tokens.specs.declared.cut.CutFault.TheVariants.{Memory}
use Rattle.locations.specs.declared.location.ProcessLocation.{ProcessLocation}
use Rattle.locations.specs.Spots.{IsUncut}
use Rattle.statements.specs.PlainStatementTokens.{plain_statement_token}
use Rattle.statements.specs.StatementTokens.{AreStatementTokens, PlainStatementToken}
use Rattle.naming.specs.declared.places.SourcePlaces.{SourcePlaces}

-- A source isn't cut into tokens, and not for want of memory.
pub record HasNoCut (source : List ℕ) : Type 0 where
  pub fault : CutFault
  pub is_uncut : IsUncut source fault
  pub known : fault ≡ Memory → ⊥

-- these are the tokens of a source that do something in a statement; none where it isn't cut into tokens
abbrev pub AreStatementsOf : List ℕ → List PlainStatementToken → Type 0
AreStatementsOf source tokens = AreStatementTokens source tokens ⊎ ((tokens ≡ []) × HasNoCut source)

-- these are the processes, as people call them, and the places of a source
pub record ArePlacesOf (processes : List ProcessLocation) (source : List ℕ) (places : SourcePlaces) : Type 0 where
  pub source_is : places.source.now ≡ source
  pub processes_are : places.processes.now ≡ processes
  pub statements_are : AreStatementsOf source (map plain_statement_token places.statements.now)
