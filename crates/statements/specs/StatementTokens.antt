-- The tokens of a source that do something in a statement.
use Rattle.std.specs.Prelude.{◌≡◌, ℕ, List, [], ◌∷◌, ◌++◌, ◌||◌, Option, Some, None}
use Rattle.tokens.specs.declared.token.Kind.{Kind}
use Rattle.tokens.specs.declared.token.Kind.TheVariants as k
use Rattle.locations.specs.Spots.{PlainSpot, AreSpots}
use Rattle.statements.specs.declared.part.StatementPart.{StatementPart}
use Rattle.statements.specs.TokenContexts.{begins_statement, in_declaration, in_event_list, in_strobe, processes_before}
use Rattle.statements.specs.Parts.{part_at}

-- A token that does something: what, of which process, counted from 1, with which bytes, and where the first of these stands.
pub record PlainStatementToken : Type 0 where
  pub part : StatementPart
  pub process : ℕ
  pub text : List ℕ
  pub byte : ℕ

-- The kind of the first of some tokens, and that of the end where there is none.
abbrev pub next_kind : List PlainSpot → Kind
next_kind [] = k.End
next_kind (s ∷ behind) = s.token.kind

-- A token of a process, if it does something.
abbrev pub token_with : ℕ → PlainSpot → Option StatementPart → List PlainStatementToken
token_with process s (Some part) = record { part = part; process = process; text = s.token.text; byte = s.byte } ∷ []
token_with process s None = []

-- What a token does between others, if it does something: a name in a declaration or a `$strobe` does nothing.
abbrev pub part_between : List Kind → Kind → Kind → Option StatementPart
part_between before kind next = part_at kind next (begins_statement before) (in_event_list before) (in_declaration before || in_strobe before)

-- Those of some tokens that do something, behind others.
abbrev pub tokens_behind : List Kind → List PlainSpot → List PlainStatementToken
tokens_behind before [] = []
tokens_behind before (s ∷ behind) =
    token_with (processes_before before) s (part_between before s.token.kind (next_kind behind)) ++ tokens_behind (s.token.kind ∷ before) behind

-- The tokens of a source that do something, in order.
pub record AreStatementTokens (source : List ℕ) (tokens : List PlainStatementToken) : Type 0 where
  pub spots : List PlainSpot
  pub are_spots : AreSpots source 0 spots
  pub stand : tokens ≡ tokens_behind [] spots
