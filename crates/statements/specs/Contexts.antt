-- What is kept of the tokens before one.
use Rattle.std.specs.Prelude.{◌≡◌, List}
use Rattle.tokens.specs.declared.token.Kind.{Kind}
use Rattle.statements.specs.declared.context.TokenContext.{TokenContext}
use Rattle.statements.specs.TokenContexts.{begins_statement, follows_assigning, follows_at_sign, follows_delay_sign, in_declaration, in_event_list, in_strobe, processes_before}

-- it is so of tokens of these kinds, of which the last comes first
pub record IsContext (before : List Kind) (context : TokenContext) : Type 0 where
  pub processes_is : context.processes ≡ processes_before before
  pub at_sign_is : context.at_sign ≡ follows_at_sign before
  pub assigning_is : context.assigning ≡ follows_assigning before
  pub delay_sign_is : context.delay_sign ≡ follows_delay_sign before
  pub begins_is : context.begins ≡ begins_statement before
  pub event_list_is : context.event_list ≡ in_event_list before
  pub declaration_is : context.declaration ≡ in_declaration before
  pub strobe_is : context.strobe ≡ in_strobe before
