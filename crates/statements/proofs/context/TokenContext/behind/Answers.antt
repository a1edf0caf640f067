-- What is known of the tokens before one, and that one, say what is known of both.
use Rattle.std.proofs.Common.{◌∙◌, ap, ◌+◌, ◌||◌, ◌&&◌, not, min}
use Rattle.std.specs.Prelude.{if◌then◌else◌}
use Rattle.tokens.specs.declared.token.Kind.TheVariants as k
use Rattle.tokens.specs.Tokens.{same_kind}
use Rattle.locations.specs.SourceLocations.{is_process}
use Rattle.locations.specs.TextLines.{most}
use Rattle.statements.specs.TokenContexts.{begins_declaration, is_declaration_word, is_event_word, precedes_statement, in_event_list}
use Rattle.statements.proofs.context.TokenContext.behind.Goals as goal

pub returns : goal.returns
returns c = λ before is.
    let kind = c.args.kind in
    record {
      processes_is = c.processes_behind.ensures ∙ ap (λ n. if is_process kind then min (n + 1) most else n) is.processes_is;
      at_sign_is = c.is_kind.ensures.value;
      assigning_is = c.is_assigning.ensures;
      delay_sign_is = c.is_delay_sign.ensures ∙ ap (λ b. same_kind kind k.Hash && not b) is.assigning_is;
      begins_is = c.begins_behind.ensures ∙ ap (λ b. precedes_statement kind || (same_kind kind k.Decimal && b)) is.delay_sign_is;
      event_list_is = c.is_in_event_list.ensures
          ∙ (ap (λ b. (is_event_word kind && b) || (same_kind kind k.Open && c.args.self.at_sign)) is.event_list_is ∙ ap (λ b. (is_event_word kind && in_event_list before) || (same_kind kind k.Open && b)) is.at_sign_is);
      declaration_is = c.is_in_declaration.ensures ∙ ap (λ b. begins_declaration kind || (is_declaration_word kind && b)) is.declaration_is;
      strobe_is = c.is_in_strobe.ensures ∙ ap (λ b. same_kind kind k.Strobe || (not (same_kind kind k.Semicolon) && b)) is.strobe_is;
    }
