-- The text has one cut, and its tokens answer for it.
use Rattle.std.proofs.Common.{map, Err, refl, sym, ap, subst, ◌∙◌, arith}
use Rattle.std.proofs.lemmas.List.{length-map}
use Rattle.tokens.specs.Tokens.{plain_token}
use Rattle.tokens.specs.Lexing.{Cut}
use Rattle.tokens.proofs.Chain.{cut_or_stops}
use Rattle.vparse.proofs.Texts.{spells_tokens, deep_tokens, cut_answered, cut_byte_first, cut_literal_first, tokens_syntax, tokens_unsized, tokens_memory}
use Rattle.vparse.proofs.parser.parse.Goals as goal

pub returns-in-Err-clause-answered : goal.returns-in-Err-clause-answered
returns-in-Err-clause-answered c m s shallow =
    c.of_cut.ensures ∙ cut_answered c.args.text.now c.in-Err.fault (λ place e. c.in-Err.ensures.stray place (ap Err e)) (λ place e. c.in-Err.ensures.bad_number place (ap Err e)) m s

pub returns-in-Err-clause-byte_first : goal.returns-in-Err-clause-byte_first
returns-in-Err-clause-byte_first c place d =
    rw c.of_cut.ensures (cut_byte_first c.args.text.now c.in-Err.fault (λ at e. c.in-Err.ensures.stray at (ap Err e)) (λ at e. c.in-Err.ensures.bad_number at (ap Err e)) place d)

pub returns-in-Err-clause-literal_first : goal.returns-in-Err-clause-literal_first
returns-in-Err-clause-literal_first c place d =
    rw c.of_cut.ensures (cut_literal_first c.args.text.now c.in-Err.fault (λ at e. c.in-Err.ensures.stray at (ap Err e)) (λ at e. c.in-Err.ensures.bad_number at (ap Err e)) place d)

pub returns-in-Ok-read_module-clause-shallow : goal.returns-in-Ok-read_module-clause-shallow
returns-in-Ok-read_module-clause-shallow c s =
    let d = subst (λ x. Cut c.args.text.now (map plain_token x)) (sym c.deref.ensures.value) c.in-Ok.ensures.cut in
    c.in-Ok-read_module.ensures.shallow (deep_tokens _ _ d s)

pub returns-in-Ok-read_module-clause-answered : goal.returns-in-Ok-read_module-clause-answered
returns-in-Ok-read_module-clause-answered c m s shallow =
    let d = subst (λ x. Cut c.args.text.now (map plain_token x)) (sym c.deref.ensures.value) c.in-Ok.ensures.cut in
    c.in-Ok-read_module.ensures.answered m (spells_tokens _ _ m d s) (λ deep. shallow (record { tokens = _; cut = d; is_deep = deep }))

pub returns-in-Ok-read_module-clause-byte_first : goal.returns-in-Ok-read_module-clause-byte_first
returns-in-Ok-read_module-clause-byte_first c place d = cut_or_stops c.in-Ok.ensures.cut refl d

pub returns-in-Ok-read_module-clause-literal_first : goal.returns-in-Ok-read_module-clause-literal_first
returns-in-Ok-read_module-clause-literal_first c place d = cut_or_stops c.in-Ok.ensures.cut refl d

pub returns-clause-answered : goal.returns-clause-answered
returns-clause-answered c m s shallow =
    let d = subst (λ x. Cut c.args.text.now (map plain_token x)) (sym c.deref.ensures.value) c.in-Ok.ensures.cut in
    c.of_tokens.ensures ∙ tokens_memory _ _ (c.in-Err-read_module.ensures.answered m (spells_tokens _ _ m d s) (λ deep. shallow (record { tokens = _; cut = d; is_deep = deep })))

pub returns-clause-byte_first : goal.returns-clause-byte_first
returns-clause-byte_first c place d = absurd (cut_or_stops c.in-Ok.ensures.cut refl d)

pub returns-clause-literal_first : goal.returns-clause-literal_first
returns-clause-literal_first c place d = absurd (cut_or_stops c.in-Ok.ensures.cut refl d)

pub returns-clause-syntax : goal.returns-clause-syntax
returns-clause-syntax c n is =
    let d = subst (λ x. Cut c.args.text.now (map plain_token x)) (sym c.deref.ensures.value) c.in-Ok.ensures.cut in
    tokens_syntax _ _ _ _ n d c.in-Err-read_module.ensures.syntax c.in-Err-read_module.ensures.counted
    (omega (arith, c.in-Err-read_module.ensures.within, length-map c.deref.result.now plain_token)) (sym c.of_tokens.ensures ∙ (cc))

pub returns-clause-no_size : goal.returns-clause-no_size
returns-clause-no_size c n is =
    let d = subst (λ x. Cut c.args.text.now (map plain_token x)) (sym c.deref.ensures.value) c.in-Ok.ensures.cut in
    tokens_unsized _ _ _ _ n d c.in-Err-read_module.ensures.syntax c.in-Err-read_module.ensures.counted
    (omega (arith, c.in-Err-read_module.ensures.within, length-map c.deref.result.now plain_token)) (sym c.of_tokens.ensures ∙ (cc))
