use Rattle.std.proofs.Common.{◌++◌, ap, sym, ◌∙◌, map-id}
use Rattle.std.specs.Prelude.{encode_utf8_all, string_bytes}
use Rattle.std.proofs.lemmas.Iterator.Consumers.{YieldsList-end}
use Rattle.locations.proofs.Excerpts.{escape_yields, one_letter_more}
use Rattle.locations.proofs.excerpt.push_escape.Goals as goal

pub loop-letter-preserved : goal.loop-letter-preserved
loop-letter-preserved c =
    one_letter_more (string_bytes c.push.new.self) (string_bytes c.loop-letter.text) (string_bytes c.args.text.now) c.loop-letter.yielded c.in-Some.letter c.in_ok-push.ensures.bytes c.loop-letter.invariant

pub returns : goal.returns
returns c =
    let end = YieldsList-end (escape_yields c.args.c cc) c.loop-letter.yielded _ c.loop-letter.yielded_by _ _ c.in-None.is c.next.ensures.steps in
    c.loop-letter.invariant ∙ ap (λ w. string_bytes c.args.text.now ++ encode_utf8_all w) (sym (map-id c.loop-letter.yielded) ∙ end.0)
