use Rattle.std.proofs.Common.{◌++◌, ap, sym, ◌∙◌, map-id, flat_map}
use Rattle.std.specs.Prelude.{string_bytes}
use Rattle.std.proofs.lemmas.Iterator.{YieldsList-from_chars}
use Rattle.std.proofs.lemmas.Iterator.Consumers.{YieldsList-end}
use Rattle.locations.specs.ShownText.{blank_below}
use Rattle.locations.proofs.excerpt.push_blanks.Goals as goal

pub returns : goal.returns
returns c =
    let end = YieldsList-end (YieldsList-from_chars c.args.shown.now c.utf8.shown cc) c.loop-c.yielded _ c.loop-c.yielded_by _ _ c.in-None.is c.next.ensures.steps in
    c.loop-c.invariant ∙ ap (λ w. string_bytes c.args.text.now ++ flat_map blank_below w) (sym (map-id c.loop-c.yielded) ∙ end.0)
