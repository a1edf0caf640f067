-- One name more, unless it is there already.
use Rattle.std.proofs.Common.{map, string_bytes, ap, sym, ◌∙◌}
use Rattle.std.specs.Vec.Iter.{into_iter_items}
use Rattle.statement_parts.specs.Reads.{added_once}
use Rattle.statement_parts.proofs.Gathering.{no_more}
use Rattle.statement_parts.proofs.reads.each_once.Goals as goal

pub loop-name-preserved : goal.loop-name-preserved
loop-name-preserved c =
    ap (λ found. added_once found (map string_bytes (into_iter_items c.next.new.self))) c.in_ok-add_new.ensures
    ∙ ap (λ ns. added_once (map string_bytes c.loop-name.made.items) (map string_bytes ns)) (sym c.in-Some.ensures.steps.0) ∙ c.loop-name.invariant

pub returns : goal.returns
returns c =
    ap (λ ns. added_once (map string_bytes c.loop-name.made.items) (map string_bytes ns)) (sym (no_more c.loop-name.name-iterator c.in-None.ensures.steps.0)) ∙ c.loop-name.invariant
