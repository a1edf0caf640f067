-- One name more, unless it begins with the text.
use Rattle.std.proofs.Common.{map, string_bytes, refl, ap}
use Rattle.std.specs.Vec.Iter.{into_iter_items}
use Rattle.statement_parts.specs.Reads.{unless_front, without_front}
use Rattle.statement_parts.proofs.Gathering.{taken_added, all_added, no_more}
use Rattle.statement_parts.proofs.reads.add_others.Goals as goal

pub loop-name-preserved : goal.loop-name-preserved
loop-name-preserved c =
    taken_added (λ ns. without_front c.args.front.now (map string_bytes ns)) (λ n. unless_front c.args.front.now (string_bytes n)) c.in-Some.name (into_iter_items c.loop-name.name-iterator) (into_iter_items c.next.new.self)
    (map string_bytes c.loop-name.found.items) (map string_bytes c.add_unless.new.found.items) _ (λ n ns. refl) c.in-Some.ensures.steps.0 c.in_ok-add_unless.ensures c.loop-name.invariant

pub returns : goal.returns
returns c =
    all_added (map string_bytes c.loop-name.found.items) _ _ (ap (λ ns. without_front c.args.front.now (map string_bytes ns)) (no_more c.loop-name.name-iterator c.in-None.ensures.steps.0)) c.loop-name.invariant
