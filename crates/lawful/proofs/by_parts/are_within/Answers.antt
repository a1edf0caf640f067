-- One way more keeps within the limits.
use Rattle.std.proofs.Common.{arith, subst}
use Rattle.std.specs.Global.{Vec}
use Rattle.std.proofs.lemmas.List.Elements.{All-map}
use Rattle.loose.specs.declared.transition.LooseTransition.{LooseTransition}
use Rattle.looseparts.proofs.Lists.{one_more, all_seen}
use Rattle.lawful.specs.ByParts.{IsWithin}
use Rattle.lawful.proofs.by_parts.are_within.Goals as goal

pub loop-way-preserved : goal.loop-way-preserved
loop-way-preserved c =
    let limits = c.args.limits in
    let entries = c.args.entries in
    let yes = c.if-not-is_within.false in
    let one = subst (IsWithin limits entries) c.deref.ensures.value (c.is_within.ensures.timely yes, c.is_within.ensures.few yes) in
    one_more (λ (way : Vec LooseTransition). IsWithin limits entries way.items) c.args.ways.now c.loop-way.way-index c.way-item.result (omega arith) c.way-item.is c.loop-way.invariant one

pub returns : goal.returns
returns c = λ done.
    All-map (IsWithin c.args.limits c.args.entries) (λ (way : Vec LooseTransition). way.items) c.args.ways.now
    (all_seen (λ (way : Vec LooseTransition). IsWithin c.args.limits c.args.entries way.items) c.args.ways.now c.loop-way.way-index (omega arith) c.loop-way.invariant)
