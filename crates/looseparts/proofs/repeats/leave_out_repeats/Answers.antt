-- First those on, then those to ends.
use Rattle.std.proofs.Common.{true, false, refl, subst}
use Rattle.loose.specs.Classes.{class_in}
use Rattle.looseparts.specs.FoundWays.{ways_in}
use Rattle.looseparts.specs.GoneWays.{StandAsWell}
use Rattle.looseparts.proofs.repeats.leave_out_repeats.Goals as goal

pub returns : goal.returns
returns c =
    let class = class_in c.args.classes.now in
    let m = c.args.machine.now in
    let old = c.args.found.now in
    let ways = c.leave_out.new.ways.items in
    let ends = c.leave_out-2.new.ways.items in
    let first : StandAsWell class m old.notes.items false (ways_in old.ways.items) (ways_in ways) =
    subst (λ z. StandAsWell class m z false (ways_in old.ways.items) (ways_in ways)) c.deref.ensures.value c.in_ok-leave_out.ensures in
    let second : StandAsWell class m old.notes.items true (ways_in old.ends.items) (ways_in ends) =
    subst (λ z. StandAsWell class m z true (ways_in old.ends.items) (ways_in ends)) c.deref-2.ensures.value c.in_ok-leave_out-2.ensures in
    λ stand. second.to_ends refl (ways_in ways) (first.on refl (ways_in old.ends.items) stand)
