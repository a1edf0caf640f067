use Rattle.std.proofs.Common.{◌≡◌, ◌≤◌, [], ◌∷◌, ◌++◌, length, get_or, arith, List, Some, sym, subst, inl, inr}
use Rattle.std.proofs.lemmas.List.Elements.{All-pop, All-nil}
use Rattle.std.proofs.lemmas.List.{append-nil}
use Rattle.std.specs.List.{All}
use Rattle.explore.specs.SearchKept.{LeadsOn}
use Rattle.explore.specs.Search.{IsSuccessor}
use Rattle.explore.specs.Lineage.{ways}
use Rattle.explore.specs.NumberedTexts.{texts}
use Rattle.explore.specs.declared.Successor.{Successor}
use Rattle.explore.proofs.Growing.{get_or-extends, length-extends, popped_shorter}
use Rattle.explore.proofs.Complete.{taken_more, all_taken, both_true}
use Rattle.explore.proofs.Keeping.{Grows-itself, Grows-through, IsText-more}
use Rattle.explore.proofs.Continuing.{leads_more, never_false, one_false}
use Rattle.explore.proofs.kept.follow_all.Goals as goal

pub loop-next-init : goal.loop-next-init
loop-next-init g c =
    let runs = g.O.Orders.runs c.args.scope.orders.now in
    let way = get_or (ways c.args.kept.now.lineage) c.args.from.number [] in
    record {
      well = c.requires.good;
      grows = Grows-itself c.args.kept.now;
      unmarked = λ k none. none;
      full = λ no_it_is_not. never_false no_it_is_not;
      left = c.requires.successors;
      done = ([], sym (append-nil c.args.successors.items), λ _. All-nil (λ (next : Successor g.row.O-Node.Denot g.row.O-Move.Denot). LeadsOn runs c.args.kept.now c.args.from.number (way ++ next.moves.items)));
    }

pub follow-requires-clause-good : goal.follow-requires-clause-good
follow-requires-clause-good g c = c.loop-next.invariant.well

pub follow-requires-clause-from : goal.follow-requires-clause-from
follow-requires-clause-from g c =
    let old = c.args.kept.now in
    let at = c.loop-next.kept in
    let grows = c.loop-next.invariant.grows in
    IsText-more (g.O.Orders.runs c.args.scope.orders.now) (ways old.lineage) (ways at.lineage) (texts old.texts) (texts at.texts) c.args.from grows.lineage grows.texts c.requires.from

pub follow-requires-clause-next : goal.follow-requires-clause-next
follow-requires-clause-next g c =
    let runs = g.O.Orders.runs c.args.scope.orders.now in
    let way = get_or (ways c.args.kept.now.lineage) c.args.from.number [] in
    let next = c.in-Some.next in
    subst (λ (l : List g.row.O-Move.Denot). IsSuccessor runs l next) (sym (get_or-extends (ways c.args.kept.now.lineage) (ways c.loop-next.kept.lineage) c.args.from.number [] c.loop-next.invariant.grows.lineage c.requires.from.way))
    (All-pop (IsSuccessor runs way) c.loop-next.left.items c.pop.new.self.items (Some next) c.in-Some.ensures.items c.loop-next.invariant.left).1

pub loop-next-preserved : goal.loop-next-preserved
loop-next-preserved g c =
    let runs = g.O.Orders.runs c.args.scope.orders.now in
    let way = get_or (ways c.args.kept.now.lineage) c.args.from.number [] in
    let next = c.in-Some.next in
    let popped = c.in-Some.ensures.items in
    let before = c.loop-next.invariant.done in
    let new = c.follow.new.kept in
    let longer : length (ways c.loop-next.kept.lineage) ≤ length (ways new.lineage) = length-extends (ways c.loop-next.kept.lineage) (ways new.lineage) c.in_ok-there.ensures.further.grows.lineage in
    let room = c.in_ok-there.ensures.further.well.room in
    let same = get_or-extends (ways c.args.kept.now.lineage) (ways c.loop-next.kept.lineage) c.args.from.number [] c.loop-next.invariant.grows.lineage c.requires.from.way in
    record {
      well = c.in_ok-there.ensures.further.well;
      grows = Grows-through c.args.kept.now c.loop-next.kept c.follow.new.kept c.loop-next.invariant.grows c.in_ok-there.ensures.further.grows;
      unmarked = λ k none. c.loop-next.invariant.unmarked k (c.in_ok-there.ensures.further.unmarked k none);
      full = λ not_all. elim (one_false c.loop-next.all c.in_ok-there.there not_all) [
        | inl before_it ↦ let at : length (ways c.loop-next.kept.lineage) ≡ c.args.scope.bounds.nodes = c.loop-next.invariant.full before_it in omega (arith, at, longer, room)
        | inr now ↦ c.in_ok-there.ensures.full now
      ];
      left = (All-pop (IsSuccessor runs way) c.loop-next.left.items c.pop.new.self.items (Some next) popped c.loop-next.invariant.left).0;
      done = (
        next ∷ before.0,
        taken_more c.args.successors.items c.loop-next.left.items c.pop.new.self.items before.0 next before.1 popped,
        λ all. let both = both_true c.loop-next.all c.in_ok-there.there all in
            leads_more runs c.loop-next.kept new c.args.from.number way before.0 next c.in_ok-there.ensures.further.grows (before.2 both.0)
            (subst (λ (l : List g.row.O-Move.Denot). LeadsOn runs new c.args.from.number (l ++ next.moves.items)) same (c.in_ok-there.ensures.leads both.1)),
      );
    }

pub loop-next-smaller : goal.loop-next-smaller
loop-next-smaller g c = popped_shorter c.loop-next.left.items c.pop.new.self.items c.in-Some.next c.in-Some.ensures.items

pub returns-clause-full : goal.returns-clause-full
returns-clause-full g c = c.loop-next.invariant.full

pub returns-clause-further : goal.returns-clause-further
returns-clause-further g c =
    let known = c.loop-next.invariant in
    record { well = known.well; grows = known.grows; unmarked = known.unmarked }

pub returns-clause-leads : goal.returns-clause-leads
returns-clause-leads g c all =
    let runs = g.O.Orders.runs c.args.scope.orders.now in
    let way = get_or (ways c.args.kept.now.lineage) c.args.from.number [] in
    let done = c.loop-next.invariant.done in
    let none : length c.loop-next.left.items ≡ 0 = omega (arith, c.in_default.ensures.cases.0) in
    let same = all_taken c.args.successors.items c.loop-next.left.items done.0 done.1 none in
    subst (λ (xs : List (Successor g.row.O-Node.Denot g.row.O-Move.Denot)). All (λ next. LeadsOn runs c.loop-next.kept c.args.from.number (way ++ next.moves.items)) xs) (sym same) (done.2 all)
