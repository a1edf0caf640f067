use Rattle.std.proofs.Common.{◌≡◌, length, arith, [], ◌∷◌, ◌++◌, List, Some, get_or, sym, subst}
use Rattle.std.proofs.lemmas.List.Elements.{All-pop, All-nil}
use Rattle.std.proofs.lemmas.List.{append-nil}
use Rattle.std.specs.List.{All}
use Rattle.explore.specs.declared.EndedPath.{EndedPath}
use Rattle.explore.specs.Search.{IsEndedPath, IsShown}
use Rattle.explore.specs.Lineage.{ways}
use Rattle.explore.proofs.Complete.{taken_more, all_taken}
use Rattle.explore.proofs.Growing.{popped_shorter}
use Rattle.explore.proofs.Shows.{shown_itself, shown_through, there_more}
use Rattle.explore.proofs.show.show_all.Goals as goal

pub loop-one-init : goal.loop-one-init
loop-one-init g c =
    let runs = g.O.Orders.runs c.args.scope.orders.now in
    let way = get_or (ways c.args.run.lineage.now) c.args.run.reached.number [] in
    record {
      further = shown_itself runs c.args.scope.bounds.shown c.args.shown.now.items c.requires.shown;
      left = c.requires.ended;
      done = ([], sym (append-nil c.args.ended.items), All-nil (λ (one : EndedPath g.row.O-Move.Denot g.row.O-End.Denot). IsShown c.args.shown.now.items (runs.text way ++ one.printed.items) one.end));
    }

pub show-requires-clause-ended : goal.show-requires-clause-ended
show-requires-clause-ended g c =
    let runs = g.O.Orders.runs c.args.scope.orders.now in
    let way = get_or (ways c.args.run.lineage.now) c.args.run.reached.number [] in
    (All-pop (IsEndedPath runs way) c.loop-one.left.items c.pop.new.self.items (Some c.in-Some.one) c.in-Some.ensures.items c.loop-one.invariant.left).1

pub loop-one-preserved : goal.loop-one-preserved
loop-one-preserved g c =
    let runs = g.O.Orders.runs c.args.scope.orders.now in
    let way = get_or (ways c.args.run.lineage.now) c.args.run.reached.number [] in
    let one = c.in-Some.one in
    let popped = c.in-Some.ensures.items in
    let before = c.loop-one.invariant.done in
    record {
      further = shown_through runs c.args.scope.bounds.shown c.args.shown.now.items c.loop-one.shown.items c.show.new.shown.items c.loop-one.invariant.further c.in_ok-there.ensures.shown;
      left = (All-pop (IsEndedPath runs way) c.loop-one.left.items c.pop.new.self.items (Some one) popped c.loop-one.invariant.left).0;
      done = (
        one ∷ before.0,
        taken_more c.args.ended.items c.loop-one.left.items c.pop.new.self.items before.0 one before.1 popped,
        there_more (λ (x : EndedPath g.row.O-Move.Denot g.row.O-End.Denot). runs.text way ++ x.printed.items) (λ (x : EndedPath g.row.O-Move.Denot g.row.O-End.Denot). x.end) before.0 one c.loop-one.shown.items c.show.new.shown.items c.in_ok-there.ensures.shown.more before.2
            (c.in_ok-there.ensures.there c.if-not-there.false),
      );
    }

pub show-requires-clause-shown : goal.show-requires-clause-shown
show-requires-clause-shown g c = c.loop-one.invariant.further.well

pub returns-in_err-there-clause-shown : goal.returns-in_err-there-clause-shown
returns-in_err-there-clause-shown g c =
    shown_through (g.O.Orders.runs c.args.scope.orders.now) c.args.scope.bounds.shown c.args.shown.now.items c.loop-one.shown.items c.show.new.shown.items c.loop-one.invariant.further c.in_err-there.ensures.shown

pub returns-then-not-there-clause-shown : goal.returns-then-not-there-clause-shown
returns-then-not-there-clause-shown g c =
    shown_through (g.O.Orders.runs c.args.scope.orders.now) c.args.scope.bounds.shown c.args.shown.now.items c.loop-one.shown.items c.show.new.shown.items c.loop-one.invariant.further c.in_ok-there.ensures.shown

pub loop-one-smaller : goal.loop-one-smaller
loop-one-smaller g c = popped_shorter c.loop-one.left.items c.pop.new.self.items c.in-Some.one c.in-Some.ensures.items

pub returns-clause-there : goal.returns-clause-there
returns-clause-there g c _ =
    let runs = g.O.Orders.runs c.args.scope.orders.now in
    let way = get_or (ways c.args.run.lineage.now) c.args.run.reached.number [] in
    let done = c.loop-one.invariant.done in
    let none : length c.loop-one.left.items ≡ 0 = omega (arith, c.in_default.ensures.cases.0) in
    let same = all_taken c.args.ended.items c.loop-one.left.items done.0 done.1 none in
    subst (λ (xs : List (EndedPath g.row.O-Move.Denot g.row.O-End.Denot)). All (λ one. IsShown c.loop-one.shown.items (runs.text way ++ one.printed.items) one.end) xs) (sym same) done.2
