use Rattle.std.proofs.Common.{◌≡◌, ℕ, List, [], ◌++◌, length, get_or, arith, sym, subst, inl, inr}
use Rattle.sharing.specs.Parts.{Extends}
use Rattle.explore.specs.Lineage.{ways}
use Rattle.explore.specs.Reach.{AreTimed}
use Rattle.explore.specs.Pieces.{pieces}
use Rattle.explore.specs.SearchKept.{IsContinued}
use Rattle.explore.specs.declared.kept.KeptNodes.{KeptNodes}
use Rattle.explore.specs.declared.links.SearchEdge.{SearchEdge}
use Rattle.explore.proofs.Complete.{followed_from_covered, both_true}
use Rattle.explore.proofs.Continuing.{AreContinued-more, leads_of, continued_now, IsContinued-more, empty_is_none}
use Rattle.explore.proofs.Counting.{shown_nodes, some_none, stood_at}
use Rattle.explore.proofs.Growing.{Extends-itself, get_or-extends, length-extends}
use Rattle.explore.proofs.Keeping.{Grows-itself}
use Rattle.explore.proofs.Shows.{shown_itself}
use Rattle.explore.specs.declared.stopped.Stopped.TheVariants as stop
use Rattle.explore.proofs.search.expand_node.Goals as goal

pub node_at-requires-clause-lineage : goal.node_at-requires-clause-lineage
node_at-requires-clause-lineage g c = c.requires.well.good.lineage

pub node_at-requires-clause-within : goal.node_at-requires-clause-within
node_at-requires-clause-within g c = c.requires.reached.way

pub node_at-requires-clause-placed : goal.node_at-requires-clause-placed
node_at-requires-clause-placed g c = c.requires.well.good.placed

pub node_at-requires-clause-stood : goal.node_at-requires-clause-stood
node_at-requires-clause-stood g c k within = stood_at (g.O.Orders.runs c.args.scope.orders.now) (g.O.Orders.has_key c.args.scope.orders.now) c.args.kept.now k c.requires.well.good within

pub show_all-requires-clause-run : goal.show_all-requires-clause-run
show_all-requires-clause-run g c = record { is_lineage = c.requires.well.good.lineage; are_texts = c.requires.well.good.told; text = c.requires.reached }

pub follow_all-requires-clause-good : goal.follow_all-requires-clause-good
follow_all-requires-clause-good g c =
    let good = c.requires.well.good in
    record {
      good = record { lineage = good.lineage; told = good.told; whole = good.whole; count = good.count; visited = good.visited; pending = good.pending; placed = c.in_ok-node.ensures.placed };
      timed = c.requires.well.timed;
      room = c.requires.well.room;
    }

pub expand-requires : goal.expand-requires
expand-requires g c = (get_or (ways c.args.kept.now.lineage) c.args.reached.number [], c.in_ok-node.ensures.node)

pub show_all-requires-clause-shown : goal.show_all-requires-clause-shown
show_all-requires-clause-shown g c = c.requires.shown

pub show_all-requires-clause-ended : goal.show_all-requires-clause-ended
show_all-requires-clause-ended g c = c.in_ok-successors.ensures.sound (get_or (ways c.args.kept.now.lineage) c.args.reached.number []) c.in_ok-node.ensures.node

pub follow_all-requires-clause-from : goal.follow_all-requires-clause-from
follow_all-requires-clause-from g c = c.requires.reached

pub follow_all-requires-clause-successors : goal.follow_all-requires-clause-successors
follow_all-requires-clause-successors g c = c.in_ok-successors.ensures.next (get_or (ways c.args.kept.now.lineage) c.args.reached.number []) c.in_ok-node.ensures.node

pub returns-in_err-node-clause-shown : goal.returns-in_err-node-clause-shown
returns-in_err-node-clause-shown g c = shown_itself (g.O.Orders.runs c.args.scope.orders.now) c.args.scope.bounds.shown c.args.shown.now.items c.requires.shown

pub returns-in_err-successors-clause-shown : goal.returns-in_err-successors-clause-shown
returns-in_err-successors-clause-shown g c = shown_itself (g.O.Orders.runs c.args.scope.orders.now) c.args.scope.bounds.shown c.args.shown.now.items c.requires.shown

pub returns-in_err-told-clause-shown : goal.returns-in_err-told-clause-shown
returns-in_err-told-clause-shown g c = c.in_err-told.ensures.shown

pub returns-then-not-told-clause-shown : goal.returns-then-not-told-clause-shown
returns-then-not-told-clause-shown g c = c.in_ok-told.ensures.shown

pub returns-in_err-followed-clause-shown : goal.returns-in_err-followed-clause-shown
returns-in_err-followed-clause-shown g c = c.in_ok-told.ensures.shown

pub returns-clause-shown : goal.returns-clause-shown
returns-clause-shown g c = c.in_ok-told.ensures.shown

pub returns-then-not-told-clause-expanded : goal.returns-then-not-told-clause-expanded
returns-then-not-told-clause-expanded g c =
    let old = c.args.kept.now in
    let good = c.requires.well.good in
    let grows = Grows-itself old in
    let new : KeptNodes g.row.O-Node.Denot g.row.O-Move.Denot = record { lineage = old.lineage; texts = old.texts; visited = old.visited; links = old.links; pending = old.pending; nodes = c.node_at.new.nodes; key = old.key; shown_bytes = old.shown_bytes; choices = c.add.new.self } in
    record {
      well = record {
        good = record { lineage = good.lineage; told = good.told; whole = good.whole; count = good.count; visited = good.visited; pending = good.pending; placed = c.in_ok-node.ensures.placed };
        timed = c.requires.well.timed;
        room = c.requires.well.room;
      };
      continued = AreContinued-more (g.O.Orders.runs c.args.scope.orders.now) old new (Extends-itself (ways old.lineage)) (Extends-itself (pieces old.lineage.steps)) (Extends-itself old.links.edges.items) (λ k none. none) c.requires.continued;
      grows = record { lineage = grows.lineage; steps = grows.steps; edges = grows.edges; texts = grows.texts; pending = grows.pending; count = grows.count; waits = grows.waits };
      full = λ _. c.in_ok-told.ensures.full c.if-not-told.true;
      most = λ at. absurd (shown_nodes at);
      followed = λ none. absurd (some_none stop.Shown none);
    }

pub returns-clause-expanded : goal.returns-clause-expanded
returns-clause-expanded g c =
    let orders = c.args.scope.orders.now in
    let runs = g.O.Orders.runs orders in
    let old = c.args.kept.now in
    let kept = c.follow_all.new.kept in
    let way = get_or (ways old.lineage) c.args.reached.number [] in
    let successors = c.in_ok-successors.field-0.successors.items in
    let well = c.in_ok-followed.ensures.further.well in
    let good = well.good in
    let grows = c.in_ok-followed.ensures.further.grows in
    record {
      well = record {
        good = record { lineage = good.lineage; told = good.told; whole = good.whole; count = good.count; visited = good.visited; pending = good.pending; placed = good.placed };
        timed = subst (λ (l : List ℕ). AreTimed runs (g.O.Orders.time_of orders) (ways kept.lineage) l) (sym c.settle.ensures.times) well.timed;
        room = well.room;
      };
      continued = λ k unmarked.
          let number = c.args.reached.number in
          let new : KeptNodes g.row.O-Node.Denot g.row.O-Move.Denot = record { lineage = kept.lineage; texts = kept.texts; visited = kept.visited; links = c.settle.new.self; pending = kept.pending; nodes = kept.nodes; key = kept.key; shown_bytes = c.saturating_add-shown_bytes.result; choices = kept.choices } in
          let edges : Extends kept.links.edges.items new.links.edges.items = subst (λ (l : List SearchEdge). Extends kept.links.edges.items l) (sym c.settle.ensures.edges) (Extends-itself kept.links.edges.items) in
          let settled = λ (j : ℕ) (here : IsContinued runs kept j). IsContinued-more runs kept new j (Extends-itself (ways kept.lineage)) (Extends-itself (pieces kept.lineage.steps)) edges here in
          elim (c.settle.ensures.may_end k unmarked) [
            | inl before ↦ settled k (IsContinued-more runs old kept k grows.lineage grows.steps grows.edges (c.requires.continued k (c.in_ok-followed.ensures.further.unmarked k before)))
            | inr now ↦
                let both = both_true c.is_empty-goes_on.result c.is_whole.result now.1 in
                let none : length c.in_ok-successors.field-0.ended.items ≡ 0 = empty_is_none c.in_ok-successors.field-0.ended c.is_empty-goes_on.result c.is_empty-goes_on.ensures both.0 in
                let all = c.left_out-left.ensures.none (c.is_whole.ensures both.1) in
                let within = c.requires.reached.way in
                let far = length-extends (ways old.lineage) (ways kept.lineage) grows.lineage in
                let here : IsContinued runs kept number = continued_now runs (g.met.O.Orders.alike orders) successors c.in_ok-successors.field-0.ended.items kept number way
                (omega (arith, within, far)) (get_or-extends (ways old.lineage) (ways kept.lineage) number [] grows.lineage within) none (c.in_ok-successors.ensures.cover all.0 way c.in_ok-node.ensures.node) (c.in_ok-followed.ensures.leads all.1) in
                subst (λ (n : ℕ). IsContinued runs new n) (sym now.0) (settled number here)
          ];
      grows = record {
        lineage = grows.lineage;
        steps = grows.steps;
        edges = subst (λ (l : List SearchEdge). Extends old.links.edges.items l) (sym c.settle.ensures.edges) grows.edges;
        texts = grows.texts;
        pending = grows.pending;
        count = grows.count;
        waits = grows.waits;
      };
      full = λ at. absurd (c.left_out-left.ensures.apart at);
      most = λ at. c.in_ok-followed.ensures.full (c.left_out-left.ensures.nodes at);
      followed = λ none.
          let both = c.left_out-left.ensures.none none in
          let there = c.in_ok-followed.ensures.leads both.1 in
          followed_from_covered runs (g.met.O.Orders.alike orders) successors c.in_ok-successors.field-0.ended.items (ways kept.lineage) c.show_all.new.shown.items way
          (c.in_ok-successors.ensures.cover both.0 way c.in_ok-node.ensures.node)
          (λ k d within. leads_of runs kept c.args.reached.number (way ++ (get_or successors k d).moves.items) (there k d within)) (c.in_ok-told.ensures.there c.if-not-told.false);
    }
