use Rattle.std.proofs.Common.{◌≡◌, ℕ, ◌≤◌, [], List, length, get_or, Option, Some, arith, refl, sym, ap, ◌∙◌, subst, inl, inr}
use Rattle.std.proofs.lemmas.List.Elements.{All-pop, All-push}
use Rattle.std.specs.List.{All, Any}
use Rattle.explore.specs.Search.{AreCounted, IsEndless}
use Rattle.explore.specs.Lineage.{ways}
use Rattle.explore.specs.Reach.{earliest, earliest_left, IsFollowedOrOpen, IsNoLater}
use Rattle.explore.specs.NumberedTexts.{texts}
use Rattle.explore.specs.Pieces.{pieces}
use Rattle.explore.specs.SearchKept.{IsText}
use Rattle.explore.specs.declared.kept.KeptNodes.{KeptNodes}
use Rattle.explore.specs.declared.kept.Reached.{Reached}
use Rattle.explore.specs.declared.stopped.Stopped.{Stopped}
use Rattle.explore.specs.declared.stopped.Stopped.TheVariants as stop
use Rattle.explore.proofs.Growing.{Extends-itself, fewer_left, get_or-extends, length-extends}
use Rattle.explore.proofs.Complete.{all_shown}
use Rattle.explore.proofs.Continuing.{AreContinued-more}
use Rattle.explore.proofs.Edges.{none_unmarked}
use Rattle.explore.proofs.Counting.{bytes_nodes, bytes_shown, counted, endless_of, none_some, none_told, searched_failed, some_none}
use Rattle.explore.proofs.Keeping.{AreKept-pop, known_more, all_followed}
use Rattle.explore.proofs.Open.{all_closed, closed_off, earliest-time, earliest-told, has_node, known_or_open_more, left-time, left-told, no_later_than, none_or_not, open_at}
use Rattle.explore.proofs.Shows.{none_shown}
use Rattle.explore.proofs.search.search_from.Goals as goal

pub loop-reached-init : goal.loop-reached-init
loop-reached-init g c =
    let runs = g.O.Orders.runs c.args.scope.orders.now in
    let begun = c.requires.kept in
    let kept = c.args.kept.now in
    let one = begun.run in
    let few : length (ways kept.lineage) ≡ 1 = ap length one in
    record {
      well = record { good = begun.good; timed = begun.timed; room = omega (arith, few, c.requires.room) };
      continued = λ k none. absurd (none_unmarked kept.links.may_end.items k begun.unmarked none);
      some = omega (arith, few);
      starts = ap (λ (l : List (List g.row.O-Move.Denot)). get_or l 0 []) one;
      nodes = c.len.ensures;
      most = λ at. absurd (none_some stop.Nodes at);
      apart = λ at. none_some stop.Shown at;
      shown = none_shown runs c.args.scope.bounds.shown c.args.shown.now.items c.requires.none;
      known = λ k less. inl (
          let none : 0 ≡ k = omega (arith, less, few) in
          subst (λ (n : ℕ). Any (λ p. p.number ≡ n) kept.pending.items) none begun.waits);
      followed = λ _ k less. inl (
          let none : 0 ≡ k = omega (arith, less, few) in
          subst (λ (n : ℕ). Any (λ p. p.number ≡ n) kept.pending.items) none begun.waits);
    }

pub expand_node-requires-clause-well : goal.expand_node-requires-clause-well
expand_node-requires-clause-well g c =
    let orders = c.args.scope.orders.now in
    let old = c.loop-reached.kept in
    let well = c.loop-reached.invariant.well in
    record {
      good = (AreKept-pop (g.O.Orders.runs orders) (g.O.Orders.has_key orders) old (record { lineage = old.lineage; texts = old.texts; visited = old.visited; links = old.links; pending = c.pop.new.self; nodes = old.nodes; key = old.key; shown_bytes = old.shown_bytes; choices = old.choices }) c.in-Some.reached well.good refl refl refl c.in-Some.ensures.items well.good.placed).0;
      timed = well.timed;
      room = well.room;
    }

pub expand_node-requires-clause-continued : goal.expand_node-requires-clause-continued
expand_node-requires-clause-continued g c =
    let old = c.loop-reached.kept in
    AreContinued-more (g.O.Orders.runs c.args.scope.orders.now) old (record { lineage = old.lineage; texts = old.texts; visited = old.visited; links = old.links; pending = c.pop.new.self; nodes = old.nodes; key = old.key; shown_bytes = old.shown_bytes; choices = old.choices }) (Extends-itself (ways old.lineage)) (Extends-itself (pieces old.lineage.steps)) (Extends-itself old.links.edges.items) (λ k none. none) c.loop-reached.invariant.continued

pub expand_node-requires-clause-reached : goal.expand_node-requires-clause-reached
expand_node-requires-clause-reached g c =
    let old = c.loop-reached.kept in
    let runs = g.O.Orders.runs c.args.scope.orders.now in
    (All-pop (IsText runs (ways old.lineage) (texts old.texts)) old.pending.items c.pop.new.self.items (Some c.in-Some.reached) c.in-Some.ensures.items c.loop-reached.invariant.well.good.pending).1

pub loop-reached-preserved : goal.loop-reached-preserved
loop-reached-preserved g c =
    let runs = g.O.Orders.runs c.args.scope.orders.now in
    let before = c.loop-reached.invariant in
    let old = ways c.loop-reached.kept.lineage in
    let new = ways c.expand_node.new.kept.lineage in
    let more = c.in_ok-left.ensures.expanded.grows.lineage in
    let longer : length old ≤ length new = length-extends old new more in
    let room = c.in_ok-left.ensures.expanded.well.room in
    record {
      well = c.in_ok-left.ensures.expanded.well;
      continued = c.in_ok-left.ensures.expanded.continued;
      some = omega (arith, before.some, longer);
      starts = get_or-extends old new 0 [] more before.some ∙ before.starts;
      nodes = c.len-count.ensures;
      most = λ at. elim c.earlier-stopped.ensures.which [
        | inl one ↦ let full : length old ≡ c.args.scope.bounds.nodes = before.most (sym one ∙ at) in omega (arith, full, longer, room)
        | inr other ↦ c.in_ok-left.ensures.expanded.most (sym other ∙ at)
      ];
      apart = λ at. elim c.earlier-stopped.ensures.which [
        | inl one ↦ before.apart (sym one ∙ at)
        | inr other ↦ c.is_full.ensures.others c.if-is_full.false (sym other ∙ at)
      ];
      shown = c.in_ok-left.ensures.shown.well;
      known = λ k less.
          let time_of = g.O.Orders.time_of c.args.scope.orders.now in
          let at = c.loop-reached.kept in
          let mid : KeptNodes g.row.O-Node.Denot g.row.O-Move.Denot = record { lineage = at.lineage; texts = at.texts; visited = at.visited; links = at.links; pending = c.pop.new.self; nodes = at.nodes; key = at.key; shown_bytes = at.shown_bytes; choices = at.choices } in
          let since = c.loop-reached.since in
          let later = c.earliest_left-since.result in
          let left = c.in_ok-left.left in
          let time = c.time_at-time.result in
          let number = c.in-Some.reached.number in
          let within = (AreKept-pop runs (g.O.Orders.has_key c.args.scope.orders.now) at mid c.in-Some.reached before.well.good refl refl refl c.in-Some.ensures.items before.well.good.placed).1.way in
          let lower : (n : ℕ) → IsNoLater since n → IsNoLater later n = λ n is. subst (λ (o : Option ℕ). IsNoLater o n) (sym c.earliest_left-since.ensures) (left-told since left time n is) in
          let run = get_or old number [] in
          let here : IsFollowedOrOpen runs time_of c.expand_node.new.shown.items later new run = elim (none_or_not left) [
            | inl none ↦ inl (c.in_ok-left.ensures.expanded.followed none)
            | inr cut ↦ inr (open_at runs time_of old at.links.times.items later number before.well.timed within
                (subst (λ (o : Option ℕ). IsNoLater o (get_or at.links.times.items number 0)) (sym c.earliest_left-since.ensures)
                (subst (λ (n : ℕ). IsNoLater (earliest_left since left time) n) c.time_at-time.ensures (left-time since left time cut))))
          ] in
          known_or_open_more runs time_of at mid c.expand_node.new.kept c.in-Some.reached c.loop-reached.shown.items c.expand_node.new.shown.items since later k refl c.in-Some.ensures.items c.in_ok-left.ensures.expanded.grows c.in_ok-left.ensures.shown.more lower here before.known less;
      followed = λ none k less.
          let both = c.earlier-stopped.ensures.none none in
          known_more runs c.loop-reached.kept (record { lineage = c.loop-reached.kept.lineage; texts = c.loop-reached.kept.texts; visited = c.loop-reached.kept.visited; links = c.loop-reached.kept.links; pending = c.pop.new.self; nodes = c.loop-reached.kept.nodes; key = c.loop-reached.kept.key; shown_bytes = c.loop-reached.kept.shown_bytes; choices = c.loop-reached.kept.choices }) c.expand_node.new.kept c.in-Some.reached c.loop-reached.shown.items c.expand_node.new.shown.items k refl c.in-Some.ensures.items
          c.in_ok-left.ensures.expanded.grows c.in_ok-left.ensures.shown.more (c.in_ok-left.ensures.expanded.followed both.1) (before.followed both.0) less;
    }

pub expand_node-requires-clause-shown : goal.expand_node-requires-clause-shown
expand_node-requires-clause-shown g c = c.loop-reached.invariant.shown

pub loop-reached-smaller : goal.loop-reached-smaller
loop-reached-smaller g c =
    let old = c.loop-reached.kept in
    let new = c.expand_node.new.kept in
    let expanded = c.in_ok-left.ensures.expanded in
    fewer_left c.args.scope.bounds.nodes old.pending.items c.pop.new.self.items c.in-Some.reached (length (ways old.lineage)) (length (ways new.lineage)) (length new.pending.items)
    c.in-Some.ensures.items expanded.grows.count expanded.well.room (length-extends (ways old.lineage) (ways new.lineage) expanded.grows.lineage)

pub returns-in_err-left : goal.returns-in_err-left
returns-in_err-left g c =
    let orders = c.args.scope.orders.now in
    let runs = g.O.Orders.runs orders in
    let before = c.loop-reached.invariant in
    let shown = c.expand_node.new.shown.items in
    searched_failed runs (g.O.Orders.time_of orders) c.args.scope.bounds shown c.loop-reached.nodes c.from_residual.result _ c.from_residual.ensures.1 (omega (arith, before.nodes, before.well.room)) c.in_err-left.ensures.shown.well
    (counted runs (g.O.Orders.has_key orders) c.loop-reached.kept shown (Some stop.Memory) c.loop-reached.nodes before.well.good before.nodes before.some before.starts (λ none. absurd (some_none stop.Memory none)))

pub returns-in_err-endless : goal.returns-in_err-endless
returns-in_err-endless g c =
    let orders = c.args.scope.orders.now in
    let runs = g.O.Orders.runs orders in
    let before = c.loop-reached.invariant in
    let shown = c.loop-reached.shown.items in
    searched_failed runs (g.O.Orders.time_of orders) c.args.scope.bounds shown c.loop-reached.nodes c.from_residual-in_err-endless.result _ c.from_residual-in_err-endless.ensures.1 (omega (arith, before.nodes, before.well.room)) before.shown
    (counted runs (g.O.Orders.has_key orders) c.loop-reached.kept shown (Some stop.Memory) c.loop-reached.nodes before.well.good before.nodes before.some before.starts (λ none. absurd (some_none stop.Memory none)))

pub returns-then-bytes-scope : goal.returns-then-bytes-scope
returns-then-bytes-scope g c =
    let orders = c.args.scope.orders.now in
    let runs = g.O.Orders.runs orders in
    let before = c.loop-reached.invariant in
    let stopped = c.stopped_early.ensures.stopped in
    record {
      few = omega (arith, before.nodes, before.well.room);
      well = before.shown;
      all = λ none. absurd (some_none stop.Bytes (sym stopped ∙ none));
      most = λ at. absurd (bytes_nodes (sym stopped ∙ at));
      full = λ at. absurd (bytes_shown (sym stopped ∙ at));
      counted = subst (λ (s : Option Stopped). AreCounted runs c.loop-reached.shown.items s c.loop-reached.nodes) (sym stopped)
          (counted runs (g.O.Orders.has_key orders) c.loop-reached.kept c.loop-reached.shown.items (Some stop.Bytes) c.loop-reached.nodes before.well.good before.nodes before.some before.starts (λ none. absurd (some_none stop.Bytes none)));
      before =
          let at = c.loop-reached.kept in
          let since = c.loop-reached.since in
          let time = c.time_at-time.result in
          let least = c.stopped_early.result.followed_before in
          let is = c.stopped_early.ensures in
          let times = at.links.times.items in
          let last : IsNoLater least (get_or times c.in-Some.reached.number 0) =
          subst (λ (n : ℕ). IsNoLater least n) c.time_at-time.ensures (no_later_than least (earliest since time) time is.told (earliest-time since time)) in
          let all : All (λ p. IsNoLater least (get_or times p.number 0)) at.pending.items =
          subst (λ (l : List Reached). All (λ p. IsNoLater least (get_or times p.number 0)) l) (sym c.in-Some.ensures.items)
          (All-push (λ (p : Reached). IsNoLater least (get_or times p.number 0)) c.pop.new.self.items c.in-Some.reached is.pending last) in
          inr (closed_off runs (g.O.Orders.time_of c.args.scope.orders.now) at c.loop-reached.shown.items since least before.well.timed before.known
          (λ n earlier. no_later_than least (earliest since time) n is.told (earliest-told since time n earlier)) all before.some before.starts);
      endless = none_told (λ moves. IsEndless runs moves.items) c.stopped_early.result.endless c.stopped_early.ensures.endless;
      widest = has_node runs (g.O.Orders.has_key orders) c.loop-reached.kept c.stopped_early.result.widest before.well.good c.stopped_early.ensures.widest;
    }

pub returns-then-is_full : goal.returns-then-is_full
returns-then-is_full g c =
    let orders = c.args.scope.orders.now in
    let runs = g.O.Orders.runs orders in
    let before = c.loop-reached.invariant in
    let expanded = c.in_ok-left.ensures.expanded in
    let kept = c.expand_node.new.kept in
    let shown = c.expand_node.new.shown.items in
    let old = ways c.loop-reached.kept.lineage in
    let new = ways kept.lineage in
    let more = expanded.grows.lineage in
    let longer : length old ≤ length new = length-extends old new more in
    let left = c.is_full.ensures.full c.if-is_full.true in
    let stopped = c.stopped_early-then-is_full.ensures.stopped in
    record {
      few = omega (arith, c.len-count.ensures, expanded.well.room);
      well = c.in_ok-left.ensures.shown.well;
      all = λ none. absurd (some_none stop.Shown (sym left ∙ (sym stopped ∙ none)));
      most = λ at. c.len-count.ensures ∙ expanded.most (sym stopped ∙ at);
      full = λ _. expanded.full left;
      counted = subst (λ (s : Option Stopped). AreCounted runs shown s c.len-count.result) (sym stopped)
          (counted runs (g.O.Orders.has_key orders) kept shown c.in_ok-left.left c.len-count.result expanded.well.good c.len-count.ensures
          (omega (arith, before.some, longer)) (get_or-extends old new 0 [] more before.some ∙ before.starts) (λ none. absurd (some_none stop.Shown (sym left ∙ none))));
      before =
          let time_of = g.O.Orders.time_of c.args.scope.orders.now in
          let at = c.loop-reached.kept in
          let mid : KeptNodes g.row.O-Node.Denot g.row.O-Move.Denot = record { lineage = at.lineage; texts = at.texts; visited = at.visited; links = at.links; pending = c.pop.new.self; nodes = at.nodes; key = at.key; shown_bytes = at.shown_bytes; choices = at.choices } in
          let since = c.loop-reached.since in
          let time = c.time_at-time.result in
          let least = c.stopped_early-then-is_full.result.followed_before in
          let is = c.stopped_early-then-is_full.ensures in
          let number = c.in-Some.reached.number in
          let within = (AreKept-pop runs (g.O.Orders.has_key c.args.scope.orders.now) at mid c.in-Some.reached before.well.good refl refl refl c.in-Some.ensures.items before.well.good.placed).1.way in
          let lower : (n : ℕ) → IsNoLater since n → IsNoLater least n = λ n earlier. no_later_than least (earliest since time) n is.told (earliest-told since time n earlier) in
          let last : IsNoLater least (get_or at.links.times.items number 0) =
          subst (λ (n : ℕ). IsNoLater least n) c.time_at-time.ensures (no_later_than least (earliest since time) time is.told (earliest-time since time)) in
          let here : IsFollowedOrOpen runs time_of c.expand_node.new.shown.items least new (get_or old number []) = inr (open_at runs time_of old at.links.times.items least number before.well.timed within last) in
          inr (closed_off runs time_of kept c.expand_node.new.shown.items least least expanded.well.timed
          (λ k less. known_or_open_more runs time_of at mid kept c.in-Some.reached c.loop-reached.shown.items c.expand_node.new.shown.items since least k refl c.in-Some.ensures.items expanded.grows c.in_ok-left.ensures.shown.more lower here before.known less)
          (λ n earlier. earlier) is.pending (omega (arith, before.some, longer)) (get_or-extends old new 0 [] more before.some ∙ before.starts));
      endless = none_told (λ moves. IsEndless runs moves.items) c.stopped_early-then-is_full.result.endless c.stopped_early-then-is_full.ensures.endless;
      widest = has_node runs (g.O.Orders.has_key orders) kept c.stopped_early-then-is_full.result.widest expanded.well.good c.stopped_early-then-is_full.ensures.widest;
    }

pub find_endless-requires-clause-known : goal.find_endless-requires-clause-known
find_endless-requires-clause-known g c k none = let here = c.loop-reached.invariant.continued k none in here.within

pub returns : goal.returns
returns g c =
    let orders = c.args.scope.orders.now in
    let runs = g.O.Orders.runs orders in
    let before = c.loop-reached.invariant in
    let kept = c.loop-reached.kept in
    let shown = c.loop-reached.shown.items in
    let over : length kept.pending.items ≡ 0 = omega (arith, c.in_default.ensures.cases.0) in
    record {
      few = omega (arith, before.nodes, before.well.room);
      well = before.shown;
      all = λ none. all_shown runs (ways kept.lineage) shown before.some before.starts (all_followed runs kept shown over (before.followed none));
      most = λ at. before.nodes ∙ before.most at;
      full = λ at. absurd (before.apart at);
      counted = counted runs (g.O.Orders.has_key orders) kept shown c.loop-reached.stopped c.loop-reached.nodes before.well.good before.nodes before.some before.starts (λ none. all_followed runs kept shown over (before.followed none));
      before = inr (all_closed runs (g.O.Orders.time_of orders) kept shown c.loop-reached.since over before.known before.some before.starts);
      endless = endless_of runs (g.O.Orders.has_key orders) kept c.in_ok-endless.endless before.well.good before.continued c.in_ok-endless.ensures;
      widest = has_node runs (g.O.Orders.has_key orders) kept c.widest_way-widest.result before.well.good c.widest_way-widest.ensures;
    }
