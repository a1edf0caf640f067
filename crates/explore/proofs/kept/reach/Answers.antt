-- The text and the key of the next node are found first.
use Rattle.std.proofs.Common.{◌≡◌, ◌<◌, ℕ, List, [], ◌++◌, get_or, length, Bool, refl, sym, ap, ◌∙◌, subst}
use Rattle.explore.specs.Lineage.{ways}
use Rattle.explore.specs.Links.{IsUnmarked}
use Rattle.explore.specs.NumberedTexts.{texts}
use Rattle.explore.specs.Reach.{AreTimed}
use Rattle.explore.specs.Visited.{visits, IsThere}
use Rattle.explore.proofs.Continuing.{found_at, never_false, there_leads}
use Rattle.explore.proofs.Growing.{Extends-itself, all_there, not_less}
use Rattle.explore.proofs.Keeping.{AreKept-texts, Grows-texts, further_through}
use Rattle.explore.proofs.kept.reach.Goals as goal

pub returns-then-number-scope-clause-further : goal.returns-then-number-scope-clause-further
returns-then-number-scope-clause-further g c =
    let orders = c.args.scope.orders.now in
    let runs = g.O.Orders.runs orders in
    let old = c.args.kept.now in
    record {
      well = record {
        good = AreKept-texts runs (g.O.Orders.has_key orders) old _ c.requires.good.good refl c.in_ok-text.ensures.longer.ok c.in_ok-text.ensures.longer.grows c.in_ok-seen.ensures.whole c.in_ok-seen.ensures.same refl refl;
        timed = subst (λ (l : List ℕ). AreTimed runs (g.O.Orders.time_of orders) (ways old.lineage) l) (sym c.in_ok-known.ensures.times) c.requires.good.timed;
        room = c.requires.good.room;
      };
      grows = Grows-texts old _ refl c.in_ok-known.ensures.edges c.in_ok-text.ensures.longer.grows refl;
      unmarked = λ k none. subst (λ (l : List Bool). IsUnmarked l k) c.in_ok-known.ensures.may_end none;
    }

pub returns-then-number-scope-clause-leads : goal.returns-then-number-scope-clause-leads
returns-then-number-scope-clause-leads g c there =
    let orders = c.args.scope.orders.now in
    let runs = g.O.Orders.runs orders in
    let old = c.args.kept.now in
    let next = c.args.next.now in
    let visit : ℕ × List ℕ = (c.in_ok-text.text, c.as_slice.result.now) in
    let text : get_or (texts c.name_next.new.told) visit.0 [] ≡ runs.text (get_or (ways old.lineage) c.args.from.number [] ++ next.moves.items) =
    c.in_ok-text.ensures.longer.text ∙ (ap (λ l. l ++ next.printed.items) c.requires.from.same ∙ sym c.requires.next.1) in
    let edge = c.in_ok-known.ensures.joined there in
    let seen : IsThere visit (visits old.visited) edge.0 = found_at c.in_ok-seen.seen edge.0 (IsThere visit (visits old.visited)) edge.1 c.in_ok-seen.ensures.there in
    there_leads runs (g.O.Orders.has_key orders) old _ (texts c.name_next.new.told) next.node c.args.from.number (get_or (ways old.lineage) c.args.from.number [] ++ next.moves.items) visit edge.0
    (λ a b i j k of_a of_b at bt t. g.met.O.Orders.alike orders i j (g.met.O.Orders.keyed orders a b i j k of_a of_b at bt t))
    c.requires.good.good c.in_ok-text.ensures.longer.grows c.requires.next.0 (subst (g.O.Orders.has_key orders next.node) (sym c.as_slice.ensures.value) c.in_ok-text.ensures.keyed) text seen refl edge.2

pub returns-then-number-scope-clause-stands : goal.returns-then-number-scope-clause-stands
returns-then-number-scope-clause-stands g c more = absurd (not_less (length (ways c.args.kept.now.lineage)) more)

pub enter-requires-clause-well : goal.enter-requires-clause-well
enter-requires-clause-well g c =
    let orders = c.args.scope.orders.now in
    let good = c.requires.good.good in
    record {
      good = AreKept-texts (g.O.Orders.runs orders) (g.O.Orders.has_key orders) c.args.kept.now _ good refl c.in_ok-text.ensures.longer.ok c.in_ok-text.ensures.longer.grows good.whole refl refl refl;
      timed = c.requires.good.timed;
      room = c.requires.good.room;
    }

pub enter-requires-clause-same : goal.enter-requires-clause-same
enter-requires-clause-same g c = c.in_ok-text.ensures.longer.text ∙ (ap (λ l. l ++ c.args.next.now.printed.items) c.requires.from.same ∙ sym c.requires.next.1)

pub enter-requires-clause-told : goal.enter-requires-clause-told
enter-requires-clause-told g c = c.in_ok-text.ensures.longer.within

pub returns-clause-further : goal.returns-clause-further
returns-clause-further g c =
    let orders = c.args.scope.orders.now in
    let old = c.args.kept.now in
    further_through (g.O.Orders.runs orders) (g.O.Orders.has_key orders) (g.O.Orders.time_of orders) c.args.scope.bounds.nodes old _ c.enter.new.kept
    (Grows-texts old _ refl (Extends-itself old.links.edges.items) c.in_ok-text.ensures.longer.grows refl) (λ k none. none) c.in_ok-enter.ensures.further

pub returns-clause-full : goal.returns-clause-full
returns-clause-full g c no_it_is_not = never_false no_it_is_not

pub returns-clause-leads : goal.returns-clause-leads
returns-clause-leads g c _ = c.in_ok-enter.ensures.leads

pub returns-clause-stands : goal.returns-clause-stands
returns-clause-stands g c = c.in_ok-enter.ensures.stands

pub name_next-requires-clause-told : goal.name_next-requires-clause-told
name_next-requires-clause-told g c = c.requires.good.good.told

pub name_next-requires-clause-from : goal.name_next-requires-clause-from
name_next-requires-clause-from g c = c.requires.from.told

pub enter-requires-clause-room : goal.enter-requires-clause-room
enter-requires-clause-room g c = subst (λ (n : ℕ). n < c.args.scope.bounds.nodes) c.len-number.ensures c.if-number-scope.false

pub enter-requires-clause-from : goal.enter-requires-clause-from
enter-requires-clause-from g c = c.requires.from.way

pub enter-requires-clause-next : goal.enter-requires-clause-next
enter-requires-clause-next g c = c.requires.next

pub enter-requires-clause-number : goal.enter-requires-clause-number
enter-requires-clause-number g c = c.len-number.ensures

pub enter-requires-clause-keyed : goal.enter-requires-clause-keyed
enter-requires-clause-keyed g c = c.in_ok-text.ensures.keyed

pub returns-then-number-scope-clause-full : goal.returns-then-number-scope-clause-full
returns-then-number-scope-clause-full g c _ = all_there c.len-number.result (length (ways c.args.kept.now.lineage)) c.args.scope.bounds.nodes c.len-number.ensures c.if-number-scope.true c.requires.good.room
