-- The run is added, or the node that was there is joined.
use Rattle.std.proofs.Common.{◌≡◌, ℕ, List, [], ◌∷◌, ◌++◌, get_or, length, Bool, true, refl, sym, ap, ◌∙◌, subst, arith}
use Rattle.sharing.specs.Parts.{Extends}
use Rattle.explore.specs.Grown.{grown}
use Rattle.explore.specs.Lineage.{ways}
use Rattle.explore.specs.Links.{IsUnmarked}
use Rattle.explore.specs.NumberedTexts.{texts}
use Rattle.explore.specs.Pieces.{pieces}
use Rattle.explore.specs.Reach.{AreTimed}
use Rattle.explore.specs.SearchKept.{IsText}
use Rattle.explore.specs.Visited.{visits, IsThere}
use Rattle.explore.specs.declared.links.SearchEdge.{SearchEdge}
use Rattle.explore.proofs.Continuing.{found_at, pushed_leads, there_leads}
use Rattle.explore.proofs.Edges.{unmarked_before}
use Rattle.explore.proofs.Growing.{Extends-itself, length-grown, not_less}
use Rattle.explore.proofs.Keeping.{AreKept-push, AreKept-texts, Grows-push, Grows-texts, IsText-next, IsVisited-next, stands_next}
use Rattle.explore.proofs.Open.{AreTimed-push}
use Rattle.explore.proofs.kept.enter.Goals as goal

pub returns-then-joined-clause-further : goal.returns-then-joined-clause-further
returns-then-joined-clause-further g c =
    let orders = c.args.scope.orders.now in
    let runs = g.O.Orders.runs orders in
    let old = c.args.kept.now in
    let visit : ℕ × List ℕ = (c.args.to.text, c.as_slice.result.now) in
    let edge = c.in_ok-joined.ensures.joined c.if-joined.true in
    let seen = found_at c.in_ok-there.there edge.0 (λ number. (visits c.add.new.self ≡ visits old.visited) × IsThere visit (visits old.visited) number) edge.1 c.in_ok-there.ensures.there in
    record {
      well = record {
        good = AreKept-texts runs (g.O.Orders.has_key orders) old _ c.requires.well.good refl c.requires.well.good.told (Extends-itself (texts old.texts)) c.in_ok-there.ensures.whole seen.0 refl refl;
        timed = subst (λ (l : List ℕ). AreTimed runs (g.O.Orders.time_of orders) (ways old.lineage) l) (sym c.in_ok-joined.ensures.times) c.requires.well.timed;
        room = c.requires.well.room;
      };
      grows = Grows-texts old _ refl c.in_ok-joined.ensures.edges (Extends-itself (texts old.texts)) refl;
      unmarked = λ k none. subst (λ (l : List Bool). IsUnmarked l k) c.in_ok-joined.ensures.may_end none;
    }

pub returns-then-joined-clause-leads : goal.returns-then-joined-clause-leads
returns-then-joined-clause-leads g c =
    let orders = c.args.scope.orders.now in
    let runs = g.O.Orders.runs orders in
    let old = c.args.kept.now in
    let next = c.args.next.now in
    let visit : ℕ × List ℕ = (c.args.to.text, c.as_slice.result.now) in
    let edge = c.in_ok-joined.ensures.joined c.if-joined.true in
    let seen = found_at c.in_ok-there.there edge.0 (λ number. (visits c.add.new.self ≡ visits old.visited) × IsThere visit (visits old.visited) number) edge.1 c.in_ok-there.ensures.there in
    there_leads runs (g.O.Orders.has_key orders) old _ (texts old.texts) next.node c.args.from.number (get_or (ways old.lineage) c.args.from.number [] ++ next.moves.items) visit edge.0
    (λ a b i j k of_a of_b at bt t. g.met.O.Orders.alike orders i j (g.met.O.Orders.keyed orders a b i j k of_a of_b at bt t))
    c.requires.well.good (Extends-itself (texts old.texts)) c.requires.next.0 (subst (g.O.Orders.has_key orders next.node) (sym c.as_slice.ensures.value) c.requires.keyed) c.requires.same seen.1 refl edge.2

pub returns-then-joined-clause-stands : goal.returns-then-joined-clause-stands
returns-then-joined-clause-stands g c more = absurd (not_less (length (ways c.args.kept.now.lineage)) more)

pub returns-clause-further : goal.returns-clause-further
returns-clause-further g c =
    let orders = c.args.scope.orders.now in
    let runs = g.O.Orders.runs orders in
    let HasKey = g.O.Orders.has_key orders in
    let old = c.args.kept.now in
    let next = c.args.next.now in
    let new = ways c.push.new.self in
    let told = texts old.texts in
    let time = c.time-time.result in
    let visit : ℕ × List ℕ = (c.args.to.text, c.as_slice.result.now) in
    let p = c.args.to in
    let added : new ≡ grown (ways old.lineage) c.args.from.number next.moves.items = c.in_ok-push.ensures.ways ∙ ap (λ (l : List g.row.O-Move.Denot). grown (ways old.lineage) c.args.from.number l) c.deref.ensures.value in
    let at = IsText-next runs (ways old.lineage) new told c.args.from.number p.text next.moves.items added c.requires.told c.requires.same in
    let steps : Extends (pieces old.lineage.steps) (pieces c.push.new.self.steps) = ((c.args.from.number, c.deref.result.now) ∷ [], c.in_ok-push.ensures.steps) in
    let edges : Extends old.links.edges.items c.add-2.new.self.edges.items = subst (λ (l : List SearchEdge). Extends old.links.edges.items l) (sym c.in_ok-add.ensures.edges) c.in_ok-joined.ensures.edges in
    let marks : c.add-2.new.self.may_end.items ≡ old.links.may_end.items ++ true ∷ [] = c.in_ok-add.ensures.may_end ∙ ap (λ (l : List Bool). l ++ true ∷ []) c.in_ok-joined.ensures.may_end in
    let times : c.add-2.new.self.times.items ≡ old.links.times.items ++ time ∷ [] = c.in_ok-add.ensures.times ∙ ap (λ (l : List ℕ). l ++ time ∷ []) c.in_ok-joined.ensures.times in
    record {
      well = record {
        good = AreKept-push runs HasKey old _ c.args.from.number p.text next.moves.items visit p c.requires.well.good c.in_ok-push.ensures.lineage added c.requires.well.good.told (Extends-itself told) c.in_ok-there.ensures.whole (c.in_ok-there.ensures.added (c.in_ok-joined.ensures.none c.if-joined.false)) c.in_ok-push-2.ensures.items
            (IsVisited-next runs HasKey (ways old.lineage) new told next.node c.args.from.number p.text next.moves.items c.as_slice.result.now added c.requires.next.0 (subst (g.O.Orders.has_key orders next.node) (sym c.as_slice.ensures.value) c.requires.keyed) at)
            (subst (λ (n : ℕ). IsText runs new told (record { number = n; text = p.text })) (sym c.requires.number) at) refl;
        timed = AreTimed-push runs (g.O.Orders.time_of orders) (ways old.lineage) _ old.links.times.items _ c.args.from.number next.moves.items next.node time added times c.requires.next.0 c.time-time.ensures c.requires.well.timed;
        room = omega (arith, ap (λ (l : List (List g.row.O-Move.Denot)). length l) added, length-grown (ways old.lineage) c.args.from.number next.moves.items, c.requires.room);
      };
      grows = Grows-push old _ c.args.from.number next.moves.items p added steps edges (Extends-itself told) c.in_ok-push-2.ensures.items c.requires.number;
      unmarked = λ k none. unmarked_before old.links.may_end.items k (subst (λ (l : List Bool). IsUnmarked l k) marks none);
    }

pub returns-clause-leads : goal.returns-clause-leads
returns-clause-leads g c =
    let old = c.args.kept.now in
    let next = c.args.next.now in
    let added : ways c.push.new.self ≡ grown (ways old.lineage) c.args.from.number next.moves.items = c.in_ok-push.ensures.ways ∙ ap (λ (l : List g.row.O-Move.Denot). grown (ways old.lineage) c.args.from.number l) c.deref.ensures.value in
    pushed_leads (g.O.Orders.runs c.args.scope.orders.now) old _ c.args.from.number next.moves.items c.deref.result.now added c.in_ok-push.ensures.steps

pub returns-clause-stands : goal.returns-clause-stands
returns-clause-stands g c _ =
    let old = c.args.kept.now in
    let next = c.args.next.now in
    let added : ways c.push.new.self ≡ grown (ways old.lineage) c.args.from.number next.moves.items = c.in_ok-push.ensures.ways ∙ ap (λ (l : List g.row.O-Move.Denot). grown (ways old.lineage) c.args.from.number l) c.deref.ensures.value in
    stands_next (g.O.Orders.runs c.args.scope.orders.now) (ways old.lineage) (ways c.push.new.self) next.node c.args.from.number next.moves.items added c.requires.next.0

pub add-requires : goal.add-requires
add-requires g c = record { whole = c.requires.well.good.whole }

pub push-requires-clause-lineage : goal.push-requires-clause-lineage
push-requires-clause-lineage g c = c.requires.well.good.lineage

pub push-requires-clause-from : goal.push-requires-clause-from
push-requires-clause-from g c = c.requires.from
