-- The run that has no moves, its visit and its time.
use Rattle.std.proofs.Common.{◌≡◌, ℕ, List, [], ◌∷◌, ◌++◌, Bool, true, refl, sym, ap, ◌∙◌, subst}
use Rattle.std.specs.List.{Any}
use Rattle.std.proofs.lemmas.List.Quantifiers.{Any-push}
use Rattle.explore.specs.Visited.{visits}
use Rattle.explore.specs.Lineage.{ways}
use Rattle.explore.specs.declared.kept.Reached.{Reached}
use Rattle.explore.proofs.Keeping.{AreKept-first, keys_first}
use Rattle.explore.proofs.Open.{AreTimed-first}
use Rattle.explore.proofs.kept.reach_first.Goals as goal

pub returns : goal.returns
returns g c =
    let orders = c.args.scope.orders.now in
    let runs = g.O.Orders.runs orders in
    let bare = c.requires.bare in
    let old = c.args.kept.now in
    let node = c.args.node.now in
    let at = c.time-at.result in
    let visit : ℕ × List ℕ = (0, c.as_slice.result.now) in
    let p : Reached = record { number = 0; text = 0 } in
    let pending : c.push.new.self.items ≡ p ∷ [] = c.in_ok-push.ensures.items ∙ ap (λ (l : List Reached). l ++ p ∷ []) bare.idle in
    let times : c.add-2.new.self.times.items ≡ at ∷ [] = c.in_ok-add.ensures.times ∙ ap (λ (l : List ℕ). l ++ at ∷ []) bare.untimed in
    record {
      good = AreKept-first runs (g.O.Orders.has_key orders) old _ node visit bare refl refl c.in_ok-_there.ensures.whole
          (keys_first c.in_ok-_there._there (visits old.visited) (visits c.add.new.self) visit bare.unvisited c.in_ok-_there.ensures.there c.in_ok-_there.ensures.added)
          pending refl refl c.requires.stands (subst (g.O.Orders.has_key orders node) (sym c.as_slice.ensures.value) c.in_ok-key.ensures) (g.met.O.Orders.silent orders);
      run = bare.run;
      waits = subst (λ (l : List Reached). Any (λ x. x.number ≡ 0) l) (sym c.in_ok-push.ensures.items) (Any-push (λ (x : Reached). x.number ≡ 0) old.pending.items p refl);
      unmarked = c.in_ok-add.ensures.may_end ∙ ap (λ (l : List Bool). l ++ true ∷ []) bare.unlinked;
      timed = AreTimed-first runs (g.O.Orders.time_of orders) (ways old.lineage) c.add-2.new.self.times.items node at bare.run times c.requires.stands c.time-at.ensures;
    }
