-- What the search says of loose runs is said of lawful journals.
use Rattle.std.proofs.Common.{◌≡◌, ◌⊎◌, ℕ, List, Some, sym, ◌∙◌, subst}
use Rattle.std.specs.Prelude.{IfSome}
use Rattle.std.proofs.lemmas.Option.{IfSome_then}
use Rattle.model.specs.declared.end.Limits.{Limits}
use Rattle.design.specs.Compiled.{Compiled, design_of}
use Rattle.explore.specs.declared.stopped.Stopped.TheVariants as stop
use Rattle.explore.specs.Reach.{AreFollowedBefore}
use Rattle.explore.specs.Search.{AreAllShown, IsEndless}
use Rattle.loose.specs.Classes.{class_in}
use Rattle.lawful.specs.LooseNodes.{searched_runs, time_of_node}
use Rattle.lawful.specs.LawfulOrders.{AreFoundLoosely}
use Rattle.lawful.proofs.FoundOrders.{are_lawful_orders}
use Rattle.lawful.proofs.lawful.orders_by.Goals as goal

pub with_all_journals-requires-clause-endless : goal.with_all_journals-requires-clause-endless
with_all_journals-requires-clause-endless g c =
    let o = c.new-orders.result in
    let class = class_in o.classes.items in
    let found = c.explore-explored.result in
    let design = c.args.scope.design.now in
    let code : o.analyzed_design ≡ design = c.new-orders.ensures.design ∙ c.of-analyzed_design.ensures in
    let plainly : IfSome found.endless (λ moves. IsEndless (searched_runs o.analyzed_design class o.limits) moves.items) =
    IfSome_then found.endless c.explore-explored.ensures.endless (λ moves endless. g.met.T.RunTelling.endless o.telling.now o.analyzed_design class o.limits moves.items endless) in
    let of_design = subst (λ (k : Compiled). IfSome found.endless (λ moves. IsEndless (searched_runs k class o.limits) moves.items)) code plainly in
    let of_limits = subst (λ (l : Limits). IfSome found.endless (λ moves. IsEndless (searched_runs design class l) moves.items)) c.new-orders.ensures.limits of_design in
    subst (λ (cs : List ℕ). IfSome found.endless (λ moves. IsEndless (searched_runs design (class_in cs) c.args.scope.limits) moves.items)) (sym c.as_slice.ensures.value) of_limits

pub returns : goal.returns
returns g c =
    let o = c.new-orders.result in
    let class = class_in o.classes.items in
    let loosely = c.explore-explored.result in
    let ensures = c.explore-explored.ensures in
    let design = c.args.scope.design.now in
    let limits = c.args.scope.limits in
    let telling = c.args.telling.now in
    let told = g.T.RunTelling in
    let code : o.analyzed_design ≡ design = c.new-orders.ensures.design ∙ c.of-analyzed_design.ensures in
    let searched : AreFoundLoosely (told.runs telling design class limits) c.args.scope.bounds loosely =
    record {
      distinct = ensures.distinct;
      all = λ none.
          let of_telling = subst (λ t. AreAllShown (told.runs t o.analyzed_design class o.limits) loosely.shown.items) c.new-orders.ensures.telling (ensures.all none) in
          let of_design = subst (λ (k : Compiled). AreAllShown (told.runs telling k class o.limits) loosely.shown.items) code of_telling in
          subst (λ (l : Limits). AreAllShown (told.runs telling design class l) loosely.shown.items) c.new-orders.ensures.limits of_design;
      few = ensures.few;
      few_shown = ensures.few_shown;
      nodes_full = ensures.nodes;
      shown_full = ensures.full;
      before =
          let of_telling = subst (λ t. (loosely.stopped ≡ Some stop.Memory) ⊎ AreFollowedBefore (told.runs t o.analyzed_design class o.limits) time_of_node loosely.shown.items loosely.followed_before) c.new-orders.ensures.telling ensures.before in
          let of_design = subst (λ (k : Compiled). (loosely.stopped ≡ Some stop.Memory) ⊎ AreFollowedBefore (told.runs telling k class o.limits) time_of_node loosely.shown.items loosely.followed_before) code of_telling in
          subst (λ (l : Limits). (loosely.stopped ≡ Some stop.Memory) ⊎ AreFollowedBefore (told.runs telling design class l) time_of_node loosely.shown.items loosely.followed_before) c.new-orders.ensures.limits of_design;
    } in
    IfSome_then c.with_all_journals.result c.with_all_journals.ensures
    (λ x found. are_lawful_orders (told.is_journal telling design limits) (told.are_all telling design limits) (λ (by : ℕ → ℕ). told.runs telling design by limits) class (design_of design) limits c.args.scope.bounds loosely x
    (g.met.T.RunTelling.all_told telling design class limits) searched found)
