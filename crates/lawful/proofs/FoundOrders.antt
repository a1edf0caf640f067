-- What a search of loose runs found, with lawful journals, are lawful orders.
use Rattle.std.proofs.Common.{◌≡◌, ◌⊎◌, ℕ, Bool, true, List, [], length, Option, Some, None, inl, inr, sym, ap, ◌∙◌, subst, arith}
use Rattle.std.specs.Prelude.{IfSome}
use Rattle.std.specs.List.{All}
use Rattle.std.specs.Global.{Vec}
use Rattle.std.proofs.lemmas.List.Elements.{All-nil}
use Rattle.model.specs.declared.end.Limits.{Limits}
use Rattle.model.specs.declared.entry.Entry.{Entry}
use Rattle.model.specs.Design.{Design}
use Rattle.model.specs.Texts.{IsEndlessJournal}
use Rattle.explore.specs.declared.Bounds.{Bounds}
use Rattle.explore.specs.declared.Explored.{Explored}
use Rattle.explore.specs.declared.Shown.{Shown}
use Rattle.explore.specs.declared.stopped.Stopped.{Stopped}
use Rattle.explore.specs.declared.stopped.Stopped.TheVariants as stop
use Rattle.explore.specs.SearchedRuns.{Runs}
use Rattle.explore.specs.Search.{AreAllShown}
use Rattle.explore.specs.Reach.{AreFollowedBefore}
use Rattle.loose.specs.declared.transition.LooseTransition.{LooseTransition}
use Rattle.lawful.specs.declared.node.LooseNode.{LooseNode}
use Rattle.lawful.specs.Journals.{JournalRelation, HasLawfulJournal, texts_and_ends, IsStoppedBy, IsFoundLawfully, IsLedJournal}
use Rattle.lawful.specs.LooseNodes.{time_of_node}
use Rattle.lawful.specs.LawfulOrders.{AreFoundLoosely, AreLawfulOrders, IsFollowedLoosely}
use Rattle.lawful.proofs.ShownLawfully.{as_many_shown, still_distinct, first_distinct, no_longer, is_whole}

no_reason : Some stop.Memory ≡ None → ⊥
no_reason is = cc

memory_not_nodes : Some stop.Memory ≡ Some stop.Nodes → ⊥
memory_not_nodes is = cc

memory_not_shown : Some stop.Memory ≡ Some stop.Shown → ⊥
memory_not_shown is = cc

stopped_before : (before stopped : Option Stopped) (whole : Bool) → IsStoppedBy before whole stopped → stopped ≡ Some stop.Nodes → before ≡ Some stop.Nodes
stopped_before before stopped whole (inl (all, same)) full = sym same ∙ full
stopped_before before stopped whole (inr same) full = absurd (memory_not_nodes (sym same ∙ full))

-- where it says that nothing stopped it, or the most texts, it lacks none
lacks_none : (before stopped : Option Stopped) (whole : Bool) → IsStoppedBy before whole stopped → (stopped ≡ None) ⊎ (stopped ≡ Some stop.Shown) → (whole ≡ true) × (stopped ≡ before)
lacks_none before stopped whole (inl both) is = both
lacks_none before stopped whole (inr same) (inl none) = absurd (no_reason (sym same ∙ none))
lacks_none before stopped whole (inr same) (inr full) = absurd (memory_not_shown (sym same ∙ full))

-- where the search behind it wasn't stopped for want of memory, and none lacks its journal, nothing was left out before the time that is told
followed_loosely : {End : Type 0} (IsJournal : JournalRelation End) (runs_by : (ℕ → ℕ) → Runs LooseTransition LooseNode End) (class : ℕ → ℕ) (design : Design) (limits : Limits) (loosely : Explored LooseTransition End) (found : Explored Entry End)
    → (is : IsFoundLawfully IsJournal design limits loosely found) → IsStoppedBy loosely.stopped is.whole found.stopped → (loosely.stopped ≡ Some stop.Memory) ⊎ AreFollowedBefore (runs_by class) time_of_node loosely.shown.items loosely.followed_before
    → (found.stopped ≡ Some stop.Memory) ⊎ IsFollowedLoosely runs_by found
followed_loosely IsJournal runs_by class design limits loosely found is (inr memory) before = inl memory
followed_loosely IsJournal runs_by class design limits loosely found is (inl (all, same)) (inl memory) = inl (same ∙ memory)
followed_loosely {End} IsJournal runs_by class design limits loosely found is (inl (all, same)) (inr followed) =
    let first = is.shown_is in
    let whole : first.part ≡ loosely.shown.items = is_whole first.part first.rest loosely.shown.items first.split (first.all all) in
    inr
    (record {
      class = class;
      shown = loosely.shown.items;
      same = first.shown_is.same ∙ ap (λ (shown : List (Shown LooseTransition End)). texts_and_ends shown) whole;
      before = subst (λ (told : Option ℕ). AreFollowedBefore (runs_by class) time_of_node loosely.shown.items told) (sym is.before_is) followed;
    })

pub are_lawful_orders : {End : Type 0} (IsJournal : JournalRelation End) (AreAll : List (List ℕ × End) → Type 0) (runs_by : (ℕ → ℕ) → Runs LooseTransition LooseNode End) (class : ℕ → ℕ) (design : Design) (limits : Limits) (bounds : Bounds) (loosely : Explored LooseTransition End) (found : Explored Entry End)
    → ((shown : List (Shown LooseTransition End)) → AreAllShown (runs_by class) shown → AreAll (texts_and_ends shown)) → AreFoundLoosely (runs_by class) bounds loosely → IsFoundLawfully IsJournal design limits loosely found → AreLawfulOrders IsJournal AreAll runs_by design limits bounds found
are_lawful_orders {End} IsJournal AreAll runs_by class design limits bounds loosely found all_told searched is =
    let first = is.shown_is in
    let part : List (Shown LooseTransition End) = first.part in
    let many = as_many_shown part found.shown.items first.shown_is.same in
    let fewer = no_longer part first.rest loosely.shown.items first.split in
    record {
      journals = first.shown_is.journals;
      distinct = still_distinct part found.shown.items first.shown_is.same (first_distinct part first.rest loosely.shown.items first.split searched.distinct);
      all = λ none.
          let (all, same) = lacks_none loosely.stopped found.stopped is.whole is.stopped_is (inl none) in
          let whole : loosely.shown.items ≡ part = sym (is_whole part first.rest loosely.shown.items first.split (first.all all)) in
          subst AreAll (sym first.shown_is.same) (all_told part (subst (AreAllShown (runs_by class)) whole (searched.all (sym same ∙ none))));
      few = omega (arith, is.nodes_are, searched.few);
      few_shown = omega (arith, many, fewer, searched.few_shown);
      nodes_full = λ full. is.nodes_are ∙ searched.nodes_full (stopped_before loosely.stopped found.stopped is.whole is.stopped_is full);
      shown_full = λ full.
          let (all, same) = lacks_none loosely.stopped found.stopped is.whole is.stopped_is (inr full) in
          let whole : part ≡ loosely.shown.items = is_whole part first.rest loosely.shown.items first.split (first.all all) in
          many ∙ (ap length whole ∙ searched.shown_full (sym same ∙ full));
      never_ends = is.never_ends;
      before = followed_loosely IsJournal runs_by class design limits loosely found is is.stopped_is searched.before;
      widest_led = is.widest_led;
    }

-- where nothing was found, and the search says that it was stopped for want of memory
pub nothing_is_found : {End : Type 0} (IsJournal : JournalRelation End) (AreAll : List (List ℕ × End) → Type 0) (runs_by : (ℕ → ℕ) → Runs LooseTransition LooseNode End) (design : Design) (limits : Limits) (bounds : Bounds) (found : Explored Entry End) → found.shown.items ≡ [] → found.stopped ≡ Some stop.Memory → found.nodes ≡ 0 → found.endless ≡ None → found.widest ≡ None
    → AreLawfulOrders IsJournal AreAll runs_by design limits bounds found
nothing_is_found {End} IsJournal AreAll runs_by design limits bounds found none stopped nodes endless widest =
    let few : length found.shown.items ≡ 0 = ap length none in
    record {
      journals = subst (All (HasLawfulJournal IsJournal)) (sym none) (All-nil (HasLawfulJournal IsJournal));
      distinct = λ i j d less within. absurd (omega (arith, within, few));
      all = λ is. absurd (no_reason (sym stopped ∙ is));
      few = omega (arith, nodes);
      few_shown = omega (arith, few);
      nodes_full = λ is. absurd (memory_not_nodes (sym stopped ∙ is));
      shown_full = λ is. absurd (memory_not_shown (sym stopped ∙ is));
      never_ends = subst (λ (o : Option (Vec Entry)). IfSome o (λ journal. IsEndlessJournal design limits journal.items)) (sym endless) tt;
      before = inl stopped;
      widest_led = subst (λ (o : Option (Vec Entry)). IfSome o (λ journal. IsLedJournal design limits journal.items)) (sym widest) tt;
    }
