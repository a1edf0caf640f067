-- One more has its journal, or what was shown before it has.
use Rattle.std.proofs.Common.{◌≡◌, List, [], ◌∷◌, ◌++◌, append_assoc, arith, sym, ◌∙◌, subst}
use Rattle.std.specs.Vec.Iter.{into_iter_items}
use Rattle.std.proofs.lemmas.List.{nil_from_length}
use Rattle.explore.specs.declared.Shown.{Shown}
use Rattle.loose.specs.declared.transition.LooseTransition.{LooseTransition}
use Rattle.lawful.specs.Journals.{AreShownLawfully}
use Rattle.lawful.proofs.ShownLawfully.{one_more}
use Rattle.lawful.proofs.journals.with_journals.Goals as goal

pub loop-loosely-preserved : goal.loop-loosely-preserved
loop-loosely-preserved g c =
    let IsJournal = g.T.RunTelling.is_journal c.args.telling.now c.args.scope.design.now c.args.scope.limits in
    let loosely = c.in-Some.loosely in
    let rest = into_iter_items c.next.new.self in
    let (done, split, shown) = c.loop-loosely.invariant in
    let before : done ++ loosely ∷ rest ≡ c.args.shown.items = subst (λ (l : List (Shown LooseTransition g.row.T-End.Denot)). done ++ l ≡ c.args.shown.items) c.in-Some.ensures.steps.0 split in
    (done ++ loosely ∷ [], append_assoc done (loosely ∷ []) rest ∙ before, one_more IsJournal done loosely c.loop-loosely.lawful.items c.add_journal.new.lawful.items shown (c.in-Ok.ensures.added c.if-not-added.false))

pub returns-in-Err : goal.returns-in-Err
returns-in-Err g c =
    let IsJournal = g.T.RunTelling.is_journal c.args.telling.now c.args.scope.design.now c.args.scope.limits in
    let loosely = c.in-Some.loosely in
    let rest = into_iter_items c.next.new.self in
    let (done, split, shown) = c.loop-loosely.invariant in
    record {
      part = done;
      rest = loosely ∷ rest;
      split = subst (λ (l : List (Shown LooseTransition g.row.T-End.Denot)). done ++ l ≡ c.args.shown.items) c.in-Some.ensures.steps.0 split;
      all = λ no. cc;
      shown_is = subst (AreShownLawfully IsJournal done) (sym c.in-Err.ensures.refused) shown;
    }

pub returns : goal.returns
returns g c =
    let (done, split, shown) = c.loop-loosely.invariant in
    let left = c.loop-loosely.loosely-iterator in
    record {
      part = done;
      rest = into_iter_items left;
      split = split;
      all = λ whole. nil_from_length (into_iter_items left) (omega (arith, c.in-None.ensures.steps.0, left.rest.ok.0));
      shown_is = shown;
    }
