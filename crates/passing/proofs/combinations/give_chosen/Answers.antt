-- One value more, until all are given.
use Rattle.std.proofs.Common.{refl, ◌<◌, ◌∙◌, List, length, subst, arith}
use Rattle.std.proofs.lemmas.List.{take_all}
use Rattle.certificates.specs.declared.changes.NotedChange.{NotedChange}
use Rattle.passing.specs.Combinations.{AgreesWithChosen}
use Rattle.passing.proofs.Chosen.{agrees_none, agrees_more}
use Rattle.passing.proofs.combinations.give_chosen.Goals as goal

pub loop-place-init : goal.loop-place-init
loop-place-init c = record { agrees = agrees_none c.args.is_after c.args.store.now; count = refl }

pub loop-place-preserved : goal.loop-place-preserved
loop-place-preserved c =
    let chosen = c.args.chosen.now in
    let i = c.loop-place.place in
    let choice = c.index-chosen-place.result in
    let lt : i < length chosen = omega arith in
    let on = c.if-not-give.false in
    record {
      agrees = agrees_more c.args.is_after chosen i choice c.loop-place.store c.give.new.store lt c.index-chosen-place.is c.loop-place.invariant.agrees (c.give.ensures.given on ∙ c.value_chosen-value.ensures) (c.give.ensures.others on);
      count = c.give.ensures.count ∙ c.loop-place.invariant.count;
    }

pub returns-then-not-give-clause-count : goal.returns-then-not-give-clause-count
returns-then-not-give-clause-count c = c.give.ensures.count ∙ c.loop-place.invariant.count

pub returns-clause-agrees : goal.returns-clause-agrees
returns-clause-agrees c = λ on.
    subst (λ (cs : List NotedChange). AgreesWithChosen c.args.is_after cs c.loop-place.store) (take_all c.loop-place.place c.args.chosen.now (omega (arith, c.loop-place-test.false))) c.loop-place.invariant.agrees
