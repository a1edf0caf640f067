-- What is seen at the first transition.
use Rattle.std.proofs.Common.{◌≡◌, [], List, sym, subst}
use Rattle.loose.specs.declared.transition.LooseTransition.{LooseTransition}
use Rattle.looseruns.specs.ObservedMoves.{seen_first}
use Rattle.looseruns.proofs.ObservedParts.{move_unseen}
use Rattle.lawful.proofs.ObservedWays.{nothing_of_nothing}
use Rattle.lawful.proofs.observed_ways.begins_with_time.Goals as goal

pub returns-in-Some-clause-seen : goal.returns-in-Some-clause-seen
returns-in-Some-clause-seen c = λ passes observe s. subst (λ (l : List LooseTransition). seen_first observe s l ≡ observe s) (sym c.in-Some.ensures.cases.0) (c.passes_time.ensures.seen passes observe s)

pub returns-in-Some-clause-unseen : goal.returns-in-Some-clause-unseen
returns-in-Some-clause-unseen c = λ stays observe s. subst (λ (l : List LooseTransition). seen_first observe s l ≡ []) (sym c.in-Some.ensures.cases.0) (move_unseen observe s c.in-Some.first.now (c.passes_time.ensures.stays stays))

pub returns-in-None-clause-unseen : goal.returns-in-None-clause-unseen
returns-in-None-clause-unseen c = λ stays observe s. nothing_of_nothing observe s c.args.moves.now c.in-None.ensures.cases
