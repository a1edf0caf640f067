-- Where one move more goes.
use Rattle.std.proofs.Common.{◌≡◌, ◌<◌, List, length, sym, subst, arith, get_or}
use Rattle.std.specs.List.{Contains}
use Rattle.std.proofs.lemmas.List.{get_or_default}
use Rattle.std.proofs.lemmas.List.Elements.{Contains-push}
use Rattle.logic4.specs.Vector.{Vector}
use Rattle.certificates.specs.declared.changes.NotedChange.{NotedChange}
use Rattle.settling.proofs.Listed.{upto_more}
use Rattle.passing.proofs.choices.values_of.Goals as goal

pub loop-place-init : goal.loop-place-init
loop-place-init c =
    record {
      start = subst (λ (vs : List Vector). Contains vs c.args.start) (sym c.in_ok-push.ensures.items) (Contains-push c.new-values.result.items c.args.start);
      after = λ k d below. absurd (omega (arith, below));
    }

pub loop-place-preserved : goal.loop-place-preserved
loop-place-preserved c =
    let list = c.args.list.now in
    let i = c.loop-place.place in
    let own = c.index-list-place.result in
    let within : i < length list = omega arith in
    let values = c.add_after.new.values.items in
    let Is = λ (m : NotedChange). m.register ≡ c.args.register → Contains values m.after in
    record {
      start = c.in_ok-add_after.ensures.kept c.args.start c.loop-place.invariant.start;
      after = upto_more Is list i (λ k d below same. c.in_ok-add_after.ensures.kept (get_or list k d).after (c.loop-place.invariant.after k d below same))
          (λ d. subst Is (get_or_default list i own d within) (subst Is c.index-list-place.is c.in_ok-add_after.ensures.added));
    }

pub returns-clause-after : goal.returns-clause-after
returns-clause-after c = λ k d within. c.loop-place.invariant.after k d (omega (arith, within))
