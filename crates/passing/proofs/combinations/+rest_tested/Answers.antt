-- Each choice passes, with the rest.
use Rattle.std.proofs.Common.{◌≡◌, ◌<◌, ◌∙◌, ◌++◌, ◌∷◌, [], ℕ, true, List, drop, length, sym, ap, subst, arith, get_or}
use Rattle.std.specs.List.{Contains}
use Rattle.std.proofs.lemmas.List.{get_or_default}
use Rattle.logic4.specs.Vector.{Vector}
use Rattle.model.specs.Expressions.{value_of}
use Rattle.model.specs.Turns.{contains}
use Rattle.certificates.specs.declared.changes.NotedChange.{NotedChange}
use Rattle.settling.proofs.Listed.{upto_more}
use Rattle.settling.proofs.Places.{element_at}
use Rattle.passing.specs.Moves.{passes_by, move_of}
use Rattle.passing.specs.Combinations.{PassFrom}
use Rattle.passing.proofs.Chosen.{first_here, none_left, first_left, rest_there, shorter, rest_pass, then_pass}
use Rattle.passing.proofs.combinations.+rest_tested.Goals as goal

-- where none is left, what was chosen is all
pub returns-then-is_empty : goal.returns-then-is_empty
returns-then-is_empty t c =
    let scope = c.args.scope in
    let From = PassFrom scope.design.now scope.place.now scope.values.now scope.time (passes_by scope.moves.now) c.args.chosen.now in
    then_pass c.chosen_tested.result (From []) (From c.args.rest.now) (λ pass. subst From (sym (none_left c.args.rest.now (sym c.is_empty.ensures ∙ c.if-is_empty.true))) pass) c.chosen_tested.ensures

pub rest_tested-requires : goal.rest_tested-requires
rest_tested-requires t c = (
  omega (arith, shorter c.args.rest.now _ c.split_at.ensures.back (sym c.is_empty.ensures ∙ c.if-is_empty.false)),
  (
    c.requires.time,
    (
      c.requires.widths,
      λ r there. c.requires.tracked r (rest_there c.args.rest.now r (subst (λ (rs : List ℕ). contains rs r ≡ true) c.split_at.ensures.back there)),
    ),
  ),
)

pub loop-place-preserved : goal.loop-place-preserved
loop-place-preserved t c =
    let scope = c.args.scope in
    let choices = c.as_slice-choices.result.now in
    let i = c.loop-place.place in
    let choice = c.index-choices-place.result in
    let within : i < length choices = omega arith in
    let From = PassFrom scope.design.now scope.place.now scope.values.now scope.time (passes_by scope.moves.now) in
    let Is = λ (d : NotedChange). From (c.args.chosen.now ++ d ∷ []) (drop 1 c.args.rest.now) in
    upto_more Is choices i c.loop-place.invariant
    (λ d.
    subst Is (get_or_default choices i choice d within)
    (subst Is c.index-choices-place.is
    (subst (λ (cs : List NotedChange). From cs (drop 1 c.args.rest.now)) (c.deref.ensures.value ∙ c.in_ok-longer.ensures)
    (subst (λ (rs : List ℕ). From c.deref.result.now rs) c.split_at.ensures.back (c.in_ok-other.ensures c.in-Pass.is)))))

pub returns : goal.returns
returns t c = λ on.
    let scope = c.args.scope in
    let rest = c.args.rest.now in
    let passes = passes_by scope.moves.now in
    let values = scope.values.now in
    let choices = c.as_slice-choices.result.now in
    let r = get_or rest 0 0 in
    let whole : rest ≡ r ∷ drop 1 rest = first_left rest (sym c.is_empty.ensures ∙ c.if-is_empty.false) in
    let at : value_of values r ≡ c.in-Some.start = element_at values r c.in-Some.start [] (sym c.value.ensures ∙ c.in-Some.is) in
    let tracked : contains scope.moves.now.tracked.items r ≡ true = c.requires.tracked r (subst (λ (rs : List ℕ). contains rs r ≡ true) (sym whole) (first_here r (drop 1 rest))) in
    subst (λ (rs : List ℕ). PassFrom scope.design.now scope.place.now values scope.time passes c.args.chosen.now rs) (sym whole)
    (rest_pass scope.design.now scope.place.now values scope.time passes c.args.chosen.now choices r (drop 1 rest)
    (λ u v first second. subst (λ (cs : List NotedChange). Contains cs (move_of r u v)) (sym c.as_slice-choices.ensures.value) (c.in_ok-found.ensures tracked u v (ap (λ (z : Vector). passes r z u) (sym at) ∙ first) second))
    (λ k d within. c.loop-place.invariant k d (omega (arith, within))))
