-- One that was cut off is taken out.
use Rattle.std.proofs.Common.{◌≡◌, ◌<◌, ◌⊎◌, List, length, get_or, refl, sym, ◌∙◌, subst, arith}
use Rattle.std.specs.List.{All, AllPairs, Contains, remove}
use Rattle.std.proofs.lemmas.List.Elements.{All-contains_itself}
use Rattle.std.proofs.lemmas.List.Quantifiers.{all_pairs_remove}
use Rattle.runs.specs.declared.run.RunRecord.{RunRecord}
use Rattle.runs.specs.Compared.{AreDifferentRuns, IsWhole}
use Rattle.seeded.specs.Samples.{AreStillIn, GivesWay}
use Rattle.seeded.proofs.Keeping.{all_remove, still_within}
use Rattle.seeded.proofs.samples.give_way.Goals as goal

pub loop-place-init : goal.loop-place-init
loop-place-init c = record {
  other = c.requires.other;
  apart = c.requires.apart;
  from = All-contains_itself c.args.kept.now.items;
  whole = λ run there whole. there;
  few = omega arith;
  capacity = refl;
}

pub loop-place-preserved : goal.loop-place-preserved
loop-place-preserved c =
    let old : List RunRecord = c.loop-place.kept.items in
    let before = c.loop-place.invariant in
    let run : RunRecord = c.args.run.now in
    let here : c.in-Some.place < length old = subst (λ (xs : List RunRecord). c.in-Some.place < length xs) c.as_slice.ensures.value c.in-Some.ensures.within in
    let items : remove old c.in-Some.place ≡ c.remove.new.self.items = sym c.remove.ensures.items in
    record {
      other =
          subst (λ (xs : List RunRecord). All (λ one. AreDifferentRuns one run ⊎ GivesWay one run) xs) items
          (all_remove (λ one. AreDifferentRuns one run ⊎ GivesWay one run) old c.in-Some.place here before.other);
      apart = subst (λ (xs : List RunRecord). AllPairs AreDifferentRuns xs) items (all_pairs_remove AreDifferentRuns old c.in-Some.place here before.apart);
      from =
          subst (λ (xs : List RunRecord). All (Contains c.args.kept.now.items) xs) items
          (all_remove (Contains c.args.kept.now.items) old c.in-Some.place here before.from);
      whole =
          subst (λ (xs : List RunRecord). AreStillIn c.args.kept.now.items xs) items
          (still_within c.args.kept.now.items old c.in-Some.place here
          (λ d. subst (λ (xs : List RunRecord). IsWhole (get_or xs c.in-Some.place d) → ⊥) c.as_slice.ensures.value (c.in-Some.ensures.cut d)) before.whole);
      few = omega (arith, before.few, c.remove.ensures.len);
      capacity = c.remove.ensures.capacity ∙ before.capacity;
    }
