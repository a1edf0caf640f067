-- The races with one more, if there was memory for it.
use Rattle.std.proofs.Common.{◌≤◌, List, [], ◌∷◌, ◌++◌, length, refl, subst}
use Rattle.std.specs.Prelude.{is_ok}
use Rattle.conflicts.specs.declared.bounds.Bound.TheVariants.{Races, Pairs}
use Rattle.causes.specs.Causes.{numbered_causes}
use Rattle.causes.specs.declared.parting_race.PartingRace.{PartingRace}
use Rattle.causes.proofs.Parted.{no_cut, pushed_extends, with_more}
use Rattle.causes.proofs.causes.Causes.keep.Goals as goal

pub returns-then-is_err-clause-more : goal.returns-then-is_err-clause-more
returns-then-is_err-clause-more c =
    pushed_extends (is_ok c.push.result) c.args.self.now.causes.items c.push.new.self.items c.args.cause c.push.ensures.items

pub returns-else-is_err-clause-are : goal.returns-else-is_err-clause-are
returns-else-is_err-clause-are c =
    let search = c.args.search in
    let old = c.args.self.now in
    let room = subst (λ (ys : List PartingRace). length (numbered_causes (ys ++ c.args.cause ∷ [])) ≤ search.bounds.races) c.as_slice.ensures.value (c.is_full.ensures.room c.if-is_full.false c.args.cause refl) in
    with_more search.design.now search.limits search.bounds search.found.now old _ (is_ok c.push.result) c.args.cause c.requires.are c.requires.shown c.requires.beside room c.push.ensures.items
    (λ is. no_cut old.cut Races _ c.requires.whole is) (λ is. no_cut old.cut Pairs _ c.requires.whole is)
