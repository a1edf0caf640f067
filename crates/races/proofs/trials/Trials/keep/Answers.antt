-- The races with one more, if there was room for it.
use Rattle.std.proofs.Common.{List, sym, subst}
use Rattle.std.specs.Prelude.{is_ok}
use Rattle.std.specs.List.{All, AllPairs}
use Rattle.races.specs.declared.told.Race.{Race}
use Rattle.races.specs.Races.{AreOthers, IsShownRace}
use Rattle.races.proofs.Kept.{kept_all, kept_pairs, new_others}
use Rattle.races.proofs.trials.Trials.keep.Goals as goal

pub returns-else-is_err-clause-shown : goal.returns-else-is_err-clause-shown
returns-else-is_err-clause-shown c =
    let P : Race → Type 0 = IsShownRace c.args.task.design.now c.args.task.limits c.args.task.original.now in
    subst (λ (xs : List Race). All P xs) (sym c.push.ensures.items)
    (kept_all P (is_ok c.push.result) c.args.self.now.races.items c.args.race c.requires.told.1 c.requires.race)

pub returns-else-is_err-clause-distinct : goal.returns-else-is_err-clause-distinct
returns-else-is_err-clause-distinct c =
    subst (λ (xs : List Race). AllPairs AreOthers xs) (sym c.push.ensures.items)
    (kept_pairs AreOthers (is_ok c.push.result) c.args.self.now.races.items c.args.race c.requires.told.2
    (new_others c.args.self.now.races.items c.args.pair c.args.race c.requires.beside c.requires.of))
