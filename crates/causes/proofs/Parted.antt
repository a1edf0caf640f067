-- Races that part texts.
use Rattle.std.proofs.Common.{◌≡◌, ℕ, ◌≤◌, Bool, true, false, List, [], ◌∷◌, ◌++◌, length, Option, Some, None, Result, Ok, Err, sym, subst}
use Rattle.std.specs.Prelude.{IfOk, IfSome, if◌then◌else◌}
use Rattle.std.specs.List.{All, AllPairs}
use Rattle.sharing.specs.Parts.{Extends}
use Rattle.explore.proofs.Growing.{Extends-itself}
use Rattle.model.specs.declared.entry.Entry.{Entry}
use Rattle.model.specs.declared.end.Limits.{Limits}
use Rattle.design.specs.Compiled.{Compiled}
use Rattle.runs.specs.declared.run.RunRecord.{RunRecord}
use Rattle.runs.specs.RunRecords.{IsRun}
use Rattle.causes.specs.declared.causes.Causes.{Causes}
use Rattle.conflicts.specs.declared.bounds.Bound.{Bound}
use Rattle.conflicts.specs.declared.bounds.Bound.TheVariants.{Races, Pairs}
use Rattle.causes.specs.declared.parting_race.PartingRace.{PartingRace}
use Rattle.races.specs.declared.told.Found.{Found}
use Rattle.conflicts.specs.declared.bounds.RaceBounds.{RaceBounds}
use Rattle.causes.specs.Causes.{AreCauses, AreNewBeside, AreOtherCauses, IsCauseBehind, IsShownCause, PartsRun, numbered_causes}
use Rattle.races.specs.Races.{AreOthers}
use Rattle.races.proofs.Kept.{kept_all, kept_pairs}

-- a race that was found which parts the run of a journal parts its text
pub behind_first : {E : Type 0} (code : Compiled) (limits : Limits) (journal : List Entry) (first : RunRecord) (r : Result (Option PartingRace) E) → IsRun code limits first → first.journal.items ≡ journal
    → IfOk r (λ cause. IfSome cause (PartsRun code limits first)) → IfOk r (λ cause. IfSome cause (IsCauseBehind code limits journal))
behind_first code limits journal first (Ok (Some cause)) is_run is parts = record { first = first; is_run = is_run; journal_is = is; alike = parts.1; shown = parts.0 }
behind_first code limits journal first (Ok None) is_run is parts = tt
behind_first code limits journal first (Err e) is_run is parts = tt

few_more : (b : Bool) (xs : List PartingRace) (x : PartingRace) (most : ℕ) → length (numbered_causes xs) ≤ most → length (numbered_causes (xs ++ x ∷ [])) ≤ most → length (numbered_causes (if b then xs ++ x ∷ [] else xs)) ≤ most
few_more true xs x most few more = more
few_more false xs x most few more = few

-- one race more, if there was memory for it
pub with_more : (code : Compiled) (limits : Limits) (bounds : RaceBounds) (found : Found) (c d : Causes) (b : Bool) (x : PartingRace) → AreCauses code limits bounds found c → IsShownCause code limits x
    → AreNewBeside found.races.items c.causes.items x → length (numbered_causes (c.causes.items ++ x ∷ [])) ≤ bounds.races → d.causes.items ≡ (if b then c.causes.items ++ x ∷ [] else c.causes.items)
    → (d.cut ≡ Some Races → length (numbered_causes d.causes.items) ≡ bounds.races) → (d.cut ≡ Some Pairs → d.runs ≡ 0) → AreCauses code limits bounds found d
with_more code limits bounds found c d b x are shown new room same races pairs = record {
  shown = subst (λ (xs : List PartingRace). All (IsShownCause code limits) xs) (sym same) (kept_all (IsShownCause code limits) b c.causes.items x are.shown shown);
  distinct = subst (λ (xs : List PartingRace). AllPairs AreOtherCauses xs) (sym same) (kept_pairs AreOtherCauses b c.causes.items x are.distinct new.1);
  beside = subst (λ (xs : List PartingRace). All (λ cause. All (λ race. AreOthers race cause.race) found.races.items) xs) (sym same)
      (kept_all (λ cause. All (λ race. AreOthers race cause.race) found.races.items) b c.causes.items x are.beside new.0);
  few = subst (λ (xs : List PartingRace). length (numbered_causes xs) ≤ bounds.races) (sym same) (few_more b c.causes.items x bounds.races are.few room);
  full_races = races;
  full_tries = pairs;
}

-- a list that wasn't cut is cut by no bound
pub no_cut : (o : Option Bound) (b : Bound) (P : Type 0) → o ≡ None → o ≡ Some b → P
no_cut o b P none some = cc

-- at most one more than before
pub pushed_extends : (b : Bool) (xs ys : List PartingRace) (x : PartingRace) → ys ≡ (if b then xs ++ x ∷ [] else xs) → Extends xs ys
pushed_extends true xs ys x is = (x ∷ [], is)
pushed_extends false xs ys x is = subst (λ (zs : List PartingRace). Extends xs zs) (sym is) (Extends-itself xs)
