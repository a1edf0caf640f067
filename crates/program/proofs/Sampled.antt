-- The runs of seeds as texts that were found.
use Rattle.std.proofs.Common.{◌≡◌, ◌↔◌, ◌⊎◌, ◌∙◌, ◌==◌, arith, sym, true≢false, subst, ℕ, ◌+◌, ◌≤◌, Bool, true, false, List, [], ◌∷◌, ◌++◌, length, get_or, Option, Some, None, IfNone, IsTrue, inl, inr, refl, string_bytes}
use Rattle.std.specs.List.{All, AllPairs, Any, Contains}
use Rattle.std.proofs.lemmas.Bool.{eqb-true}
use Rattle.std.proofs.lemmas.List.Elements.{All-nil, All-push, Contains-append_left, Contains-push}
use Rattle.std.proofs.lemmas.List.Quantifiers.{Any-push}
use Rattle.model.specs.declared.entry.Entry.{Entry}
use Rattle.model.specs.declared.end.End.{End}
use Rattle.model.specs.declared.end.Limits.{Limits}
use Rattle.design.specs.Compiled.{Compiled}
use Rattle.explore.specs.declared.Shown.{Shown}
use Rattle.explore.specs.Search.{AreDistinct, IsShown}
use Rattle.runs.specs.RunRecords.{IsRun}
use Rattle.runs.specs.Compared.{IsWhole}
use Rattle.seeded.specs.Seeds.{AreSampled}
use Rattle.seeded.specs.declared.samples.SampleStop.{SampleStop}
use Rattle.seeded.specs.declared.samples.SampleStop.TheVariants as sample_stop
use Rattle.runs.specs.declared.run.RunRecord.{RunRecord}
use Rattle.verdict.specs.declared.claim.SearchStop.{SearchStop}
use Rattle.verdict.specs.declared.claim.Claim.TheVariants.{Sampled}
use Rattle.arguments.specs.declared.search_options.SearchOptions.{SearchOptions}
use Rattle.program.specs.FollowedOrders.{AreTextsFollowed}
use Rattle.program.proofs.Followed.{unmet}
use Rattle.program.specs.Findings.{AreAllAmong, AreFound, IsFound, IsLawfulShown, IsRunShownBehind, IsSampleStop, IsShownRun, IsShownWanted, IsWantedRun, OnTexts, limits_in, sampled_stop}
use Rattle.program.proofs.Knowing.{all_of_each, run_lawful}

-- a run is shown where all are, or where it came to its end

pub wanted_all : (all : Bool) (r : RunRecord) → all ≡ true → IsTrue true ↔ IsWantedRun all r
wanted_all all r shown = (λ same. inr shown, λ wanted. refl)

pub wanted_whole : (all whole : Bool) (r : RunRecord) → all ≡ false → (IsTrue whole ↔ IsWhole r) → IsTrue whole ↔ IsWantedRun all r
wanted_whole all whole r some (test, tested) = (λ ended. inl (test ended), of_wanted)
  where
    of_wanted : IsWhole r ⊎ IsTrue all → IsTrue whole
    of_wanted (inl ended) = tested ended
    of_wanted (inr shown) = absurd (true≢false (sym shown ∙ some))

-- a run was put behind others, or left out

pub put_behind : (all wanted : Bool) (r : RunRecord) (s : Shown Entry End) (old new : List (Shown Entry End)) → wanted ≡ true → (IsTrue wanted ↔ IsWantedRun all r) → IsShownRun r s → new ≡ old ++ s ∷ [] → IsRunShownBehind all r old new
put_behind all wanted r s old new shown (test, tested) is more = inl (s, (is, test shown), more)

pub left_out : (all wanted : Bool) (r : RunRecord) (old : List (Shown Entry End)) → wanted ≡ false → (IsTrue wanted ↔ IsWantedRun all r) → IsRunShownBehind all r old old
left_out all wanted r old left (test, tested) = inr (refl, λ w. true≢false (sym (tested w) ∙ left))

-- each text is that of one of some runs, which is shown

from_more : (all : Bool) (rs : List RunRecord) (r : RunRecord) (s : Shown Entry End) → Any (λ x. IsShownWanted all x s) rs → Any (λ x. IsShownWanted all x s) (rs ++ r ∷ [])
from_more all rs r s (k, x, lt, at, is) =
    let (i, within, there) = Contains-append_left rs (r ∷ []) x (k, lt, at) in
    (i, x, within, there, is)

from_last : (all : Bool) (rs : List RunRecord) (r : RunRecord) (s : Shown Entry End) → IsShownWanted all r s → Any (λ x. IsShownWanted all x s) (rs ++ r ∷ [])
from_last all rs r s is =
    let (i, within, there) = Contains-push rs r in
    (i, r, within, there, is)

pub from_one_more : (all : Bool) (rs : List RunRecord) (r : RunRecord) (old new : List (Shown Entry End)) → IsRunShownBehind all r old new → All (λ s. Any (λ x. IsShownWanted all x s) rs) old → All (λ s. Any (λ x. IsShownWanted all x s) (rs ++ r ∷ [])) new
from_one_more all rs r old new (inl (s, is, more)) from =
    subst (λ (ss : List (Shown Entry End)). All (λ t. Any (λ x. IsShownWanted all x t) (rs ++ r ∷ [])) ss) (sym more)
    (All-push (λ t. Any (λ x. IsShownWanted all x t) (rs ++ r ∷ [])) old s (λ k d lt. from_more all rs r (get_or old k d) (from k d lt)) (from_last all rs r s is))
from_one_more all rs r old new (inr (same, cut)) from =
    subst (λ (ss : List (Shown Entry End)). All (λ t. Any (λ x. IsShownWanted all x t) (rs ++ r ∷ [])) ss) (sym same) (λ k d lt. from_more all rs r (get_or old k d) (from k d lt))

of_kept : (all : Bool) (rs : List RunRecord) (s : Shown Entry End) → Any (λ x. IsShownWanted all x s) rs → Any (λ x. IsShownRun x s) rs
of_kept all rs s (k, x, lt, at, (is, wanted)) = (k, x, lt, at, is)

-- each run that is to be shown is

shown_more : (old : List (Shown Entry End)) (s : Shown Entry End) (text : List ℕ) (end : End) → IsShown old text end → IsShown (old ++ s ∷ []) text end
shown_more old s text end (k, t, lt, at, is) =
    let (i, within, there) = Contains-append_left old (s ∷ []) t (k, lt, at) in
    (i, t, within, there, is)

pub there_one_more : (all : Bool) (rs : List RunRecord) (r : RunRecord) (old new : List (Shown Entry End)) → IsRunShownBehind all r old new → All (λ x. IsWantedRun all x → IsShown old (string_bytes x.lines) x.end) rs
    → All (λ x. IsWantedRun all x → IsShown new (string_bytes x.lines) x.end) (rs ++ r ∷ [])
there_one_more all rs r old new (inl (s, (is, wanted), more)) there =
    subst (λ (ss : List (Shown Entry End)). All (λ x. IsWantedRun all x → IsShown ss (string_bytes x.lines) x.end) (rs ++ r ∷ [])) (sym more)
    (All-push (λ x. IsWantedRun all x → IsShown (old ++ s ∷ []) (string_bytes x.lines) x.end) rs r (λ k d lt h. shown_more old s (string_bytes (get_or rs k d).lines) (get_or rs k d).end (there k d lt h))
    (λ h. Any-push (λ (t : Shown Entry End). (t.text.items ≡ string_bytes r.lines) × (t.end ≡ r.end)) old s (is.0, is.1)))
there_one_more all rs r old new (inr (same, cut)) there =
    subst (λ (ss : List (Shown Entry End)). All (λ x. IsWantedRun all x → IsShown ss (string_bytes x.lines) x.end) (rs ++ r ∷ [])) (sym same)
    (All-push (λ x. IsWantedRun all x → IsShown old (string_bytes x.lines) x.end) rs r there (λ h. absurd (cut h)))

-- why no more were tried keeps to what was asked
stop_within : (search_options : SearchOptions) (made asked : ℕ) (stop : Option SampleStop) (added : Bool) → IfNone stop (made ≡ asked) → IsSampleStop search_options made asked (sampled_stop search_options stop added)
stop_within search_options made asked None true whole = whole
stop_within search_options made asked (Some sample_stop.Kept) true whole = refl
stop_within search_options made asked (Some sample_stop.Entries) true whole = refl
stop_within search_options made asked (Some sample_stop.Memory) true whole = tt
stop_within search_options made asked stop false whole = refl

-- where that was for the most texts, it was for the runs that are kept, or one was left out
stop_full : (search_options : SearchOptions) (P : Type 0) (stop : Option SampleStop) (added : Bool) → (stop ≡ Some sample_stop.Kept → P) → (added ≡ false → P) → OnTexts (sampled_stop search_options stop added) P
stop_full search_options P None true kept full = tt
stop_full search_options P (Some sample_stop.Kept) true kept full = kept refl
stop_full search_options P (Some sample_stop.Entries) true kept full = tt
stop_full search_options P (Some sample_stop.Memory) true kept full = tt
stop_full search_options P stop false kept full = full refl

-- the text of a run that came to its end is among those that were found, or as many are as may be
kept_there : (most : ℕ) (others ss : List (Shown Entry End)) (r : RunRecord) (added : Bool) → IsShown others (string_bytes r.lines) r.end → (IsTrue added → All (λ s. IsShown ss s.text.items s.end) others) → (added ≡ false → length ss ≡ most)
    → IsShown ss (string_bytes r.lines) r.end ⊎ (length ss ≡ most)
kept_there most others ss r true (k, s, lt, at, (text, end)) put full =
    inl (subst (λ (t : List ℕ). IsShown ss t r.end) text (subst (λ (e : End). IsShown ss s.text.items e) end
    (subst (λ (x : Shown Entry End). IsShown ss x.text.items x.end) at (put refl k s lt))))
kept_there most others ss r false is put full = inr (full refl)

-- a list that has no element
pub no_items : {X : Type 0} (none : Bool) (count : ℕ) (xs : List X) → none ≡ (count == 0) → count ≡ length xs → IsTrue none → xs ≡ []
no_items none count [] is same told = refl
no_items none count (x ∷ xs) is same told = absurd (omega (arith, eqb-true count 0 (sym is ∙ told), same))

-- runs that were cut off are shown only where none was known, and then all are
cut_alone : (code : Compiled) (limits : Limits) (most : ℕ) (all added : Bool) (rs : List RunRecord) (known others ss : List (Shown Entry End)) → (IsTrue all → known ≡ []) → All (IsRun code limits) rs → All (λ s. Any (λ x. IsShownWanted all x s) rs) others
    → All (λ x. IsWantedRun all x → IsShown others (string_bytes x.lines) x.end) rs → All (IsLawfulShown code limits) known → All (λ s. Contains known s ⊎ Contains others s) ss → (IsTrue added → All (λ s. IsShown ss s.text.items s.end) others) → (added ≡ false → length ss ≡ most)
    → All (IsLawfulShown code limits) ss ⊎ (All (λ s. Any (λ x. IsShownRun x s) rs) ss × AreAllAmong most ss rs)
cut_alone code limits most true added rs known others ss none h from there lawful each put full =
    inr (
      all_of_each (λ s. Any (λ x. IsShownRun x s) rs) known others ss each (λ k d lt. of_kept true rs (get_or others k d) (from k d lt))
          (subst (λ (l : List (Shown Entry End)). All (λ s. Any (λ x. IsShownRun x s) rs) l) (sym (none refl)) (All-nil (λ s. Any (λ x. IsShownRun x s) rs))),
      λ k d lt. kept_there most others ss (get_or rs k d) added (there k d lt (inr refl)) put full,
    )
cut_alone code limits most false added rs known others ss none h from there lawful each put full = inl (all_of_each (IsLawfulShown code limits) known others ss each (λ k d lt. of_whole (get_or others k d) (from k d lt)) lawful)
  where
    of_whole : (s : Shown Entry End) → Any (λ x. IsShownWanted false x s) rs → IsLawfulShown code limits s
    of_whole s (k, r, lt, at, (is, inl whole)) = run_lawful code limits r s whole is (subst (IsRun code limits) at (h k r lt))
    of_whole s (k, r, lt, at, (is, inr shown)) = absurd (true≢false (sym shown))

pub samples_found : (code : Compiled) (search_options : SearchOptions) (made asked : ℕ) (stop : Option SampleStop) (told : Option SearchStop) (all added : Bool) (rs : List RunRecord) (known others ss : List (Shown Entry End)) → search_options.samples ≡ Some asked → made ≤ asked → IfNone stop (made ≡ asked)
    → told ≡ sampled_stop search_options stop added → (stop ≡ Some sample_stop.Kept → length rs ≡ search_options.max_texts) → length rs ≤ made → All (IsRun code (limits_in search_options)) rs → AreSampled code (limits_in search_options) search_options.seed made rs
    → (IsTrue all → known ≡ []) → All (λ s. Any (λ x. IsShownWanted all x s) rs) others → All (λ x. IsWantedRun all x → IsShown others (string_bytes x.lines) x.end) rs → All (IsLawfulShown code (limits_in search_options)) known → All (λ s. Contains known s ⊎ Contains others s) ss
    → (IsTrue added → All (λ s. IsShown ss s.text.items s.end) others) → (added ≡ false → length ss ≡ search_options.max_texts) → AllPairs AreDistinct ss → length ss ≤ search_options.max_texts
    → AreFound code search_options (Sampled (record { made = made; asked = asked; stop = told })) None ss None
samples_found code search_options made asked stop told all added rs known others ss some few whole tells kept less h sampled none from there lawful each put full distinct short = record {
  sound =
      all_of_each (IsFound (Sampled (record { made = made; asked = asked; stop = told })) code (limits_in search_options)) known others ss each
      (λ k d lt. of_run (get_or others k d) (from k d lt)) (λ k d lt. inl (lawful k d lt));
  distinct = distinct;
  few = short;
  within = (some, few, subst (IsSampleStop search_options made asked) (sym tells) (stop_within search_options made asked stop added whole));
  all = tt;
  never = tt;
  seeds = record {
    kept = rs;
    sampled = sampled;
    few = less;
    from =
        all_of_each (λ s. IsLawfulShown code (limits_in search_options) s ⊎ Any (λ x. IsShownRun x s) rs) known others ss each
        (λ k d lt. inr (of_kept all rs (get_or others k d) (from k d lt))) (λ k d lt. inl (lawful k d lt));
    there = λ k d lt ended. kept_there search_options.max_texts others ss (get_or rs k d) added (there k d lt (inl ended)) put full;
    cut = cut_alone code (limits_in search_options) search_options.max_texts all added rs known others ss none h from there lawful each put full;
    full =
        subst (λ (o : Option SearchStop). OnTexts o ((length rs ≡ search_options.max_texts) ⊎ (length ss ≡ search_options.max_texts))) (sym tells)
        (stop_full search_options ((length rs ≡ search_options.max_texts) ⊎ (length ss ≡ search_options.max_texts)) stop added (λ is. inl (kept is)) (λ is. inr (full is)));
  };
  numbered = refl;
  followed = λ met. unmet (AreTextsFollowed code (limits_in search_options) search_options.max_texts ss None) met;
}
  where
    of_run : (s : Shown Entry End) → Any (λ x. IsShownWanted all x s) rs → IsLawfulShown code (limits_in search_options) s ⊎ ((run : RunRecord) × IsShownRun run s × IsRun code (limits_in search_options) run)
    of_run s (k, r, lt, at, (is, wanted)) = inr (r, is, subst (IsRun code (limits_in search_options)) at (h k r lt))
