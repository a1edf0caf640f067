-- The runs of several seeds.
use Rattle.std.proofs.Common.{◌≡◌, ◌⊎◌, inl, inr, ℕ, ◌+◌, ◌%◌, ◌^◌, ◌<◌, ◌≤◌, List, [], ◌∷◌, ◌++◌, length, get_or, sym, ◌∙◌, ap, subst, refl, arith}
use Rattle.std.specs.List.{All, Contains}
use Rattle.std.proofs.lemmas.Bool.{cases_lt}
use Rattle.std.proofs.lemmas.List.{get_or_append_left, get_or_push, length_push}
use Rattle.std.proofs.lemmas.List.Elements.{All-nil, All-push, All-weaker, Contains-append_left, Contains-push}
use Rattle.model.specs.declared.end.Limits.{Limits}
use Rattle.design.specs.Compiled.{Compiled}
use Rattle.runs.specs.declared.run.RunRecord.{RunRecord}
use Rattle.runs.specs.RunRecords.{IsRun}
use Rattle.runs.specs.Compared.{AreLike, IsWhole, WantsNoMemory}
use Rattle.seeded.specs.Samples.{AreStillIn, IsRepresented}
use Rattle.seeded.specs.Seeds.{AreSampled, FollowsSeed, IsRunOfSeed}
use Rattle.seeded.proofs.Keeping.{all_from}

like_whole : (one run : RunRecord) → AreLike one run → IsWhole run → IsWhole one
like_whole one run like whole = ((λ is. whole.0 (sym like.1 ∙ is)), (λ is. whole.1 (sym like.1 ∙ is)))

-- what is told of a run by the kept ones is told by those that are still kept
told_still : (old new : List RunRecord) (run : RunRecord) → AreStillIn old new → IsRepresented old run → IsRepresented new run
told_still old new run still told = λ whole.
    let (k, one, lt, is, like) = told whole in
    let there : Contains new one = still one (k, lt, subst (λ (x : RunRecord). x ≡ one) (sym is) refl) (like_whole one run like whole) in
    (there.0, one, there.1, there.2, like)

seeds_cases : (code : Compiled) (limits : Limits) (first made : ℕ) (runs : List RunRecord) (run : RunRecord) → length runs ≡ made
    → ((k : ℕ) (d : RunRecord) → k < length runs → IsRunOfSeed code limits ((first + k) % 2 ^ 64) (get_or runs k d)) → IsRunOfSeed code limits ((first + made) % 2 ^ 64) run
    → (k : ℕ) (d : RunRecord) → k < length (runs ++ run ∷ []) → (k < made) ⊎ (made ≤ k) → IsRunOfSeed code limits ((first + k) % 2 ^ 64) (get_or (runs ++ run ∷ []) k d)
seeds_cases code limits first made runs run count before here k d lt (inl less) =
    let within : k < length runs = omega (arith, less, count) in
    subst (λ (r : RunRecord). IsRunOfSeed code limits ((first + k) % 2 ^ 64) r) (sym (get_or_append_left runs (run ∷ []) d k within)) (before k d within)
seeds_cases code limits first made runs run count before here k d lt (inr more) =
    let last : k ≡ made = omega (arith, more, lt, length_push runs run, count) in
    subst (λ (r : RunRecord). IsRunOfSeed code limits ((first + k) % 2 ^ 64) r) (sym (get_or_push runs run d k (count ∙ sym last)))
    (subst (λ (n : ℕ). IsRunOfSeed code limits ((first + n) % 2 ^ 64) run) (sym last) here)

-- before the first run
pub sampled_none : (code : Compiled) (limits : Limits) (first : ℕ) (kept : List RunRecord) → kept ≡ [] → AreSampled code limits first 0 kept
sampled_none code limits first kept empty = record {
  runs = [];
  count = refl;
  seeds = λ k d lt. absurd (omega (arith, lt));
  from = subst (λ (xs : List RunRecord). All (Contains []) xs) (sym empty) (All-nil (Contains []));
  told = All-nil (IsRepresented kept);
}

-- the run of one seed
pub of_seed : (code : Compiled) (limits : Limits) (seed place : ℕ) (r : RunRecord) → seed ≡ place → IsRun code limits r → FollowsSeed code seed r → WantsNoMemory r
    → IsRunOfSeed code limits place r
of_seed code limits seed place r is run follows ended =
    record { run = run; follows = subst (λ (n : ℕ). FollowsSeed code n r) is follows; ended = ended }

-- with the run of one seed more
pub sampled_more : (code : Compiled) (limits : Limits) (first made : ℕ) (old new : List RunRecord) (run : RunRecord) → AreSampled code limits first made old
    → All (λ one. Contains old one ⊎ (one ≡ run)) new → AreStillIn old new → IsRepresented new run → IsRunOfSeed code limits ((first + made) % 2 ^ 64) run
    → AreSampled code limits first (made + 1) new
sampled_more code limits first made old new run before from still told here =
    let runs : List RunRecord = before.runs ++ run ∷ [] in
    let all : All (Contains runs) old = All-weaker (Contains before.runs) (Contains runs) (λ one there. Contains-append_left before.runs (run ∷ []) one there) old before.from in
    record {
      runs = runs;
      count = length_push before.runs run ∙ ap (λ (n : ℕ). n + 1) before.count;
      seeds = λ k d lt. seeds_cases code limits first made before.runs run before.count before.seeds here k d lt (cases_lt k made);
      from = all_from (Contains runs) old new run all (Contains-push before.runs run) from;
      told = All-push (IsRepresented new) before.runs run (All-weaker (IsRepresented old) (IsRepresented new) (λ one. told_still old new one still) before.runs before.told) told;
    }

-- those that stay are sampled
pub sampled_stay : (code : Compiled) (limits : Limits) (first made : ℕ) (old new : List RunRecord) → new ≡ old → AreSampled code limits first made old
    → AreSampled code limits first made new
sampled_stay code limits first made old new is before = subst (λ (xs : List RunRecord). AreSampled code limits first made xs) (sym is) before
