-- A turn goes on after what was done.
use Rattle.std.proofs.Common.{◌≡◌, ℕ, List, sym, subst}
use Rattle.std.specs.Prelude.{Result, Ok, Err, OnOk, IfOk}
use Rattle.std.specs.Result.{result_map_both}
use Rattle.turn.specs.declared.machine.Step.{Step}
use Rattle.turn.specs.declared.machine.Step.TheVariants.{Goes}
use Rattle.turn.specs.declared.memory.Seen.{Seen}
use Rattle.turn.specs.Reads.{GaveAll, ReadsOn}

by_result : {A E : Type 0} (done : Result A E) (P : Step → Type 0) → OnOk done (P Goes) → IfOk (result_map_both (λ (x : A). Goes) (λ (e : E). e) done) P
by_result (Ok x) P h = h
by_result (Err e) P h = tt

-- what holds where it goes on
pub goes_where : {A E : Type 0} (done : Result A E) (result : Result Step E) (P : Step → Type 0) → result ≡ result_map_both (λ (x : A). Goes) (λ (e : E). e) done → OnOk done (P Goes) → IfOk result P
goes_where done result P is h = subst (λ r. IfOk r P) (sym is) (by_result done P h)

-- what it read
pub goes_reading : {S L A E : Type 0} (given : S → ℕ → Seen → Type 0) (stays : S → L) (done : Result A E) (result : Result Step E) (old : S) (before : List (ℕ × Seen)) (new : S) (after : List (ℕ × Seen))
    → result ≡ result_map_both (λ (x : A). Goes) (λ (e : E). e) done → ReadsOn given stays done old before new after → ReadsOn given stays result old before new after
goes_reading given stays done result old before new after is h =
    record {
      gave = goes_where done result (λ _. GaveAll (given old) before → GaveAll (given new) after) is h.gave;
      keeps = h.keeps;
      lasting = h.lasting;
    }
