-- A journal goes on by one entry more, or stops at it.
use Rattle.std.proofs.Common.{◌≡◌, ℕ, suc, ◌+◌, ◌<◌, List, [], ◌∷◌, ◌++◌, length, take, Option, Some, refl, sym, ◌∙◌, ap, subst, arith}
use Rattle.std.specs.Prelude.{option_and_then, slice_index_or, unwrap_or}
use Rattle.std.proofs.Math.Seq.{take-suc}
use Rattle.model.specs.declared.entry.Entry.{Entry}
use Rattle.regions.specs.declared.machine.TakeFault.{TakeFault}
use Rattle.regions.specs.declared.machine.TakeFault.TheVariants.{Refused, TooLong, TooMany, ApplyMemory, Memory}
use Rattle.model.specs.Design.{Design}
use Rattle.model.specs.States.{start}
use Rattle.model.specs.Runs.{Effect, joined, run, run_from, silent}
use Rattle.model.proofs.RunLaws.{run_from-append}
use Rattle.design.specs.Compiled.{Compiled, design_of}
use Rattle.regions.specs.Machine.{MachineView, state_at, IsNotTaken}
use Rattle.replay.specs.Replays as replays
use Rattle.replay.specs.JournalFaults.{IsCauseOf, cause_of}
use Rattle.replay.proofs.Runs.{next_fault}
use Rattle.steps.specs.ExplainerStanding.{Standing, IsExplainerBehind, IsExplained}

-- behind a lawful journal the machine stands where the entry's step comes to
pub stands_there : (journal : List Entry) (entry : Entry) (old new : Standing) (told : IsExplained journal entry old new) → new.position.code ≡ old.position.code → told.effect.state ≡ state_at new.position
stands_there journal entry old new told same =
    let design : Design = design_of old.position.code in
    let more : run design (journal ++ entry ∷ []) ≡ Some (joined told.before told.effect) =
    run_from-append design (silent (start design)) journal (entry ∷ [])
    ∙ (ap (option_and_then (λ g. run_from design g (entry ∷ []))) told.is_run
    ∙ ap (option_and_then (λ g. run_from design (joined told.before g) [])) told.told.is_step) in
    let ran : run design (journal ++ entry ∷ []) ≡ Some told.behind.effect = ap (λ (c : Compiled). run (design_of c) (journal ++ entry ∷ [])) (sym same) ∙ told.behind.is_run in
    let one : joined told.before told.effect ≡ told.behind.effect = ap (λ (o : Option Effect). unwrap_or o told.behind.effect) (sym more ∙ ran) in
    ap (λ (e : Effect). e.state) one ∙ told.behind.state_is

-- one entry more
pub next_behind : (journal : List Entry) (at : ℕ) (d : Entry) (old new : Standing) → at < length journal → IsExplainerBehind (take at journal) old
    → ((j : List Entry) → IsExplainerBehind j old → IsExplained j (slice_index_or journal at d) old new) → IsExplainerBehind (take (at + 1) journal) new
next_behind journal at d old new inside behind told =
    let one : suc at ≡ at + 1 = omega arith in
    let more : take (at + 1) journal ≡ take at journal ++ slice_index_or journal at d ∷ [] = ap (λ (n : ℕ). take n journal) (sym one) ∙ take-suc journal at d inside in
    subst (λ (j : List Entry). IsExplainerBehind j new) (sym more) (told (take at journal) behind).behind

not_taken_lines : (p : MachineView) (lines : List ℕ) (entry : Entry) (f : TakeFault) → IsNotTaken p entry f → IsNotTaken (record p { lines = lines }) entry f
not_taken_lines p lines entry (Refused r) h = h
not_taken_lines p lines entry TooLong h = h
not_taken_lines p lines entry TooMany h = h
not_taken_lines p lines entry ApplyMemory h = h
not_taken_lines p lines entry Memory h = h

-- the fault of one entry more
pub next_failure : (journal : List Entry) (at : ℕ) (d : Entry) (x : Standing) (f : TakeFault) → at < length journal → IsExplainerBehind (take at journal) x
    → x.position.core.entries ≡ at → IsNotTaken x.position (slice_index_or journal at d) f → IsCauseOf x.position.code journal (at + 1) (cause_of f)
next_failure journal at d x f inside behind count stop =
    let p : MachineView = record x.position { lines = behind.effect.lines } in
    let ran : replays.IsBehind (take at journal) p = record { effect = behind.effect; is_run = behind.is_run; state_is = behind.state_is; lines_are = refl } in
    next_fault journal at d p f inside ran count (not_taken_lines x.position behind.effect.lines (slice_index_or journal at d) f stop)
