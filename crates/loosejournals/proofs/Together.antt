-- Classes by which registers are together.
use Rattle.std.proofs.Common.{◌≡◌, ◌⊎◌, inl, inr, ℕ, zero, suc, ◌+◌, ◌<◌, ◌≤◌, false, List, [], ◌∷◌, ◌++◌, map, length, get_or, take, drop, refl, sym, ap, subst, ◌∙◌, arith, append-nil}
use Rattle.std.specs.Prelude.{slice_index, slice_index_or}
use Rattle.std.proofs.lemmas.Bool.{cases_lt}
use Rattle.std.proofs.lemmas.List.{drop_all, take_all}
use Rattle.std.proofs.lemmas.List.Elements.{at_read}
use Rattle.model.specs.Design as model
use Rattle.model.specs.Design.{End, process_at}
use Rattle.design.specs.declared.tree.Process.{Process}
use Rattle.design.specs.DesignTrees.{process_of, statements_of, tree_design}
use Rattle.loosejournals.specs.Classes.{targets_of, AreTogether, AreStillTogether, AreTogetherIn}

-- a register and each of those before a place are together
pub record AreBesideFirst (first : ℕ) (registers classes : List ℕ) (at : ℕ) : Type 0 where
  pub beside : (k : ℕ) → k < at → slice_index classes first ≡ slice_index classes (slice_index registers k)

-- none are together with others
pub none_apart : (registers classes : List ℕ) → length registers ≡ 0 → AreTogether classes registers
none_apart registers classes none = λ one other here there. absurd (omega (arith, here.1, none))

-- what was together stays so
pub still_together : (registers old new : List ℕ) → AreStillTogether old new → AreTogether old registers → AreTogether new registers
still_together registers old new kept before = λ one other here there. kept one other (before one other here there)

-- of each process before a place, what it assigns is together
abbrev pub AreTogetherBefore : List Process → List ℕ → ℕ → Type 0
AreTogetherBefore processes classes at =
    (k : ℕ) (d : Process) → k < at → AreTogether classes (targets_of (statements_of (get_or processes k d).body.items))

before_cases : (processes : List Process) (old new : List ℕ) (at : ℕ) (process : Process) → process ≡ get_or processes at process → at < length processes → AreStillTogether old new
    → AreTogether new (targets_of (statements_of process.body.items)) → AreTogetherBefore processes old at → (k : ℕ) (d : Process) → k < at + 1 → (k < at) ⊎ (at ≤ k)
    → AreTogether new (targets_of (statements_of (get_or processes k d).body.items))
before_cases processes old new at process is within kept joined before k d lt (inl less) =
    still_together (targets_of (statements_of (get_or processes k d).body.items)) old new kept (before k d less)
before_cases processes old new at process is within kept joined before k d lt (inr more) =
    let here : at ≡ k = omega (arith, lt, more) in
    subst (λ (i : ℕ). AreTogether new (targets_of (statements_of (get_or processes i d).body.items))) here
    (at_read processes (λ (p : Process). AreTogether new (targets_of (statements_of p.body.items))) at process within is joined d)

-- one process more
pub before_more : (processes : List Process) (old new : List ℕ) (at : ℕ) (process : Process) → process ≡ get_or processes at process → at < length processes → AreStillTogether old new
    → AreTogether new (targets_of (statements_of process.body.items)) → AreTogetherBefore processes old at → AreTogetherBefore processes new (at + 1)
before_more processes old new at process is within kept joined before = λ k d lt.
    before_cases processes old new at process is within kept joined before k d lt (cases_lt k at)

process_there : (processes : List Process) (p : ℕ) (x : Process) (d : model.Process) → p < length processes → slice_index_or (map process_of processes) p d ≡ process_of (get_or processes p x)
process_there [] p x d lt = absurd (omega (arith, lt))
process_there (y ∷ processes) zero x d lt = refl
process_there (y ∷ processes) (suc p) x d lt = process_there processes p x d (omega (arith, lt))

first_of : (processes : List Process) (p : ℕ) → p < length processes → Process
first_of [] p lt = absurd (omega (arith, lt))
first_of (y ∷ processes) p lt = y

no_process : (processes : List Process) (p : ℕ) (d : model.Process) → length processes ≤ p → slice_index_or (map process_of processes) p d ≡ d
no_process [] p d past = refl
no_process (y ∷ processes) zero d past = absurd (omega (arith, past))
no_process (y ∷ processes) (suc p) d past = no_process processes p d (omega (arith, past))

in_cases : (widths : List ℕ) (processes : List Process) (classes : List ℕ) (at : ℕ) → length processes ≤ at → AreTogetherBefore processes classes at → (p : ℕ)
    → (p < length processes) ⊎ (length processes ≤ p) → AreTogether classes (targets_of (process_at (tree_design widths processes) p).body)
in_cases widths processes classes at end all p (inl within) =
    let x : Process = first_of processes p within in
    subst (λ (q : model.Process). AreTogether classes (targets_of q.body)) (sym (process_there processes p x (record { repeats = false; body = End }) within))
    (all p x (omega (arith, within, end)))
in_cases widths processes classes at end all p (inr past) =
    subst (λ (q : model.Process). AreTogether classes (targets_of q.body)) (sym (no_process processes p (record { repeats = false; body = End }) past))
    (none_apart [] classes refl)

-- all processes
pub together_in : (widths : List ℕ) (processes : List Process) (classes : List ℕ) (at : ℕ) → length processes ≤ at → AreTogetherBefore processes classes at
    → AreTogetherIn (tree_design widths processes) classes
together_in widths processes classes at end all = λ p one other here there.
    in_cases widths processes classes at end all p (cases_lt p (length processes)) one other here there

-- what is written back of a list of the same length is the new one
pub written_back : (n : ℕ) (new old : List ℕ) → length old ≡ n → length new ≡ n → take n (new ++ drop (length new) old) ≡ new
written_back n new old is same =
    let none : drop (length new) old ≡ [] = drop_all (length new) old (omega (arith, is, same)) in
    ap (λ (rest : List ℕ). take n (new ++ rest)) none ∙ (ap (take n) (append-nil new) ∙ take_all n new (omega (arith, same)))
