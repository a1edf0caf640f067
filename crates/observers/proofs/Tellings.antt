-- What is seen of a journal on its way: an entry that is taken or has no step, and one entry more.
use Rattle.std.proofs.Common.{◌≡◌, ◌∙◌, ℕ, suc, ◌+◌, ◌<◌, List, [], ◌∷◌, ◌++◌, append_assoc, length, drop, get_or, Some, None, option_map, Bool, false, Result, Ok, Err, refl, sym, ap, subst, arith}
use Rattle.std.specs.Prelude.{option_and_then, IfOk}
use Rattle.std.proofs.Math.Seq.{drop-cons}
use Rattle.model.specs.declared.entry.Entry.{Entry}
use Rattle.model.specs.Design.{Design}
use Rattle.model.specs.States.{State, start}
use Rattle.model.specs.Runs.{Effect, silent, joined, step, effect}
use Rattle.design.specs.Compiled.{Compiled, design_of}
use Rattle.regions.specs.declared.machine.TakeFault.{TakeFault}
use Rattle.regions.specs.declared.machine.TakeFault.TheVariants as fault
use Rattle.regions.specs.Machine.{MachineView, most_entries, state_at, IsNotTaken}
use Rattle.regions.specs.StepLogs.{IsTaken}
use Rattle.looseruns.specs.ObservedJournals.{Observer, seen_at, effect_with_seen, observed_step, observed_run_from, observed_run}
use Rattle.observers.specs.Observations.{HasNoStep, HasSeen, IsTakenObserved}

-- an entry that is taken

-- the same machine, but for its lines
abbrev with_lines : MachineView → List ℕ → MachineView
with_lines p lines = record p { lines = lines }

seen_step : (observe : Observer) (old : MachineView) (text : List ℕ) (entry : Entry) (lines : List ℕ) (new : MachineView) (told : List ℕ)
    → IsTaken old.code (state_at old) lines entry (state_at new) new.lines → told ++ lines ≡ (text ++ old.lines) ++ seen_at observe (state_at old) entry
    → new.core.entries ≡ old.core.entries + 1 → IsTakenObserved observe old text entry new told
seen_step observe old text entry lines new told taken before counted =
    let seen : List ℕ = seen_at observe (state_at old) entry in
    record {
      effect = effect_with_seen seen taken.effect;
      is_step = ap (option_map (effect_with_seen seen)) taken.is_step;
      state_is = taken.state_is;
      prints = ap (λ l. told ++ l) taken.lines_are ∙ sym (append_assoc told lines taken.effect.lines) ∙ ap (λ l. l ++ taken.effect.lines) before
          ∙ append_assoc (text ++ old.lines) seen taken.effect.lines;
      entries = counted;
    }

-- an entry that is taken behind what was told before it
pub taken_observed : (observe : Observer) (old mid : MachineView) (text : List ℕ) (entry : Entry) (new : MachineView) (told : List ℕ)
    → mid ≡ with_lines old mid.lines → IsTaken mid.code (state_at mid) mid.lines entry (state_at new) new.lines
    → told ++ mid.lines ≡ (text ++ old.lines) ++ seen_at observe (state_at old) entry → new.core.entries ≡ mid.core.entries + 1
    → IsTakenObserved observe old text entry new told
taken_observed observe old mid text entry new told same taken before counted =
    seen_step observe old text entry mid.lines new told
    (subst (λ (p : MachineView). IsTaken p.code (state_at p) mid.lines entry (state_at new) new.lines) same taken) before
    (counted ∙ ap (λ (p : MachineView). p.core.entries + 1) same)

-- one that isn't taken has no step where its machine stood before
pub not_taken : (old mid : MachineView) (entry : Entry) → mid ≡ with_lines old mid.lines → step (design_of mid.code) (state_at mid) entry ≡ None
    → step (design_of old.code) (state_at old) entry ≡ None
not_taken old mid entry same none = subst (λ (p : MachineView). step (design_of p.code) (state_at p) entry ≡ None) same none

pub untaken_stuck : {E : Type 0} (answer : Result Bool E) (f : TakeFault) (old mid : MachineView) (entry : Entry) → mid ≡ with_lines old mid.lines → old.core.entries < most_entries
    → IsNotTaken mid entry f → IfOk answer (λ _. HasNoStep f) → IfOk answer (λ taken. taken ≡ false → step (design_of old.code) (state_at old) entry ≡ None)
untaken_stuck (Ok taken) f old mid entry same few is none =
    λ _. not_taken old mid entry same (none mid entry (subst (λ (p : MachineView). p.core.entries < most_entries) (sym same) few) is)
untaken_stuck (Err e) f old mid entry same few is none = tt

-- the entries of a journal, one after another

here : (journal : List Entry) (i : ℕ) (entry d : Entry) → i < length journal → entry ≡ get_or journal i d → drop i journal ≡ entry ∷ drop (i + 1) journal
here journal i entry d inside is =
    let next : suc i ≡ i + 1 = omega arith in
    drop-cons journal i d inside ∙ ap (λ (e : Entry). e ∷ drop (suc i) journal) (sym is) ∙ ap (λ n. entry ∷ drop n journal) next

-- at the start nothing was taken
pub none_seen : (observe : Observer) (journal : List Entry) (text : List ℕ) (p : MachineView) → state_at p ≡ start (design_of p.code) → text ≡ [] → p.lines ≡ []
    → p.core.entries ≡ 0 → HasSeen observe journal 0 text p
none_seen observe journal text p first empty silent_is none =
    record {
      effect = silent (start (design_of p.code));
      goes_on = refl;
      state_is = sym first;
      prints = sym (ap (λ t. t ++ p.lines) empty ∙ silent_is);
      entries = none;
    }

goes_further : (design : Design) (observe : Observer) (e f : Effect) (s : State) (entry : Entry) (rest : List Entry) → e.state ≡ s → observed_step design observe s entry ≡ Some f
    → observed_run_from design observe e (entry ∷ rest) ≡ observed_run_from design observe (joined e f) rest
goes_further design observe e f s entry rest state_is is_step =
    ap (option_and_then (λ (g : Effect). observed_run_from design observe (joined e g) rest))
    (ap (λ (t : State). observed_step design observe t entry) state_is ∙ is_step)

-- one entry more
pub seen_more : (observe : Observer) (journal : List Entry) (i : ℕ) (entry d : Entry) (text told : List ℕ) (old new : MachineView) → i < length journal
    → entry ≡ get_or journal i d → new.code ≡ old.code → HasSeen observe journal i text old → IsTakenObserved observe old text entry new told
    → HasSeen observe journal (i + 1) told new
seen_more observe journal i entry d text told old new inside is same seen taken =
    let design = design_of old.code in
    let goes : observed_run_from design observe (joined seen.effect taken.effect) (drop (i + 1) journal) ≡ observed_run design observe journal =
    sym (goes_further design observe seen.effect taken.effect (state_at old) entry (drop (i + 1) journal) seen.state_is taken.is_step)
    ∙ ap (observed_run_from design observe seen.effect) (sym (here journal i entry d inside is)) ∙ seen.goes_on in
    record {
      effect = joined seen.effect taken.effect;
      goes_on = subst (λ (c : Compiled). observed_run_from (design_of c) observe (joined seen.effect taken.effect) (drop (i + 1) journal) ≡ observed_run (design_of c) observe journal) (sym same) goes;
      state_is = taken.state_is;
      prints = ap (λ l. l ++ taken.effect.lines) seen.prints ∙ sym taken.prints;
      entries = taken.entries ∙ ap (λ n. n + 1) seen.entries;
    }
