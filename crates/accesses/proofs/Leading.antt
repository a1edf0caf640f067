-- A machine that is led along a journal, and the logs of turns.
use Rattle.std.proofs.Common.{◌≡◌, ℕ, ◌+◌, ◌<◌, Bool, true, false, List, [], ◌∷◌, ◌++◌, map, take, get_or, length, Option, Some, None, is_some, refl, sym, ◌∙◌, ap, subst, arith}
use Rattle.std.specs.Prelude.{option_and_then, option_map, ◌==◌, ◌||◌, not}
use Rattle.std.specs.List.{list_any}
use Rattle.std.specs.Map.{lookup}
use Rattle.std.proofs.lemmas.Bool.{ne_eqb, not_from_false}
use Rattle.std.proofs.lemmas.List.{append_assoc, take_more}
use Rattle.model.specs.declared.entry.Entry.{Entry}
use Rattle.model.specs.Design.{Design}
use Rattle.model.specs.States.{State, start}
use Rattle.model.specs.Runs.{Effect, has_any, silent, step, run_from, run, after, joined}
use Rattle.model.proofs.RunLaws.{run_from-append}
use Rattle.design.specs.Compiled.{Compiled, design_of}
use Rattle.regions.specs.StepLogs.{IsTaken}
use Rattle.regions.specs.Machine.{MachineView, state_at}
use Rattle.accesses.specs.ExchangedEntries.{IsLed}

-- a run of one entry more
run_more : (design : Design) (journal : List Entry) (entry : Entry) (e f : Effect) → run design journal ≡ Some e → step design e.state entry ≡ Some f
    → run design (journal ++ entry ∷ []) ≡ Some (joined e f)
run_more design journal entry e f ran next =
    run_from-append design (silent (start design)) journal (entry ∷ [])
    ∙ (ap (option_and_then (λ g. run_from design g (entry ∷ []))) ran
    ∙ ap (option_and_then (λ g. run_from design (joined e g) [])) next)

same_some : {A : Type 0} (x y : A) → Some x ≡ Some y → x ≡ y
same_some x y e = cc

after_by : (design : Design) (journal : List Entry) (entry : Entry) (s t : State) (f : Effect) (o : Option Effect) → run design journal ≡ o
    → option_map (λ (e : Effect). e.state) o ≡ Some s → step design s entry ≡ Some f → f.state ≡ t → after design (journal ++ entry ∷ []) ≡ Some t
after_by design journal entry s t f None ran here next to = cc
after_by design journal entry s t f (Some e) ran here next to =
    let same : e.state ≡ s = same_some e.state s here in
    let more : run design (journal ++ entry ∷ []) ≡ Some (joined e f) =
    run_more design journal entry e f ran (ap (λ (u : State). step design u entry) same ∙ next) in
    ap (option_map (λ (g : Effect). g.state)) more ∙ ap (λ (u : State). Some u) to

-- a journal of one entry more
after_more : (design : Design) (journal : List Entry) (entry : Entry) (s t : State) (f : Effect) → after design journal ≡ Some s → step design s entry ≡ Some f
    → f.state ≡ t → after design (journal ++ entry ∷ []) ≡ Some t
after_more design journal entry s t f here next to = after_by design journal entry s t f (run design journal) refl here next to

-- the machine took one entry more
pub led_more : (old mid new : MachineView) (es : List Entry) (i : ℕ) (entry d : Entry) → IsLed old (take i es) mid → mid.code ≡ old.code
    → IsTaken mid.code (state_at mid) mid.lines entry (state_at new) new.lines → i < length es → entry ≡ get_or es i d → IsLed old (take (i + 1) es) new
led_more old mid new es i entry d led same taken lt is = λ before start.
    let design : Design = design_of old.code in
    let here : after design (before ++ take i es) ≡ Some (state_at mid) = led before start in
    let next : step design (state_at mid) entry ≡ Some taken.effect =
    subst (λ (c : Compiled). step (design_of c) (state_at mid) entry ≡ Some taken.effect) same taken.is_step in
    let more : after design ((before ++ take i es) ++ entry ∷ []) ≡ Some (state_at new) =
    after_more design (before ++ take i es) entry (state_at mid) (state_at new) taken.effect here next taken.state_is in
    let one_more : take (i + 1) es ≡ take i es ++ entry ∷ [] = take_more es i d lt ∙ ap (λ (x : Entry). take i es ++ x ∷ []) (sym is) in
    let same_list : (before ++ take i es) ++ entry ∷ [] ≡ before ++ take (i + 1) es =
    append_assoc before (take i es) (entry ∷ []) ∙ ap (λ (l : List Entry). before ++ l) (sym one_more) in
    subst (λ (l : List Entry). after design l ≡ Some (state_at new)) same_list more

looked_by : {X : Type 0} (t : ℕ → Bool) (b : Bool) (e : ℕ × X) (es : List (ℕ × X)) → t e.0 ≡ b → is_some (lookup t es) ≡ list_any t (map (λ f. f.0) es)
    → is_some (lookup t (e ∷ es)) ≡ list_any t (map (λ f. f.0) (e ∷ es))
looked_by t true e es is rest = rw is refl
looked_by t false e es is rest = rw is rest

-- a key is found where some key passes
pub looked_up : {X : Type 0} (t : ℕ → Bool) (es : List (ℕ × X)) → is_some (lookup t es) ≡ list_any t (map (λ f. f.0) es)
looked_up t [] = refl
looked_up t (e ∷ es) = looked_by t (t e.0) e es refl (looked_up t es)

-- a test of what a list is mapped to
pub any_of_map : {X Y : Type 0} (t : Y → Bool) (f : X → Y) (xs : List X) → list_any t (map f xs) ≡ list_any (λ x. t (f x)) xs
any_of_map t f [] = refl
any_of_map t f (x ∷ xs) = ap (λ (b : Bool). t (f x) || b) (any_of_map t f xs)

-- what is mapped has one where the list isn't empty
pub any_mapped : {X Y : Type 0} (f : X → Y) (xs : List X) → has_any (map f xs) ≡ not (length xs == 0)
any_mapped f [] = refl
any_mapped f (x ∷ xs) = sym (not_from_false (length (x ∷ xs) == 0) (ne_eqb (length (x ∷ xs)) 0 (λ h. absurd (omega (arith, h)))))
