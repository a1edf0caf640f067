-- Functions and tasks that are added to those found so far.
use Rattle.std.proofs.Common.{◌≡◌, List, [], ◌∷◌, ◌++◌, Contains, Result, Ok, Err, OnOk, inl, inr, sym, subst}
use Rattle.std.proofs.lemmas.List.Elements.{Contains-push_cases}
use Rattle.syntax_tree.specs.declared.modules.FunctionDeclaration.{FunctionDeclaration}
use Rattle.syntax_tree.specs.declared.modules.TaskDeclaration.{TaskDeclaration}
use Rattle.syntax_tree.specs.declared.modules.ModuleItem.{ModuleItem}
use Rattle.syntax_tree.specs.declared.modules.ModuleItem.TheVariants as item
use Rattle.routine_texts.specs.declared.table.Routine.{Routine}
use Rattle.routine_texts.specs.Routines.{function_declared, task_declared}
use Rattle.routine_texts.specs.Tables.{IsOfItem, of_function, of_task, AddsRoutines, routine_plain}

-- one of some items is one of others
pub of_more : (P Q : ModuleItem → Type 0) (r : Routine) → ((x : ModuleItem) → Q x → P x) → IsOfItem Q r → IsOfItem P r
of_more P Q r f (of_function d q token same) = of_function d (f (item.Function d) q) token same
of_more P Q r f (of_task d q token same) = of_task d (f (item.Task d) q) token same

-- none is added
pub routines_none : (xs : List Routine) (P : ModuleItem → Type 0) → AddsRoutines xs xs P
routines_none xs P = λ r among. inl among

-- one is
pub routines_one : (old new : List Routine) (x : Routine) (P : ModuleItem → Type 0) → new ≡ old ++ x ∷ [] → IsOfItem P x → AddsRoutines old new P
routines_one old new x P pushed h = λ r among.
    elim (Contains-push_cases old x r (subst (λ (xs : List Routine). Contains xs r) pushed among)) [ inl was ↦ inl was | inr same ↦ inr (subst (λ (q : Routine). IsOfItem P q) same h) ]

-- some are, and then others
pub routines_both : (old mid new : List Routine) (P Q : ModuleItem → Type 0) → ((x : ModuleItem) → Q x → P x) → AddsRoutines old mid P → AddsRoutines mid new Q → AddsRoutines old new P
routines_both old mid new P Q f front back = λ r among. elim (back r among) [ inl was ↦ front r was | inr q ↦ inr (of_more P Q r f q) ]

-- some are, if a call adds them
pub routines_ok : {A E : Type 0} → (result : Result A E) (old mid new : List Routine) (P Q : ModuleItem → Type 0) → ((x : ModuleItem) → Q x → P x) → AddsRoutines old mid P → OnOk result (AddsRoutines mid new Q) → OnOk result (AddsRoutines old new P)
routines_ok (Ok x) old mid new P Q f front h = routines_both old mid new P Q f front h
routines_ok (Err e) old mid new P Q f front h = tt
