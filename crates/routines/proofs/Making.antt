-- Processes that are made, one after another.
use Rattle.std.proofs.Common.{◌≡◌, ℕ, ◌+◌, ◌≤◌, List, [], ◌∷◌, ◌++◌, length, drop, append_assoc, Contains, Bor, Result, Ok, Err, IfOk, ap, sym, subst, ◌∙◌}
use Rattle.std.proofs.lemmas.List.{append-nil, drop_all}
use Rattle.design_scopes.specs.declared.scoped.PlacedProcess.{PlacedProcess}
use Rattle.design_scopes.specs.declared.scoped.ScopedDesign.{ScopedDesign}
use Rattle.syntax_tree.specs.declared.modules.ModuleDeclaration.{ModuleDeclaration}
use Rattle.syntax_tree.specs.declared.modules.ProcessConstruct.{ProcessConstruct}
use Rattle.statement_parts.specs.declared.faults.StatementFault.{StatementFault}
use Rattle.statement_parts.specs.declared.plain.PlainProcess.{PlainProcess}
use Rattle.routine_texts.specs.Processes.{StandsInText, AddsOnly}
use Rattle.routine_texts.proofs.Processes.{all_stand}
use Rattle.routines.specs.declared.processes.PlainDesign.{PlainDesign}
use Rattle.routines.specs.Designs.{IsMadeForPlaced, AreMadeForPlaced, no_processes, process_more, IsAmong, IsMadeForDesign, IsPlainDesign}

-- those of some are those of others
made_more : (P Q : ProcessConstruct → Type 0) → ((p : ProcessConstruct) → P p → Q p) → (placed : List PlacedProcess) (made : List PlainProcess) → AreMadeForPlaced P placed made → AreMadeForPlaced Q placed made
made_more P Q f _ _ no_processes = no_processes
made_more P Q f _ _ (process_more p m others behind one rest) =
    process_more p m others behind (record { construct = one.construct; is_one = f one.construct one.is_one; at_token = one.at_token; scope = one.scope; token = one.token; repeats = one.repeats }) (made_more P Q f others behind rest)

-- one more is made
pub one_made : (P : ProcessConstruct → Type 0) (all : List PlacedProcess) (i : ℕ) (placed : PlacedProcess) (old new : List PlainProcess) (m : PlainProcess) → new ≡ old ++ m ∷ [] → drop i all ≡ placed ∷ drop (i + 1) all
    → IsMadeForPlaced P placed m → ((rest : List PlainProcess) → AreMadeForPlaced P (drop i all) rest → AreMadeForPlaced P all (old ++ rest)) → (rest : List PlainProcess) → AreMadeForPlaced P (drop (i + 1) all) rest → AreMadeForPlaced P all (new ++ rest)
one_made P all i placed old new m pushed front one before rest others =
    let whole : new ++ rest ≡ old ++ m ∷ rest = ap (λ ms. ms ++ rest) pushed ∙ append_assoc old (m ∷ []) rest in
    subst (λ (ms : List PlainProcess). AreMadeForPlaced P all ms) (sym whole) (before (m ∷ rest) (subst (λ (ps : List PlacedProcess). AreMadeForPlaced P ps (m ∷ rest)) (sym front) (process_more placed m (drop (i + 1) all) rest one others)))

-- all are
pub all_made : (P : ProcessConstruct → Type 0) (all : List PlacedProcess) (i : ℕ) (made : List PlainProcess) → length all ≤ i → ((rest : List PlainProcess) → AreMadeForPlaced P (drop i all) rest → AreMadeForPlaced P all (made ++ rest))
    → AreMadeForPlaced P all made
all_made P all i made past before =
    subst (λ (ms : List PlainProcess). AreMadeForPlaced P all ms) (append-nil made) (before [] (subst (λ (ps : List PlacedProcess). AreMadeForPlaced P ps []) (sym (drop_all i all past)) no_processes))

-- those that are made of processes of modules
pub of_modules : (modules : List ModuleDeclaration) (found : List (Bor ProcessConstruct)) (old : ScopedDesign) (r : Result PlainDesign StatementFault) → AddsOnly [] found (λ p. StandsInText modules p)
    → IfOk r (λ made. IsMadeForDesign (IsAmong found) old made) → IfOk r (λ made. IsPlainDesign modules old made)
of_modules modules found old (Ok made) adds h = record {
  same = h.same;
  distinct = h.distinct;
  processes_made = made_more (IsAmong found) (StandsInText modules) (λ p one. subst (λ (q : ProcessConstruct). StandsInText modules q) one.2 (all_stand modules found one.0 adds one.1)) old.processes.items made.processes.items h.processes_made;
}
of_modules modules found old (Err fault) adds h = tt
