-- Marks that go back by all steps and all edges.
use Rattle.std.proofs.Common.{◌≡◌, ℕ, zero, suc, ◌<◌, List, [], ◌∷◌, ◌++◌, length, Bool, true, false, Some, sym, ap, ◌∙◌, subst, arith}
use Rattle.std.specs.Prelude.{slice_get}
use Rattle.std.specs.List.{All, Any}
use Rattle.std.proofs.lemmas.Option.{slice_get_within}
use Rattle.explore.specs.Links.{IsEdge, IsRunStep, IsUnmarked, GoesBack}
use Rattle.explore.specs.declared.links.SearchEdge.{SearchEdge}
use Rattle.explore.proofs.Growing.{some_same}
use Rattle.explore.proofs.Steps.{gone, length-gone}

clash : true ≡ false → ⊥
clash e = cc

-- a node without a mark is one of those that have marks
pub unmarked_within : (marks : List Bool) (k : ℕ) → IsUnmarked marks k → k < length marks
unmarked_within [] k none = absurd (clash none)
unmarked_within (m ∷ marks) zero none = omega arith
unmarked_within (m ∷ marks) (suc k) none = let within = unmarked_within marks k none in omega (arith, within)

first_marked : (k : ℕ) → IsUnmarked (true ∷ []) k → ⊥
first_marked zero none = clash none
first_marked (suc k) none = clash none

-- a node that is added has a mark
pub unmarked_before : (marks : List Bool) (k : ℕ) → IsUnmarked (marks ++ true ∷ []) k → IsUnmarked marks k
unmarked_before [] zero none = none
unmarked_before [] (suc k) none = none
unmarked_before (m ∷ marks) zero none = none
unmarked_before (m ∷ marks) (suc k) none = unmarked_before marks k none

-- the first node has a mark
pub none_unmarked : (marks : List Bool) (k : ℕ) → marks ≡ true ∷ [] → IsUnmarked marks k → ⊥
none_unmarked marks k is none = first_marked k (subst (λ (l : List Bool). IsUnmarked l k) is none)

-- a step leads to one of the runs
pub step_within : {M : Type 0} (steps : List (ℕ × List M)) (from to : ℕ) → IsRunStep steps from to → to < length (gone steps)
step_within steps from to (k, moves, is, at) =
    let low = slice_get_within steps k (from, moves) at in
    omega (arith, is, low, length-gone steps)

-- the marks go back by this step
pub step_goes_back : {M : Type 0} (steps : List (ℕ × List M)) (marks : List Bool) (number from to : ℕ) (found : ℕ × List M) → to ≡ number → ((k : ℕ) → number ≡ suc k → slice_get steps k ≡ Some found) → (IsUnmarked marks found.0 → IsUnmarked marks number) →
    IsRunStep steps from to → IsUnmarked marks from → IsUnmarked marks to
step_goes_back {M} steps marks number from to found same at back (k, moves, is, there) none =
    let one : from ≡ found.0 = ap (λ (p : ℕ × List M). p.0) (some_same (from, moves) found (sym there ∙ at k (sym same ∙ is))) in
    subst (λ (n : ℕ). IsUnmarked marks n) (sym same) (back (subst (λ (n : ℕ). IsUnmarked marks n) one none))

-- the marks go back by each of these edges
pub edge_goes_back : (marks : List Bool) (edges : List SearchEdge) (from to : ℕ) → All (GoesBack marks) edges → Any (IsEdge from to) edges → IsUnmarked marks from → IsUnmarked marks to
edge_goes_back marks edges from to all (k, edge, within, is, (begins, ends)) none =
    let back : GoesBack marks edge = subst (λ (e : SearchEdge). GoesBack marks e) is (all k edge within) in
    subst (λ (n : ℕ). IsUnmarked marks n) ends (back (subst (λ (n : ℕ). IsUnmarked marks n) (sym begins) none))
