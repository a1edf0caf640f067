-- Who waits for none of the moves of registers that are tracked, and for no other register, waits for no change that passes.
use Rattle.std.proofs.Common.{◌≡◌, ℕ, Bool, true, false, ◌&&◌, ◌||◌, ◌==◌, List, [], ◌∷◌, ◌⊎◌, inl, inr, refl, sym, ap, subst, ◌∙◌, if◌then◌else◌, eqb-true, true≢false}
use Rattle.std.specs.List.{All, list_any}
use Rattle.std.proofs.lemmas.List.Elements.{All-head, All-tail}
use Rattle.logic4.specs.Vector.{Vector}
use Rattle.logic4.specs.declared.digit.Edge.TheVariants.{Same}
use Rattle.logic4.specs.Edges.{edge, least_edge}
use Rattle.logic4.specs.Operators.{same_vector}
use Rattle.model.specs.Design.{Trigger}
use Rattle.model.specs.declared.tree.Change.{Change}
use Rattle.model.specs.declared.tree.Change.TheVariants.{Any, Posedge, Negedge}
use Rattle.model.specs.Turns.{contains}
use Rattle.model.specs.States.{edge_matches, wakes}
use Rattle.certificates.specs.declared.changes.NotedChange.{NotedChange}
use Rattle.heldways.specs.Passing.{AreDeaf}
use Rattle.passing.specs.declared.moves.TrackedMoves.{TrackedMoves}
use Rattle.passing.specs.Moves.{is_move, passes_by}
use Rattle.passing.proofs.Found.{MoveOf, move_found, tracked_passes}

and_none : (b : Bool) → (b && false) ≡ false
and_none true = refl
and_none false = refl

-- nobody waits for no change

quiet_first : (b rest : Bool) → rest ≡ false → ((b && false) || rest) ≡ false
quiet_first b rest h = ap (λ c. c || rest) (and_none b) ∙ h

matches_same : (change : Change) → edge_matches change Same ≡ false
matches_same Any = refl
matches_same Posedge = refl
matches_same Negedge = refl

same_quiet : (ts : List Trigger) (r : ℕ) (old new : Vector) → edge old new ≡ Same → wakes ts r old new ≡ false
same_quiet [] r old new is = refl
same_quiet (t ∷ ts) r old new is =
    ap (λ b. ((t.1 == r) && b) || wakes ts r old new) (ap (edge_matches t.0) is ∙ matches_same t.0) ∙ quiet_first (t.1 == r) (wakes ts r old new) (same_quiet ts r old new is)

same_edge : (old new : Vector) → same_vector old new ≡ true → edge old new ≡ Same
same_edge old new same = ap (λ b. if b then Same else least_edge old new) same

-- who waits for other registers isn't woken

other_if : (tracked : List ℕ) (t : Trigger) (r : ℕ) (here match rest : Bool) → (t.1 == r) ≡ here → contains tracked t.1 ≡ true → contains tracked r ≡ false → rest ≡ false → ((here && match) || rest) ≡ false
other_if tracked t r true match rest is there none h =
    absurd (true≢false (sym there ∙ ap (contains tracked) (eqb-true t.1 r is) ∙ none))
other_if tracked t r false match rest is there none h = h

other_quiet : (tracked : List ℕ) (ts : List Trigger) (r : ℕ) (old new : Vector) → All (λ (t : Trigger). contains tracked t.1 ≡ true) ts → contains tracked r ≡ false → wakes ts r old new ≡ false
other_quiet tracked [] r old new all none = refl
other_quiet tracked (t ∷ ts) r old new all none =
    other_if tracked t r (t.1 == r) (edge_matches t.0 (edge old new)) (wakes ts r old new) refl (All-head (λ (u : Trigger). contains tracked u.1 ≡ true) t ts all) none
    (other_quiet tracked ts r old new (All-tail (λ (u : Trigger). contains tracked u.1 ≡ true) t ts all) none)

-- nor is who waits for no change of the register at all

pub wakes_never : (ts : List Trigger) (r : ℕ) (old new : Vector) → list_any (λ (t : Trigger). t.1 == r) ts ≡ false → wakes ts r old new ≡ false
wakes_never [] r old new none = refl
wakes_never (t ∷ ts) r old new none = step (t.1 == r) (edge_matches t.0 (edge old new)) none (wakes_never ts r old new)
  where
    step : (here match : Bool) → (here || list_any (λ (u : Trigger). u.1 == r) ts) ≡ false → (list_any (λ (u : Trigger). u.1 == r) ts ≡ false → wakes ts r old new ≡ false) → ((here && match) || wakes ts r old new) ≡ false
    step true match h later = cc
    step false match h later = later h

-- a move isn't one for which these wait
abbrev pub IsQuietAt : List Trigger → NotedChange → Type 0
IsQuietAt ts m = wakes ts m.register m.before m.after ≡ false

move_quiet : (ts : List Trigger) (list : List NotedChange) (r : ℕ) (old new : Vector) → All (IsQuietAt ts) list → is_move list r old new ≡ true → wakes ts r old new ≡ false
move_quiet ts list r old new all is =
    let m : MoveOf (IsQuietAt ts) r old new = move_found (IsQuietAt ts) list r old new all is in
    let at : wakes ts r m.own.before m.own.after ≡ false = subst (λ k. wakes ts k m.own.before m.own.after ≡ false) m.register m.holds in
    subst (λ z. wakes ts r old z ≡ false) m.after (subst (λ z. wakes ts r z m.own.after ≡ false) m.before at)

deaf_if : (moves : TrackedMoves) (ts : List Trigger) (r : ℕ) (old new : Vector) (is : Bool) → contains moves.tracked.items r ≡ is → All (λ (t : Trigger). contains moves.tracked.items t.1 ≡ true) ts → All (IsQuietAt ts) moves.list.items
    → passes_by moves r old new ≡ true → wakes ts r old new ≡ false
deaf_if moves ts r old new false is tracked quiet passes = other_quiet moves.tracked.items ts r old new tracked is
deaf_if moves ts r old new true is tracked quiet passes = either (tracked_passes moves r old new is passes)
  where
    either : (same_vector old new ≡ true) ⊎ (is_move moves.list.items r old new ≡ true) → wakes ts r old new ≡ false
    either (inl same) = same_quiet ts r old new (same_edge old new same)
    either (inr moved) = move_quiet ts moves.list.items r old new quiet moved

pub are_deaf : (moves : TrackedMoves) (ts : List Trigger) → All (λ (t : Trigger). contains moves.tracked.items t.1 ≡ true) ts → All (IsQuietAt ts) moves.list.items → AreDeaf (passes_by moves) ts
are_deaf moves ts tracked quiet r old new passes =
    deaf_if moves ts r old new (contains moves.tracked.items r) refl tracked quiet passes
