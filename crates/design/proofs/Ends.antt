-- The code of all processes: every node is fine, those of the ends too, and each process begins at its whole body.
use Rattle.std.proofs.Common.{◌≡◌, ℕ, zero, suc, ◌+◌, ◌<◌, ◌≤◌, ◌⊎◌, ⊎_elim, inl, inr, Bool, true, false, List, [], ◌∷◌, ◌++◌, length, Some, refl, sym, ap, ◌∙◌, subst, arith, length-append, zero-add}
use Rattle.std.proofs.lemmas.Option.{get_or_from_slice_get}
use Rattle.std.specs.Prelude.{slice_get, slice_index_or}
use Rattle.model.specs.Design.{Design, Process, End, size, all_statements, first_place, process_at, all_of}
use Rattle.model.specs.Turns.{whole}
use Rattle.design.specs.declared.code.Node.{Node}
use Rattle.design.specs.Sound.{AreSoundStatements}
use Rattle.design.specs.CodePlaces.{statement_count, end_place}
use Rattle.design.specs.Compiled.{Compiled, design_of}
use Rattle.design.specs.Meaning.{IsFine}
use Rattle.design.specs.Emit.{Emitted, with_all, with_bodies, starts_of, first_of, end_node, end_nodes}
use Rattle.design.proofs.Growing.{Grows, grows_same, grows_both}
use Rattle.design.proofs.Emitted.{grows_all, length_all}
use Rattle.design.proofs.Placed.{Placed, Leads}
use Rattle.design.proofs.Fine.{code_of, FineAt, Done}
use Rattle.design.proofs.Nodes.{done_all}
use Rattle.design.proofs.Whole.{statements_both, one_more, placed_process, first_there, next_first, leads_to_end, left_at_end, begins_whole}

pub grows_bodies : (widths : List ℕ) (end : ℕ) (e : Emitted) (ps : List Process) → Grows e (with_bodies widths end e ps)
grows_bodies widths end e [] = grows_same e
grows_bodies widths end e (p ∷ ps) =
    let e1 = with_all widths end e p.body in
    grows_both e e1 (with_bodies widths (end + 1) e1 ps) (grows_all widths end e p.body) (grows_bodies widths (end + 1) e1 ps)

pub length_bodies : (widths : List ℕ) (end : ℕ) (e : Emitted) (ps : List Process) → length (with_bodies widths end e ps).nodes ≡ length e.nodes + length (all_statements ps)
length_bodies widths end e [] = omega arith
length_bodies widths end e (p ∷ ps) =
    length_bodies widths (end + 1) (with_all widths end e p.body) ps ∙ omega (arith, length_all widths end e p.body, length-append (all_of p.body) (all_statements ps))

-- each process's statements are sound
abbrev pub AreSoundProcesses : List ℕ → List Process → Type 0
AreSoundProcesses widths [] = Unit {0}
AreSoundProcesses widths (p ∷ ps) = AreSoundStatements widths p.body × AreSoundProcesses widths ps

first_or_after : (a q : ℕ) → a ≤ q → (q ≡ a) ⊎ (a + 1 ≤ q)
first_or_after zero zero h = inl refl
first_or_after zero (suc q) h = inr (omega arith)
first_or_after (suc a) zero h = absurd (omega arith)
first_or_after (suc a) (suc q) h = ⊎_elim (λ x. inl (ap suc x)) (λ x. inr (omega (arith, x))) (first_or_after a q (omega arith))

-- the nodes of one process
done_process : (code : Compiled) (before : List Process) (p : Process) (ps : List Process) (end : ℕ) (e : Emitted) → (design_of code).processes ≡ before ++ p ∷ ps → end ≡ end_place (design_of code) (length before) → length e.nodes ≡ length (all_statements before) → AreSoundStatements code.widths p.body → Grows (with_all code.widths end e p.body) (code_of code) → Done code (length before) (first_place (design_of code) (length before + 1))
done_process code before p ps end e is ends here sound grown =
    let k = length before in
    let design = design_of code in
    let first : first_place design k ≡ length e.nodes = first_there design before (p ∷ ps) is ∙ sym here in
    let second : first_place design (k + 1) ≡ length e.nodes + size p.body = next_first design before p ps is ∙ ap (λ n. n + size p.body) (sym here) in
    let none : Done code k (length e.nodes) = λ j lo lt. absurd (omega (arith, first)) in
    let to : Leads design k end [] = subst (λ n. Leads design k n []) (sym ends) (leads_to_end design k) in
    let done = done_all code k end e p.body [] sound (subst (λ n. Placed design n p.body []) (sym here) (placed_process design before p ps is)) (omega (arith, first)) (omega (arith, second)) to grown none in
    subst (λ n. Done code k n) (length_all code.widths end e p.body ∙ sym second) done

-- the nodes of all processes
pub done_bodies : (code : Compiled) (ps before : List Process) (end : ℕ) (e : Emitted) → (design_of code).processes ≡ before ++ ps → end ≡ end_place (design_of code) (length before) → length e.nodes ≡ length (all_statements before) → AreSoundProcesses code.widths ps → Grows (with_bodies code.widths end e ps) (code_of code) → (q : ℕ) → length before ≤ q → q < length before + length ps → Done code q (first_place (design_of code) (q + 1))
done_bodies code [] before end e is ends here sound grown q lo lt = absurd (omega arith)
done_bodies code (p ∷ ps) before end e is ends here (sound, others) grown q lo lt =
    let design = design_of code in
    let e1 = with_all code.widths end e p.body in
    let there : Grows e1 (code_of code) = grows_both e1 (with_bodies code.widths (end + 1) e1 ps) (code_of code) (grows_bodies code.widths (end + 1) e1 ps) grown in
    let long : length (before ++ p ∷ []) ≡ length before + 1 = length-append before (p ∷ []) in
    ⊎_elim
    (λ x. subst (λ k. Done code k (first_place design (k + 1))) (sym x) (done_process code before p ps end e is ends here sound there))
    (λ x. done_bodies code ps (before ++ p ∷ []) (end + 1) e1 (is ∙ sym (one_more before p ps)) (omega (arith, ends, long))
    (length_all code.widths end e p.body ∙ omega (arith, here, ap length (statements_both before (p ∷ [])), length-append (all_statements before) (all_of p.body ++ []), length-append (all_of p.body) []))
    others grown q (omega (arith, long)) (omega (arith, long)))
    (first_or_after (length before) q lo)

some_same : {A : Type 0} → (x y : A) → Some x ≡ Some y → x ≡ y
some_same x y e = cc

add_none : (n : ℕ) → n + 0 ≡ n
add_none n = omega arith

suc_add : (n k : ℕ) → suc n + k ≡ suc (n + k)
suc_add n k = omega arith

-- where processes begin
pub starts_there : (design : Design) (ps before : List Process) (n end : ℕ) → design.processes ≡ before ++ ps → n ≡ length (all_statements before) → end ≡ end_place design (length before) → (k place : ℕ) → slice_get (starts_of n end ps) k ≡ Some place → Leads design (length before + k) place (whole design (length before + k))
starts_there design [] before n end is here ends k place e = cc
starts_there design (p ∷ ps) before n end is here ends zero place e =
    let at : first_of n p.body end ≡ place = some_same (first_of n p.body end) place e in
    let begins = begins_whole design before p ps is in
    let there : Leads design (length before) (first_of n p.body end) (whole design (length before)) =
    subst (λ m. Leads design (length before) (first_of n p.body m) (whole design (length before))) (sym ends) (subst (λ m. Leads design (length before) (first_of m p.body (end_place design (length before))) (whole design (length before))) (sym here) begins) in
    subst (λ m. Leads design m place (whole design m)) (sym (add_none (length before))) (subst (λ m. Leads design (length before) m (whole design (length before))) at there)
starts_there design (p ∷ ps) before n end is here ends (suc k) place e =
    let long : length (before ++ p ∷ []) ≡ length before + 1 = length-append before (p ∷ []) in
    let sum : length (before ++ p ∷ []) + k ≡ length before + suc k = omega (arith, long) in
    subst (λ m. Leads design m place (whole design m)) sum
    (starts_there design ps (before ++ p ∷ []) (n + size p.body) (end + 1) (is ∙ sym (one_more before p ps))
    (omega (arith, here, ap length (statements_both before (p ∷ [])), length-append (all_statements before) (all_of p.body ++ []), length-append (all_of p.body) [])) (omega (arith, ends, long)) k place e)

pub length_starts : (n end : ℕ) (ps : List Process) → length (starts_of n end ps) ≡ length ps
length_starts n end [] = refl
length_starts n end (p ∷ ps) = ap suc (length_starts (n + size p.body) (end + 1) ps)

pub length_ends : (ps : List Process) (starts : List ℕ) → length starts ≡ length ps → length (end_nodes ps starts) ≡ length ps
length_ends [] starts e = refl
length_ends (p ∷ ps) [] e = e
length_ends (p ∷ ps) (s ∷ starts) e = ap suc (length_ends ps starts (omega arith))

-- the node of an end
end_there : (ps : List Process) (starts : List ℕ) (k : ℕ) (n : Node) → slice_get (end_nodes ps starts) k ≡ Some n → (p : Process) × ((start : ℕ) × ((slice_get ps k ≡ Some p) × (slice_get starts k ≡ Some start) × (n ≡ end_node p.repeats start)))
end_there [] starts k n e = cc
end_there (p ∷ ps) [] k n e = cc
end_there (p ∷ ps) (s ∷ starts) zero n e = (p, (s, (refl, refl, sym (some_same (end_node p.repeats s) n e))))
end_there (p ∷ ps) (s ∷ starts) (suc k) n e = end_there ps starts k n e

fine_end : (code : Compiled) (p start : ℕ) (repeats : Bool) → (process_at (design_of code) p).repeats ≡ repeats → Leads (design_of code) p start (whole (design_of code) p) → IsFine code p (end_node repeats start) []
fine_end code p start true e l = (refl, e, l.left, l.own)
fine_end code p start false e l = (refl, e)

get_behind : {A : Type 0} → (xs ys : List A) (k : ℕ) → slice_get (xs ++ ys) (length xs + k) ≡ slice_get ys k
get_behind [] ys k = ap (slice_get ys) (zero-add k)
get_behind (x ∷ xs) ys k = ap (slice_get (x ∷ xs ++ ys)) (suc_add (length xs) k) ∙ get_behind xs ys k

-- the nodes of the ends
pub done_ends : (code : Compiled) (e : Emitted) (ps : List Process) → (design_of code).processes ≡ ps → code.nodes ≡ e.nodes ++ end_nodes ps code.starts → length e.nodes ≡ statement_count (design_of code) → ((k place : ℕ) → slice_get code.starts k ≡ Some place → Leads (design_of code) k place (whole (design_of code) k)) → (p : ℕ) → FineAt code p (end_place (design_of code) p)
done_ends code e ps is nodes long starts p n at =
    let design = design_of code in
    let there : slice_get (end_nodes ps code.starts) p ≡ Some n =
    sym (get_behind e.nodes (end_nodes ps code.starts) p) ∙ ap (λ k. slice_get (e.nodes ++ end_nodes ps code.starts) (k + p)) long ∙ ap (λ l. slice_get l (statement_count design + p)) (sym nodes) ∙ at in
    let found = end_there ps code.starts p n there in
    let same : (process_at design p).repeats ≡ found.0.repeats = ap (λ q. q.repeats) (ap (λ l. slice_index_or l p (record { repeats = false; body = End })) is ∙ get_or_from_slice_get ps p found.0 (record { repeats = false; body = End }) found.1.1.0) in
    subst (λ r. IsFine code p n r) (sym (left_at_end design p))
    (subst (λ m. IsFine code p m []) (sym found.1.1.2) (fine_end code p found.1.0 found.0.repeats same (starts p found.1.0 found.1.1.1)))
