-- The code of all processes: each process's statements are placed, and each node is fine.
use Rattle.std.proofs.Common.{◌≡◌, ℕ, zero, suc, ◌+◌, ◌≤◌, inr, false, List, [], ◌∷◌, ◌++◌, length, take, drop, refl, sym, ap, ◌∙◌, arith, length-append, append_assoc, zero-add}
use Rattle.std.proofs.lemmas.List.{append-nil}
use Rattle.std.specs.Prelude.{slice_index_or}
use Rattle.model.specs.Design.{Design, Process, End, all_of, size, all_statements, first_place, process_at}
use Rattle.model.specs.Turns.{Remainder, parts, whole}
use Rattle.design.specs.CodePlaces.{remainders, all_remainders, remainder_at, end_place}
use Rattle.design.specs.Emit.{first_of}
use Rattle.design.proofs.Places.{drop-length-append}
use Rattle.design.proofs.Placed.{Placed, placed_all, length_remainders, Leads, leads}

pub statements_both : (ps qs : List Process) → all_statements (ps ++ qs) ≡ all_statements ps ++ all_statements qs
statements_both [] qs = refl
statements_both (p ∷ ps) qs =
    ap (λ zs. all_of p.body ++ zs) (statements_both ps qs) ∙ sym (append_assoc (all_of p.body) (all_statements ps) (all_statements qs))

pub length_all_remainders : (place : ℕ) (ps : List Process) → length (all_remainders place ps) ≡ length (all_statements ps)
length_all_remainders place [] = refl
length_all_remainders place (p ∷ ps) =
    omega (arith, length-append (remainders place p.body []) (all_remainders (place + size p.body) ps), length-append (all_of p.body) (all_statements ps), length_remainders place p.body [], length_all_remainders (place + size p.body) ps)

add_none : (n : ℕ) → n + 0 ≡ n
add_none n = omega arith

pub remainders_both : (place : ℕ) (ps qs : List Process) → all_remainders place (ps ++ qs) ≡ all_remainders place ps ++ all_remainders (place + length (all_statements ps)) qs
remainders_both place [] qs = ap (λ k. all_remainders k qs) (sym (add_none place))
remainders_both place (p ∷ ps) qs =
    let sum : place + size p.body + length (all_statements ps) ≡ place + length (all_statements (p ∷ ps)) = omega (arith, length-append (all_of p.body) (all_statements ps)) in
    ap (λ l. remainders place p.body [] ++ l) (remainders_both (place + size p.body) ps qs)
    ∙ ap (λ k. remainders place p.body [] ++ (all_remainders (place + size p.body) ps ++ all_remainders k qs)) sum
    ∙ sym (append_assoc (remainders place p.body []) (all_remainders (place + size p.body) ps) (all_remainders (place + length (all_statements (p ∷ ps))) qs))

-- the statements of a process are placed, from the place behind those of the processes before it
pub placed_process : (design : Design) (before : List Process) (p : Process) (ps : List Process) → design.processes ≡ before ++ p ∷ ps → Placed design (length (all_statements before)) p.body []
placed_process design before p ps e =
    let n = length (all_statements before) in
    let all : all_statements design.processes ≡ all_statements before ++ (all_of p.body ++ all_statements ps) = ap all_statements e ∙ statements_both before (p ∷ ps) in
    let lefts : all_remainders 0 design.processes ≡ all_remainders 0 before ++ (remainders n p.body [] ++ all_remainders (n + size p.body) ps) =
    ap (all_remainders 0) e ∙ remainders_both 0 before (p ∷ ps) ∙ ap (λ k. all_remainders 0 before ++ (remainders k p.body [] ++ all_remainders (k + size p.body) ps)) (zero-add n) in
    placed_all design n p.body []
    (all_statements ps, ap (drop n) all ∙ drop-length-append (all_statements before) (all_of p.body ++ all_statements ps)) (
      all_remainders (n + size p.body) ps,
      ap (drop n) lefts ∙ ap (λ k. drop k (all_remainders 0 before ++ (remainders n p.body [] ++ all_remainders (n + size p.body) ps))) (sym (length_all_remainders 0 before))
          ∙ drop-length-append (all_remainders 0 before) (remainders n p.body [] ++ all_remainders (n + size p.body) ps),
    )

take_before : (before : List Process) (ps : List Process) → take (length before) (before ++ ps) ≡ before
take_before [] ps = refl
take_before (p ∷ before) ps = ap (λ l. p ∷ l) (take_before before ps)

-- the first place of a process is the number of the statements before it
pub first_there : (design : Design) (before ps : List Process) → design.processes ≡ before ++ ps → first_place design (length before) ≡ length (all_statements before)
first_there design before ps e = ap (λ l. length (all_statements l)) (ap (take (length before)) e ∙ take_before before ps)

at_seam : (before : List Process) (p : Process) (ps : List Process) (d : Process) → slice_index_or (before ++ p ∷ ps) (length before) d ≡ p
at_seam [] p ps d = refl
at_seam (q ∷ before) p ps d = at_seam before p ps d

pub one_more : (before : List Process) (p : Process) (ps : List Process) → (before ++ p ∷ []) ++ ps ≡ before ++ p ∷ ps
one_more before p ps = append_assoc before (p ∷ []) ps

-- and the next process begins behind its statements
pub next_first : (design : Design) (before : List Process) (p : Process) (ps : List Process) → design.processes ≡ before ++ p ∷ ps → first_place design (length before + 1) ≡ length (all_statements before) + size p.body
next_first design before p ps e =
    let long : length (before ++ p ∷ []) ≡ length before + 1 = length-append before (p ∷ []) in
    ap (first_place design) (sym long)
    ∙ first_there design (before ++ p ∷ []) ps (e ∙ sym (one_more before p ps))
    ∙ ap length (statements_both before (p ∷ [])) ∙ length-append (all_statements before) (all_of p.body ++ [])
    ∙ ap (λ l. length (all_statements before) + length l) (append-nil (all_of p.body))

past_the_end : (rs : List Remainder) (k : ℕ) → length rs ≤ k → slice_index_or rs k [] ≡ []
past_the_end [] k h = refl
past_the_end (r ∷ rs) zero h = absurd (omega arith)
past_the_end (r ∷ rs) (suc k) h = past_the_end rs k (omega arith)

-- nothing is left at an end
pub left_at_end : (design : Design) (p : ℕ) → remainder_at design (end_place design p) ≡ []
left_at_end design p = past_the_end (all_remainders 0 design.processes) (end_place design p) (omega (arith, length_all_remainders 0 design.processes))

pub leads_to_end : (design : Design) (p : ℕ) → Leads design p (end_place design p) []
leads_to_end design p = record { left = left_at_end design p; own = inr refl }

pub process_there : (design : Design) (before : List Process) (p : Process) (ps : List Process) → design.processes ≡ before ++ p ∷ ps → process_at design (length before) ≡ p
process_there design before p ps e =
    let d : Process = record { repeats = false; body = End } in
    ap (λ l. slice_index_or l (length before) d) e ∙ at_seam before p ps d

-- a process begins with its whole body
pub begins_whole : (design : Design) (before : List Process) (p : Process) (ps : List Process) → design.processes ≡ before ++ p ∷ ps → Leads design (length before) (first_of (length (all_statements before)) p.body (end_place design (length before))) (whole design (length before))
begins_whole design before p ps e =
    let k = length before in
    let n = length (all_statements before) in
    let lo : first_place design k ≤ n = omega (arith, first_there design before (p ∷ ps) e) in
    let hi : n + size p.body ≤ first_place design (k + 1) = omega (arith, next_first design before p ps e) in
    let l = leads design k n p.body [] (end_place design k) (placed_process design before p ps e) lo hi (leads_to_end design k) in
    let is : parts n p.body ++ [] ≡ whole design k = append-nil (parts n p.body) ∙ ap (λ m. parts m p.body) (sym (first_there design before (p ∷ ps) e)) ∙ ap (λ q. parts (first_place design k) q.body) (sym (process_there design before p ps e)) in
    record { left = l.left ∙ is; own = l.own }
