-- The event control that is the last statement of a process, and its node.
use Rattle.std.proofs.Common.{◌≡◌, ℕ, zero, suc, ◌+◌, ◌<◌, inl, true, false, List, [], ◌∷◌, ◌++◌, length, Option, Some, None, refl, sym, ap, subst, ◌∙◌, arith, length-append}
use Rattle.std.specs.Prelude.{slice_get, slice_index_or}
use Rattle.std.proofs.lemmas.List.{length-map}
use Rattle.logic4.specs.Vector.{Vector}
use Rattle.model.specs.Design.{Design, Process, Await, Statements, End, Then, Trigger, inside, all_of, size, all_statements, statement_at, process_at, first_place}
use Rattle.model.specs.Elaboration.{followed_by}
use Rattle.model.specs.Turns.{Remainder, At, parts, whole}
use Rattle.design.specs.declared.code.Node.TheVariants as node
use Rattle.design.specs.declared.code.ProcState.{ProcState}
use Rattle.design.specs.Compiled.{Compiled, design_of}
use Rattle.design.specs.DesignTrees.{process_of}
use Rattle.design.specs.DesignInvariant.{controls_of, remainder_of_state, pending_part, IsStateOf}
use Rattle.design.specs.CodePlaces.{remainder_at, IsPlaceOf}
use Rattle.design.specs.Meaning.{IsCompiled, IsFine}
use Rattle.design.proofs.Placed.{Placed}
use Rattle.design.proofs.Whole.{first_there, next_first, placed_process}
use Rattle.design.proofs.Numbered.{place_named}
use Rattle.phases.proofs.Blocks.{no_more}

-- the process has these statements, and then this event control with these behind it, again and again
abbrev pub IsAwaiting : Compiled → ℕ → Statements → List Trigger → Statements → Type 0
IsAwaiting code p before triggers behind = process_at (design_of code) p ≡ record { repeats = true; body = followed_by before (Then (Await triggers behind) End) }

-- a process among the others
among : (ps : List Process) (p : ℕ) (x : Process) → p < length ps → slice_index_or ps p (record { repeats = false; body = End }) ≡ x
    → (sooner : List Process) × ((later : List Process) × ((ps ≡ sooner ++ x ∷ later) × (p ≡ length sooner)))
among [] p x lt is = absurd (omega (arith, lt))
among (y ∷ ps) zero x lt is = ([], (ps, (ap (λ z. z ∷ ps) is, refl)))
among (y ∷ ps) (suc p) x lt is =
    let (sooner, (later, (same, count))) = among ps p x (omega (arith, lt)) is in
    (y ∷ sooner, (later, (ap (λ zs. y ∷ zs) same, ap suc count)))

pub size_both : (ss others : Statements) → size (followed_by ss others) ≡ size ss + size others
size_both End others = omega arith
size_both (Then s ss) others = omega (arith, size_both ss others, length-append (inside s) (all_of (followed_by ss others)), length-append (inside s) (all_of ss))

placed_behind : (design : Design) (n : ℕ) (ss others : Statements) → Placed design n (followed_by ss others) [] → Placed design (n + size ss) others []
placed_behind design n End others placed =
    let same : n ≡ n + 0 = omega arith in
    subst (λ k. Placed design k others []) same placed
placed_behind design n (Then s ss) others placed =
    let sum : n + 1 + length (inside s) + size ss ≡ n + size (Then s ss) = omega (arith, length-append (inside s) (all_of ss)) in
    subst (λ k. Placed design k others []) sum (placed_behind design (n + 1 + length (inside s)) ss others placed.3)

-- the event control is at its place, and nothing is left behind it
pub IsLastAt : Design → ℕ → ℕ → List Trigger → Statements → Type 0
IsLastAt design p at triggers behind = IsPlaceOf design p at × (statement_at design at ≡ Await triggers behind) × (remainder_at design at ≡ At at ∷ [])

last_at : (design : Design) (p : ℕ) (before : Statements) (triggers : List Trigger) (behind : Statements) → p < length design.processes
    → process_at design p ≡ record { repeats = true; body = followed_by before (Then (Await triggers behind) End) } → IsLastAt design p (first_place design p + size before) triggers behind
unfolding IsLastAt
last_at design p before triggers behind lt is =
    let last : Statements = Then (Await triggers behind) End in
    let x : Process = record { repeats = true; body = followed_by before last } in
    let (sooner, (later, (same, count))) = among design.processes p x lt is in
    let first : first_place design p ≡ length (all_statements sooner) = ap (first_place design) count ∙ first_there design sooner (x ∷ later) same in
    let next : first_place design (p + 1) ≡ length (all_statements sooner) + size x.body = ap (λ n. first_place design (n + 1)) count ∙ next_first design sooner x later same in
    let placed : Placed design (first_place design p) (followed_by before last) [] = subst (λ n. Placed design n (followed_by before last) []) (sym first) (placed_process design sooner x later same) in
    let there : Placed design (first_place design p + size before) last [] = placed_behind design (first_place design p) before last placed in
    (inl (omega arith, omega (arith, first, next, size_both before last)), there.0, there.1)

fine_wait : (code : Compiled) (p at control next : ℕ) (triggers : List Trigger) (behind : Statements) → statement_at (design_of code) at ≡ Await triggers behind → remainder_at (design_of code) at ≡ At at ∷ []
    → IsFine code p (node.Await control next) (remainder_at (design_of code) at)
    → (slice_get (controls_of code) control ≡ Some triggers) × (remainder_at (design_of code) next ≡ parts (at + 1) behind)
fine_wait code p at control next triggers behind stands left (there, (other, (rest, (others, (begins, control_is, statement_is, next_is, place_is))))) =
    let here : At there ∷ rest ≡ At at ∷ [] = sym begins ∙ left in
    let same_place : there ≡ at = cc in
    let same_rest : rest ≡ [] = cc in
    let both : Await others other ≡ Await triggers behind = sym statement_is ∙ ap (statement_at (design_of code)) same_place ∙ stands in
    let same_triggers : others ≡ triggers = cc in
    let same_body : other ≡ behind = cc in
    (rw same_triggers at control_is, next_is ∙ rw (same_place, same_rest, same_body) (no_more (parts (at + 1) behind)))

-- the place at which the process begins

first_part : (place : ℕ) (before : Statements) (triggers : List Trigger) (behind : Statements) → (rest : Remainder) × (parts place (followed_by before (Then (Await triggers behind) End)) ≡ At place ∷ rest)
first_part place End triggers behind = ([], refl)
first_part place (Then s ss) triggers behind = (parts (place + 1 + length (inside s)) (followed_by ss (Then (Await triggers behind) End)), refl)

nothing_pending : (code : Compiled) (place first : ℕ) (rest : Remainder) (pending : Option (ℕ × Vector)) → pending_part pending ++ remainder_at (design_of code) place ≡ At first ∷ rest → remainder_at (design_of code) place ≡ At first ∷ rest
nothing_pending code place first rest None is = is
nothing_pending code place first rest (Some w) is = cc

begins_at : (code : Compiled) (p : ℕ) (state : ProcState) (before : Statements) (triggers : List Trigger) (behind : Statements) → IsStateOf code p state → remainder_of_state code state ≡ whole (design_of code) p
    → IsAwaiting code p before triggers behind → first_place (design_of code) p ≡ state.place
begins_at code p state before triggers behind stands begins is =
    let first : ℕ = first_place (design_of code) p in
    let (rest, part) = first_part first before triggers behind in
    let whole_is : whole (design_of code) p ≡ At first ∷ rest = ap (λ (x : Process). parts first x.body) is ∙ part in
    place_named (design_of code) p state.place first rest stands.place (nothing_pending code state.place first rest state.pending (begins ∙ whole_is))

found_at : (code : Compiled) (p at control next : ℕ) (triggers : List Trigger) (behind : Statements) → IsCompiled code → p < length code.processes → IsLastAt (design_of code) p at triggers behind
    → slice_get code.nodes at ≡ Some (node.Await control next) → (slice_get (controls_of code) control ≡ Some triggers) × (remainder_at (design_of code) next ≡ parts (at + 1) behind)
unfolding IsLastAt
found_at code p at control next triggers behind compiled lt (own, there, left) node_is = fine_wait code p at control next triggers behind there left (compiled.fine p at (node.Await control next) lt own node_is)

pub wait_found : (code : Compiled) (p place control next : ℕ) (state : ProcState) (before : Statements) (triggers : List Trigger) (behind : Statements) → IsCompiled code → p < length code.processes → IsStateOf code p state
    → remainder_of_state code state ≡ whole (design_of code) p → place ≡ state.place + size before → slice_get code.nodes place ≡ Some (node.Await control next) → IsAwaiting code p before triggers behind
    → (slice_get (controls_of code) control ≡ Some triggers) × (remainder_at (design_of code) next ≡ parts (first_place (design_of code) p + size before + 1) behind)
wait_found code p place control next state before triggers behind compiled lt stands begins place_is node_is is =
    let at : ℕ = first_place (design_of code) p + size before in
    let within : p < length (design_of code).processes = rw (length-map code.processes process_of) lt in
    let same : place ≡ at = place_is ∙ ap (λ n. n + size before) (sym (begins_at code p state before triggers behind stands begins is)) in
    found_at code p at control next triggers behind compiled lt (last_at (design_of code) p before triggers behind within is) (ap (λ n. slice_get code.nodes n) (sym same) ∙ node_is)
