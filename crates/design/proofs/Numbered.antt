-- The remainder at a place names the place, so states of one process are equal where their remainders are.
use Rattle.std.proofs.Common.{◌≡◌, ℕ, zero, suc, ◌+◌, ◌-◌, ◌<◌, ◌≤◌, ◌⊎◌, ⊎_elim, inl, inr, Option, Some, None, List, [], ◌∷◌, ◌++◌, length, take, refl, sym, ap, ◌∙◌, subst, arith, length-append, add-one}
use Rattle.std.specs.Prelude.{slice_index_or}
use Rattle.std.proofs.lemmas.Bool.{cases_lt}
use Rattle.std.proofs.lemmas.List.{get_or_past}
use Rattle.logic4.specs.Vector.{Vector}
use Rattle.model.specs.Design.{Design, Process, Statement, Empty, Assign, AssignAfter, AssignLater, Now, Delay, Await, If, While, Print, Finish, Statements, End, Then, inside, all_of, size, all_statements, statement_at}
use Rattle.model.specs.Turns.{Remainder, At, Set, parts}
use Rattle.design.specs.declared.code.ProcState.{ProcState}
use Rattle.design.specs.CodePlaces.{remainders, remainders_inside, all_remainders, remainder_at, statement_count, end_place, IsPlaceOf}
use Rattle.design.specs.Compiled.{Compiled, design_of}
use Rattle.design.specs.DesignInvariant.{pending_part, remainder_of_state, IsStateOf}
use Rattle.design.specs.Equal.{StatesAreEqual}
use Rattle.design.proofs.Placed.{length_remainders, length_remainders_inside}
use Rattle.design.proofs.Whole.{length_all_remainders, left_at_end}

-- each remainder begins with its own place
abbrev NumberedFrom : ℕ → List Remainder → Type 0
NumberedFrom n [] = Unit {0}
NumberedFrom n (r ∷ rs) = ((rest : Remainder) × (r ≡ At n ∷ rest)) × NumberedFrom (n + 1) rs

numbered_both : (n m : ℕ) (xs ys : List Remainder) → n + length xs ≡ m → NumberedFrom n xs → NumberedFrom m ys → NumberedFrom n (xs ++ ys)
numbered_both n m [] ys e h j = let same : m ≡ n = omega arith in subst (λ k. NumberedFrom k ys) same j
numbered_both n m (x ∷ xs) ys e h j = (h.0, numbered_both (n + 1) m xs ys (omega arith) h.1 j)

mutual
  numbered_all : (place : ℕ) (ss : Statements) (rest : Remainder) → NumberedFrom place (remainders place ss rest)
  numbered_all place End rest = tt
  numbered_all place (Then s ss) rest =
      let n = place + 1 + length (inside s) in
      let behind = parts n ss ++ rest in
      ((behind, refl), numbered_both (place + 1) n (remainders_inside place s behind) (remainders n ss rest) (ap (λ k. place + 1 + k) (length_remainders_inside place s behind)) (numbered_inside place s behind) (numbered_all n ss rest))

  numbered_inside : (place : ℕ) (s : Statement) (rest : Remainder) → NumberedFrom (place + 1) (remainders_inside place s rest)
  numbered_inside place Empty rest = tt
  numbered_inside place (Assign r e) rest = tt
  numbered_inside place (AssignAfter r d e) rest = tt
  numbered_inside place (AssignLater r d e) rest = tt
  numbered_inside place (Now r) rest = tt
  numbered_inside place (Delay d body) rest = numbered_all (place + 1) body rest
  numbered_inside place (Await triggers body) rest = numbered_all (place + 1) body rest
  numbered_inside place (If c body otherwise) rest =
      numbered_both (place + 1) (place + 1 + size body) (remainders (place + 1) body rest) (remainders (place + 1 + size body) otherwise rest) (ap (λ k. place + 1 + k) (length_remainders (place + 1) body rest)) (numbered_all (place + 1) body rest) (numbered_all (place + 1 + size body) otherwise rest)
  numbered_inside place (While c body) rest = numbered_all (place + 1) body (At place ∷ rest)
  numbered_inside place (Print task format arguments) rest = tt
  numbered_inside place Finish rest = tt

numbered_processes : (place : ℕ) (ps : List Process) → NumberedFrom place (all_remainders place ps)
numbered_processes place [] = tt
numbered_processes place (p ∷ ps) =
    numbered_both place (place + size p.body) (remainders place p.body []) (all_remainders (place + size p.body) ps) (ap (λ k. place + k) (length_remainders place p.body [])) (numbered_all place p.body []) (numbered_processes (place + size p.body) ps)

numbered_at : (n : ℕ) (rs : List Remainder) (k m : ℕ) → NumberedFrom n rs → k < length rs → n + k ≡ m → (rest : Remainder) × (slice_index_or rs k [] ≡ At m ∷ rest)
numbered_at n [] k m h lt e = absurd (omega arith)
numbered_at n (r ∷ rs) zero m h lt e = let same : n ≡ m = omega arith in (h.0.0, h.0.1 ∙ ap (λ i. At i ∷ h.0.0) same)
numbered_at n (r ∷ rs) (suc k) m h lt e = numbered_at (n + 1) rs k m h.1 (omega arith) (omega arith)

fewer : (n : ℕ) (ps : List Process) → length (all_statements (take n ps)) ≤ length (all_statements ps)
fewer zero ps = omega arith
fewer (suc n) [] = omega arith
fewer (suc n) (p ∷ ps) = omega (arith, length-append (all_of p.body) (all_statements (take n ps)), length-append (all_of p.body) (all_statements ps), fewer n ps)

-- a remainder names its place, or is that of the end
names : (design : Design) (p k : ℕ) → IsPlaceOf design p k → ((rest : Remainder) × (remainder_at design k ≡ At k ∷ rest)) ⊎ ((remainder_at design k ≡ []) × (k ≡ end_place design p))
names design p k own =
    ⊎_elim
    (λ h. inl (numbered_at 0 (all_remainders 0 design.processes) k k (numbered_processes 0 design.processes) (omega (arith, h.1, fewer (p + 1) design.processes, length_all_remainders 0 design.processes)) (omega arith)))
    (λ h. inr (subst (λ i. remainder_at design i ≡ []) (sym h) (left_at_end design p), h))
    own

same_at : (j k : ℕ) (x y r q : Remainder) → x ≡ At j ∷ r → y ≡ At k ∷ q → x ≡ y → j ≡ k
same_at j k x y r q a b e = cc

not_none : (j : ℕ) (x y r : Remainder) (A : Type 0) → x ≡ At j ∷ r → y ≡ [] → x ≡ y → A
not_none j x y r A a b e = cc

-- a remainder that begins with a place is that of the place
pub place_named : (design : Design) (p k place : ℕ) (rest : Remainder) → IsPlaceOf design p k → remainder_at design k ≡ At place ∷ rest → place ≡ k
place_named design p k place rest own is =
    ⊎_elim
    (λ h. same_at place k (remainder_at design k) (remainder_at design k) rest h.0 is h.1 refl)
    (λ h. not_none place (remainder_at design k) (remainder_at design k) rest (place ≡ k) is h.0 refl)
    (names design p k own)

-- no statement stands behind all of them
pub past_is_empty : (design : Design) (k : ℕ) → statement_count design ≤ k → statement_at design k ≡ Empty
past_is_empty design k past = get_or_past (all_statements design.processes) k Empty past

-- nor where nothing is left
pub end_is_empty : (design : Design) (p k : ℕ) → IsPlaceOf design p k → remainder_at design k ≡ [] → statement_at design k ≡ Empty
end_is_empty design p k own none =
    ⊎_elim
    (λ h. not_none k (remainder_at design k) (remainder_at design k) h.0 (statement_at design k ≡ Empty) h.1 none refl)
    (λ h. past_is_empty design k (omega (arith, h.1)))
    (names design p k own)

-- the statements of a process are among those of these processes
abbrev IsAmong : List Process → ℕ → ℕ → Type 0
IsAmong ps k p = (p < length ps) × (length (all_statements (take p ps)) ≤ k) × (k < length (all_statements (take (p + 1) ps)))

length_first : (q : Process) (ps : List Process) (p : ℕ) → length (all_statements (take (p + 1) (q ∷ ps))) ≡ size q.body + length (all_statements (take p ps))
length_first q ps p = ap (λ n. length (all_statements (take n (q ∷ ps)))) (add-one p) ∙ length-append (all_of q.body) (all_statements (take p ps))

among_more : (q : Process) (ps : List Process) (k p : ℕ) → size q.body ≤ k → IsAmong ps (k - size q.body) p → IsAmong (q ∷ ps) k (p + 1)
among_more q ps k p behind (among, from, to) =
    (omega (arith, among), omega (arith, from, behind, length_first q ps p), omega (arith, to, behind, length_first q ps (p + 1)))

-- the process of a statement
process_of : (ps : List Process) (k : ℕ) → k < length (all_statements ps) → (p : ℕ) × IsAmong ps k p
process_of [] k within = absurd (omega (arith, within))
process_of (q ∷ ps) k within =
    ⊎_elim
    (λ here. (0, (omega arith, omega arith, omega (arith, here, length_first q ps 0))))
    (λ behind.
    let rest = process_of ps (k - size q.body) (omega (arith, within, behind, length-append (all_of q.body) (all_statements ps))) in
    (rest.0 + 1, among_more q ps k rest.0 behind rest.1))
    (cases_lt k (size q.body))

-- each statement, and each end, is that of a process
pub some_process : (design : Design) (place : ℕ) → place < statement_count design + length design.processes → (p : ℕ) × ((p < length design.processes) × IsPlaceOf design p place)
some_process design place within =
    ⊎_elim
    (λ here.
    let (p, (among, from, to)) = process_of design.processes place here in
    (p, (among, inl (from, to))))
    (λ behind. (place - statement_count design, (omega (arith, within, behind), inr (omega (arith, behind)))))
    (cases_lt place (statement_count design))

-- places of one process with one remainder are the same
same_place : (design : Design) (p j k : ℕ) → IsPlaceOf design p j → IsPlaceOf design p k → remainder_at design j ≡ remainder_at design k → j ≡ k
same_place design p j k hj hk e =
    let x = remainder_at design j in
    let y = remainder_at design k in
    ⊎_elim
    (λ a. ⊎_elim (λ b. same_at j k x y a.0 b.0 a.1 b.1 e) (λ b. not_none j x y a.0 (j ≡ k) a.1 b.0 e) (names design p k hk))
    (λ a. ⊎_elim (λ b. not_none k y x b.0 (j ≡ k) b.1 a.0 (sym e)) (λ b. a.1 ∙ sym b.1) (names design p k hk))
    (names design p j hj)

never_at : (r k : ℕ) (v : Vector) (x q : Remainder) (A : Type 0) → Set r v ∷ x ≡ At k ∷ q → A
never_at r k v x q A h = cc

never_none : (r : ℕ) (v : Vector) (x : Remainder) (A : Type 0) → Set r v ∷ x ≡ [] → A
never_none r v x A h = cc

-- no remainder at a place begins with an assignment left over
not_set : (design : Design) (p k r : ℕ) (v : Vector) (x y : Remainder) (A : Type 0) → IsPlaceOf design p k → y ≡ remainder_at design k → Set r v ∷ x ≡ y → A
not_set design p k r v x y A own is e =
    ⊎_elim (λ b. never_at r k v x b.0 A (e ∙ is ∙ b.1)) (λ b. never_none r v x A (e ∙ is ∙ b.0)) (names design p k own)

state_same : (s t : ProcState) → s.place ≡ t.place → s.pending ≡ t.pending → s ≡ t
state_same s t e f = ap (λ k. record s { place = k }) e ∙ ap (λ o. record t { pending = o }) f

set_same : (q r : ℕ) (v w : Vector) (x y : Remainder) → Set q v ∷ x ≡ Set r w ∷ y → (q ≡ r) × (v ≡ w) × (x ≡ y)
set_same q r v w x y e = (cc, cc, cc)

same_left : (a b : Option (ℕ × Vector)) (design : Design) (p j k : ℕ) → IsPlaceOf design p j → IsPlaceOf design p k → pending_part a ++ remainder_at design j ≡ pending_part b ++ remainder_at design k → (j ≡ k) × (a ≡ b)
same_left None None design p j k hj hk e = (same_place design p j k hj hk e, refl)
same_left None (Some w) design p j k hj hk e = not_set design p j w.0 w.1 (remainder_at design k) (remainder_at design j) _ hj refl (sym e)
same_left (Some v) None design p j k hj hk e = not_set design p k v.0 v.1 (remainder_at design j) (remainder_at design k) _ hk refl e
same_left (Some v) (Some w) design p j k hj hk e =
    let parts : (v.0 ≡ w.0) × (v.1 ≡ w.1) × (remainder_at design j ≡ remainder_at design k) = set_same v.0 w.0 v.1 w.1 _ _ e in
    (same_place design p j k hj hk parts.2, ap (λ r. Some (r, v.1)) parts.0 ∙ ap (λ x. Some (w.0, x)) parts.1)

more_places : (n m : ℕ) (ps : List Process) → n ≤ m → length (all_statements (take n ps)) ≤ length (all_statements (take m ps))
more_places zero m ps le = omega arith
more_places (suc n) zero ps le = absurd (omega arith)
more_places (suc n) (suc m) [] le = omega arith
more_places (suc n) (suc m) (p ∷ ps) le =
    let rest : length (all_statements (take n ps)) ≤ length (all_statements (take m ps)) = more_places n m ps (omega arith) in
    omega (arith, length-append (all_of p.body) (all_statements (take n ps)), length-append (all_of p.body) (all_statements (take m ps)), rest)

-- the places of a process come before those of a later one
not_later : (design : Design) (p q k : ℕ) → p < q → IsPlaceOf design p k → IsPlaceOf design q k → ⊥
not_later design p q k lt a b =
    let own : length (all_statements (take (p + 1) design.processes)) ≤ length (all_statements (take q design.processes)) = more_places (p + 1) q design.processes (omega arith) in
    ⊎_elim
    (λ x. ⊎_elim (λ y. omega (arith, x.1, y.0, own)) (λ y. omega (arith, x.1, y, fewer (p + 1) design.processes)) b)
    (λ x. ⊎_elim (λ y. omega (arith, x, y.1, fewer (q + 1) design.processes)) (λ y. omega (arith, x, y)) b)
    a

same_unless : (p q : ℕ) → (p < q → ⊥) → (q < p → ⊥) → p ≡ q
same_unless zero zero a b = refl
same_unless zero (suc q) a b = absurd (a (omega arith))
same_unless (suc p) zero a b = absurd (b (omega arith))
same_unless (suc p) (suc q) a b = ap suc (same_unless p q (λ h. a (omega (arith, h))) (λ h. b (omega (arith, h))))

-- a place is of one process alone
same_process : (design : Design) (p q k : ℕ) → IsPlaceOf design p k → IsPlaceOf design q k → p ≡ q
same_process design p q k a b = same_unless p q (λ lt. not_later design p q k lt a b) (λ lt. not_later design q p k lt b a)

same_state : (code : Compiled) (p : ℕ) (s t : ProcState) → IsStateOf code p s → IsStateOf code p t → remainder_of_state code s ≡ remainder_of_state code t → s ≡ t
same_state code p s t a b e =
    let same = same_left s.pending t.pending (design_of code) p s.place t.place a.place b.place e in
    state_same s t same.0 same.1

pub states_are_equal : StatesAreEqual
states_are_equal code p q s t a b = (
  λ e. (same_process (design_of code) p q s.place a.place (subst (λ (x : ProcState). IsPlaceOf (design_of code) q x.place) (sym e) b.place), ap (remainder_of_state code) e),
  λ h. same_state code p s t a (subst (λ k. IsStateOf code k t) (sym h.0) b) h.1,
)
