-- What a change of a register does to each process.
use Rattle.std.proofs.Common.{◌≡◌, ℕ, zero, suc, ◌+◌, ◌<◌, Bool, true, false, eq-eqb, List, [], ◌∷◌, ◌++◌, map, length, filter, refl, sym, ap, ◌∙◌, if◌then◌else◌, ◌==◌, arith, get_or}
use Rattle.std.specs.Prelude.{cond, not, ◌&&◌}
use Rattle.std.specs.List.{enumerate_from}
use Rattle.std.proofs.lemmas.Bool.Decides.{eqb_tells}
use Rattle.logic4.specs.Vector.{Vector}
use Rattle.logic4.specs.Operators.{same_vector}
use Rattle.model.specs.Expressions.{value_of}
use Rattle.model.specs.States.{Action, Evaluate, Continuation, State, is_woken, woken, after_wake, with_value, change}
use Rattle.model.specs.Laws.{evaluations_in}
use Rattle.orders.specs.Alike.{updates_in}
use Rattle.orders.specs.Apart.{given}
use Rattle.orders.proofs.EventLists.{updates-append, evaluations-append}
use Rattle.orders.proofs.Stores.{append-none}
use Rattle.phases.specs.Phase.{continuation_of}

-- no continuation
abbrev nothing : Continuation
nothing = record { remainder = []; triggers = [] }

-- the events of the processes that a change wakes

abbrev evaluate_each : List (ℕ × Continuation) → List Action
evaluate_each es = map (λ e. Evaluate e.0) es

abbrev pub one_where : Bool → ℕ
one_where b = if b then 1 else 0

no_updates : (k : ℕ) (es : List (ℕ × Continuation)) → updates_in (enumerate_from k (evaluate_each es)) ≡ []
no_updates k [] = refl
no_updates k (e ∷ es) = no_updates (k + 1) es

other_first : (p n k : ℕ) (x : Continuation) (es : List (ℕ × Continuation)) (b : Bool) → (k == p) ≡ false
    → ((m : ℕ) → evaluations_in p (enumerate_from m (evaluate_each es)) ≡ 0) → evaluations_in p (enumerate_from n (evaluate_each (cond b ((k, x) ∷ es) es))) ≡ 0
other_first p n k x es true other rest = rw other (omega (arith, rest (n + 1)))
other_first p n k x es false other rest = rest n

before : (p n k r : ℕ) (old new : Vector) (ps : List Continuation) → p < k → evaluations_in p (enumerate_from n (evaluate_each (filter (λ e. is_woken r old new e.1) (enumerate_from k ps)))) ≡ 0
before p n k r old new [] h = refl
before p n k r old new (x ∷ ps) h =
    let other : (k == p) ≡ false = grind (arith, eqb_tells k p, h) in
    other_first p n k x (filter (λ e. is_woken r old new e.1) (enumerate_from (k + 1) ps)) (is_woken r old new x) other (λ m. before p m (k + 1) r old new ps (omega (arith, h)))

same_first : (p n k : ℕ) (x : Continuation) (es : List (ℕ × Continuation)) (b : Bool) → (k == p) ≡ true
    → ((m : ℕ) → evaluations_in p (enumerate_from m (evaluate_each es)) ≡ 0) → evaluations_in p (enumerate_from n (evaluate_each (cond b ((k, x) ∷ es) es))) ≡ (if b then 1 else 0)
same_first p n k x es true is rest = rw is (omega (arith, rest (n + 1)))
same_first p n k x es false is rest = rest n

pass_first : (p n k : ℕ) (x : Continuation) (es : List (ℕ × Continuation)) (b woke : Bool) → (k == p) ≡ false
    → ((m : ℕ) → evaluations_in p (enumerate_from m (evaluate_each es)) ≡ (if woke then 1 else 0)) → evaluations_in p (enumerate_from n (evaluate_each (cond b ((k, x) ∷ es) es))) ≡ (if woke then 1 else 0)
pass_first p n k x es true woke other rest = rw other (omega (arith, rest (n + 1)))
pass_first p n k x es false woke other rest = rest n

woken_at : (p n k j r : ℕ) (old new : Vector) (ps : List Continuation) → k + j ≡ p
    → evaluations_in p (enumerate_from n (evaluate_each (filter (λ e. is_woken r old new e.1) (enumerate_from k ps)))) ≡ (if is_woken r old new (get_or ps j nothing) then 1 else 0)
woken_at p n k j r old new [] at = refl
woken_at p n k zero r old new (x ∷ ps) at =
    let same : k ≡ p = omega (arith, at) in
    same_first p n k x (filter (λ e. is_woken r old new e.1) (enumerate_from (k + 1) ps)) (is_woken r old new x) (eq-eqb k p same)
    (λ m. before p m (k + 1) r old new ps (omega (arith, same)))
woken_at p n k (suc j) r old new (x ∷ ps) at =
    let other : (k == p) ≡ false = grind (arith, eqb_tells k p, at) in
    pass_first p n k x (filter (λ e. is_woken r old new e.1) (enumerate_from (k + 1) ps)) (is_woken r old new x) (is_woken r old new (get_or ps j nothing)) other
    (λ m. woken_at p m (k + 1) j r old new ps (omega (arith, at)))

after_at : (r : ℕ) (old new : Vector) (ps : List Continuation) (p : ℕ) → get_or (map (after_wake r old new) ps) p nothing ≡ after_wake r old new (get_or ps p nothing)
after_at r old new [] p = refl
after_at r old new (x ∷ ps) zero = refl
after_at r old new (x ∷ ps) (suc p) = after_at r old new ps p

length_after : (r : ℕ) (old new : Vector) (ps : List Continuation) → length (map (after_wake r old new) ps) ≡ length ps
length_after r old new [] = refl
length_after r old new (x ∷ ps) = ap suc (length_after r old new ps)

-- whether a change of a register wakes a process
abbrev pub woke : State → ℕ → Vector → ℕ → Bool
woke s r v p = not (same_vector (value_of s.store r) v) && is_woken r (value_of s.store r) v (continuation_of s p)

-- a process that was woken, or wasn't
abbrev pub awake : Bool → Continuation → Continuation
awake b x = if b then record x { triggers = [] } else x

-- what a change does
abbrev pub Changed : State → ℕ → Vector → State → Type 0
Changed s r v f =
    record {
      time : f.time ≡ s.time;
      store : f.store ≡ given s.store (r, v);
      count : length f.processes ≡ length s.processes;
      processes : (p : ℕ) → continuation_of f p ≡ awake (woke s r v p) (continuation_of s p);
      updates : updates_in f.active ≡ updates_in s.active;
      evaluations : (p : ℕ) → evaluations_in p f.active ≡ evaluations_in p s.active + (if woke s r v p then 1 else 0);
      inactive : f.inactive ≡ s.inactive;
      nonblocking : f.nonblocking ≡ s.nonblocking;
      monitor : f.monitor ≡ s.monitor;
      future_inactive : f.future_inactive ≡ s.future_inactive;
      future_nonblocking : f.future_nonblocking ≡ s.future_nonblocking;
      finished : f.finished ≡ s.finished;
    }

plain : (n : ℕ) → n ≡ n + one_where false
plain n = omega arith

changed_if : (s : State) (r : ℕ) (v : Vector) (same : Bool) → same_vector (value_of s.store r) v ≡ same → Changed s r v (if same then s else with_value r v s)
changed_if s r v true is =
    record {
      time = refl;
      store = rw is refl;
      count = refl;
      processes = λ p. ap (λ b. awake (not b && is_woken r (value_of s.store r) v (continuation_of s p)) (continuation_of s p)) (sym is);
      updates = refl;
      evaluations = λ p. plain (evaluations_in p s.active) ∙ ap (λ b. evaluations_in p s.active + one_where (not b && is_woken r (value_of s.store r) v (continuation_of s p))) (sym is);
      inactive = refl;
      nonblocking = refl;
      monitor = refl;
      future_inactive = refl;
      future_nonblocking = refl;
      finished = refl;
    }
changed_if s r v false is =
    let old : Vector = value_of s.store r in
    record {
      time = refl;
      store = rw is refl;
      count = length_after r old v s.processes;
      processes = λ p. after_at r old v s.processes p ∙ ap (λ b. awake (not b && is_woken r old v (continuation_of s p)) (continuation_of s p)) (sym is);
      updates =
          updates-append s.active (enumerate_from s.next_event (woken r old v s.processes))
          ∙ ap (λ us. updates_in s.active ++ us) (no_updates s.next_event (filter (λ e. is_woken r old v e.1) (enumerate_from 0 s.processes)))
          ∙ append-none (updates_in s.active);
      evaluations = λ p.
          evaluations-append p s.active (enumerate_from s.next_event (woken r old v s.processes))
          ∙ ap (λ n. evaluations_in p s.active + n) (woken_at p s.next_event 0 p r old v s.processes (omega arith))
          ∙ ap (λ b. evaluations_in p s.active + one_where (not b && is_woken r old v (continuation_of s p))) (sym is);
      inactive = refl;
      nonblocking = refl;
      monitor = refl;
      future_inactive = refl;
      future_nonblocking = refl;
      finished = refl;
    }

pub changed : (s : State) (r : ℕ) (v : Vector) → Changed s r v (change s r v)
changed s r v = changed_if s r v (same_vector (value_of s.store r) v) refl
