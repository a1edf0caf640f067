-- What is told of the events of a region.
use Rattle.std.proofs.Common.{◌≡◌, ℕ, ◌+◌, Bool, true, false, List, [], ◌∷◌, ◌++◌, map, cond, refl, sym, ◌∙◌, ap, arith, subst}
use Rattle.std.specs.Prelude.{◌==◌, if◌then◌else◌, filter, sum_by, Option}
use Rattle.std.specs.List.Sorted.{IsPermutation}
use Rattle.std.proofs.lemmas.List.{append-nil}
use Rattle.std.proofs.lemmas.Simd.{map-map}
use Rattle.std.proofs.lemmas.List.Recursion.{is_sum_by}
use Rattle.std.proofs.lemmas.List.Sorted.{sum_by-IsPermutation, IsPermutation-refl}
use Rattle.logic4.specs.Vector.{Vector}
use Rattle.model.specs.States.{Action, Event, due_at}
use Rattle.model.specs.States as states
use Rattle.model.specs.Laws.{evaluations_in, times_in}
use Rattle.orders.specs.Alike as alike
use Rattle.orders.specs.Alike.{updates_in}
use Rattle.regions.specs.declared.queue.Update.{Update}
use Rattle.regions.specs.declared.queue.Evaluation.{Evaluation}
use Rattle.regions.specs.declared.future.Due.{Due}
use Rattle.regions.specs.Queue.{evaluation_event, update_event, process_wait_of}
use Rattle.regions.specs.ProcessWaking.{triggers_at}
use Rattle.regions.specs.declared.queue.Continuation.{Continuation}
use Rattle.design.specs.declared.code.ProcState.{ProcState}
use Rattle.model.specs.Design.{Trigger}
use Rattle.regions.specs.Future.{due_event}
use Rattle.statekeys.specs.Keys.{at_time, AreEvents, AreToCome}
use Rattle.statekeys.specs.KeyParts.{going_on, unnumbered_update, due_process, due_assignment}

-- the processes of evaluations
abbrev pub processes_of : List Evaluation → List ℕ
processes_of es = map (λ e. e.process) es

updates-updates : (us : List Update) (rest : List Event) → updates_in (map update_event us ++ rest) ≡ map unnumbered_update us ++ updates_in rest
updates-updates [] rest = refl
updates-updates (u ∷ us) rest = ap (λ (xs : List (ℕ × Vector)). unnumbered_update u ∷ xs) (updates-updates us rest)

updates-evaluations : (es : List Evaluation) → updates_in (map evaluation_event es) ≡ []
updates-evaluations [] = refl
updates-evaluations (e ∷ es) = updates-evaluations es

evaluations-updates : (p : ℕ) (us : List Update) (rest : List Event) → evaluations_in p (map update_event us ++ rest) ≡ evaluations_in p rest
evaluations-updates p [] rest = refl
evaluations-updates p (u ∷ us) rest = omega (arith, evaluations-updates p us rest)

-- how much a number adds to how often one stands in a list
abbrev one_if : Bool → ℕ
one_if b = if b then 1 else 0

evaluations-evaluations : (p : ℕ) (es : List Evaluation) → evaluations_in p (map evaluation_event es) ≡ times_in p (processes_of es)
evaluations-evaluations p [] = refl
evaluations-evaluations p (e ∷ es) = ap (λ n. one_if (e.process == p) + n) (evaluations-evaluations p es)

-- in another order each number stands as often
times-permutation : (p : ℕ) (xs ys : List ℕ) → IsPermutation xs ys → times_in p xs ≡ times_in p ys
times-permutation p xs ys h =
    is_sum_by (times_in p) (λ m. one_if (m == p)) refl (λ _ _. refl) xs ∙ sym (sum_by-IsPermutation (λ m. one_if (m == p)) xs ys h)
    ∙ sym (is_sum_by (times_in p) (λ m. one_if (m == p)) refl (λ _ _. refl) ys)

-- the updates, and then the evaluations, whose processes stand in any order
pub active_told : (us : List Update) (es : List Evaluation) (ps : List ℕ) (events : List Event)
    → map update_event us ++ map evaluation_event es ≡ events → IsPermutation (processes_of es) ps → AreEvents (map unnumbered_update us) ps events
active_told us es ps events is h = record {
  in_order = sym (ap updates_in is) ∙ updates-updates us (map evaluation_event es)
      ∙ ap (λ (xs : List (ℕ × Vector)). map unnumbered_update us ++ xs) (updates-evaluations es) ∙ append-nil (map unnumbered_update us);
  as_many = λ p. sym (ap (evaluations_in p) is) ∙ evaluations-updates p us (map evaluation_event es) ∙ evaluations-evaluations p es
      ∙ times-permutation p (processes_of es) ps h;
}

pub inactive_told : (es : List Evaluation) (ps : List ℕ) (events : List Event) → map evaluation_event es ≡ events
    → IsPermutation (processes_of es) ps → AreEvents [] ps events
inactive_told es ps events is h = active_told [] es ps events is h

pub nonblocking_told : (us : List Update) (events : List Event) → map update_event us ≡ events → AreEvents (map unnumbered_update us) [] events
nonblocking_told us events is = active_told us [] [] events (append-nil (map update_event us) ∙ is) (IsPermutation-refl [])

-- one more evaluation to come, which may be due
due_evaluation : (b : Bool) (p : ℕ) (d : Due Evaluation) (xs : List (ℕ × Event)) (ys : List (ℕ × ℕ))
    → evaluations_in p (map (λ (x : ℕ × Event). x.1) xs) ≡ times_in p (map (λ (y : ℕ × ℕ). y.1) ys)
    → evaluations_in p (map (λ (x : ℕ × Event). x.1) (cond b (due_event evaluation_event d ∷ xs) xs)) ≡ times_in p (map (λ (y : ℕ × ℕ). y.1) (cond b (due_process d ∷ ys) ys))
due_evaluation true p d xs ys h = ap (λ n. one_if (d.event.process == p) + n) h
due_evaluation false p d xs ys h = h

due_evaluations : (time p : ℕ) (ds : List (Due Evaluation))
    → evaluations_in p (due_at time (map (due_event evaluation_event) ds)) ≡ times_in p (at_time time (map due_process ds))
due_evaluations time p [] = refl
due_evaluations time p (d ∷ ds) = due_evaluation (d.time == time) p d _ _ (due_evaluations time p ds)

no_update : (b : Bool) (d : Due Evaluation) (xs : List (ℕ × Event)) → updates_in (map (λ (x : ℕ × Event). x.1) xs) ≡ []
    → updates_in (map (λ (x : ℕ × Event). x.1) (cond b (due_event evaluation_event d ∷ xs) xs)) ≡ []
no_update true d xs h = h
no_update false d xs h = h

no_updates : (time : ℕ) (ds : List (Due Evaluation)) → updates_in (due_at time (map (due_event evaluation_event) ds)) ≡ []
no_updates time [] = refl
no_updates time (d ∷ ds) = no_update (d.time == time) d _ (no_updates time ds)

-- how much a pair adds to how often a number stands at a time
abbrev due_times : ℕ → ℕ → ℕ × ℕ → ℕ
due_times time p x = if x.0 == time then one_if (x.1 == p) else 0

due_step : (b : Bool) (p : ℕ) (x : ℕ × ℕ) (xs : List (ℕ × ℕ))
    → times_in p (map (λ (y : ℕ × ℕ). y.1) (cond b (x ∷ xs) xs)) ≡ (if b then one_if (x.1 == p) else 0) + times_in p (map (λ (y : ℕ × ℕ). y.1) xs)
due_step true p x xs = refl
due_step false p x xs = omega arith

due_permutation : (time p : ℕ) (xs ys : List (ℕ × ℕ)) → IsPermutation xs ys → times_in p (at_time time xs) ≡ times_in p (at_time time ys)
due_permutation time p xs ys h = counts xs ∙ sym (sum_by-IsPermutation (due_times time p) xs ys h) ∙ sym (counts ys)
  where
    counts : (zs : List (ℕ × ℕ)) → times_in p (at_time time zs) ≡ sum_by (due_times time p) zs
    counts zs = is_sum_by (λ us. times_in p (at_time time us)) (due_times time p) refl (λ u us. due_step (u.0 == time) p u _) zs

times-evaluations : (ds : List (Due Evaluation)) → alike.times (map (due_event evaluation_event) ds) ≡ map (λ d. d.time) ds
times-evaluations [] = refl
times-evaluations (d ∷ ds) = ap (λ (ts : List ℕ). d.time ∷ ts) (times-evaluations ds)

pub future_inactive_told : (ds : List (Due Evaluation)) (ps : List (ℕ × ℕ)) (future : List (ℕ × Event))
    → map (due_event evaluation_event) ds ≡ future → IsPermutation (map due_process ds) ps
    → AreToCome (map (λ d. d.time) ds) [] ps future
future_inactive_told ds ps future is h =
    let P : List (ℕ × Event) → Type 0 = λ f. AreToCome (map (λ d. d.time) ds) [] ps f in
    subst P is (record {
      in_time = times-evaluations ds;
      due = λ time. record {
        in_order = no_updates time ds;
        as_many = λ p. due_evaluations time p ds ∙ due_permutation time p (map due_process ds) ps h;
      };
    })

times-updates : (ds : List (Due Update)) → alike.times (map (due_event update_event) ds) ≡ map (λ (u : ℕ × (ℕ × Vector)). u.0) (map due_assignment ds)
times-updates [] = refl
times-updates (d ∷ ds) = ap (λ (ts : List ℕ). d.time ∷ ts) (times-updates ds)

due_update : (b : Bool) (d : Due Update) (xs : List (ℕ × Event)) (ys : List (ℕ × (ℕ × Vector)))
    → updates_in (map (λ (x : ℕ × Event). x.1) xs) ≡ map (λ (y : ℕ × (ℕ × Vector)). y.1) ys
    → updates_in (map (λ (x : ℕ × Event). x.1) (cond b (due_event update_event d ∷ xs) xs)) ≡ map (λ (y : ℕ × (ℕ × Vector)). y.1) (cond b (due_assignment d ∷ ys) ys)
due_update true d xs ys h = ap (λ (us : List (ℕ × Vector)). unnumbered_update d.event ∷ us) h
due_update false d xs ys h = h

due_updates : (time : ℕ) (ds : List (Due Update)) → updates_in (due_at time (map (due_event update_event) ds)) ≡ at_time time (map due_assignment ds)
due_updates time [] = refl
due_updates time (d ∷ ds) = due_update (d.time == time) d _ _ (due_updates time ds)

no_evaluation : (b : Bool) (p : ℕ) (d : Due Update) (xs : List (ℕ × Event)) → evaluations_in p (map (λ (x : ℕ × Event). x.1) xs) ≡ 0
    → evaluations_in p (map (λ (x : ℕ × Event). x.1) (cond b (due_event update_event d ∷ xs) xs)) ≡ 0
no_evaluation true p d xs h = omega (arith, h)
no_evaluation false p d xs h = h

no_evaluations : (time p : ℕ) (ds : List (Due Update)) → evaluations_in p (due_at time (map (due_event update_event) ds)) ≡ 0
no_evaluations time p [] = refl
no_evaluations time p (d ∷ ds) = no_evaluation (d.time == time) p d _ (no_evaluations time p ds)

pub future_nonblocking_told : (ds : List (Due Update)) (future : List (ℕ × Event)) → map (due_event update_event) ds ≡ future
    → AreToCome (map (λ (u : ℕ × (ℕ × Vector)). u.0) (map due_assignment ds)) (map due_assignment ds) [] future
future_nonblocking_told ds future is =
    let P : List (ℕ × Event) → Type 0 =
    λ f. AreToCome (map (λ (u : ℕ × (ℕ × Vector)). u.0) (map due_assignment ds)) (map due_assignment ds) [] f in
    subst P is (record {
      in_time = times-updates ds;
      due = λ time. record { in_order = due_updates time ds; as_many = λ p. no_evaluations time p ds };
    })

-- where processes go on, and what they wait for
pub processes_told : (controls : List (List Trigger)) (ps : List Continuation) (all : List (ProcState × List Trigger))
    → map (process_wait_of controls) ps ≡ all → map (λ (p : ProcState × Option ℕ). (p.0, triggers_at controls p.1)) (map going_on ps) ≡ all
processes_told controls ps all h = map-map (λ (p : ProcState × Option ℕ). (p.0, triggers_at controls p.1)) going_on ps ∙ h
