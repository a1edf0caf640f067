-- A certificate of two actors who count down.
use Rattle.std.proofs.Common.{◌≡◌, ◌≢◌, ◌⊎◌, Bool, true, false, List, [], ◌∷◌, inl, inr, refl, sym}
use Rattle.traces.specs.Traces.{IsRunOfMoves, printed_by_steps}
use Rattle.traces.specs.Certificates.{HaveSwaps, IsCertificate}
use Rattle.traces.proofs.TraceRows.{none_some, Counts, counters, has_waited, counters_are_moves, turns, true_false}
use Rattle.traces.proofs.Certificates.{certificate_stands_for_all}

same_or_not : (a b : Bool) → (a ≡ b) ⊎ (a ≢ b)
same_or_not true true = inl refl
same_or_not true false = inr true_false
same_or_not false true = inr (λ same. true_false (sym same))
same_or_not false false = inl refl

counters_have_swaps : HaveSwaps counters
counters_have_swaps =
    record {
      decides = same_or_not;
      before = λ s m n a b f g differ step step' waits apart.
          let (v, is) = has_waited a b s.0 s.1 m n step.1 step'.1 in
          (v, (step'.0, is));
      gives_one = λ f g b apart given given'. given;
    }

-- the first counts, then the second, then the first: each of the two comes of itself, and is apart from the other
certificate : IsCertificate counters (2, 1) turns (0, 0)
certificate = (
  (1, 1),
  (refl, refl),
  (λ ends. ends),
  (λ b differ given waits. given),
  inr (true_false, inl (inl refl, tt)),
  (
    (1, 0),
    (refl, refl),
    (λ ends. ends),
    (λ b differ given waits. given),
    inr ((λ same. true_false (sym same)), tt),
    ((0, 0), (refl, refl), (λ ends. ends), (λ b differ given waits. given), tt, refl),
  ),
)

nobody_waits : (a : Bool) → counters.Waits (0, 0) a → ⊥
nobody_waits true waits = none_some waits.0 waits.1
nobody_waits false waits = none_some waits.0 waits.1

-- so each run from there to where nobody waits comes to the same, and prints two letters
all_the_same : (w : List (Bool × Bool)) (u : Counts) → IsRunOfMoves counters (2, 1) w u → ((a : Bool) → counters.Waits u a → ⊥) → (u ≡ (0, 0)) × (printed_by_steps counters.prints w ≡ 65 ∷ 65 ∷ [])
all_the_same w u run over =
    certificate_stands_for_all counters (2, 1) (0, 0) u turns w counters_are_moves counters_have_swaps certificate nobody_waits run over
