-- The seats of all workers, in their order.
use Rattle.std.proofs.Common.{◌≡◌, ℕ, List, [], ◌∷◌, map, sym, ap, ◌∙◌, subst}
use Rattle.std.specs.Prelude.{IsPermutation}
use Rattle.std.specs.List.{range_with_len}
use Rattle.std.proofs.lemmas.List.Sorted.{IsPermutation-refl}
use Rattle.commitgate.specs.Named.{Named}
use Rattle.commitgate.specs.Seats.{SeatView}
use Rattle.commitgate.specs.Closing.{AreAllSeats}

in_order : (n : Named) (seats : List SeatView) → range_with_len 0 n.workers ≡ map (λ (s : SeatView). s.worker) seats → AreAllSeats n seats
in_order n seats same = subst (λ (l : List ℕ). IsPermutation (range_with_len 0 n.workers) l) same (IsPermutation-refl (range_with_len 0 n.workers))

-- both of two
pub two_seats : (n : Named) (s t : SeatView) (seats : List SeatView) → n.workers ≡ 2 → s.worker ≡ 0 → t.worker ≡ 1 → seats ≡ s ∷ t ∷ [] → AreAllSeats n seats
two_seats n s t seats count first second is =
    let a = sym first in
    let b = sym second in
    let numbers : 0 ∷ 1 ∷ [] ≡ s.worker ∷ t.worker ∷ [] = λ i. a i ∷ b i ∷ [] in
    let all : range_with_len 0 n.workers ≡ 0 ∷ 1 ∷ [] = ap (λ (k : ℕ). range_with_len 0 k) count in
    in_order n seats (all ∙ numbers ∙ ap (λ (l : List SeatView). map (λ (v : SeatView). v.worker) l) (sym is))
