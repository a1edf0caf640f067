-- A table whose slots count where they have its stamp.
use Rattle.std.proofs.Common.{◌≡◌, ℕ, ◌<◌, ◌≤◌, if◌then◌else◌, List, [], ◌∷◌, ◌++◌, map, length, take, replicate, Option, Some, None, refl, sym, ap, ◌∙◌, subst, arith, ⊎_elim, eq-eqb}
use Rattle.std.specs.Prelude.{slice_get, slice_set, slice_index_or}
use Rattle.std.specs.List.{All}
use Rattle.std.proofs.lemmas.List.{map-set, length-map, set_past}
use Rattle.std.proofs.lemmas.List.Elements.{All-head, All-tail, All-same, All-append, All-take, All-replicate}
use Rattle.std.proofs.lemmas.Option.{slice_get-map, unwrap_or-slice_get}
use Rattle.std.specs.Option.{unwrap_or, option_map}
use Rattle.logic4.specs.Vector.{Vector}
use Rattle.turn.specs.declared.table.Slot.{Slot}
use Rattle.turn.specs.Slots.{known_in}
use Rattle.turn.proofs.Known.{same_or_not}

-- an older slot doesn't count
older_slot : (stamp : ℕ) (s : Slot) → s.stamp < stamp → known_in stamp s ≡ None
older_slot stamp s lt =
    ⊎_elim
    (λ same. let no : s.stamp < s.stamp = subst (λ n. s.stamp < n) (sym same.0) lt in absurd (omega (arith, no)))
    (λ other. ap (λ b. if b then Some s.value else None) other)
    (same_or_not s.stamp stamp)

-- so nothing is known where all are older
pub older : (stamp : ℕ) (slots : List Slot) → All (λ s. s.stamp < stamp) slots → map (known_in stamp) slots ≡ replicate (length slots) None
older stamp [] all = refl
older stamp (s ∷ slots) all =
    let P : Slot → Type 0 = λ s. s.stamp < stamp in
    ap (λ o. o ∷ map (known_in stamp) slots) (older_slot stamp s (All-head P s slots all))
    ∙ ap (λ os. None ∷ os) (older stamp slots (All-tail P s slots all))

-- nothing is known once the slots are as many as the registers, older ones and unset ones
pub begun : (stamp n m : ℕ) (v : Vector) (old new : List Slot) → All (λ s. s.stamp < stamp) old → 0 < stamp → new ≡ take n old ++ replicate m (record { stamp = 0; value = v }) → length new ≡ n → map (known_in stamp) new ≡ replicate n None
begun stamp n m v old new all some is len =
    let P : Slot → Type 0 = λ s. s.stamp < stamp in
    let none : All P new = All-same P new _ is (All-append P _ _ (All-take P n old all) (All-replicate P m _ some)) in
    older stamp new none ∙ ap (λ n. replicate n None) len

-- what is known of a register, by its slot
pub known_at : (stamp : ℕ) (slots : List Slot) (r : ℕ) (o : Option Slot) → slice_get slots r ≡ o → slice_index_or (map (known_in stamp) slots) r None ≡ unwrap_or (option_map (known_in stamp) o) None
known_at stamp slots r o is =
    sym (unwrap_or-slice_get (map (known_in stamp) slots) r None)
    ∙ ap (λ p. unwrap_or p None) (slice_get-map (known_in stamp) slots r)
    ∙ ap (λ o. unwrap_or (option_map (known_in stamp) o) None) is

-- a slot with the table's stamp counts
pub newest : (stamp : ℕ) (v : Vector) → known_in stamp (record { stamp = stamp; value = v }) ≡ Some v
newest stamp v = ap (λ b. if b then Some v else None) (eq-eqb stamp stamp refl)

pub known_set : (stamp : ℕ) (slots : List Slot) (r : ℕ) (v : Vector) → map (known_in stamp) (slice_set slots r (record { stamp = stamp; value = v })) ≡ slice_set (map (known_in stamp) slots) r (Some v)
known_set stamp slots r v = map-set (known_in stamp) slots r (record { stamp = stamp; value = v }) ∙ ap (λ o. slice_set (map (known_in stamp) slots) r o) (newest stamp v)

-- and a register that is past the slots changes none
pub known_past : (stamp : ℕ) (slots : List Slot) (r : ℕ) (v : Vector) → length slots ≤ r → map (known_in stamp) slots ≡ slice_set (map (known_in stamp) slots) r (Some v)
known_past stamp slots r v past = sym (set_past (map (known_in stamp) slots) r (Some v) (subst (λ n. n ≤ r) (sym (length-map slots (known_in stamp))) past))
