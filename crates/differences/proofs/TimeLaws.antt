-- The times that end in two journals.
use Rattle.std.proofs.Common.{◌≡◌, ap, sym, refl, subst, inl, inr, ℕ, zero, suc, ◌<◌, ◌≤◌, Bool, true, false, List, [], ◌∷◌, ◌++◌, nat_le, if◌then◌else◌, arith}
use Rattle.std.specs.Prelude.{flat_map, slice_index_or}
use Rattle.std.specs.List.{Contains, dedup}
use Rattle.std.specs.List.Sorted.{IsPermutation, IsSorted, IsStrictlyIncreasing}
use Rattle.std.specs.Ordering.{nat_cmp}
use Rattle.std.proofs.Math.Dec.{eqb}
use Rattle.std.proofs.lemmas.Bool.{leb-true, le-leb}
use Rattle.std.proofs.lemmas.List.Elements.{Contains-append_left, Contains-append_right, Contains-append_cases}
use Rattle.std.proofs.lemmas.List.Kept.{Contains-dedup_nat, Contains-from_dedup}
use Rattle.std.proofs.lemmas.List.Sorted.{Contains-permutation, IsPermutation-sym}
use Rattle.std.proofs.lemmas.Map.Keys.{IsStrictlyIncreasing-dedup}
use Rattle.model.specs.declared.entry.Entry.{Entry}
use Rattle.model.specs.declared.entry.Entry.TheVariants.{Turn, Update, ActivateInactive, ActivateNba, ActivateMonitor, Advance}
use Rattle.differences.specs.ComparedValues.{IsComparedTime, AreComparedTimes, advance_to}

-- an element of a list of one, and of none

only : {A : Type 0} (x y : A) → Contains (x ∷ []) y → x ≡ y
only x y h = go h.0 h.1 h.2
  where
    go : (k : ℕ) → k < 1 → slice_index_or (x ∷ []) k y ≡ y → x ≡ y
    go zero lt is = is
    go (suc k) lt is = absurd (omega (arith, lt))

none : {A : Type 0} (y : A) → Contains [] y → ⊥
none y h = omega (arith, h.1)

first_of_all : {A : Type 0} (x : A) (xs : List A) → Contains (x ∷ xs) x
first_of_all x xs = (0, omega arith, refl)

-- the time that an entry advances to

advances : (last time : ℕ) (e : Entry) → Contains (advance_to last e) time → (e ≡ Advance time) × (time ≤ last)
advances last time (Turn number) h = absurd (none time h)
advances last time (Update number) h = absurd (none time h)
advances last time ActivateInactive h = absurd (none time h)
advances last time ActivateNba h = absurd (none time h)
advances last time ActivateMonitor h = absurd (none time h)
advances last time (Advance next) h = go (nat_le next last) refl h
  where
    go : (b : Bool) → nat_le next last ≡ b → Contains (if b then next ∷ [] else []) time → (Advance next ≡ Advance time) × (time ≤ last)
    go true le there =
        let same : next ≡ time = only next time there in
        (ap Advance same, subst (λ (n : ℕ). n ≤ last) same (leb-true next last le))
    go false le there = absurd (none time there)

-- so those of a journal, up to the last time

pub advances_of : (last time : ℕ) (es : List Entry) → Contains (flat_map (advance_to last) es) time → Contains es (Advance time) × (time ≤ last)
advances_of last time [] h = absurd (none time h)
advances_of last time (e ∷ es) h = elim (Contains-append_cases (advance_to last e) (flat_map (advance_to last) es) time h) [
  | inl own ↦
      let is = advances last time e own in
      (subst (λ (x : Entry). Contains (x ∷ es) (Advance time)) (sym is.0) (first_of_all (Advance time) es), is.1)
  | inr more ↦
      let is = advances_of last time es more in
      (Contains-append_right (e ∷ []) es (Advance time) is.0, is.1)
]

own_advance : (last time : ℕ) → time ≤ last → Contains (advance_to last (Advance time)) time
own_advance last time le =
    subst (λ (b : Bool). Contains (if b then time ∷ [] else []) time) (sym (le-leb time last le)) (first_of_all time [])

pub advance_there : (last time : ℕ) (es : List Entry) → Contains es (Advance time) → time ≤ last → Contains (flat_map (advance_to last) es) time
advance_there last time [] h le = absurd (none (Advance time) h)
advance_there last time (e ∷ es) h le = elim (Contains-append_cases (e ∷ []) es (Advance time) h) [
  | inl own ↦
      Contains-append_left (advance_to last e) (flat_map (advance_to last) es) time
      (subst (λ (x : Entry). Contains (advance_to last x) time) (sym (only e (Advance time) own)) (own_advance last time le))
  | inr more ↦ Contains-append_right (advance_to last e) (flat_map (advance_to last) es) time (advance_there last time es more le)
]

-- all times that were collected
abbrev pub collected : List Entry → List Entry → ℕ → List ℕ
collected first second last = ((0 ∷ []) ++ flat_map (advance_to last) first) ++ flat_map (advance_to last) second

collected_is : (first second : List Entry) (last time : ℕ) → Contains (collected first second last) time → IsComparedTime first second last time
collected_is first second last time h = elim (Contains-append_cases ((0 ∷ []) ++ flat_map (advance_to last) first) (flat_map (advance_to last) second) time h) [
  | inl before ↦ elim (Contains-append_cases (0 ∷ []) (flat_map (advance_to last) first) time before) [
    | inl start ↦
        let same : 0 ≡ time = only 0 time start in
        (inl (inl (sym same)), omega (arith, same))
    | inr one ↦ let is = advances_of last time first one in (inl (inr is.0), is.1)
  ]
  | inr other ↦ let is = advances_of last time second other in (inr (inr is.0), is.1)
]

collected_has : (first second : List Entry) (last time : ℕ) → IsComparedTime first second last time → Contains (collected first second last) time
collected_has first second last time (ends, le) = elim ends [
  | inl (inl zero_is) ↦ start zero_is
  | inl (inr one) ↦
      Contains-append_left ((0 ∷ []) ++ flat_map (advance_to last) first) (flat_map (advance_to last) second) time
      (Contains-append_right (0 ∷ []) (flat_map (advance_to last) first) time (advance_there last time first one le))
  | inr (inl zero_is) ↦ start zero_is
  | inr (inr other) ↦
      Contains-append_right ((0 ∷ []) ++ flat_map (advance_to last) first) (flat_map (advance_to last) second) time (advance_there last time second other le)
]
  where
    start : time ≡ 0 → Contains (collected first second last) time
    start is = subst (λ (n : ℕ). Contains (collected first second last) n) (sym is) (0, omega arith, refl)

-- sorted, and each once
pub times_are : (first second : List Entry) (last : ℕ) (xs ys ds : List ℕ) → xs ≡ collected first second last → IsPermutation xs ys → IsSorted nat_cmp ys → ds ≡ dedup eqb ys
    → AreComparedTimes first second last ds
times_are first second last xs ys ds is permuted sorted each = record {
  rise = subst IsStrictlyIncreasing (sym each) (IsStrictlyIncreasing-dedup ys sorted);
  all = λ time. (
    λ there.
        collected_is first second last time
        (subst (λ (l : List ℕ). Contains l time) is
        (Contains-permutation ys xs time (IsPermutation-sym xs ys permuted)
        (Contains-from_dedup eqb ys time (subst (λ (l : List ℕ). Contains l time) each there)))),
    λ compared.
        subst (λ (l : List ℕ). Contains l time) (sym each)
        (Contains-dedup_nat ys time
        (Contains-permutation xs ys time permuted (subst (λ (l : List ℕ). Contains l time) (sym is) (collected_has first second last time compared)))),
  );
}
