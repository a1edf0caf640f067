-- Masks of numbers, and lists that have them.
use Rattle.std.proofs.Common.{◌≡◌, ℕ, ◌*◌, ◌%◌, ◌^◌, ◌<◌, min, max, Bool, true, false, not, ◌||◌, if◌then◌else◌, ◌==◌, List, [], ◌∷◌, ◌++◌, map, length, inl, inr, refl, sym, ap, subst, ◌∙◌, arith, eqb-true}
use Rattle.std.specs.Prelude.{bit_and, bit_or}
use Rattle.std.specs.Int.{bit_at}
use Rattle.std.specs.List.{list_any}
use Rattle.std.proofs.lemmas.List.{map-append}
use Rattle.std.proofs.lemmas.Nat.{pow_pos}
use Rattle.std.proofs.lemmas.Nat.Bits.{bit_at_and, bit_at_or, bit_at-zero, bit_at-pow_same, bit_at-lt, and_pow}
use Rattle.logic4.specs.declared.digit.Edge.{Edge}
use Rattle.logic4.specs.Edges.{edge}
use Rattle.model.specs.Design.{Trigger}
use Rattle.model.specs.Turns.{contains}
use Rattle.model.specs.States.{wakes}
use Rattle.design.specs.ControlWaking.{wakes_by}
use Rattle.footprints.specs.Footprints.{RegisterChange, changed_registers}
use Rattle.certificates.specs.declared.changes.NotedChange.{NotedChange}
use Rattle.certificates.specs.Changes.{register_change_of, may_wake, may_wake_any}
use Rattle.certificates.specs.declared.mask.Mask.{Mask}
use Rattle.certificates.specs.Masks.{IsMaskOf, has_number, registers_of, meet}
use Rattle.certificates.proofs.Tests.{or_left, or_right, or_cases, is_or_not, false_by, never_true, any_at, any_in, any_mapped, one_of}
use Rattle.certificates.proofs.Telling.{wakes_on}

max_left : (a b : ℕ) → a ≡ 1 → b < 2 → max a b ≡ 1
max_left a b h less = omega (arith, h, less)

max_right : (a b : ℕ) → b ≡ 1 → a < 2 → max a b ≡ 1
max_right a b h less = omega (arith, h, less)

min_both : (a b : ℕ) → a ≡ 1 → b ≡ 1 → min a b ≡ 1
min_both a b h k = omega (arith, h, k)

not_none : (a : ℕ) → 1 * a ≡ 0 → 0 < a → ⊥
not_none a h some = absurd (omega (arith, h, some))

one_not_none : (a : ℕ) → a ≡ 1 → a ≡ 0 → ⊥
one_not_none a h k = absurd (omega (arith, h, k))

or_one : (a b k : ℕ) → bit_at a k ≡ 1 → bit_at (bit_or a b) k ≡ 1
or_one a b k h = bit_at_or a b k ∙ max_left (bit_at a k) (bit_at b k) h (bit_at-lt b k)

or_other : (a b k : ℕ) → bit_at b k ≡ 1 → bit_at (bit_or a b) k ≡ 1
or_other a b k h = bit_at_or a b k ∙ max_right (bit_at a k) (bit_at b k) h (bit_at-lt a k)

pub masked_more : (has : ℕ → Bool) (mask : Mask) (n b : ℕ) → b ≡ 2 ^ (n % 64) → IsMaskOf has mask → IsMaskOf (λ m. has m || n == m) (record { bits = bit_or mask.bits b })
masked_more has mask n b is masked m h =
    elim (or_cases (has m) (n == m) h) [
      | inl before ↦ or_one mask.bits b (m % 64) (masked m before)
      | inr own ↦
          subst (λ z. bit_at (bit_or mask.bits b) (z % 64) ≡ 1) (eqb-true n m own)
          (or_other mask.bits b (n % 64) (ap (λ z. bit_at z (n % 64)) is ∙ bit_at-pow_same (n % 64)))
    ]

not_false : (b : Bool) → not b ≡ false → b ≡ true
not_false true h = refl
not_false false h = cc

-- a word with no bit
is_none : (a : ℕ) → not (a == 0) ≡ false → a ≡ 0
is_none a h = eqb-true a 0 (not_false (a == 0) h)

-- a number whose bit isn't there is none of them
pub not_masked : (has : ℕ → Bool) (mask : Mask) (n b : ℕ) → b ≡ 2 ^ (n % 64) → IsMaskOf has mask → not (bit_and mask.bits b == 0) ≡ false → has n ≡ false
not_masked has mask n b of masked h =
    elim (is_or_not (has n)) [
      | inl is ↦
          let there : bit_at mask.bits (n % 64) * 2 ^ (n % 64) ≡ 0 = sym (and_pow mask.bits (n % 64)) ∙ ap (λ z. bit_and mask.bits z) (sym of) ∙ is_none (bit_and mask.bits b) h in
          let one : 1 * 2 ^ (n % 64) ≡ 0 = subst (λ z. z * 2 ^ (n % 64) ≡ 0) (masked n is) there in
          absurd (not_none (2 ^ (n % 64)) one (pow_pos (n % 64)))
      | inr none ↦ none
    ]

-- of numbers whose masks have no bit in common none is among both
pub masks_apart : (has among : ℕ → Bool) (a b : Mask) → IsMaskOf has a → IsMaskOf among b → not (bit_and a.bits b.bits == 0) ≡ false → (n : ℕ) → has n ≡ true → among n ≡ false
masks_apart has among a b masked masked' h n there =
    elim (is_or_not (among n)) [
      | inl is ↦
          let one : bit_at (bit_and a.bits b.bits) (n % 64) ≡ 1 = bit_at_and a.bits b.bits (n % 64) ∙ min_both (bit_at a.bits (n % 64)) (bit_at b.bits (n % 64)) (masked n there) (masked' n is) in
          absurd (one_not_none (bit_at (bit_and a.bits b.bits) (n % 64)) one (ap (λ z. bit_at z (n % 64)) (is_none (bit_and a.bits b.bits) h) ∙ bit_at-zero (n % 64)))
      | inr none ↦ none
    ]

-- lists of which the one has none of the other's numbers
pub none_in_both : (xs ys : List ℕ) → ((n : ℕ) → contains xs n ≡ true → contains ys n ≡ false) → meet xs ys ≡ false
none_in_both xs ys off =
    elim (is_or_not (meet xs ys)) [
      | inl is ↦ let (n, among, is') = one_of (λ m. contains ys m) xs is in absurd (never_true (contains ys n) is' (off n among))
      | inr none ↦ none
    ]

-- items

-- an item behind others that passes a test, or one of the others
any_more : {T : Type 0} (test : T → Bool) (xs : List T) (x : T) → list_any test (xs ++ x ∷ []) ≡ true → (list_any test xs || test x) ≡ true
any_more {T} test [] x h = elim (or_cases (test x) false h) [ inl is ↦ is | inr none ↦ cc ]
any_more {T} test (y ∷ ys) x h =
    elim (or_cases (test y) (list_any test (ys ++ x ∷ [])) h) [
      | inl is ↦ or_left (test y || list_any test ys) (test x) (or_left (test y) (list_any test ys) is)
      | inr later ↦
          elim (or_cases (list_any test ys) (test x) (any_more test ys x later)) [
            | inl is ↦ or_left (test y || list_any test ys) (test x) (or_right (test y) (list_any test ys) is)
            | inr own ↦ or_right (test y || list_any test ys) (test x) own
          ]
    ]

-- the numbers of items with one more
pub numbers_more : {T : Type 0} (number_of : T → ℕ) (xs ys : List T) (x : T) (n m : ℕ) → ys ≡ xs ++ x ∷ [] → n ≡ number_of x → has_number number_of ys m ≡ true → (has_number number_of xs m || n == m) ≡ true
numbers_more {T} number_of xs ys x n m grown is h =
    subst (λ k. (has_number number_of xs m || k == m) ≡ true) (sym is)
    (any_more (λ y. number_of y == m) xs x (sym (ap (λ zs. has_number number_of zs m) grown) ∙ h))

-- events

-- a register of no event is awaited by none
pub unawaited : (ts : List Trigger) (r : ℕ) (e : Edge) → contains (registers_of ts) r ≡ false → wakes_by ts r e ≡ false
unawaited ts r e none = false_by (wakes_by ts r e) (contains (registers_of ts) r) (wakes_on ts r e) none

-- changes

-- changes with one more, where there is room for it
pub changes_pushed : (b : Bool) (cs : List NotedChange) (c : NotedChange)
    → map register_change_of (if b then cs ++ c ∷ [] else cs) ≡ (if b then map register_change_of cs ++ register_change_of c ∷ [] else map register_change_of cs)
changes_pushed true cs c = map-append register_change_of cs (c ∷ [])
changes_pushed false cs c = refl

-- a test of the registers that are changed
pub any_changed : (test : ℕ → Bool) (cs : List NotedChange) → list_any test (changed_registers (map register_change_of cs)) ≡ list_any (λ (c : NotedChange). test c.register) cs
any_changed test cs = any_mapped test (λ (d : RegisterChange). d.register) (map register_change_of cs) ∙ any_mapped (λ (d : RegisterChange). test d.register) register_change_of cs

pub touched_is : (cs : List NotedChange) (registers : List ℕ) → meet (changed_registers (map register_change_of cs)) registers ≡ list_any (λ (c : NotedChange). contains registers c.register) cs
touched_is cs registers = any_changed (λ r. contains registers r) cs

pub may_wake_is : (ts : List Trigger) (cs : List NotedChange) → may_wake_any ts (map register_change_of cs) ≡ list_any (λ (c : NotedChange). may_wake ts (register_change_of c)) cs
may_wake_is ts cs = any_mapped (λ (d : RegisterChange). may_wake ts d) register_change_of cs

on_either : (same woken there : Bool) → (woken ≡ true → there ≡ true) → (if same then woken else there) ≡ true → there ≡ true
on_either true woken there more h = more h
on_either false woken there more h = h

-- events of other registers than those that are changed
pub wake_none : (cs : List RegisterChange) (ts : List Trigger) → meet (changed_registers cs) (registers_of ts) ≡ false → may_wake_any ts cs ≡ false
wake_none cs ts none =
    false_by (may_wake_any ts cs) (meet (changed_registers cs) (registers_of ts))
    (λ is.
    let (c, there, it) = any_at (λ (d : RegisterChange). may_wake ts d) cs is in
    let on : contains (registers_of ts) c.register ≡ true =
    on_either (length c.before == length c.after) (wakes ts c.register c.before c.after) (contains (registers_of ts) c.register) (wakes_on ts c.register (edge c.before c.after)) it in
    any_mapped (λ r. contains (registers_of ts) r) (λ (d : RegisterChange). d.register) cs
    ∙ any_in (λ (d : RegisterChange). contains (registers_of ts) d.register) cs c there on)
    none
