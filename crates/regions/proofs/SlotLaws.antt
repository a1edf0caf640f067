-- Slots of processes, and the processes of one that are still to be looked at.
use Rattle.std.proofs.Common.{◌≡◌, ℕ, ◌+◌, ◌*◌, ◌<◌, ◌≤◌, ◌⊎◌, inl, inr, Bool, true, false, not, ◌&&◌, ◌||◌, if◌then◌else◌, List, length, get_or, set, refl, sym, ap, ◌∙◌, subst, arith, eqb, add-one}
use Rattle.std.specs.Prelude.{nat_le}
use Rattle.std.proofs.Math.Bool.{and-true, or-false}
use Rattle.std.proofs.Math.Dec.{leb}
use Rattle.std.proofs.Math.Nat.{div-mul-le_self, lt-div-mul-add, div-eq_of_lt-le, div-lt_iff_lt-mul, suc-mul, mul-le-mul}
use Rattle.std.proofs.lemmas.Bool.{leb-true, le-leb, lt-leb, eqb-true, eqb-false, eq-eqb, and_from, and_left, and_right, or_from, or_cases, or_right, both_ways, false_from_ne_true}
use Rattle.std.proofs.lemmas.List.{get_or-set_same, get_or-set_other, length-set}
use Rattle.logic4.specs.declared.digit.Edge.{Edge}
use Rattle.model.specs.Design.{Trigger}
use Rattle.design.specs.ControlWaking.{wakes_by}
use Rattle.regions.specs.declared.queue.Continuation.{Continuation}
use Rattle.regions.specs.declared.waiters.SlotSet.{SlotSet}
use Rattle.regions.specs.declared.waiters.Waiters.{Waiters}
use Rattle.regions.specs.Slots.{slot_size, slot_of}
use Rattle.regions.specs.Waiters.{has_slot, side}
use Rattle.regions.specs.ProcessWaking.{triggers_at, is_woken_by}
use Rattle.regions.specs.Covering.{IsCovering, AreWaitersWithin}

-- whether a process is to be looked at, where there are this many: its slot is among these, or it is this one and the process has this
-- number or a greater one
abbrev pub is_to_come : SlotSet → ℕ → ℕ → ℕ → ℕ → Bool
is_to_come rest t processes from p = has_slot rest (slot_of processes p) || (eqb (slot_of processes p) t && leb from p)

-- what holds of each size holds of the one chosen
chosen : (P : ℕ → Type 0) (a b c d e f : Bool) → (a ≡ true → P 1) → (b ≡ true → P 2) → (c ≡ true → P 4) → (d ≡ true → P 8) → (e ≡ true → P 16) → (f ≡ true → P 32) → P 64 → P (if a then 1 else (if b then 2 else (if c then 4 else (if d then 8 else (if e then 16 else (if f then 32 else 64))))))
chosen P true b c d e f h1 h2 h4 h8 h16 h32 h64 = h1 refl
chosen P false true c d e f h1 h2 h4 h8 h16 h32 h64 = h2 refl
chosen P false false true d e f h1 h2 h4 h8 h16 h32 h64 = h4 refl
chosen P false false false true e f h1 h2 h4 h8 h16 h32 h64 = h8 refl
chosen P false false false false true f h1 h2 h4 h8 h16 h32 h64 = h16 refl
chosen P false false false false false true h1 h2 h4 h8 h16 h32 h64 = h32 refl
chosen P false false false false false false h1 h2 h4 h8 h16 h32 h64 = h64

-- a slot stands for a process at least
pub slot_some : (n : ℕ) → 0 < slot_size n
unfolding slot_size
slot_some n =
    chosen (λ k. 0 < k) (nat_le n 256) (nat_le n 512) (nat_le n 1024) (nat_le n 2048) (nat_le n 4096) (nat_le n 8192)
    (λ _. omega arith) (λ _. omega arith) (λ _. omega arith) (λ _. omega arith) (λ _. omega arith) (λ _. omega arith) (omega arith)

-- and for few
pub slot_few : (n : ℕ) → slot_size n ≤ 64
unfolding slot_size
slot_few n =
    chosen (λ k. k ≤ 64) (nat_le n 256) (nat_le n 512) (nat_le n 1024) (nat_le n 2048) (nat_le n 4096) (nat_le n 8192)
    (λ _. omega arith) (λ _. omega arith) (λ _. omega arith) (λ _. omega arith) (λ _. omega arith) (λ _. omega arith) (omega arith)

-- at most 256 slots stand for all processes
pub slots_enough : (n : ℕ) → n ≤ 16384 → n ≤ 256 * slot_size n
unfolding slot_size
slots_enough n h =
    chosen (λ k. n ≤ 256 * k) (nat_le n 256) (nat_le n 512) (nat_le n 1024) (nat_le n 2048) (nat_le n 4096) (nat_le n 8192)
    (λ is. leb-true n 256 is) (λ is. leb-true n 512 is) (λ is. leb-true n 1024 is) (λ is. leb-true n 2048 is) (λ is. leb-true n 4096 is) (λ is. leb-true n 8192 is) h

before-all : (a b c : ℕ) → a < b → b ≤ c → a < c
before-all a b c h k = omega (arith, h, k)

-- the slot of a process is one of them
pub slot_below : (n p : ℕ) → n ≤ 16384 → p < n → slot_of n p < 256
slot_below n p few lt =
    let within : p < 256 * slot_size n = before-all p n (256 * slot_size n) lt (slots_enough n few) in
    (div-lt_iff_lt-mul {k = slot_size n} {x = p} {y = 256} (slot_some n)).1 within

-- a slot begins at a process, or before it
pub slot_begins : (n p t : ℕ) → slot_of n p ≡ t → t * slot_size n ≤ p
slot_begins n p t is = subst (λ k. k * slot_size n ≤ p) is (div-mul-le_self p (slot_size n))

-- and ends behind it
pub slot_ends : (n p t : ℕ) → slot_of n p ≡ t → p < t * slot_size n + slot_size n
slot_ends n p t is = subst (λ k. p < k * slot_size n + slot_size n) is (lt-div-mul-add {a = p} {b = slot_size n} (slot_some n))

-- the product by one more
next-times : (t k : ℕ) → (t + 1) * k ≡ t * k + k
next-times t k = ap (λ m. m * k) (add-one t) ∙ suc-mul t k

-- the processes between are those of the slot
pub slot_here : (n p t : ℕ) → t * slot_size n ≤ p → p < t * slot_size n + slot_size n → slot_of n p ≡ t
slot_here n p t from to =
    let more : (t + 1) * slot_size n ≡ t * slot_size n + slot_size n = next-times t (slot_size n) in
    div-eq_of_lt-le {k = t} (slot_size n) {m = p} from (subst (λ k. p < k) (sym more) to)

-- orders of plain numbers
before-both : (a b c : ℕ) → a < b → b < c → a < c
before-both a b c h k = omega (arith, h, k)

at-or-before : (a b c : ℕ) → a ≤ b → b < c → a < c
at-or-before a b c h k = omega (arith, h, k)

before-next : (a b : ℕ) → a ≡ b → a < b + 1
before-next a b h = omega (arith, h)

-- a slot of a process begins at one
pub slot_within : (n p t : ℕ) → t ≡ slot_of n p → p < n → t * slot_size n < n
slot_within n p t is lt = at-or-before (t * slot_size n) p n (slot_begins n p t (sym is)) lt

-- a process before one of a slot is of no later slot
pub slot_no_later : (n p q t : ℕ) → slot_of n p ≡ t → q < p → slot_of n q < t + 1
slot_no_later n p q t is lt =
    let more : (t + 1) * slot_size n ≡ t * slot_size n + slot_size n = next-times t (slot_size n) in
    let before : q < t * slot_size n + slot_size n = before-both q p (t * slot_size n + slot_size n) lt (slot_ends n p t is) in
    (div-lt_iff_lt-mul {k = slot_size n} {x = q} {y = t + 1} (slot_some n)).1 (subst (λ k. q < k) (sym more) before)

-- the processes of a slot, and those of slots behind it, are to be looked at
module _ (rest : SlotSet) (t n : ℕ) (behind : (u : ℕ) → has_slot rest u ≡ true → t < u) where
  no-later : (u : ℕ) → u < t + 1 → has_slot rest u ≡ false
  no-later u le = false_from_ne_true (has_slot rest u) (λ is. let far : t < u = behind u is in omega (arith, far, le))

  -- from the first process of the slot on all of the slot are
  pub all-to-come : (p : ℕ) → (has_slot rest (slot_of n p) || eqb (slot_of n p) t) ≡ is_to_come rest t n (t * slot_size n) p
  all-to-come p = ap (λ b. has_slot rest (slot_of n p) || b) (by (eqb (slot_of n p) t) refl)
    where
      by : (b : Bool) → eqb (slot_of n p) t ≡ b → eqb (slot_of n p) t ≡ (eqb (slot_of n p) t && leb (t * slot_size n) p)
      by true is = is ∙ sym (and_from (eqb (slot_of n p) t) (leb (t * slot_size n) p) is (le-leb (t * slot_size n) p (slot_begins n p t (eqb-true (slot_of n p) t is))))
      by false is = is ∙ sym (and_left (eqb (slot_of n p) t) (leb (t * slot_size n) p) is)

  -- a process of the slot is
  pub this-to-come : (p : ℕ) → slot_of n p ≡ t → is_to_come rest t n p p ≡ true
  this-to-come p is =
      or_right (has_slot rest (slot_of n p)) (eqb (slot_of n p) t && leb p p) (and_from (eqb (slot_of n p) t) (leb p p) (eq-eqb (slot_of n p) t is) (le-leb p p (omega arith)))

  -- and none before it
  pub none-before : (p q : ℕ) → slot_of n p ≡ t → q < p → is_to_come rest t n p q ≡ false
  none-before p q is lt =
      or_from (has_slot rest (slot_of n q)) (eqb (slot_of n q) t && leb p q) (no-later (slot_of n q) (slot_no_later n p q t is lt)) (and_right (eqb (slot_of n q) t) (leb p q) (lt-leb p q lt))

  -- behind it all others are
  pub others-to-come : (p q : ℕ) → slot_of n p ≡ t → is_to_come rest t n (p + 1) q ≡ (is_to_come rest t n p q && not (eqb q p))
  others-to-come p q is = by (eqb q p) refl
    where
      same : (b : Bool) → b ≡ leb p q → (q ≡ p → ⊥) → leb (p + 1) q ≡ leb p q
      same true there apart = let le : p ≤ q = leb-true p q (sym there) in le-leb (p + 1) q (omega (arith, le, apart)) ∙ there
      same false missing apart = false_from_ne_true (leb (p + 1) q) (λ more. let le : p + 1 ≤ q = leb-true (p + 1) q more in both_ways (leb p q) (sym missing) (le-leb p q (omega (arith, le)))) ∙ missing

      by : (b : Bool) → eqb q p ≡ b → is_to_come rest t n (p + 1) q ≡ (is_to_come rest t n p q && not (eqb q p))
      by true e =
          let x : q ≡ p = eqb-true q p e in
          or_from (has_slot rest (slot_of n q)) (eqb (slot_of n q) t && leb (p + 1) q) (no-later (slot_of n q) (before-next (slot_of n q) t (ap (slot_of n) x ∙ is)))
          (and_right (eqb (slot_of n q) t) (leb (p + 1) q) (lt-leb (p + 1) q (omega (arith, x))))
          ∙ sym (and_right (is_to_come rest t n p q) (not (eqb q p)) (ap not e))
      by false e =
          ap (λ b. has_slot rest (slot_of n q) || (eqb (slot_of n q) t && b)) (same (leb p q) refl (eqb-false q p e))
          ∙ sym (ap (λ b. is_to_come rest t n p q && not b) e ∙ and-true (is_to_come rest t n p q))

  -- at the end of the slot only those of slots behind it are
  pub rest-to-come : (from q : ℕ) → (slot_of n q ≡ t → q < from) → is_to_come rest t n from q ≡ has_slot rest (slot_of n q)
  rest-to-come from q past = ap (λ b. has_slot rest (slot_of n q) || b) (by (eqb (slot_of n q) t) refl) ∙ or-false (has_slot rest (slot_of n q))
    where
      by : (b : Bool) → eqb (slot_of n q) t ≡ b → (eqb (slot_of n q) t && leb from q) ≡ false
      by true e = and_right (eqb (slot_of n q) t) (leb from q) (lt-leb from q (past (eqb-true (slot_of n q) t e)))
      by false e = and_left (eqb (slot_of n q) t) (leb from q) e

-- the number at which a slot begins is small
pub product_small : (t k : ℕ) → t < 256 → k ≤ 64 → t * k ≤ 16384
product_small t k few small =
    let bound : t * k ≤ 256 * 64 = mul-le-mul {n₁ = t} {m₁ = k} {n₂ = 256} {m₂ = 64} (omega (arith, few)) small in bound

-- with the slot of a process put in, each is that of one
pub waits-within : (n : ℕ) (ws ws' : List Waiters) (p : ℕ) → p < n → length ws' ≡ length ws → ((t r : ℕ) (e : Edge) (w : Waiters) → has_slot (side e (get_or ws' r w)) t ≡ true → (has_slot (side e (get_or ws r w)) t || eqb t (slot_of n p)) ≡ true) → AreWaitersWithin n ws → AreWaitersWithin n ws'
waits-within n ws ws' p lt len only within = λ t r e w rlt is.
    either t r e w rlt (or_cases (has_slot (side e (get_or ws r w)) t) (eqb t (slot_of n p)) (only t r e w is))
  where
    either : (t r : ℕ) (e : Edge) (w : Waiters) → r < length ws' → (has_slot (side e (get_or ws r w)) t ≡ true) ⊎ (eqb t (slot_of n p) ≡ true) → t * slot_size n < n
    either t r e w rlt (inl old) = within t r e w (omega (arith, rlt, len)) old
    either t r e w rlt (inr new) = slot_within n p t (eqb-true t (slot_of n p) new) lt

-- a process that waits, where its slot was put in for each event of its event control
pub waits-covered : (controls : List (List Trigger)) (ps : List Continuation) (x : Continuation) (p : ℕ) (ws ws' : List Waiters) → p < length ps → length ws' ≡ length ws → ((t r : ℕ) (e : Edge) (w : Waiters) → has_slot (side e (get_or ws r w)) t ≡ true → has_slot (side e (get_or ws' r w)) t ≡ true) → ((r : ℕ) (e : Edge) (w : Waiters) → r < length ws → wakes_by (triggers_at controls x.waits) r e ≡ true → has_slot (side e (get_or ws' r w)) (slot_of (length ps) p) ≡ true) → IsCovering controls ps ws → IsCovering controls (set ps p x) ws'
waits-covered controls ps x p ws ws' lt len kept added all = λ q r e d w qlt rlt is.
    let as-many : length (set ps p x) ≡ length ps = length-set ps p x in
    ap (λ n. has_slot (side e (get_or ws' r w)) (slot_of n q)) as-many ∙ by (eqb q p) q r e d w refl (omega (arith, qlt, as-many)) (omega (arith, rlt, len)) is
  where
    by : (b : Bool) (q r : ℕ) (e : Edge) (d : Continuation) (w : Waiters) → eqb q p ≡ b → q < length ps → r < length ws → is_woken_by controls r e (get_or (set ps p x) q d) ≡ true → has_slot (side e (get_or ws' r w)) (slot_of (length ps) q) ≡ true
    by true q r e d w same qlt rlt is =
        let y : q ≡ p = eqb-true q p same in
        let is' : is_woken_by controls r e (get_or (set ps p x) p d) ≡ true = rw y at is in
        rw y (added r e w rlt (ap (is_woken_by controls r e) (sym (get_or-set_same ps p x d lt)) ∙ is'))
    by false q r e d w other qlt rlt is =
        kept (slot_of (length ps) q) r e w (all q r e d w qlt rlt (ap (is_woken_by controls r e) (sym (get_or-set_other ps p q x d (eqb-false q p other))) ∙ is))
