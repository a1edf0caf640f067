-- Small facts on truth values, and on what is taken of a list.
use Rattle.std.proofs.Common.{◌≡◌, ℕ, zero, suc, ◌+◌, ◌≤◌, List, [], ◌∷◌, ◌++◌, length, take, drop, Bool, true, false, ◌&&◌, ◌||◌, ◌==◌, if◌then◌else◌, ◌⊎◌, inl, inr, refl, sym, ap, ◌∙◌, arith}
use Rattle.std.proofs.lemmas.Bool.Decides.{nat_tests}
use Rattle.lexemes.specs.ByteClasses.{all_bytes, run_length}

pub if-is : {A : Type 0} (b : Bool) (x y z : A) → (if b then x else y) ≡ z → ((b ≡ true) × (x ≡ z)) ⊎ ((b ≡ false) × (y ≡ z))
if-is true x y z h = inl (refl, h)
if-is false x y z h = inr (refl, h)

pub and-true : (a b : Bool) → (a && b) ≡ true → (a ≡ true) × (b ≡ true)
and-true true b h = (refl, h)
and-true false b h = absurd (cc)

pub or-true : (a b : Bool) → (a || b) ≡ true → (a ≡ true) ⊎ (b ≡ true)
or-true true b h = inl refl
or-true false b h = inr h

pub true_or_false : (b : Bool) → (b ≡ true) ⊎ (b ≡ false)
true_or_false true = inl refl
true_or_false false = inr refl

pub same_byte : (a b : ℕ) → (a == b) ≡ true → a ≡ b
same_byte a b h = grind (arith, nat_tests)

-- bytes of a class are in its run, whatever follows
pub run-all : (p : ℕ → Bool) (q r : List ℕ) → all_bytes p q ≡ true → length q ≤ run_length p (q ++ r)
run-all p [] r h = omega arith
run-all p (b ∷ q) r h = let w = and-true (p b) (all_bytes p q) h in let x = run-all p q r w.1 in rw w.0 (omega arith)

pub all-run : (p : ℕ → Bool) (bs : List ℕ) → all_bytes p (take (run_length p bs) bs) ≡ true
all-run p [] = refl
all-run p (b ∷ bs) = elim (true_or_false (p b)) [ inl h ↦ (let x = all-run p bs in rw (h, h, x)) | inr h ↦ rw h ]

-- a run ends where a byte is not of the class
pub run-stop : (p : ℕ → Bool) (bs r : List ℕ) (c : ℕ) → all_bytes p bs ≡ true → p c ≡ false → run_length p (bs ++ c ∷ r) ≡ length bs
run-stop p [] r c h stop = rw stop
run-stop p (b ∷ bs) r c h stop = let w = and-true (p b) (all_bytes p bs) h in let x = run-stop p bs r c w.1 stop in rw (w.0, x)

pub drop-front : (bs r : List ℕ) → drop (length bs) (bs ++ r) ≡ r
drop-front [] r = refl
drop-front (b ∷ bs) r = drop-front bs r

take-none : (k : ℕ) → take {A = ℕ} k [] ≡ []
take-none zero = refl
take-none (suc k) = refl

pub take-plus : (s k : ℕ) (bs : List ℕ) → take (s + k) bs ≡ take s bs ++ take k (drop s bs)
take-plus zero k bs = let e : 0 + k ≡ k = omega arith in ap (λ x. take x bs) e
take-plus (suc s) k [] = let e : suc s + k ≡ suc (s + k) = omega arith in ap (λ x. take {A = ℕ} x []) e ∙ sym (take-none k)
take-plus (suc s) k (b ∷ bs) = let e : suc s + k ≡ suc (s + k) = omega arith in ap (λ x. take x (b ∷ bs)) e ∙ ap (λ x. b ∷ x) (take-plus s k bs)
