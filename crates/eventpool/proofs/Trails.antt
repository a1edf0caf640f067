-- Laws of a deque's trail.
use Rattle.std.proofs.Common.{◌≡◌, ◌≢◌, ℕ, suc, ◌+◌, ◌<◌, ◌≤◌, true, false, cond, eqb, List, [], ◌∷◌, ◌++◌, length, refl, sym, ap, ◌∙◌, arith, append_assoc, length-append, ⊎_elim}
use Rattle.std.specs.Prelude.{◌==◌}
use Rattle.std.proofs.lemmas.Bool.Decides.{eqb_tells}
use mathlib.Core.List.{IsPrefix}
use Rattle.eventpool.specs.DequeTrail.{trail_tickets, own, got_by, NamedBelow, AreHands}

-- beginnings
module _ {A : Type 0} where
  pub begins_self : (xs : List A) → IsPrefix xs xs
  begins_self [] = ([], refl)
  begins_self (x ∷ xs) = let r = begins_self xs in (r.0, ap (λ ys. x ∷ ys) r.1)

  pub begins_none : (xs : List A) → IsPrefix [] xs
  begins_none xs = (xs, refl)

  pub begins_on : (xs ys zs : List A) → IsPrefix xs ys → IsPrefix xs (ys ++ zs)
  begins_on xs ys zs p = (p.0 ++ zs, sym (append_assoc xs p.0 zs) ∙ ap (λ w. w ++ zs) p.1)

  pub begins_length : (xs ys : List A) → IsPrefix xs ys → length xs ≤ length ys
  begins_length xs ys p = omega (arith, sym (ap length p.1) ∙ length-append xs p.0)

pub eqb_self : (k : ℕ) → (k == k) ≡ true
eqb_self k = ⊎_elim (λ (t : (eqb k k ≡ true) × (k ≡ k)). t.0) (λ (f : (eqb k k ≡ false) × (k ≢ k)). absurd (f.1 refl)) (eqb_tells k k)

pub eqb_off : (j k : ℕ) → j ≢ k → (j == k) ≡ false
eqb_off j k n = ⊎_elim (λ (t : (eqb j k ≡ true) × (j ≡ k)). absurd (n t.1)) (λ (f : (eqb j k ≡ false) × (j ≢ k)). f.0) (eqb_tells j k)

module _ {T : Type 0} where
  own_same : (k : ℕ) (x : T) → own k (k, x) ≡ x ∷ []
  own_same k x = ap (λ b. cond b (x ∷ []) []) (eqb_self k)

  own_off : (j k : ℕ) (x : T) → j ≢ k → own j (k, x) ≡ []
  own_off j k x n = ap (λ b. cond b (x ∷ []) []) (eqb_off j k n)

  got_append : (k : ℕ) (xs ys : List (ℕ × T)) → got_by k (xs ++ ys) ≡ got_by k xs ++ got_by k ys
  got_append k [] ys = refl
  got_append k (e ∷ es) ys = ap (λ l. own k e ++ l) (got_append k es ys) ∙ sym (append_assoc (own k e) (got_by k es) (got_by k ys))

  append_nothing : (xs : List T) → xs ++ [] ≡ xs
  append_nothing [] = refl
  append_nothing (x ∷ xs) = ap (λ l. x ∷ l) (append_nothing xs)

  -- one more ticket of a name is its last
  pub got_more : (k : ℕ) (trail : List (ℕ × T)) (x : T) → got_by k (trail ++ (k, x) ∷ []) ≡ got_by k trail ++ x ∷ []
  got_more k trail x = got_append k trail ((k, x) ∷ []) ∙ ap (λ l. got_by k trail ++ l) (append_nothing (own k (k, x)) ∙ own_same k x)

  pub got_other : (j k : ℕ) (trail : List (ℕ × T)) (x : T) → j ≢ k → got_by j (trail ++ (k, x) ∷ []) ≡ got_by j trail
  got_other j k trail x n = got_append j trail ((k, x) ∷ []) ∙ ap (λ l. got_by j trail ++ l) (append_nothing (own j (k, x)) ∙ own_off j k x n) ∙ append_nothing (got_by j trail)

  -- a name that was not given has nothing
  pub got_none : (k n : ℕ) (trail : List (ℕ × T)) → NamedBelow n trail → n ≤ k → got_by k trail ≡ []
  got_none k n [] h le = refl
  got_none k n (e ∷ es) h le = let off : k ≢ e.0 = (λ same. let below = h.0 in absurd (omega arith)) in ap (λ l. l ++ got_by k es) (own_off k e.0 e.1 off) ∙ got_none k n es h.1 le

  pub named_more : (n k : ℕ) (trail : List (ℕ × T)) (x : T) → NamedBelow n trail → k < n → NamedBelow n (trail ++ (k, x) ∷ [])
  named_more n k [] x h lt = (lt, tt)
  named_more n k (e ∷ es) x h lt = (h.0, named_more n k es x h.1 lt)

  pub named_wider : (n m : ℕ) (trail : List (ℕ × T)) → n ≤ m → NamedBelow n trail → NamedBelow m trail
  named_wider n m [] le h = tt
  named_wider n m (e ∷ es) le h = (let lt = h.0 in omega arith, named_wider n m es le h.1)

  -- hands that came back get nothing more
  pub hands_more : (name k : ℕ) (hands : List (List T × List (ℕ × T))) (trail : List (ℕ × T)) (x : T) → AreHands name hands trail → k < name → AreHands name hands (trail ++ (k, x) ∷ [])
  hands_more name k [] trail x h lt = tt
  hands_more name k (b ∷ bs) trail x h lt = (
    h.0 ∙ sym (got_other name k trail x (λ same. absurd (omega arith))),
    begins_on b.1 trail ((k, x) ∷ []) h.1,
    hands_more (name + 1) k bs trail x h.2 (omega arith),
  )

  pub tickets_more : (trail : List (ℕ × T)) (k : ℕ) (x : T) (items : List T) → trail_tickets (trail ++ (k, x) ∷ []) ++ items ≡ trail_tickets trail ++ x ∷ items
  tickets_more [] k x items = refl
  tickets_more (e ∷ es) k x items = ap (λ l. e.1 ∷ l) (tickets_more es k x items)

  pub got_no_more : (k : ℕ) (trail : List (ℕ × T)) → length (got_by k trail) ≤ length trail
  got_no_more k [] = omega arith
  got_no_more k (e ∷ es) = elim (k == e.0) as (λ b. length (cond b (e.1 ∷ []) [] ++ got_by k es) ≤ length (e ∷ es)) [
    | true ↦ omega (arith, got_no_more k es)
    | false ↦ omega (arith, got_no_more k es)
  ]

  pub tickets_length : (trail : List (ℕ × T)) → length (trail_tickets trail) ≡ length trail
  tickets_length [] = refl
  tickets_length (e ∷ es) = ap suc (tickets_length es)
