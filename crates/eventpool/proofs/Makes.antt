-- A pool is made.
use Rattle.std.proofs.Common.{◌≡◌, ◌≢◌, ◌⊎◌, ℕ, zero, suc, ◌+◌, ◌-◌, ◌<◌, ◌≤◌, List, [], ◌∷◌, ◌++◌, map, length, get_or, set, Some, refl, sym, ap, ◌∙◌, subst, arith, inl, inr, ⊎_elim, length-set, length-append}
use Rattle.std.specs.Prelude.{slice_get}
use Rattle.std.specs.Global.{Vec}
use Rattle.std.proofs.lemmas.List.{map-set, get_or-set_same, get_or-set_other, length-map}
use native.Mathlib.Decide.{ℕ_discrete}
use Rattle.eventpool.specs.Ends.{Owning, Stealing}
use Rattle.eventpool.specs.Pools.{around, row_of, IsPool, IsUnused}
use Rattle.eventpool.specs.Making.{IsUntouched, IsBegunPool, IsThiefOf, IsArmed}
use Rattle.eventpool.proofs.Places.{below_at, there_at, one_at, set_here, set_there, got_map, around_below, around_back}

-- an element of a list that is one longer
pub snoc_at : {A : Type 0} (xs : List A) (x y : A) (i : ℕ) → slice_get (xs ++ x ∷ []) i ≡ Some y → (slice_get xs i ≡ Some y) ⊎ ((i ≡ length xs) × (y ≡ x))
snoc_at [] x y zero e = inr (refl, cc e)
snoc_at [] x y (suc i) e = absurd (cc e)
snoc_at (z ∷ zs) x y zero e = inl e
snoc_at (z ∷ zs) x y (suc i) e = ⊎_elim (λ t. inl t) (λ (t : (i ≡ length zs) × (y ≡ x)). inr (ap suc t.0, t.1)) (snoc_at zs x y i e)

module _ {T : Type 0} where
  row_more : (R : List (Vec (Stealing T))) (v : Vec (Stealing T)) (j : ℕ) → row_of R j ≡ [] → v.items ≡ [] → row_of (R ++ v ∷ []) j ≡ []
  row_more [] v zero e new = new
  row_more [] v (suc j) e new = refl
  row_more (r ∷ rs) v zero e new = e
  row_more (r ∷ rs) v (suc j) e new = row_more rs v j e new

  pub begun_none : IsBegunPool {T = T} 0 [] []
  begun_none = (refl, refl, (λ d o e. absurd (cc e)), none)
    where
      none : (w : ℕ) → row_of {T = T} [] w ≡ []
      none zero = refl
      none (suc w) = refl

  pub begun_more : (n : ℕ) (O : List (Owning T)) (R : List (Vec (Stealing T))) (o : Owning T) (v : Vec (Stealing T)) → IsBegunPool n O R → IsUntouched o → o.given ≡ 1 → v.items ≡ [] → IsBegunPool (n + 1) (O ++ o ∷ []) (R ++ v ∷ [])
  begun_more n O R o v h new given empty = (
    omega (arith, length-append O (o ∷ []), h.0),
    omega (arith, length-append R (v ∷ []), h.1),
    (λ d p e. ⊎_elim (λ (t : slice_get O d ≡ Some p). h.2 d p t) (λ (t : (d ≡ length O) × (p ≡ o)). subst (λ (x : Owning T). IsUntouched x × (x.given ≡ 1)) (sym t.1) (new, given)) (snoc_at O o p d e)),
    (λ w. row_more R v w (h.3 w) empty),
  )

  pub armed_none : (n : ℕ) (O : List (Owning T)) (R : List (Vec (Stealing T))) → IsBegunPool n O R → IsArmed n 0 0 O R
  armed_none n O R h = (
    h.0,
    h.1,
    (λ j lt. ((λ _. ap length (h.3 j)), (λ no. absurd (omega arith)))),
    (λ j i t e. absurd (nothing (row_of R j) i t (h.3 j) e)),
    (λ d o e. let f = h.2 d o e in (f.0, (λ _. f.1), (λ no. absurd (omega arith)))),
  )
    where
      nothing : (row : List (Stealing T)) (i : ℕ) (t : Stealing T) → row ≡ [] → slice_get row i ≡ Some t → ⊥
      nothing [] i t none e = cc e
      nothing (x ∷ xs) i t none e = cc none

  pub armed_next : (n c : ℕ) (O : List (Owning T)) (R : List (Vec (Stealing T))) → c < n - 1 → IsArmed n c n O R → IsArmed n (c + 1) 0 O R
  armed_next n c O R more h = (
    h.0,
    h.1,
    (λ j lt. ((λ _. (h.2 j lt).1 lt), (λ no. absurd (omega arith)))),
    h.3,
    (λ d o e.
        let f = h.4 d o e in
        let lt : d < n = let b = below_at O d o e in let l = h.0 in omega arith in
        let b : around n (d + (n - 1 - c)) < n = around_below n (d + (n - 1 - c)) (omega arith) in
        let g = f.2 b in
        (f.0, (λ _. omega arith), (λ no. absurd (omega arith)))),
  )

  -- what is known where a row gets a thief
  pub given_now : (n c w d : ℕ) (O : List (Owning T)) (R : List (Vec (Stealing T))) (o : Owning T)
      → c < n - 1 → w < n → d ≡ around n (w + (c + 1)) → IsArmed n c w O R → o ≡ get_or O d o → IsUntouched o × (o.given ≡ c + 1) × (slice_get O d ≡ Some o)
  given_now n c w d O R o more lt at h there =
      let below : d < n = subst (λ k. k < n) (sym at) (around_below n (w + (c + 1)) (omega arith)) in
      let is : slice_get O d ≡ Some o = there_at O d o (let l = h.0 in omega arith) there in
      let back : around n (d + (n - 1 - c)) ≡ w = ap (λ k. around n (k + (n - 1 - c))) at ∙ around_back n w (c + 1) (n - 1 - c) lt (omega arith) in
      let f = h.4 d o is in
      (f.0, f.1 (omega arith), is)

  pub armed_more : (n c w d : ℕ) (O : List (Owning T)) (R : List (Vec (Stealing T))) (v u : Vec (Stealing T)) (o p : Owning T) (t : Stealing T)
      → c < n - 1 → w < n → d ≡ around n (w + (c + 1)) → IsArmed n c w O R → o ≡ get_or O d o → v ≡ get_or R w v
      → t ≡ record { deque = o.deque; name = o.given; stolen = []; seen = []; gone = t.gone } → p ≡ record o { given = o.given + 1 } → u.items ≡ v.items ++ t ∷ []
      → IsArmed n c (w + 1) (set O d p) (set R w u)
  armed_more n c w d O R v u o p t more lt at h there row made next push =
      let g = given_now n c w d O R o more lt at h there in
      let below : d < n = subst (λ k. k < n) (sym at) (around_below n (w + (c + 1)) (omega arith)) in
      let back : around n (d + (n - 1 - c)) ≡ w = ap (λ k. around n (k + (n - 1 - c))) at ∙ around_back n w (c + 1) (n - 1 - c) lt (omega arith) in
      let rows : map (λ (x : Vec (Stealing T)). x.items) (set R w u) ≡ set (map (λ (x : Vec (Stealing T)). x.items) R) w u.items = map-set (λ (x : Vec (Stealing T)). x.items) R w u in
      let wide : w < length (map (λ (x : Vec (Stealing T)). x.items) R) = omega (arith, length-map R (λ (x : Vec (Stealing T)). x.items), h.1) in
      let old : row_of R w ≡ v.items = got_map (λ (x : Vec (Stealing T)). x.items) R w v [] (there_at R w v (let l = h.1 in omega arith) row) in
      let row_new : row_of (set R w u) w ≡ row_of R w ++ t ∷ [] = ap (λ l. get_or l w []) rows ∙ get_or-set_same (map (λ (x : Vec (Stealing T)). x.items) R) w u.items [] wide ∙ push ∙ ap (λ l. l ++ t ∷ []) (sym old) in
      let row_old : (j : ℕ) → j ≢ w → row_of (set R w u) j ≡ row_of R j = λ j n'. ap (λ l. get_or l j []) rows ∙ get_or-set_other (map (λ (x : Vec (Stealing T)). x.items) R) w j u.items [] n' in
      let long : length (row_of R w) ≡ c = (h.2 w lt).0 (omega arith) in
      -- no owner changes its deque
      let same_deque : (e : ℕ) (q : Owning T) → slice_get (set O d p) e ≡ Some q → (q' : Owning T) × (slice_get O e ≡ Some q') × (q.deque ≡ q'.deque)
      = λ e q is. elim (ℕ_discrete e d) [
        | yes same ↦ (o, ap (λ k. slice_get O k) same ∙ g.2, ap (λ (x : Owning T). x.deque) (one_at (set O d p) d q p (subst (λ k. slice_get (set O d p) k ≡ Some q) same is) (set_here O d p (let l = h.0 in omega arith)) ∙ next))
        | no other ↦ (q, sym (set_there O d e p other) ∙ is, refl)
      ] in
      let carry : (j i : ℕ) (x : Stealing T) → IsThiefOf n O j i x → IsThiefOf n (set O d p) j i x
      = λ j i x f. (f.0, f.1, f.2, (λ q is. let s = same_deque _ q is in f.3 s.0 s.1 ∙ sym s.2)) in
      let fresh : IsThiefOf n (set O d p) w c t = (
        ap (λ (x : Stealing T). x.name) made ∙ g.1,
        ap (λ (x : Stealing T). x.stolen) made,
        ap (λ (x : Stealing T). x.seen) made,
        (λ q is. let s = same_deque _ q is in ap (λ (x : Stealing T). x.deque) made ∙ ap (λ (x : Owning T). x.deque) (one_at O d o s.0 g.2 (subst (λ k. slice_get O k ≡ Some s.0) (sym at) s.1)) ∙ sym s.2),
      ) in (
        length-set O d p ∙ h.0,
        length-set R w u ∙ h.1,
        (λ j j_lt. (
          (λ le. ap length (row_old j (λ same. absurd (omega arith))) ∙ (h.2 j j_lt).0 (omega arith)),
          (λ less. elim (ℕ_discrete j w) [
            | yes same ↦ ap (λ k. length (row_of (set R w u) k)) same ∙ ap length row_new ∙ length-append (row_of R w) (t ∷ []) ∙ ap (λ k. k + 1) long
            | no other ↦ ap length (row_old j other) ∙ (h.2 j j_lt).1 (omega arith)
          ]),
        )),
        (λ j i x is. elim (ℕ_discrete j w) [
          | yes same ↦
              ⊎_elim
              (λ (a : slice_get (row_of R w) i ≡ Some x). subst (λ k. IsThiefOf n (set O d p) k i x) (sym same) (carry w i x (h.3 w i x a)))
              (λ (a : (i ≡ length (row_of R w)) × (x ≡ t)). subst (λ (y : ℕ × ℕ × Stealing T). IsThiefOf n (set O d p) y.0 y.1 y.2) (λ k. (sym same k, sym (a.0 ∙ long) k, sym a.1 k)) fresh)
              (snoc_at (row_of R w) t x i (subst (λ l. slice_get l i ≡ Some x) row_new (subst (λ k. slice_get (row_of (set R w u) k) i ≡ Some x) same is)))
          | no other ↦ carry j i x (h.3 j i x (subst (λ l. slice_get l i ≡ Some x) (row_old j other) is))
        ]),
        (λ e q is. elim (ℕ_discrete e d) [
          | yes same ↦
              (let q_is : q ≡ record o { given = o.given + 1 } = one_at (set O d p) d q p (subst (λ k. slice_get (set O d p) k ≡ Some q) same is) (set_here O d p (let l = h.0 in omega arith)) ∙ next in
              let b : around n (e + (n - 1 - c)) ≡ w = ap (λ k. around n (k + (n - 1 - c))) same ∙ back in (
                subst IsUntouched (sym q_is) g.0,
                (λ le. absurd (omega arith)),
                (λ less. omega (arith, ap (λ (x : Owning T). x.given) q_is, g.1)),
              ))
          | no other ↦
              (let was = sym (set_there O d e p other) ∙ is in
              let f = h.4 e q was in
              let e_below : e < n = let b = below_at O e q was in let l = h.0 in omega arith in
              let away : around n (e + (n - 1 - c)) ≢ w = (λ hit. other (sym (around_back n e (n - 1 - c) (c + 1) e_below (omega arith)) ∙ ap (λ k. around n (k + (c + 1))) hit ∙ sym at)) in
              (f.0, (λ le. f.1 (omega arith)), (λ less. f.2 (omega arith))))
        ]),
      )

  pub armed_pool : (n : ℕ) (O : List (Owning T)) (R : List (Vec (Stealing T))) → 0 < n → n ≤ 16 → IsArmed n (n - 1) 0 O R → IsPool O R
  armed_pool n O R some few h = (
    omega (arith, h.0),
    omega (arith, h.0),
    h.1 ∙ sym h.0,
    (λ d o e. let f = h.4 d o e in (omega (arith, f.1 (omega arith), h.0), f.0.3)),
    (λ w lt.
        let lt' : w < n = omega (arith, h.0) in (
          omega (arith, (h.2 w lt').0 (omega arith), h.0),
          (λ i t e. let f = h.3 w i t e in (f.0, (λ o is. f.3 o (subst (λ k. slice_get O (around k (w + (i + 1))) ≡ Some o) h.0 is)))),
        )),
  )

  pub armed_unused : (n : ℕ) (O : List (Owning T)) (R : List (Vec (Stealing T))) → IsArmed n (n - 1) 0 O R → IsUnused O R
  armed_unused n O R h = ((λ d o e. let f = (h.4 d o e).0 in (f.0, f.1, f.2)), (λ w i t e. let f = h.3 w i t e in (f.1, f.2)))
