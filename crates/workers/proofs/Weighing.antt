-- Sums of weights over lists.
use Rattle.std.proofs.Common.{◌≡◌, ℕ, zero, suc, ◌+◌, ◌<◌, List, [], ◌∷◌, ◌++◌, length, get_or, set, refl, sym, ap, ◌∙◌, arith, length-append}
use Rattle.eventpool.specs.Ends.{Owning, Stealing}
use Rattle.workers.specs.WorkerInvariant.{got_by_ends}
use Rattle.workers.specs.Keeping.{weigh, weigh_got, StoleOne, StoleNone, GotOne, GotNone}

pub weigh_append : {T : Type 0} (f : T → ℕ) (xs ys : List T) → weigh f (xs ++ ys) ≡ weigh f xs + weigh f ys
weigh_append f [] ys = omega arith
weigh_append f (x ∷ xs) ys = let rest = weigh_append f xs ys in omega (arith, rest)

pub weigh_snoc : {T : Type 0} (f : T → ℕ) (xs : List T) (x : T) → weigh f (xs ++ x ∷ []) ≡ weigh f xs + f x
weigh_snoc f [] x = omega arith
weigh_snoc f (y ∷ ys) x = let rest = weigh_snoc f ys x in omega (arith, rest)

-- lists in another order
pub turned_round : {T : Type 0} (f : T → ℕ) (xs ys zs : List T) → weigh f ((ys ++ xs) ++ zs) ≡ weigh f (xs ++ (ys ++ zs))
turned_round f xs ys zs =
    let a = weigh_append f (ys ++ xs) zs in let b = weigh_append f ys xs in let c = weigh_append f xs (ys ++ zs) in let d = weigh_append f ys zs in omega (arith, a, b, c, d)

-- one element weighs so much more
weigh_set : {T : Type 0} (f : T → ℕ) (xs : List T) (i : ℕ) (x y : T) (more : ℕ) → i < length xs → x ≡ get_or xs i x → f y ≡ f x + more → weigh f (set xs i y) ≡ weigh f xs + more
weigh_set f [] i x y more lt at e = absurd (omega arith)
weigh_set f (z ∷ zs) zero x y more lt at e = let s : f x ≡ f z = ap f at in omega (arith, s, e)
weigh_set f (z ∷ zs) (suc i) x y more lt at e = let r = weigh_set f zs i x y more (omega arith) at e in omega (arith, r)

weigh_same : {T : Type 0} (f : T → ℕ) (xs : List T) (i : ℕ) (x y : T) → x ≡ get_or xs i x → f y ≡ f x → weigh f (set xs i y) ≡ weigh f xs
weigh_same f [] i x y at e = refl
weigh_same f (z ∷ zs) zero x y at e = let s : f x ≡ f z = ap f at in omega (arith, s, e)
weigh_same f (z ∷ zs) (suc i) x y at e = let r = weigh_same f zs i x y at e in omega (arith, r)

module _ {T : Type 0} where
  -- after rounds in which none was stolen, a thief of the row stole this ticket
  pub stole_more : (first row : List (Stealing T)) (i : ℕ) (old new : Stealing T) (x : T) → i < length row → old ≡ get_or row i old → new.stolen ≡ old.stolen ++ x ∷ []
      → StoleNone first row → StoleOne first (set row i new) x
  stole_more first row i old new x lt at stole none f =
      weigh_set (λ (t : Stealing T). weigh f t.stolen) row i old new (f x) lt at (ap (weigh f) stole ∙ weigh_snoc f old.stolen x) ∙ ap (λ k. k + f x) (none f)

  -- it stole nothing
  pub stole_kept : (first row : List (Stealing T)) (i : ℕ) (old new : Stealing T) → old ≡ get_or row i old → new.stolen ≡ old.stolen → StoleNone first row → StoleNone first (set row i new)
  stole_kept first row i old new at stole none f = weigh_same (λ (t : Stealing T). weigh f t.stolen) row i old new at (ap (weigh f) stole) ∙ none f

  -- the owner took this ticket
  pub got_own : (owner owner' : Owning T) (row : List (Stealing T)) (x : T) → owner'.taken ≡ owner.taken ++ x ∷ [] → GotOne owner row owner' row x
  got_own owner owner' row x took f = let t : weigh f owner'.taken ≡ weigh f owner.taken + f x = ap (weigh f) took ∙ weigh_snoc f owner.taken x in omega (arith, t)

  -- the thieves stole this ticket, and the owner took none
  pub got_stolen : (owner owner' : Owning T) (row row' : List (Stealing T)) (x : T) → owner'.taken ≡ owner.taken → StoleOne row row' x → GotOne owner row owner' row' x
  got_stolen owner owner' row row' x same more f = let t : weigh f owner'.taken ≡ weigh f owner.taken = ap (weigh f) same in let m = more f in omega (arith, t, m)

  pub got_one : (owner owner' : Owning T) (row : List (Stealing T)) (x : T) → owner'.taken ≡ owner.taken ++ x ∷ [] → got_by_ends owner' row ≡ got_by_ends owner row + 1
  got_one owner owner' row x took = let l : length owner'.taken ≡ length owner.taken + 1 = ap length took ∙ length-append owner.taken (x ∷ []) in omega (arith, l)

  pub got_none : (owner owner' : Owning T) (row row' : List (Stealing T)) → owner'.taken ≡ owner.taken → StoleNone row row' → GotNone owner row owner' row'
  got_none owner owner' row row' same none f = let t : weigh f owner'.taken ≡ weigh f owner.taken = ap (weigh f) same in let m = none f in omega (arith, t, m)

  -- after looks in which the ends got none
  pub got_later : (first owner owner' : Owning T) (row0 row row' : List (Stealing T)) (x : T) → GotNone first row0 owner row → GotOne owner row owner' row' x → GotOne first row0 owner' row' x
  got_later first owner owner' row0 row row' x none more f = let a = none f in let b = more f in omega (arith, a, b)

  pub none_later : (first owner owner' : Owning T) (row0 row row' : List (Stealing T)) → GotNone first row0 owner row → GotNone owner row owner' row' → GotNone first row0 owner' row'
  none_later first owner owner' row0 row row' none more f = let a = none f in let b = more f in omega (arith, a, b)

  pub none_yet : (owner : Owning T) (row : List (Stealing T)) → GotNone owner row owner row
  none_yet owner row f = refl

  pub stole_none_yet : (row : List (Stealing T)) → StoleNone row row
  stole_none_yet row f = refl
