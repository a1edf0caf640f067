-- A list of passes, of which one changes.
use Rattle.std.proofs.Common.{◌≡◌, ℕ, zero, suc, ◌+◌, ◌<◌, ◌≤◌, List, [], ◌∷◌, ◌++◌, map, length, get_or, set, take, Some, refl, sym, ap, ◌∙◌, subst, arith, get_or-set_same}
use Rattle.std.specs.Prelude.{slice_get, slice_index}
use Rattle.std.proofs.lemmas.List.{map-set, get_or-map, length-map, map-append, take_more, take_all}
use Rattle.std.proofs.Math.Seq.{map-set_same}
use Rattle.logic4.specs.Vector.{Vector}
use Rattle.crossbeam_utils.specs.Seq.{cell_view}
use Rattle.regcells.proofs.Lasts.{same_holding}
use Rattle.regcells.specs.declared.register.Register.{Register}
use Rattle.regcells.specs.Values.{values_after}
use Rattle.regcells.specs.CellSeats.{RegisterIdentity, Fresh, seen_of, with_seen, register_widths, last_values}
use Rattle.regcells.specs.Passes.{RegPass, name_of_pass, name_of_register, seen_by, fresh_by, HasSeenValue, AllBegun, IsHolding, AllHold}

module _ {A : Type 0} where
  -- the element at an index is there
  pub at_index : (xs : List A) (r : ℕ) (p : A) → r < length xs → p ≡ get_or xs r p → slice_get xs r ≡ Some p
  at_index [] r p h e = absurd (omega arith)
  at_index (x ∷ xs) zero p h e = ap Some (sym e)
  at_index (x ∷ xs) (suc r) p h e = at_index xs r p (omega arith) e

  -- what holds of each element still holds after one is replaced by another of which it holds
  pub each_set : (P : A → Type 0) (xs : List A) (r : ℕ) (q : A) → ((k : ℕ) (p : A) → slice_get xs k ≡ Some p → P p) → P q → (k : ℕ) (p : A) → slice_get (set xs r q) k ≡ Some p → P p
  each_set P [] r q all one k p e = all k p e
  each_set P (x ∷ xs) zero q all one zero p e = subst P (cc) one
  each_set P (x ∷ xs) zero q all one (suc k) p e = all (suc k) p e
  each_set P (x ∷ xs) (suc r) q all one zero p e = all zero p e
  each_set P (x ∷ xs) (suc r) q all one (suc k) p e = each_set P xs r q (λ j u t. all (suc j) u t) one k p e

  pub each_push : (P : A → Type 0) (xs : List A) (q : A) → ((k : ℕ) (p : A) → slice_get xs k ≡ Some p → P p) → P q → (k : ℕ) (p : A) → slice_get (xs ++ q ∷ []) k ≡ Some p → P p
  each_push P [] q all one zero p e = subst P (cc) one
  each_push P [] q all one (suc k) p e = absurd (cc)
  each_push P (x ∷ xs) q all one zero p e = all zero p e
  each_push P (x ∷ xs) q all one (suc k) p e = each_push P xs q (λ j u t. all (suc j) u t) one k p e

-- two lists with one list of names have one name at each index
pub same_name : {A B C : Type 0} (f : A → C) (g : B → C) (xs : List A) (ys : List B) (r : ℕ) (p : A) (q : B) → map f xs ≡ map g ys → r < length xs → p ≡ get_or xs r p → q ≡ get_or ys r q → f p ≡ g q
same_name f g [] ys r p q e h at there = absurd (omega arith)
same_name f g (x ∷ xs) [] r p q e h at there = absurd (cc e)
same_name f g (x ∷ xs) (y ∷ ys) zero p q e h at there = let head : f x ≡ g y = cc e in ap f at ∙ head ∙ sym (ap g there)
same_name f g (x ∷ xs) (y ∷ ys) (suc r) p q e h at there = same_name f g xs ys r p q (cc e) (omega arith) at there

pub within : (xs : List RegPass) (old : Fresh) (names : List RegisterIdentity) (r : ℕ) → fresh_by xs ≡ old → old.cells ≡ names → r < length names → r < length xs
within xs old names r is cells h = omega (arith, length-map xs name_of_pass, ap length (ap (λ (f : Fresh). f.cells) is ∙ cells))

pub seen_at : (xs : List RegPass) (old : Fresh) (r : ℕ) (p : RegPass) → fresh_by xs ≡ old → r < length xs → p ≡ get_or xs r p → seen_of old r ≡ seen_by p
seen_at xs old r p is h at = sym (ap (λ (f : Fresh). seen_of f r) is) ∙ get_or-map seen_by xs r p [] h ∙ sym (ap seen_by at)

-- one pass has changed what it has seen
pub after_one : (xs : List RegPass) (old : Fresh) (r : ℕ) (p q : RegPass) → fresh_by xs ≡ old → p ≡ get_or xs r p → name_of_pass q ≡ name_of_pass p
    → fresh_by (set xs r q) ≡ record { cells = old.cells; seen = set old.seen r (seen_by q) }
after_one xs old r p q is at name =
    let cells : map name_of_pass (set xs r q) ≡ old.cells = map-set_same name_of_pass xs r q p (name ∙ ap name_of_pass at) ∙ ap (λ (f : Fresh). f.cells) is in
    let seen : map seen_by (set xs r q) ≡ set old.seen r (seen_by q) = map-set seen_by xs r q ∙ ap (λ (f : Fresh). set f.seen r (seen_by q)) is in
    λ i. record { cells = cells i; seen = seen i }

-- one pass has given its register some values
pub given_one : (xs : List RegPass) (old : Fresh) (r : ℕ) (p q : RegPass) (given : List Vector) → fresh_by xs ≡ old → r < length xs → p ≡ get_or xs r p → name_of_pass q ≡ name_of_pass p → seen_by q ≡ values_after (seen_by p) given
    → fresh_by (set xs r q) ≡ with_seen old r (values_after (seen_of old r) given)
given_one xs old r p q given is h at name seen =
    let values : seen_by q ≡ values_after (seen_of old r) given = seen ∙ ap (λ (l : List Vector). values_after l given) (sym (seen_at xs old r p is h at)) in
    after_one xs old r p q is at name ∙ ap (with_seen old r) values

pub seen_after : (xs : List RegPass) (r : ℕ) (q : RegPass) → r < length xs → seen_of (fresh_by (set xs r q)) r ≡ seen_by q
seen_after xs r q h =
    let long : r < length (map seen_by xs) = omega (arith, length-map xs seen_by) in
    ap (λ (l : List (List Vector)). get_or l r []) (map-set seen_by xs r q) ∙ get_or-set_same (map seen_by xs) r (seen_by q) [] long

-- a pass that has seen what it had seen changes nothing
pub set_same : (xs : List RegPass) (old : Fresh) (r : ℕ) (p q : RegPass) → fresh_by xs ≡ old → p ≡ get_or xs r p → name_of_pass q ≡ name_of_pass p → seen_by q ≡ seen_by p → fresh_by (set xs r q) ≡ old
set_same xs old r p q is at name seen =
    let cells : map name_of_pass (set xs r q) ≡ old.cells = map-set_same name_of_pass xs r q p (name ∙ ap name_of_pass at) ∙ ap (λ (f : Fresh). f.cells) is in
    let all : map seen_by (set xs r q) ≡ old.seen = map-set_same seen_by xs r q p (seen ∙ ap seen_by at) ∙ ap (λ (f : Fresh). f.seen) is in
    λ i. record { cells = cells i; seen = all i }

pub same_length : {A B C : Type 0} (f : A → C) (g : B → C) (xs : List A) (ys : List B) → map f xs ≡ map g ys → length xs ≡ length ys
same_length f g xs ys e = sym (length-map xs f) ∙ ap length e ∙ length-map ys g

-- one more note
pub more_notes : (passes notes : List RegPass) (old : Fresh) (r : ℕ) (p one : RegPass) → fresh_by passes ≡ old → r < length passes → p ≡ get_or passes r p → name_of_pass one ≡ name_of_pass p → seen_by one ≡ seen_by p
    → fresh_by notes ≡ record { cells = take r old.cells; seen = take r old.seen }
    → fresh_by (notes ++ one ∷ []) ≡ record { cells = take (r + 1) old.cells; seen = take (r + 1) old.seen }
more_notes passes notes old r p one is h at name seen so_far =
    let here : r < length old.cells = omega (arith, length-map passes name_of_pass, ap length (ap (λ (f : Fresh). f.cells) is)) in
    let there : r < length old.seen = omega (arith, length-map passes seen_by, ap length (ap (λ (f : Fresh). f.seen) is)) in
    let this : get_or old.cells r (name_of_pass p) ≡ name_of_pass p = ap (λ (f : Fresh). get_or f.cells r (name_of_pass p)) (sym is) ∙ get_or-map name_of_pass passes r p (name_of_pass p) h ∙ sym (ap name_of_pass at) in
    let that : get_or old.seen r [] ≡ seen_by p = seen_at passes old r p is h at in
    let cells : map name_of_pass (notes ++ one ∷ []) ≡ take (r + 1) old.cells =
    map-append name_of_pass notes (one ∷ []) ∙ ap (λ (f : Fresh). f.cells ++ name_of_pass one ∷ []) so_far ∙ ap (λ (n : RegisterIdentity). take r old.cells ++ n ∷ []) (name ∙ sym this) ∙ sym (take_more old.cells r (name_of_pass p) here) in
    let all : map seen_by (notes ++ one ∷ []) ≡ take (r + 1) old.seen =
    map-append seen_by notes (one ∷ []) ∙ ap (λ (f : Fresh). f.seen ++ seen_by one ∷ []) so_far ∙ ap (λ (n : List Vector). take r old.seen ++ n ∷ []) (seen ∙ sym that) ∙ sym (take_more old.seen r [] there) in
    λ i. record { cells = cells i; seen = all i }

pub all_taken : (xs : List RegPass) (n : ℕ) → length xs ≤ n → record { cells = take n (fresh_by xs).cells; seen = take n (fresh_by xs).seen } ≡ fresh_by xs
all_taken xs n h =
    let cells : take n (map name_of_pass xs) ≡ map name_of_pass xs = take_all n (map name_of_pass xs) (omega (arith, length-map xs name_of_pass)) in
    let all : take n (map seen_by xs) ≡ map seen_by xs = take_all n (map seen_by xs) (omega (arith, length-map xs seen_by)) in
    λ i. record { cells = cells i; seen = all i }

-- a holder's pass with the view that it had
pub held_set : (xs : List RegPass) (r : ℕ) (p q : RegPass) → AllHold xs → r < length xs → p ≡ get_or xs r p → cell_view q ≡ cell_view p → AllHold (set xs r q)
held_set xs r p q all h at same = each_set IsHolding xs r q all (same_holding p q (all r p (at_index xs r p h at)) same)

-- the width of a register
pub width_at : (xs : List Register) (names : List RegisterIdentity) (r : ℕ) (q : Register) → map name_of_register xs ≡ names → r < length names → q ≡ get_or xs r q → slice_index (register_widths names) r ≡ q.width
width_at xs names r q is h at =
    let long : r < length xs = omega (arith, length-map xs name_of_register, ap length is) in
    let longer : r < length (map name_of_register xs) = omega (arith, length-map xs name_of_register) in
    sym (ap (λ l. slice_index (register_widths l) r) is)
    ∙ get_or-map (λ (n : RegisterIdentity). n.width) (map name_of_register xs) r (name_of_register q) 0 longer
    ∙ ap (λ (n : RegisterIdentity). n.width) (get_or-map name_of_register xs r q (name_of_register q) long)
    ∙ ap (λ (u : Register). u.width) (sym at)

-- the last values of the holder's passes have the widths of their registers
pub last_widths : (xs : List RegPass) → AllHold xs → map length (last_values (fresh_by xs)) ≡ register_widths (fresh_by xs).cells
last_widths [] all = refl
last_widths (p ∷ xs) all =
    let here = (all 0 p refl).width in
    let rest = last_widths xs (λ k q e. all (suc k) q e) in
    λ i. here i ∷ rest i

pub widths_of_names : (xs : List Register) → register_widths (map name_of_register xs) ≡ map (λ (r : Register). r.width) xs
widths_of_names [] = refl
widths_of_names (r ∷ xs) = ap (λ l. r.width ∷ l) (widths_of_names xs)

-- one more element
pub map_push : {A B : Type 0} (f : A → B) (xs : List A) (x : A) (ys : List A) → ys ≡ xs ++ x ∷ [] → map f ys ≡ map f xs ++ f x ∷ []
map_push f xs x ys more = ap (map f) more ∙ map-append f xs (x ∷ [])

-- one more pass of the holder
pub hold_push : (xs : List RegPass) (p : RegPass) (ys : List RegPass) → ys ≡ xs ++ p ∷ [] → AllHold xs → IsHolding p → AllHold ys
hold_push xs p ys more all one = subst AllHold (sym more) (each_push IsHolding xs p all one)

-- one more pass of a seat
pub begun_push : (xs : List RegPass) (p : RegPass) (ys : List RegPass) → ys ≡ xs ++ p ∷ [] → AllBegun xs → HasSeenValue p → AllBegun ys
begun_push xs p ys more all one = subst AllBegun (sym more) (each_push HasSeenValue xs p all one)

-- a pass that has seen what another has seen
pub as_begun : (p q : RegPass) → seen_by q ≡ seen_by p → 0 < length (seen_by p) → HasSeenValue q
as_begun p q same h = subst (λ (l : List Vector). 0 < length l) (sym same) h
