-- The last value of a list, and a list after some values were given.
use Rattle.std.proofs.Common.{◌≡◌, ℕ, zero, suc, ◌+◌, ◌<◌, ◌≤◌, List, [], ◌∷◌, ◌++◌, length, Some, Bool, true, false, if◌then◌else◌, refl, sym, ap, ◌∙◌, subst, arith, length-append}
use Rattle.std.specs.Prelude.{slice_get}
use Rattle.std.specs.List.{All}
use Rattle.std.proofs.lemmas.List.{append-nil}
use Rattle.std.proofs.lemmas.List.Elements.{All-head, All-tail}
use Rattle.crossbeam_utils.specs.Seq.{cell_view}
use Rattle.logic4.specs.Vector.{Vector}
use Rattle.logic4.specs.Operators.{same_vector}
use Rattle.logic4.specs.Sameness.{same_vector-true}
use Rattle.turn.specs.declared.log.TurnChange.{TurnChange}
use Rattle.turn.specs.TurnChanges.{altered}
use Rattle.regions.specs.Past.{last_of, IsTurnChangeOf}
use Rattle.regcells.specs.RegisterRule.{holder}
use Rattle.regcells.specs.Values.{register_width, last_value, values_after}
use Rattle.regcells.specs.Passes.{RegPass, seen_by, IsHolding}

-- ---- the end of a list

last_from : (v : Vector) (values : List Vector) (k : ℕ) (x : Vector) → slice_get values k ≡ Some x → length values ≡ k + 1 → x ≡ last_of v values
last_from v [] k x e n = absurd (omega arith)
last_from v (y ∷ []) zero x e n = cc
last_from v (y ∷ []) (suc k) x e n = absurd (omega arith)
last_from v (y ∷ z ∷ zs) zero x e n = absurd (omega arith)
last_from v (y ∷ z ∷ zs) (suc k) x e n = last_from y (z ∷ zs) k x e (omega arith)

-- the value at the end is the last
pub last_at : (values : List Vector) (k : ℕ) (x : Vector) → slice_get values k ≡ Some x → length values ≡ k + 1 → x ≡ last_value values
last_at values k x e n = last_from [] values k x e n

end_from : (v : Vector) (values : List Vector) (k : ℕ) → length values ≡ k + 1 → slice_get values k ≡ Some (last_of v values)
end_from v [] k n = absurd (omega arith)
end_from v (y ∷ []) zero n = refl
end_from v (y ∷ []) (suc k) n = absurd (omega arith)
end_from v (y ∷ z ∷ zs) zero n = absurd (omega arith)
end_from v (y ∷ z ∷ zs) (suc k) n = end_from y (z ∷ zs) k (omega arith)

-- the last value is at the end
pub at_end : (values : List Vector) (k : ℕ) → length values ≡ k + 1 → slice_get values k ≡ Some (last_value values)
at_end values k n = end_from [] values k n

last_of-append : (v : Vector) (xs ys : List Vector) → last_of v (xs ++ ys) ≡ last_of (last_of v xs) ys
last_of-append v [] ys = refl
last_of-append v (x ∷ xs) ys = last_of-append x xs ys

-- ---- values that differ from the one before

altered_here : (b : Bool) (v u : Vector) (us : List Vector) → same_vector v u ≡ b → altered v (u ∷ us) ≡ (if b then altered v us else u ∷ altered u us)
altered_here b v u us is = ap (λ t. if t then altered v us else u ∷ altered u us) is

last_here : (b : Bool) (v u : Vector) (us : List Vector) → same_vector v u ≡ b → ((w : Vector) → last_of w (altered w us) ≡ last_of w us) → last_of v (altered v (u ∷ us)) ≡ last_of u us
last_here true v u us is rest = ap (last_of v) (altered_here true v u us is) ∙ rest v ∙ ap (λ w. last_of w us) (same_vector-true v u is)
last_here false v u us is rest = ap (last_of v) (altered_here false v u us is) ∙ rest u

last_of-altered : (v : Vector) (us : List Vector) → last_of v (altered v us) ≡ last_of v us
last_of-altered v [] = refl
last_of-altered v (u ∷ us) = last_here (same_vector v u) v u us refl (λ w. last_of-altered w us)

-- the last of the values that were given is the last
pub last_given : (values given : List Vector) → last_value (values_after values given) ≡ last_of (last_value values) given
last_given values given = last_of-append [] values (altered (last_value values) given) ∙ last_of-altered (last_value values) given

-- a longer list is as wide
pub width_given : (values given : List Vector) → 0 < length values → register_width (values_after values given) ≡ register_width values
width_given [] given h = absurd (omega arith)
width_given (y ∷ ys) given h = refl

-- the first value of a register
pub first_given : (v : Vector) → 0 < length v → values_after [] (v ∷ []) ≡ v ∷ []
first_given [] h = absurd (omega arith)
first_given (d ∷ ds) h = refl

-- nothing that differs
pub none_given : (values given : List Vector) → length (altered (last_value values) given) ≡ 0 → values_after values given ≡ values
none_given values given none = by_list (altered (last_value values) given) none
  where
    by_list : (more : List Vector) → length more ≡ 0 → values ++ more ≡ values
    by_list [] n = append-nil values
    by_list (v ∷ more) n = absurd (omega arith)

pub length-given : (values given : List Vector) → length (values_after values given) ≡ length values + length (altered (last_value values) given)
length-given values given = length-append values (altered (last_value values) given)

-- ---- turn changes

-- the turn change has the last of its values
pub turn_change_last : (given : List Vector) (turn_change : TurnChange) (v : Vector) → IsTurnChangeOf given turn_change → last_of v given ≡ turn_change.last
turn_change_last [] turn_change v h = absurd h
turn_change_last (u ∷ us) turn_change v h = sym h.2

last_wide : (u : Vector) (us : List Vector) (w : ℕ) → length u ≡ w → All (λ v. length v ≡ w) us → length (last_of u us) ≡ w
last_wide u [] w h all = h
last_wide u (v ∷ us) w h all = last_wide v us w (All-head (λ v. length v ≡ w) v us all) (All-tail (λ v. length v ≡ w) v us all)

-- where all values of a turn change have a width, its last has it
pub turn_change_width : (given : List Vector) (turn_change : TurnChange) (w : ℕ) → IsTurnChangeOf given turn_change → All (λ v. length v ≡ w) given → length turn_change.last ≡ w
turn_change_width [] turn_change w h all = absurd h
turn_change_width (u ∷ us) turn_change w h all = ap length h.2 ∙ last_wide u us w (All-head (λ v. length v ≡ w) u us all) (All-tail (λ v. length v ≡ w) u us all)

-- how many values a turn change adds
pub turn_change_changes : (b : Bool) (given : List Vector) (turn_change : TurnChange) (v : Vector) → same_vector v turn_change.first ≡ b → IsTurnChangeOf given turn_change → length (altered v given) ≡ (if b then turn_change.changes else turn_change.changes + 1)
turn_change_changes b [] turn_change v is h = absurd h
turn_change_changes true (u ∷ us) turn_change v is h =
    let same : v ≡ u = same_vector-true v turn_change.first is ∙ h.0 in
    let is' : same_vector v u ≡ true = ap (same_vector v) (sym h.0) ∙ is in
    ap length (altered_here true v u us is') ∙ ap (λ w. length (altered w us)) same ∙ sym h.1
turn_change_changes false (u ∷ us) turn_change v is h =
    let is' : same_vector v u ≡ false = ap (same_vector v) (sym h.0) ∙ is in
    let more : length (altered v (u ∷ us)) ≡ length (u ∷ altered u us) = ap length (altered_here false v u us is') in
    omega (arith, more, h.1)

-- at most one more than its later values that differ
pub few_changes : (b : Bool) (given : List Vector) (turn_change : TurnChange) (v : Vector) → same_vector v turn_change.first ≡ b → IsTurnChangeOf given turn_change → length (altered v given) ≤ turn_change.changes + 1
few_changes true given turn_change v is h = omega (arith, turn_change_changes true given turn_change v is h)
few_changes false given turn_change v is h = omega (arith, turn_change_changes false given turn_change v is h)

-- ---- the holder's pass

-- the holder's pass, with the view that it had
pub same_holding : (p q : RegPass) → IsHolding p → cell_view q ≡ cell_view p → IsHolding q
same_holding p q h same =
    let seen : seen_by q ≡ seen_by p = ap (λ v. v.seen) same in
    record {
      all = same ∙ h.all ∙ ap holder (sym seen);
      begun = subst (λ l. 0 < length l) (sym seen) h.begun;
      width = subst (λ l. length (last_value l) ≡ register_width l) (sym seen) h.width;
    }

-- the holder's pass, after some values of the register's width were given
pub given_holding : (p q : RegPass) (given : List Vector) (turn_change : TurnChange) (w : ℕ) → IsHolding p → cell_view q ≡ holder (values_after (seen_by p) given) → IsTurnChangeOf given turn_change → All (λ v. length v ≡ w) given → w ≡ register_width (seen_by p) → IsHolding q
given_holding p q given turn_change w h more is all wide =
    let values = values_after (seen_by p) given in
    let seen : seen_by q ≡ values = ap (λ u. u.seen) more in
    let last : last_value values ≡ turn_change.last = last_given (seen_by p) given ∙ turn_change_last given turn_change (last_value (seen_by p)) is in
    record {
      all = more ∙ ap holder (sym seen);
      begun = subst (λ l. 0 < length l) (sym seen) (let b = h.begun in omega (arith, length-given (seen_by p) given));
      width = subst (λ l. length (last_value l) ≡ register_width l) (sym seen) (ap length last ∙ turn_change_width given turn_change w is all ∙ wide ∙ sym (width_given (seen_by p) given h.begun));
    }

-- the holder's pass of a new register
pub new_holding : (p : RegPass) (v : Vector) → cell_view p ≡ holder (v ∷ []) → IsHolding p
new_holding p v is =
    let seen : seen_by p ≡ v ∷ [] = ap (λ u. u.seen) is in
    record {
      all = is ∙ ap holder (sym seen);
      begun = subst (λ l. 0 < length l) (sym seen) (omega arith);
      width = subst (λ l. length (last_value l) ≡ register_width l) (sym seen) refl;
    }
