-- Each step keeps the list of values.
use Rattle.std.proofs.Common.{◌≡◌, ◌≢◌, ◌⊎◌, ℕ, zero, suc, ◌+◌, ◌<◌, List, [], ◌∷◌, ◌++◌, length, set, Some, true, false, true≢false, refl, sym, ap, ◌∙◌, subst, ⊎_elim, inl, inr, arith}
use mathlib.Core.Option.{some, some-ne-none, some-injective}
use mathlib.Core.List.{IsPrefix}
use lib.ListN.{get_elem?}
use Rattle.crossbeam_utils.specs.Register.{Turns, Forks, Merges}
use Rattle.atomic_table.proofs.Lists.{at_set, at_snoc, set_again}
use Rattle.logic4.specs.Vector.{Vector}
use Rattle.regcells.specs.declared.rule.View.{View}
use Rattle.regcells.specs.CellWords.{version_in, value_in, HoldValue}
use Rattle.turn.specs.TurnChanges.{altered}
use Rattle.regcells.specs.Values.{register_width, last_value, values_after}
use Rattle.regcells.specs.RegisterRule.{holder, reader, informed, IsEnd, IsEndOnceBegun, FitsRegisterPass, CellInvariant, HasLoadedRegister, HasCheckedRegister, Stored}
use Rattle.regcells.proofs.Beginnings.{prefix_self, prefix_trans, prefix_length}
use Rattle.regcells.proofs.Lasts.{at_end}

off : false ≡ true → ⊥
off e = true≢false (sym e)

pub nothing_begins : (values : List Vector) → IsPrefix [] values
nothing_begins values = (values, refl)

pub begins_longer : (values more : List Vector) → IsPrefix values (values ++ more)
begins_longer values more = (more, refl)

begun : (values : List Vector) (words : List ℕ) → 0 < length values → IsEndOnceBegun values words → IsEnd values words
begun [] words h e = absurd (omega arith)
begun (x ∷ xs) words h e = e

end_once_begun : (values : List Vector) (words : List ℕ) → IsEnd values words → IsEndOnceBegun values words
end_once_begun [] words e = tt
end_once_begun (x ∷ xs) words e = e

-- one pass changes its view, and the list only grows
pub fits_set : (seat : ℕ) (values now : List Vector) (views : List View) (by : ℕ) (w : View)
    → IsPrefix values now → (now ≡ values) ⊎ (by ≡ seat)
    → ((j : ℕ) (u : View) → get_elem? views j ≡ some u → FitsRegisterPass seat values j u)
    → FitsRegisterPass seat now by w
    → (j : ℕ) (u : View) → get_elem? (set views by w) j ≡ some u → FitsRegisterPass seat now j u
fits_set seat values now views by w grows who old mine j u e =
    ⊎_elim
    (λ (x : (j ≡ by) × (w ≡ u)). subst (λ (y : ℕ × View). FitsRegisterPass seat now y.0 y.1) (λ i. (sym x.0 i, x.1 i)) mine)
    (λ (x : (j ≢ by) × (get_elem? views j ≡ some u)).
    let f = old j u x.1 in
    ((λ (h : u.holds ≡ true). ((f.0 h).0, ⊎_elim (λ (s : now ≡ values). (f.0 h).1 ∙ sym s) (λ (s : by ≡ seat). absurd (x.0 ((f.0 h).0 ∙ sym s))) who)), prefix_trans _ _ _ f.1 grows, prefix_trans _ _ _ f.2 grows))
    (at_set views by j w u e)

pub begins : (words : List ℕ) → CellInvariant words (holder [] ∷ [])
begins words = (0, [], tt, one)
  where
    one : (by : ℕ) (v : View) → get_elem? (holder [] ∷ []) by ≡ some v → FitsRegisterPass 0 [] by v
    one zero v e = subst (FitsRegisterPass 0 [] 0) (some-injective _ _ e) ((λ _. (refl, refl)), nothing_begins [], nothing_begins [])
    one (suc by) v e = absurd (some-ne-none v (sym e))

pub looks : (by : ℕ) (v : View) → 0 < length v.seen → Turns CellInvariant by v (λ x. x) HasLoadedRegister
looks by v some_seen words views h at =
    let mine = h.3 by v at in
    let long : 0 < length h.1 = let l = prefix_length v.seen h.1 mine.1 in omega arith in
    let w = reader h.1 in
    (w, (h.0, h.1, h.2, fits_set h.0 h.1 h.1 views by w (prefix_self h.1) (inl refl) h.3 ((λ c. absurd (off c)), prefix_self h.1, nothing_begins h.1)), (refl, mine.1, mine.2, begun h.1 words long h.2))

pub checks : (by : ℕ) (v : View) → v.holds ≡ true → 0 < length v.seen → Turns CellInvariant by v (λ x. x) HasCheckedRegister
checks by v holds some_seen words views h at =
    let mine = h.3 by v at in
    let all : v.seen ≡ h.1 = (mine.0 holds).1 in
    let w = holder v.seen in
    let end : IsEnd v.seen words = subst (λ l. IsEnd l words) (sym all) (begun h.1 words (subst (λ l. 0 < length l) all some_seen) h.2) in (
      w,
      (h.0, h.1, h.2, fits_set h.0 h.1 h.1 views by w (prefix_self h.1) (inl refl) h.3 ((λ _. mine.0 holds), mine.1, nothing_begins h.1)),
      (refl, subst (λ l. IsPrefix v.shown l) (sym all) mine.2, end),
    )

-- the words of the last value and of its place are the end of the list
pub end_of : (values : List Vector) (x : Vector) (words : List ℕ) → x ≡ last_value values → length values ≡ version_in words + 1 → value_in (length x) words ≡ x → HoldValue (length x) words → register_width values ≡ length x → IsEnd values words
end_of values x words last version value hold wide =
    record {
      last = at_end values (version_in words) version ∙ ap Some (sym last ∙ sym value ∙ ap (λ w. value_in w words) (sym wide));
      version = version;
      hold = subst (λ w. HoldValue w words) (sym wide) hold;
    }

pub stores : (by : ℕ) (v : View) (given : List Vector) (new : List ℕ) → v ≡ holder v.seen → IsEnd (values_after v.seen given) new → Turns CellInvariant by v (λ _. new) (Stored given)
stores by v given new is end words views h at =
    let mine = (h.3 by v at).0 (ap (λ (u : View). u.holds) is) in
    let w = holder (values_after v.seen given) in
    let values = values_after h.1 given in
    let same : values_after v.seen given ≡ values = ap (λ l. values_after l given) mine.1 in (
      w,
      (
        h.0,
        values,
        end_once_begun values new (subst (λ l. IsEnd l new) same end),
        fits_set h.0 h.1 values views by w (begins_longer h.1 (altered (last_value h.1) given)) (inr mine.0) h.3 ((λ _. (mine.0, same)), subst (λ l. IsPrefix l values) (sym same) (prefix_self values), nothing_begins values),
      ),
      refl,
    )

pub notes : (by : ℕ) (v : View) → Forks CellInvariant by v v (reader v.seen)
notes by v words views h at = (
  h.0,
  h.1,
  h.2,
  λ j u e. ⊎_elim
      (λ was. h.3 j u (subst (λ l. get_elem? l j ≡ some u) (set_again views by v at) was))
      (λ (same : reader v.seen ≡ u). subst (FitsRegisterPass h.0 h.1 j) same ((λ c. absurd (off c)), (h.3 by v at).1, nothing_begins h.1))
      (at_snoc (set views by v) (reader v.seen) u j e),
)

pub informs : (by : ℕ) (v : View) (other : ℕ) (u : View) → Merges CellInvariant by v other u (informed v u) (reader [])
informs by v other u words views h at apart there =
    let w = informed v u in
    let mine = h.3 by v at in
    let theirs = ⊎_elim (λ (t : (other ≡ by) × (w ≡ u)). absurd (apart t.0)) (λ (t : (other ≢ by) × (get_elem? views other ≡ some u)). h.3 other u t.1) (at_set views by other w u there) in
    let first = fits_set h.0 h.1 h.1 views by w (prefix_self h.1) (inl refl) h.3 (mine.0, mine.1, theirs.1) in
    (h.0, h.1, h.2, fits_set h.0 h.1 h.1 (set views by w) other (reader []) (prefix_self h.1) (inl refl) first ((λ c. absurd (off c)), nothing_begins h.1, nothing_begins h.1))
