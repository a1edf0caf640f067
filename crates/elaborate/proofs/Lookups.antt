-- The registers as a list of pairs, and as the program holds them.
use Rattle.std.proofs.Common.{◌≡◌, ℕ, zero, suc, nat_lt, nat_le, ◌<◌, ◌≤◌, Bool, true, false, ◌||◌, List, [], ◌∷◌, ◌++◌, map, length, get_or, Option, None, refl, sym, ap, subst, ◌∙◌, unwrap_or, position, arith, add-one, length-append}
use Rattle.std.proofs.lemmas.Bool.Decides.{nat_tests}
use Rattle.std.proofs.lemmas.List.{map-append}
use Rattle.std.proofs.lemmas.List.Sums.{prefix_len-le-length}
use Rattle.std.specs.Str.{bytes_eq}
use Rattle.std.specs.List.{list_any, position_or_len}
use Rattle.std.specs.Cmp.Lexicographic.{nat_list_eq_equiv}
use Rattle.model.specs.declared.limits.ModuleLimits.{ModuleLimits}
use Rattle.model.specs.declared.limits.ModuleLimits.TheVariants.{Profile, Whole}
use Rattle.model.specs.ModuleLimits.{most_registers}
use Rattle.model.specs.Syntax.{Text}
use Rattle.model.specs.Elaboration.{Declared, has_name, is_declared, is_range, number_of, range_of, width_of, widths_of}
use Rattle.elaborate.specs.Registers.{with_ranges, AreRegisters}
use Rattle.elaborate.specs.FirstFindings.{found_name}
use Rattle.indexmap.specs.IndexSet.{insert_key}

-- there are as many registers as ranges
pub same_length : (ns : List Text) (rs : List (Option (ℕ × ℕ))) → length ns ≡ length rs → length (with_ranges ns rs) ≡ length rs
same_length [] [] e = refl
same_length [] (r ∷ rs) e = omega arith
same_length (n ∷ ns) [] e = omega arith
same_length (n ∷ ns) (r ∷ rs) e = ap suc (same_length ns rs (omega arith))

-- one more name and its range
pub one_more : (ns : List Text) (name : Text) (rs : List (Option (ℕ × ℕ))) (r : Option (ℕ × ℕ)) → length ns ≡ length rs
    → with_ranges (ns ++ name ∷ []) (rs ++ r ∷ []) ≡ with_ranges ns rs ++ (name, r) ∷ []
one_more [] name [] r e = refl
one_more [] name (x ∷ rs) r e = absurd (omega arith)
one_more (n ∷ ns) name [] r e = absurd (omega arith)
one_more (n ∷ ns) name (x ∷ rs) r e = ap (λ t. (n, x) ∷ t) (one_more ns name rs r (omega arith))

module _ {K : Type 0} (bytes : K → Text) where
  -- a name is declared where the set has it
  pub declared_is : (name : Text) (ks : List K) (rs : List (Option (ℕ × ℕ))) → length (map bytes ks) ≡ length rs
      → is_declared (with_ranges (map bytes ks) rs) name ≡ list_any (λ k. bytes_eq name (bytes k)) ks
  declared_is name [] rs e = refl
  declared_is name (k ∷ ks) [] e = absurd (omega arith)
  declared_is name (k ∷ ks) (r ∷ rs) e =
      ap (λ b. b || is_declared (with_ranges (map bytes ks) rs) name) (nat_list_eq_equiv.symm (bytes k) name)
      ∙ ap (λ b. bytes_eq name (bytes k) || b) (declared_is name ks rs (omega arith))

  -- its number is its place in the set
  pub number_is : (name : Text) (ks : List K) (rs : List (Option (ℕ × ℕ))) → length (map bytes ks) ≡ length rs
      → number_of (with_ranges (map bytes ks) rs) name ≡ position_or_len (λ k. bytes_eq name (bytes k)) ks
  number_is name [] rs e = refl
  number_is name (k ∷ ks) [] e = absurd (omega arith)
  number_is name (k ∷ ks) (r ∷ rs) e = by (number_is name ks rs (omega arith)) (bytes_eq name (bytes k)) refl
    where
      by : number_of (with_ranges (map bytes ks) rs) name ≡ position_or_len (λ k. bytes_eq name (bytes k)) ks
          → (b : Bool) → bytes_eq name (bytes k) ≡ b → number_of (with_ranges (map bytes (k ∷ ks)) (r ∷ rs)) name ≡ position_or_len (λ k. bytes_eq name (bytes k)) (k ∷ ks)
      by rest true q = rw (nat_list_eq_equiv.symm (bytes k) name, q)
      by rest false q = rw (nat_list_eq_equiv.symm (bytes k) name, q) (omega arith)

  -- the ranges are those of the pairs
  pub ranges_are : (ks : List K) (rs : List (Option (ℕ × ℕ))) → length (map bytes ks) ≡ length rs → map (λ d. d.1) (with_ranges (map bytes ks) rs) ≡ rs
  ranges_are [] [] e = refl
  ranges_are [] (r ∷ rs) e = absurd (omega arith)
  ranges_are (k ∷ ks) [] e = absurd (omega arith)
  ranges_are (k ∷ ks) (r ∷ rs) e = ap (λ t. r ∷ t) (ranges_are ks rs (omega arith))

  -- and the names are those of the set
  pub names_are : (ks : List K) (rs : List (Option (ℕ × ℕ))) → length (map bytes ks) ≡ length rs → map (λ d. d.0) (with_ranges (map bytes ks) rs) ≡ map bytes ks
  names_are [] [] e = refl
  names_are [] (r ∷ rs) e = refl
  names_are (k ∷ ks) [] e = absurd (omega arith)
  names_are (k ∷ ks) (r ∷ rs) e = ap (λ t. bytes k ∷ t) (names_are ks rs (omega arith))

-- the range of a name is that at its number
pub range_is : (ds : List Declared) (name : Text) → range_of ds name ≡ get_or (map (λ d. d.1) ds) (number_of ds name) None
range_is [] name = refl
range_is (d ∷ ds) name = by (range_is ds name) (has_name name d) refl
  where
    by : range_of ds name ≡ get_or (map (λ d. d.1) ds) (number_of ds name) None → (b : Bool) → has_name name d ≡ b → range_of (d ∷ ds) name ≡ get_or (map (λ d. d.1) (d ∷ ds)) (number_of (d ∷ ds) name) None
    by rest true q = rw q
    by rest false q = rw (q, rest, add-one)

-- and the width that at its place
pub width_at : (ds : List Declared) (n : ℕ) → n < length ds → get_or (widths_of ds) n 0 ≡ width_of (get_or (map (λ d. d.1) ds) n None)
width_at [] n h = absurd (omega arith)
width_at (d ∷ ds) zero h = refl
width_at (d ∷ ds) (suc n) h = width_at ds n (omega arith)

-- the place of a name in the set
pub place_is : {K : Type 0} (p : K → Bool) (ks : List K) → unwrap_or (position p ks) (length ks) ≡ position_or_len p ks
place_is p ks = by (nat_lt (position_or_len p ks) (length ks)) refl
  where
    by : (b : Bool) → nat_lt (position_or_len p ks) (length ks) ≡ b → unwrap_or (position p ks) (length ks) ≡ position_or_len p ks
    by true q = rw q
    by false q = rw q (grind (arith, nat_tests, prefix_len-le-length))

-- no limits leave more registers than those of whole designs
pub most_within : (limits : ModuleLimits) → most_registers limits ≤ 65536
most_within Profile = omega arith
most_within Whole = omega arith

-- where nothing is wrong with a name, it is new, and its range is allowed
pub allowed : (limits : ModuleLimits) (ds : List Declared) (name : Text) (r : Option (ℕ × ℕ)) → found_name limits ds (name, r) ≡ None
    → (is_declared ds name ≡ false) × (is_range r ≡ true) × (length ds < most_registers limits)
allowed limits ds name r = by (is_declared ds name) (is_range r) (nat_le (most_registers limits) (length ds)) refl refl refl
  where
    by : (a b c : Bool) → is_declared ds name ≡ a → is_range r ≡ b → nat_le (most_registers limits) (length ds) ≡ c → found_name limits ds (name, r) ≡ None
        → (is_declared ds name ≡ false) × (is_range r ≡ true) × (length ds < most_registers limits)
    by true b c p q s h = absurd (let k = rw p at h in cc)
    by false false c p q s h = absurd (let k = rw (p, q) at h in cc)
    by false true true p q s h = absurd (let k = rw (p, q, s) at h in cc)
    by false true false p q s h = (p, q, grind (arith, nat_tests))

module _ {K : Type 0} (bytes : K → Text) where
  -- a name that may be declared isn't in the set
  pub is_new : (limits : ModuleLimits) (name : Text) (r : Option (ℕ × ℕ)) (ks : List K) (rs : List (Option (ℕ × ℕ))) → length (map bytes ks) ≡ length rs
      → found_name limits (with_ranges (map bytes ks) rs) (name, r) ≡ None → list_any (λ k. bytes_eq name (bytes k)) ks ≡ false
  is_new limits name r ks rs e h = sym (declared_is bytes name ks rs e) ∙ (allowed limits _ name r h).0

  -- a new name goes last
  pub inserted : (s : K) (name : Text) (ks keys : List K) → bytes s ≡ name → list_any (λ k. bytes_eq name (bytes k)) ks ≡ false
      → keys ≡ insert_key (λ x y. bytes_eq (bytes x) (bytes y)) ks s → map bytes keys ≡ map bytes ks ++ name ∷ []
  inserted s name ks keys e h k =
      ap (map bytes) (k ∙ last (subst (λ t. list_any (λ k. bytes_eq t (bytes k)) ks ≡ false) (sym e) h)) ∙ map-append bytes ks (s ∷ []) ∙ ap (λ t. map bytes ks ++ t ∷ []) e
    where
      last : list_any (λ k. bytes_eq (bytes s) (bytes k)) ks ≡ false → insert_key (λ x y. bytes_eq (bytes x) (bytes y)) ks s ≡ ks ++ s ∷ []
      last q = rw q

ranged_more : (rs : List (Option (ℕ × ℕ))) (r : Option (ℕ × ℕ)) → ((k : ℕ) → is_range (get_or rs k None) ≡ true) → is_range r ≡ true
    → (k : ℕ) → is_range (get_or (rs ++ r ∷ []) k None) ≡ true
ranged_more [] r h q zero = q
ranged_more [] r h q (suc k) = refl
ranged_more (x ∷ rs) r h q zero = h 0
ranged_more (x ∷ rs) r h q (suc k) = ranged_more rs r (λ j. h (suc j)) q k

-- and what holds of the registers holds with one more that may be declared
pub registers_more : (limits : ModuleLimits) (name : Text) (r : Option (ℕ × ℕ)) (ns : List Text) (rs : List (Option (ℕ × ℕ))) → AreRegisters ns rs
    → found_name limits (with_ranges ns rs) (name, r) ≡ None → AreRegisters (ns ++ name ∷ []) (rs ++ r ∷ [])
registers_more limits name r ns rs a h =
    let b = allowed limits _ name r h in
    let e = same_length ns rs a.paired in
    record {
      paired = simp length-append (omega (arith, a.paired));
      few = simp length-append (omega (arith, b.2, e, most_within limits));
      ranged = ranged_more rs r a.ranged b.1;
    }

module _ {K : Type 0} (bytes : K → Text) where
  -- the widths are those of the ranges
  pub widths_are : (ks : List K) (rs : List (Option (ℕ × ℕ))) → length (map bytes ks) ≡ length rs → widths_of (with_ranges (map bytes ks) rs) ≡ map width_of rs
  widths_are [] [] e = refl
  widths_are [] (r ∷ rs) e = absurd (omega arith)
  widths_are (k ∷ ks) [] e = absurd (omega arith)
  widths_are (k ∷ ks) (r ∷ rs) e = ap (λ t. width_of r ∷ t) (widths_are ks rs (omega arith))
