-- What writes make of the registers as they are known.
use Rattle.std.proofs.Common.{◌≡◌, ℕ, zero, suc, ◌+◌, ◌<◌, ◌==◌, Bool, true, false, List, [], ◌∷◌, ◌++◌, map, length, get_or, refl, sym, ◌∙◌, ap, subst, arith, append_assoc, if◌then◌else◌, eq-eqb, eqb-true}
use Rattle.std.specs.Prelude.{min, slice_set, slice_index_or}
use Rattle.std.proofs.lemmas.List.{append-nil, get_or-map, get_or-set_same, get_or-set_other, map-set, length-map}
use Rattle.logic4.specs.Vector.{Vector, unknown}
use Rattle.logic4.specs.Operators.{same_vector}
use Rattle.model.specs.Expressions.{Store, value_of}
use Rattle.model.specs.Runs.{changes_of, values_in}
use Rattle.turn.specs.Evaluate.{written}
use Rattle.steps.specs.declared.cells.VersionedValue.{VersionedValue}
use Rattle.steps.specs.declared.entry_account.Changed.{Changed}
use Rattle.steps.specs.Accounts.{greatest_version, changed_from}
use Rattle.steps.specs.Cells.{cell_values, version_at, first_cell, IsChangedBy, AreWritten}

pub values_in_more : (b : Bool) (r : ℕ) (c : ℕ × Vector) (cs : List (ℕ × Vector)) → (c.0 == r) ≡ b → values_in r (c ∷ cs) ≡ (if b then c.1 ∷ values_in r cs else values_in r cs)
values_in_more true r c cs is = rw is refl
values_in_more false r c cs is = rw is refl

count_here : (b : Bool) (r : ℕ) (c : ℕ × Vector) (cs ds : List (ℕ × Vector)) → (c.0 == r) ≡ b
    → length (values_in r (cs ++ ds)) ≡ length (values_in r cs) + length (values_in r ds)
    → length (values_in r (c ∷ (cs ++ ds))) ≡ length (values_in r (c ∷ cs)) + length (values_in r ds)
count_here true r c cs ds is more = rw is (omega (arith, more))
count_here false r c cs ds is more = rw is more

pub count_append : (r : ℕ) (cs ds : List (ℕ × Vector)) → length (values_in r (cs ++ ds)) ≡ length (values_in r cs) + length (values_in r ds)
count_append r [] ds = omega arith
count_append r (c ∷ cs) ds = count_here (c.0 == r) r c cs ds refl (count_append r cs ds)

pub written_append : (store : Store) (cs ds : List (ℕ × Vector)) → written store (cs ++ ds) ≡ written (written store cs) ds
written_append store [] ds = refl
written_append store (c ∷ cs) ds = written_append (slice_set store c.0 c.1) cs ds

pub changed_append : (store : Store) (cs ds : List (ℕ × Vector)) → changed_from store (cs ++ ds) ≡ changed_from store cs ++ changed_from (written store cs) ds
changed_append store [] ds = refl
changed_append store (c ∷ cs) ds = ap (λ t. record { register = c.0; before = value_of store c.0; after = c.1 } ∷ t) (changed_append (slice_set store c.0 c.1) cs ds)

-- no change
pub changed_none : (cells : List VersionedValue) (told : List Changed) → IsChangedBy cells [] told cells told
changed_none cells told =
    record {
      changed = record { values = refl; versions = λ r k is. is ∙ ap (λ n. min n greatest_version) (omega arith) };
      told = sym (append-nil told);
    }

-- changes, and then others
pub changed_more : (a b c : List VersionedValue) (xs ys : List (ℕ × Vector)) (s t u : List Changed) → IsChangedBy a xs s b t → IsChangedBy b ys t c u → IsChangedBy a (xs ++ ys) s c u
changed_more a b c xs ys s t u first second =
    record {
      changed =
          record {
            values = second.changed.values ∙ ap (λ v. written v ys) first.changed.values ∙ sym (written_append (cell_values a) xs ys);
            versions = λ r k is.
                second.changed.versions r (k + length (values_in r xs)) (first.changed.versions r k is)
                ∙ ap (λ n. min n greatest_version) (omega (arith, count_append r xs ys));
          };
      told =
          second.told ∙ ap (λ l. l ++ changed_from (cell_values b) ys) first.told
          ∙ append_assoc s (changed_from (cell_values a) xs) (changed_from (cell_values b) ys)
          ∙ ap (λ v. s ++ (changed_from (cell_values a) xs ++ changed_from v ys)) first.changed.values
          ∙ ap (λ l. s ++ l) (sym (changed_append (cell_values a) xs ys));
    }

changes_here : (b : Bool) (store : Store) (w : ℕ × Vector) (ws : List (ℕ × Vector)) → same_vector (value_of store w.0) w.1 ≡ b
    → changes_of store (w ∷ ws) ≡ changes_of store (w ∷ []) ++ changes_of (written store (changes_of store (w ∷ []))) ws
changes_here true store w ws is = rw is refl
changes_here false store w ws is = rw is refl

-- the change of the first write, and then those of the others
pub changes_first : (store : Store) (w : ℕ × Vector) (ws : List (ℕ × Vector)) → changes_of store (w ∷ ws) ≡ changes_of store (w ∷ []) ++ changes_of (written store (changes_of store (w ∷ []))) ws
changes_first store w ws = changes_here (same_vector (value_of store w.0) w.1) store w ws refl

-- the first writes and then one more, where these are all
pub record AreWrittenTo (old : List VersionedValue) (all rest : List (ℕ × Vector)) (before : List Changed) (now : List VersionedValue) (told : List Changed) : Type 0 where
  pub done : List (ℕ × Vector)
  pub changed : IsChangedBy old done before now told
  pub all_are : changes_of (cell_values old) all ≡ done ++ changes_of (cell_values now) rest

pub written_start : (cells : List VersionedValue) (all : List (ℕ × Vector)) (told : List Changed) → AreWrittenTo cells all all told cells told
written_start cells all told = record { done = []; changed = changed_none cells told; all_are = refl }

pub written_step : (old now new : List VersionedValue) (all rest : List (ℕ × Vector)) (w : ℕ × Vector) (before told more : List Changed) → AreWrittenTo old all (w ∷ rest) before now told
    → AreWritten now (w ∷ []) told new more → AreWrittenTo old all rest before new more
written_step old now new all rest w before told more h one =
    let own : List (ℕ × Vector) = changes_of (cell_values now) (w ∷ []) in
    record {
      done = h.done ++ own;
      changed = changed_more old now new h.done own before told more h.changed one;
      all_are =
          h.all_are ∙ ap (λ l. h.done ++ l) (changes_first (cell_values now) w rest)
          ∙ sym (append_assoc h.done own (changes_of (written (cell_values now) own) rest))
          ∙ ap (λ v. (h.done ++ own) ++ changes_of v rest) (sym one.changed.values);
    }

pub written_end : (old now : List VersionedValue) (all rest : List (ℕ × Vector)) (before told : List Changed) → rest ≡ [] → AreWrittenTo old all rest before now told → AreWritten old all before now told
written_end old now all rest before told none h =
    let done_is : changes_of (cell_values old) all ≡ h.done = h.all_are ∙ ap (λ l. h.done ++ changes_of (cell_values now) l) none ∙ append-nil h.done in
    subst (λ l. IsChangedBy old l before now told) (sym done_is) h.changed

-- one write that changes its register

saturated : (k most : ℕ) → min (min k most + 1) most ≡ min (k + 1) most
saturated k most = omega arith

version_here : (b : Bool) (vs : List ℕ) (r q n k : ℕ) (v : Vector) → (r == q) ≡ b → r < length vs → n ≡ min (slice_index_or vs r 0 + 1) greatest_version
    → slice_index_or vs q 0 ≡ min k greatest_version → slice_index_or (slice_set vs r n) q 0 ≡ min (k + length (values_in q ((r, v) ∷ []))) greatest_version
version_here true vs r q n k v is lt next known =
    let same : r ≡ q = eqb-true r q is in
    let here : slice_index_or (slice_set vs r n) q 0 ≡ n = ap (λ i. slice_index_or (slice_set vs r n) i 0) (sym same) ∙ get_or-set_same vs r n 0 lt in
    let one : values_in q ((r, v) ∷ []) ≡ v ∷ [] = values_in_more true q (r, v) [] is in
    let at : slice_index_or vs r 0 ≡ min k greatest_version = ap (λ i. slice_index_or vs i 0) same ∙ known in
    here ∙ next ∙ ap (λ x. min (x + 1) greatest_version) at ∙ saturated k greatest_version ∙ ap (λ l. min (k + length l) greatest_version) (sym one)
version_here false vs r q n k v is lt next known =
    let none : values_in q ((r, v) ∷ []) ≡ [] = values_in_more false q (r, v) [] is in
    let same : k ≡ k + 0 = omega arith in
    get_or-set_other vs r q n 0 (λ e. let turned : (r == q) ≡ true = eq-eqb r q (sym e) in cc)
    ∙ known ∙ ap (λ x. min x greatest_version) same ∙ ap (λ l. min (k + length l) greatest_version) (sym none)

pub changed_one : (cells : List VersionedValue) (told more : List Changed) (r : ℕ) (v : Vector) (cell : VersionedValue) (n : ℕ) → r < length cells → cell ≡ get_or cells r cell
    → same_vector cell.value v ≡ false → n ≡ min (cell.version + 1) greatest_version → more ≡ told ++ record { register = r; before = cell.value; after = v } ∷ []
    → AreWritten cells ((r, v) ∷ []) told (slice_set cells r (record { value = v; version = n })) more
changed_one cells told more r v cell n lt is other next pushed =
    let new : VersionedValue = record { value = v; version = n } in
    let value_is : value_of (cell_values cells) r ≡ cell.value = get_or-map (λ (c : VersionedValue). c.value) cells r cell [] lt ∙ ap (λ (c : VersionedValue). c.value) (sym is) in
    let version_is : version_at cells r ≡ cell.version = get_or-map (λ (c : VersionedValue). c.version) cells r cell 0 lt ∙ ap (λ (c : VersionedValue). c.version) (sym is) in
    let differs : same_vector (value_of (cell_values cells) r) v ≡ false = ap (λ x. same_vector x v) value_is ∙ other in
    let only : changes_of (cell_values cells) ((r, v) ∷ []) ≡ (r, v) ∷ [] = rw differs refl in
    let versions : List ℕ = map (λ (c : VersionedValue). c.version) cells in
    let within : r < length versions = subst (λ k. r < k) (sym (length-map cells (λ (c : VersionedValue). c.version))) lt in
    let next' : n ≡ min (slice_index_or versions r 0 + 1) greatest_version = next ∙ ap (λ x. min (x + 1) greatest_version) (sym version_is) in
    let whole : IsChangedBy cells ((r, v) ∷ []) told (slice_set cells r new) more =
    record {
      changed =
          record {
            values = map-set (λ (c : VersionedValue). c.value) cells r new;
            versions = λ q k known.
                ap (λ l. slice_index_or l q 0) (map-set (λ (c : VersionedValue). c.version) cells r new) ∙ version_here (r == q) versions r q n k v refl within next' known;
          };
      told = pushed ∙ ap (λ x. told ++ record { register = r; before = x; after = v } ∷ []) (sym value_is);
    } in
    subst (λ (l : List (ℕ × Vector)). IsChangedBy cells l told (slice_set cells r new) more) (sym only) whole

-- the registers at the start

values_first : (widths : List ℕ) → cell_values (map first_cell widths) ≡ map unknown widths
values_first [] = refl
values_first (w ∷ ws) = ap (λ l. unknown w ∷ l) (values_first ws)

version_first : (widths : List ℕ) (r : ℕ) → version_at (map first_cell widths) r ≡ 0
version_first [] r = refl
version_first (w ∷ ws) zero = refl
version_first (w ∷ ws) (suc r) = version_first ws r

pub values_start : (cells : List VersionedValue) (widths : List ℕ) → cells ≡ map first_cell widths → cell_values cells ≡ map unknown widths
values_start cells widths is = ap cell_values is ∙ values_first widths

pub versions_start : (cells : List VersionedValue) (widths : List ℕ) → cells ≡ map first_cell widths → (r : ℕ) → version_at cells r ≡ 0
versions_start cells widths is r = ap (λ l. version_at l r) is ∙ version_first widths r
