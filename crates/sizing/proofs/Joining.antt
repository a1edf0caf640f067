-- Trees that stand for concatenations and replications.
use Rattle.std.proofs.Common.{◌≡◌, ◌≢◌, ℕ, zero, suc, ◌+◌, ◌-◌, ◌*◌, ◌≤◌, ◌==◌, Bool, true, false, List, [], ◌∷◌, ◌++◌, map, length, take, replicate, Option, Some, ℤ, pos, refl, sym, ap, subst, ◌∙◌, arith, append_assoc, append-nil, if◌then◌else◌}
use Rattle.std.proofs.lemmas.List.{length-append, map-append}
use Rattle.std.proofs.lemmas.Bool.{eqb-true}
use Rattle.logic4.specs.declared.digit.Digit.{Digit}
use Rattle.logic4.specs.declared.digit.Extension.TheVariants.{Sign}
use Rattle.logic4.specs.Vector.{Vector, resize}
use Rattle.logic4.specs.Extensions.{extend_vector}
use Rattle.model.specs.Syntax as core
use Rattle.model.specs.Syntax.{Text}
use Rattle.model.specs.declared.tree.SourceExpression as program
use Rattle.model.specs.SourceTrees.{source_expression_of, source_expressions}
use Rattle.model.specs.Elaboration.{resolved, all_resolved}
use Rattle.model.specs.Expressions as model
use Rattle.ranges.specs.Ranges.{natural}
use Rattle.shaped_trees.specs.declared.shape.Shape.{Shape}
use Rattle.shaped_trees.specs.Trees.{Values}
use Rattle.sizing.specs.Names.{Names}
use Rattle.sizing.specs.Meanings as meaning
use Rattle.sizing.specs.Meanings.{Meaning, self_determined_value, total_size, joined_digits, repeated, replication_count, constant_integer, alone_meaning}
use Rattle.shaped_trees.specs.Trees.{Registers, values_of, size_in, tree_value, AllNamed, AllNamedIn}
use Rattle.sizing.specs.Typing.{IsWide, IsTyped, IsSelfDetermined}
use Rattle.sizing.specs.Parts.{JoinsIn, copies_of, repeated_tree}
use Rattle.shaped_trees.proofs.Extension.{resize_same}
use Rattle.shaped_trees.proofs.Lengths.{length_eval, length_joined}
use Rattle.sizing.proofs.Trees.{typed_alone, own_digits}

-- trees as the parts of a concatenation
abbrev parts : List (core.Expression Text) → core.Expressions Text
parts ts = source_expressions ts

abbrev total_in : Registers → List (core.Expression Text) → ℕ
total_in r ts = model.total_size r.widths (all_resolved r.declared (parts ts))

abbrev joined_in : Registers → List (core.Expression Text) → Vector
joined_in r ts = model.joined r.widths r.store (all_resolved r.declared (parts ts))

total-append : (r : Registers) (ts : List (core.Expression Text)) (t : core.Expression Text) → total_in r (ts ++ t ∷ []) ≡ total_in r ts + size_in r t
total-append r [] t = omega arith
total-append r (x ∷ ts) t = omega (arith, total-append r ts t)

joined-append : (r : Registers) (ts : List (core.Expression Text)) (t : core.Expression Text) → joined_in r (ts ++ t ∷ []) ≡ tree_value r (size_in r t) t ++ joined_in r ts
joined-append r [] t = sym (append-nil (tree_value r (size_in r t) t))
joined-append r (x ∷ ts) t =
    ap (λ v. v ++ tree_value r (size_in r x) x) (joined-append r ts t) ∙ append_assoc (tree_value r (size_in r t) t) (joined_in r ts) (tree_value r (size_in r x) x)

sizes-append : (ms : List Meaning) (m : Meaning) → total_size (ms ++ m ∷ []) ≡ total_size ms + m.size
sizes-append [] m = omega arith
sizes-append (k ∷ ms) m = omega (arith, sizes-append ms m)

values-append : (ms : List Meaning) (m : Meaning) (values : Values) → joined_digits (ms ++ m ∷ []) values ≡ self_determined_value m values ++ joined_digits ms values
values-append [] m values = sym (append-nil (self_determined_value m values))
values-append (k ∷ ms) m values =
    ap (λ v. v ++ self_determined_value k values) (values-append ms m values) ∙ append_assoc (self_determined_value m values) (joined_digits ms values) (self_determined_value k values)

named-append : (P : Text → Type 0) (ts : List (core.Expression Text)) (t : core.Expression Text) → AllNamedIn P (parts (ts ++ t ∷ [])) → AllNamedIn P (parts ts) × AllNamed P t
named-append P [] t h = (tt, h.0)
named-append P (x ∷ ts) t h = let rest = named-append P ts t h.1 in ((h.0, rest.0), rest.1)

-- ---- parts, one after another

pub joins_one : (n : Names) (m : Meaning) (width : ℕ) (tree : core.Expression Text) → width ≡ m.size → IsSelfDetermined n m tree → JoinsIn n (m ∷ []) width (core.Also tree core.Nothing)
joins_one n m width tree h s = record {
  width = omega (arith, h);
  size = λ r f. let own = s.size r f.0 in omega (arith, own, h);
  value = λ r f. ap (λ v. [] ++ v) (own_digits n m tree s r f.0);
}

pub joins_more : (n : Names) (ms : List Meaning) (m : Meaning) (width next : ℕ) (ts : List (core.Expression Text)) (tree : core.Expression Text)
    → JoinsIn n ms width (parts ts) → IsSelfDetermined n m tree → next ≡ width + m.size → JoinsIn n (ms ++ m ∷ []) next (parts (ts ++ tree ∷ []))
joins_more n ms m width next ts tree j s h = record {
  width = omega (arith, h, j.width, sizes-append ms m);
  size = λ r f.
      let both = named-append (IsWide n r) ts tree f in
      let some = j.size r both.0 in
      let own = s.size r both.1 in
      omega (arith, h, some, own, total-append r ts tree);
  value = λ r f.
      let both = named-append (IsWide n r) ts tree f in
      joined-append r ts tree ∙ (λ k. own_digits n m tree s r both.1 k ++ j.value r both.0 k) ∙ sym (values-append ms m (values_of r));
}

-- ---- concatenations

module _ (n : Names) (ms : List Meaning) (shape : Shape) (ts : core.Expressions Text) (j : JoinsIn n ms shape.width ts) (plain : shape.signed ≡ false) where
  length-joins : (r : Registers) → AllNamedIn (IsWide n r) ts → length (joined_digits ms (values_of r)) ≡ shape.width
  length-joins r f = sym (ap length (j.value r f)) ∙ length_joined r.widths r.store (all_resolved r.declared ts) ∙ j.size r f

  pub typed_concatenation : IsTyped n (meaning.concatenation ms) shape (core.Concat ts)
  typed_concatenation =
      typed_alone n (meaning.concatenation ms) (joined_digits ms) shape (core.Concat ts) j.width plain (λ values s. refl) (record { whole = λ change. refl; kept = λ w. refl })
      j.size (λ r f asked. ap (resize asked) (j.value r f)) length-joins

-- an operand on its own, with a sign or without one
pub typed_converted : (n : Names) (m : Meaning) (signed : Bool) (shape : Shape) (tree : core.Expression Text) → shape.width ≡ m.size → shape.signed ≡ signed
    → IsSelfDetermined n m tree → IsTyped n (alone_meaning m.size signed (self_determined_value m)) shape (core.Concat (core.Also tree core.Nothing))
typed_converted n m signed shape tree width sign s =
    typed_alone n (alone_meaning m.size signed (self_determined_value m)) (self_determined_value m) shape (core.Concat (core.Also tree core.Nothing)) width sign (λ values a. refl) (record { whole = λ change. refl; kept = λ w. refl })
    (λ r f. let own = s.size r f.0 in omega (arith, own, width))
    (λ r f asked. ap (λ v. resize asked ([] ++ v)) (own_digits n m tree s r f.0))
    (λ r f. sym (ap length (s.value r f.0)) ∙ length_eval r.widths r.store m.size (resolved r.declared tree) ∙ sym width)

-- ---- replications

repeated-turned : (k : ℕ) (v : Vector) → repeated k v ++ v ≡ v ++ repeated k v
repeated-turned zero v = sym (append-nil v)
repeated-turned (suc k) v = append_assoc v (repeated k v) v ∙ ap (λ u. v ++ u) (repeated-turned k v)

total-copies : (r : Registers) (k : ℕ) (tree : core.Expression Text) → total_in r (copies_of k tree) ≡ k * size_in r tree
total-copies r zero tree = omega arith
total-copies r (suc k) tree = omega (arith, total-copies r k tree)

joined-copies : (r : Registers) (k : ℕ) (tree : core.Expression Text) → joined_in r (copies_of k tree) ≡ repeated k (tree_value r (size_in r tree) tree)
joined-copies r zero tree = refl
joined-copies r (suc k) tree =
    ap (λ v. v ++ tree_value r (size_in r tree) tree) (joined-copies r k tree) ∙ repeated-turned k (tree_value r (size_in r tree) tree)

length-repeated : (k w : ℕ) (v : Vector) → length v ≡ w → length (repeated k v) ≡ k * w
length-repeated zero w v h = omega arith
length-repeated (suc k) w v h = omega (arith, length-append v (repeated k v), length-repeated k w v h, h)

-- one digit extended by its sign is that digit so many times
repeat_digit : (d : Digit) (n k : ℕ) → k ≤ n → take k (replicate n d) ≡ repeated k (d ∷ [])
repeat_digit d n zero h = refl
repeat_digit d zero (suc k) h = absurd (omega (arith, h))
repeat_digit d (suc n) (suc k) h = ap (λ v. d ∷ v) (repeat_digit d n k (omega (arith, h)))

extended_digit : (v : Vector) (k : ℕ) → length v ≡ 1 → extend_vector Sign k v ≡ repeated k v
extended_digit [] k h = absurd (omega (arith, h))
extended_digit (d ∷ []) k h = repeat_digit d (suc k) k (omega arith)
extended_digit (d ∷ e ∷ v) k h = absurd (omega (arith, h))

module _ (n : Names) (c : Meaning) (ms : List Meaning) (own times : ℕ) (shape : Shape) (ts : core.Expressions Text)
    (j : JoinsIn n ms own ts) (counted : replication_count (constant_integer c) ≡ times) (wide : shape.width ≡ own * times) (some : 1 ≤ times) (plain : shape.signed ≡ false) where
  -- the digits of all parts together
  whole_size : (r : Registers) → AllNamedIn (IsWide n r) ts → size_in r (core.Concat ts) ≡ own
  whole_size r f = j.size r f

  whole_value : (r : Registers) → AllNamedIn (IsWide n r) ts → tree_value r (size_in r (core.Concat ts)) (core.Concat ts) ≡ joined_digits ms (values_of r)
  whole_value r f =
      resize_same (size_in r (core.Concat ts)) (model.joined r.widths r.store (all_resolved r.declared ts)) (length_joined r.widths r.store (all_resolved r.declared ts)) ∙ j.value r f

  whole_length : (r : Registers) → AllNamedIn (IsWide n r) ts → length (joined_digits ms (values_of r)) ≡ own
  whole_length r f = sym (ap length (j.value r f)) ∙ length_joined r.widths r.store (all_resolved r.declared ts) ∙ j.size r f

  size_is : shape.width ≡ (meaning.replication c ms).size
  size_is =
      let turned : own * times ≡ times * own = omega arith in
      wide ∙ turned ∙ (λ k. sym counted k * j.width k)

  -- the digits so many times
  repeated_is : (values : Values) → repeated times (joined_digits ms values) ≡ repeated (replication_count (constant_integer c)) (joined_digits ms values)
  repeated_is values = ap (λ k. repeated k (joined_digits ms values)) (sym counted)

  long : (r : Registers) → AllNamedIn (IsWide n r) ts → length (repeated (replication_count (constant_integer c)) (joined_digits ms (values_of r))) ≡ shape.width
  long r f =
      let turned : times * own ≡ own * times = omega arith in
      sym (ap length (repeated_is (values_of r))) ∙ length-repeated times own (joined_digits ms (values_of r)) (whole_length r f) ∙ turned ∙ sym wide

  one_digit_repeated : own ≡ 1 → IsTyped n (meaning.replication c ms) shape (core.Extend Sign times (core.Concat ts))
  one_digit_repeated h =
      typed_alone n (meaning.replication c ms) (λ values. repeated (replication_count (constant_integer c)) (joined_digits ms values)) shape (core.Extend Sign times (core.Concat ts))
      size_is plain (λ values s. refl) (record { whole = λ change. refl; kept = λ w. refl })
      (λ r f. let once : times ≡ 1 * times = omega arith in once ∙ ap (λ k. k * times) (sym h) ∙ sym wide)
      (λ r f asked.
      ap (λ v. resize asked (extend_vector Sign times v)) (whole_value r f)
      ∙ ap (resize asked) (extended_digit (joined_digits ms (values_of r)) times (whole_length r f ∙ h) ∙ repeated_is (values_of r)))
      long

  several_repeated : (k : ℕ) → times ≡ suc k → IsTyped n (meaning.replication c ms) shape (core.Concat (parts (copies_of (suc k) (core.Concat ts))))
  several_repeated k h =
      typed_alone n (meaning.replication c ms) (λ values. repeated (replication_count (constant_integer c)) (joined_digits ms values)) shape (core.Concat (parts (copies_of (suc k) (core.Concat ts))))
      size_is plain (λ values s. refl) (record { whole = λ change. refl; kept = λ w. refl })
      (λ r f.
      let turned : suc k * own ≡ own * suc k = omega arith in
      total-copies r (suc k) (core.Concat ts) ∙ ap (λ a. suc k * a) (whole_size r f.0) ∙ turned ∙ ap (λ a. own * a) (sym h) ∙ sym wide)
      (λ r f asked.
      ap (resize asked)
      (joined-copies r (suc k) (core.Concat ts) ∙ ap (repeated (suc k)) (whole_value r f.0)
      ∙ ap (λ a. repeated a (joined_digits ms (values_of r))) (sym h) ∙ repeated_is (values_of r)))
      (λ r f. long r f.0)

  by_width : (b : Bool) → (own == 1) ≡ b
      → IsTyped n (meaning.replication c ms) shape (if b then core.Extend Sign times (core.Concat ts) else core.Concat (core.Also (core.Concat ts) (parts (copies_of (times - 1) (core.Concat ts)))))
  by_width true h = one_digit_repeated (eqb-true own 1 h)
  by_width false h = several_repeated (times - 1) (omega (arith, some))

  pub typed_replication : IsTyped n (meaning.replication c ms) shape (repeated_tree own times (core.Concat ts))
  typed_replication = by_width (own == 1) refl

-- ---- told by equations

pub made_one : (n : Names) (m : Meaning) (width : ℕ) (tree : core.Expression Text) (ts : core.Expressions Text) → width ≡ m.size → IsSelfDetermined n m tree
    → ts ≡ core.Also tree core.Nothing → JoinsIn n (m ∷ []) width ts
made_one n m width tree ts h s e = subst (JoinsIn n (m ∷ []) width) (sym e) (joins_one n m width tree h s)

pub made_concatenation : (n : Names) (ms : List Meaning) (width : ℕ) (shape : Shape) (ts : core.Expressions Text) (tree : core.Expression Text) → JoinsIn n ms width ts
    → shape.width ≡ width → shape.signed ≡ false → tree ≡ core.Concat ts → IsTyped n (meaning.concatenation ms) shape tree
made_concatenation n ms width shape ts tree j wide plain e =
    subst (IsTyped n (meaning.concatenation ms) shape) (sym e)
    (typed_concatenation n ms shape ts (subst (λ (k : ℕ). JoinsIn n ms k ts) (sym wide) j) plain)

pub made_converted : (n : Names) (m : Meaning) (signed : Bool) (shape : Shape) (operand tree : core.Expression Text) → IsSelfDetermined n m operand → shape.width ≡ m.size
    → shape.signed ≡ signed → tree ≡ core.Concat (core.Also operand core.Nothing) → IsTyped n (alone_meaning m.size signed (self_determined_value m)) shape tree
made_converted n m signed shape operand tree s width sign e =
    subst (IsTyped n (alone_meaning m.size signed (self_determined_value m)) shape) (sym e) (typed_converted n m signed shape operand width sign s)

pub made_replication : (n : Names) (c : Meaning) (ms : List Meaning) (own times : ℕ) (shape : Shape) (ts : core.Expressions Text) (inner tree : core.Expression Text) → JoinsIn n ms own ts
    → replication_count (constant_integer c) ≡ times → shape.width ≡ own * times → 1 ≤ times → shape.signed ≡ false → inner ≡ core.Concat ts → tree ≡ repeated_tree own times inner
    → IsTyped n (meaning.replication c ms) shape tree
made_replication n c ms own times shape ts inner tree j counted wide some plain i e =
    subst (IsTyped n (meaning.replication c ms) shape) (sym (e ∙ ap (repeated_tree own times) i)) (typed_replication n c ms own times shape ts j counted wide some plain)

-- one copy more
copies-push : (k : ℕ) (t : core.Expression Text) → copies_of k t ++ t ∷ [] ≡ copies_of (suc k) t
copies-push zero t = refl
copies-push (suc k) t = ap (λ ts. t ∷ ts) (copies-push k t)

pub one_copy : (j k : ℕ) (t s : core.Expression Text) (made : List (core.Expression Text)) → made ≡ copies_of j t → s ≡ t → k ≡ suc j → made ++ s ∷ [] ≡ copies_of k t
one_copy j k t s made h e is = (λ i. h i ++ e i ∷ []) ∙ copies-push j t ∙ ap (λ n. copies_of n t) (sym is)

pub repeated_digit : (own times : ℕ) (t made : core.Expression Text) → own ≡ 1 → made ≡ core.Extend Sign times t → made ≡ repeated_tree own times t
repeated_digit own times t made one e = e ∙ ap (λ k. repeated_tree k times t) (sym one)

several_by : (b : Bool) (own times : ℕ) (t made : core.Expression Text) (copies : List (core.Expression Text)) → (own == 1) ≡ b → own ≢ 1
    → made ≡ core.Concat (core.Also t (parts copies)) → copies ≡ copies_of (times - 1) t
    → made ≡ (if b then core.Extend Sign times t else core.Concat (core.Also t (parts (copies_of (times - 1) t))))
several_by true own times t made copies h ne e is = absurd (ne (eqb-true own 1 h))
several_by false own times t made copies h ne e is = e ∙ ap (λ ts. core.Concat (core.Also t (parts ts))) is

pub repeated_several : (own times : ℕ) (t made : core.Expression Text) (copies : List (core.Expression Text)) → own ≢ 1
    → made ≡ core.Concat (core.Also t (parts copies)) → copies ≡ copies_of (times - 1) t → made ≡ repeated_tree own times t
repeated_several own times t made copies ne e is = several_by (own == 1) own times t made copies refl ne e is

-- one part more
pub made_more : (n : Names) (ms : List Meaning) (m : Meaning) (shape : Shape) (tree : core.Expression Text) (width next : ℕ) (first : program.SourceExpression)
    (others behind : List program.SourceExpression) (t : program.SourceExpression)
    → JoinsIn n ms width (core.Also (source_expression_of first) (source_expressions (map source_expression_of others)))
    → IsTyped n m shape tree → IsSelfDetermined n m (source_expression_of t) → next ≡ width + shape.width → behind ≡ others ++ t ∷ []
    → JoinsIn n (ms ++ m ∷ []) next (core.Also (source_expression_of first) (source_expressions (map source_expression_of behind)))
made_more n ms m shape tree width next first others behind t j h s e is =
    let trees : map source_expression_of behind ≡ map source_expression_of others ++ source_expression_of t ∷ [] =
    ap (map source_expression_of) is ∙ map-append source_expression_of others (t ∷ []) in
    subst (λ ts. JoinsIn n (ms ++ m ∷ []) next (core.Also (source_expression_of first) (source_expressions ts))) (sym trees)
    (joins_more n ms m width next (source_expression_of first ∷ map source_expression_of others) (source_expression_of t) j s (e ∙ ap (λ k. width + k) h.size))

-- how often a replication has its parts
pub counted_is : (c : Option ℤ) (z : ℤ) (k : ℕ) → c ≡ Some z → z ≡ pos k → replication_count c ≡ k
counted_is c z k e h = ap replication_count e ∙ ap natural h
