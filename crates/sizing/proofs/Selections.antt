-- Trees that stand for objects, and for digits of them.
use Rattle.std.proofs.Common.{◌≡◌, ℕ, zero, suc, ◌+◌, Bool, true, false, not, ◌&&◌, List, [], ◌∷◌, ◌++◌, length, append_assoc, refl, sym, ap, subst, ◌∙◌, arith, Option, Some, None, ℤ, pos, negsuc, ◌+ℤ◌}
use Rattle.std.specs.Prelude.{string_bytes, nat_lt, if◌then◌else◌}
use Rattle.std.proofs.lemmas.List.{length-append}
use Rattle.logic4.specs.declared.digit.Extension.TheVariants.{Sign}
use Rattle.logic4.specs.declared.digit.Digit.{Digit}
use Rattle.logic4.specs.declared.digit.Digit.TheVariants.{X}
use Rattle.logic4.specs.Vector.{Vector, is_known_digit, resize}
use Rattle.logic4.specs.Operators.{select_digit}
use Rattle.logic4.specs.Extensions.{sign_digit, extend_vector}
use Rattle.logic4.proofs.Lengths.{length-unknown}
use Rattle.model.specs.Syntax as core
use Rattle.model.specs.Syntax.{Text}
use Rattle.model.specs.SourceTrees.{source_expressions}
use Rattle.model.specs.Elaboration.{all_resolved}
use Rattle.model.specs.Expressions as model
use Rattle.syntax_tree.specs.declared.expressions.PartForm.{PartForm}
use Rattle.shaped_trees.specs.declared.shape.Shape.{Shape}
use Rattle.ranges.specs.declared.range.VectorRange.{VectorRange}
use Rattle.sizing.specs.declared.environment.ObjectValue.{ObjectValue}
use Rattle.sizing.specs.declared.environment.ObjectValue.TheVariants as worth
use Rattle.sizing.specs.declared.environment.Object.{Object}
use Rattle.shaped_trees.specs.Trees.{Values}
use Rattle.sizing.specs.Names.{Names, IsNamedObject, width_by, value_by, object_width, object_value}
use Rattle.ranges.specs.Ranges.{near, bit_place, part_place, part_width}
use Rattle.sizing.specs.Selects.{digit_at, digit_where, digits_from, digits_at}
use Rattle.sizing.specs.Meanings as meaning
use Rattle.sizing.specs.Meanings.{Meaning, alone_meaning, named, filled_up, fills_up, number_by, number_meaning, constant_integer, bit_of, part_of}
use Rattle.ranges.specs.declared.window.Window.{Window}
use Rattle.ranges.specs.Ranges.{IsWindow}
use Rattle.sizing.specs.Digits.{inner_digit, digit_tree, bit_tree, digit_trees, digits_tree}
use Rattle.shaped_trees.specs.Trees.{Registers, values_of, size_in, tree_value, widened_by}
use Rattle.sizing.specs.Typing.{IsTyped, object_tree}
use Rattle.shaped_trees.proofs.Extension.{resize_same, resize-extended, extended_same}
use Rattle.sizing.proofs.Trees.{IsWhole, typed_alone}

-- ---- literals

pub typed_literal : (n : Names) (signed : Bool) (v : Vector) (shape : Shape) → shape.width ≡ length v → shape.signed ≡ signed
    → IsTyped n (alone_meaning (length v) signed (λ values. v)) shape (core.Literal v)
typed_literal n signed v shape width sign =
    typed_alone n (alone_meaning (length v) signed (λ values. v)) (λ values. v) shape (core.Literal v) width sign (λ values s. refl) (record { whole = λ change. refl; kept = λ w. refl })
    (λ r f. sym width) (λ r f asked. refl) (λ r f. sym width)

-- a number that fills up the size of what stands around it with its most significant digit
filling_at : (r : Registers) (v : Vector) (width : ℕ) → width ≡ length v → (b : Bool) (w : ℕ)
    → tree_value r w (widened_by b w (core.Extend Sign width (core.Literal v))) ≡ extend_vector Sign w v
filling_at r v width is false w = ap (λ u. resize w (extend_vector Sign w u)) (resize_same (length v) v refl) ∙ resize-extended w v
filling_at r v width is true w =
    let own : resize width (extend_vector Sign width (resize (length v) v)) ≡ v =
    ap (λ u. resize width (extend_vector Sign width u)) (resize_same (length v) v refl)
    ∙ ap (λ k. resize k (extend_vector Sign k v)) is ∙ ap (resize (length v)) (extended_same Sign v) ∙ resize_same (length v) v refl in
    ap (λ u. resize w (extend_vector Sign w u)) own ∙ resize-extended w v

pub typed_filling : (n : Names) (v : Vector) (width : ℕ) (shape : Shape) → width ≡ length v → shape.width ≡ length v → shape.signed ≡ false
    → IsTyped n (filled_up v) shape (core.Extend Sign width (core.Literal v))
typed_filling n v width shape is wide plain = record {
  size = wide;
  sign = plain;
  own = λ r f. is ∙ sym wide;
  value = λ r f s. filling_at r v width is s.signed s.width;
}

pub made_filling : (n : Names) (v : Vector) (width : ℕ) (shape : Shape) (inner tree : core.Expression Text) → width ≡ length v → shape.width ≡ length v → shape.signed ≡ false
    → inner ≡ core.Literal v → tree ≡ core.Extend Sign width inner → IsTyped n (filled_up v) shape tree
made_filling n v width shape inner tree is wide plain i e =
    subst (IsTyped n (filled_up v) shape) (sym (e ∙ ap (core.Extend Sign width) i)) (typed_filling n v width shape is wide plain)

-- whether a number fills up a size, told by equations
pub fills_sized : (sized signed : Bool) (v : Vector) → sized ≡ true → false ≡ fills_up sized signed v
fills_sized sized signed v p = ap (λ b. not b && not signed && not (is_known_digit (sign_digit v))) (sym p)

pub fills_signed : (sized signed : Bool) (v : Vector) → sized ≡ false → signed ≡ true → false ≡ fills_up sized signed v
fills_signed sized signed v p q = λ i. not (sym p i) && not (sym q i) && not (is_known_digit (sign_digit v))

pub fills_last : (sized signed : Bool) (v : Vector) (d : Digit) (b : Bool) → sized ≡ false → signed ≡ false → d ≡ sign_digit v → b ≡ not (is_known_digit d)
    → b ≡ fills_up sized signed v
fills_last sized signed v d b p q e h =
    let same : not (is_known_digit (sign_digit v)) ≡ fills_up sized signed v = λ i. not (sym p i) && not (sym q i) && not (is_known_digit (sign_digit v)) in
    h ∙ ap (λ k. not (is_known_digit k)) e ∙ same

-- a number by whether it fills up a size
pub plain_number : (n : Names) (sized signed : Bool) (v : Vector) (shape : Shape) (tree : core.Expression Text) → fills_up sized signed v ≡ false
    → IsTyped n (alone_meaning (length v) signed (λ values. v)) shape tree → IsTyped n (number_meaning sized signed v) shape tree
plain_number n sized signed v shape tree test t = subst (λ (b : Bool). IsTyped n (number_by b signed v) shape tree) (sym test) t

pub filling_number : (n : Names) (sized signed : Bool) (v : Vector) (shape : Shape) (tree : core.Expression Text) → fills_up sized signed v ≡ true
    → IsTyped n (filled_up v) shape tree → IsTyped n (number_meaning sized signed v) shape tree
filling_number n sized signed v shape tree test t = subst (λ (b : Bool). IsTyped n (number_by b signed v) shape tree) (sym test) t

-- ---- whole objects

module _ (n : Names) (scope : Option ℤ → Option ℕ) (o : Object) (is : IsNamedObject n o) (shape : Shape) (width : shape.width ≡ object_width o) (sign : shape.signed ≡ o.signed) where
  typed_by : (v : ObjectValue) → o.value ≡ v → IsTyped n (named scope (Some o)) shape (object_tree v)
  typed_by (worth.Constant d) h =
      typed_alone n (named scope (Some o)) (λ values. object_value values o) shape (core.Literal d) width sign (λ values s. refl) (record { whole = λ change. refl; kept = λ w. refl })
      (λ r f. sym (width ∙ ap (width_by o.range) h))
      (λ r f asked. ap (resize asked) (sym (ap (value_by (values_of r)) h)))
      (λ r f. ap (λ v. length (value_by (values_of r) v)) h ∙ sym (width ∙ ap (width_by o.range) h))
  typed_by (worth.Variable name) h =
      typed_alone n (named scope (Some o)) (λ values. object_value values o) shape (core.Register (string_bytes name)) width sign (λ values s. refl) (record { whole = λ change. refl; kept = λ w. refl })
      (λ r f. f.width o is (name, h, refl) ∙ sym width)
      (λ r f asked. ap (resize asked) (sym (ap (value_by (values_of r)) h)))
      (λ r f. ap (λ v. length (value_by (values_of r) v)) h ∙ f.digits o is (name, h, refl) ∙ sym width)

  pub typed_object : IsTyped n (named scope (Some o)) shape (object_tree o.value)
  typed_object = typed_by o.value refl

-- ---- digits

-- a digit of an object, by whether the object has it
abbrev digit_by : ObjectValue → ℕ → Bool → core.Expression Text
digit_by v k b = if b then inner_digit v k else core.Literal (X ∷ [])

size-digit_by : (r : Registers) (v : ObjectValue) (k : ℕ) (b : Bool) → size_in r (digit_by v k b) ≡ 1
size-digit_by r (worth.Constant d) k true = refl
size-digit_by r (worth.Variable name) k true = refl
size-digit_by r v k false = refl

value-digit_by : (r : Registers) (v : ObjectValue) (k : ℕ) (b : Bool) (asked : ℕ)
    → tree_value r asked (digit_by v k b) ≡ resize asked ((if b then select_digit (value_by (values_of r) v) k else X) ∷ [])
value-digit_by r (worth.Constant d) k true asked = refl
value-digit_by r (worth.Variable name) k true asked = refl
value-digit_by r v k false asked = refl

whole-digit_by : (v : ObjectValue) (k : ℕ) (b : Bool) → IsWhole (digit_by v k b)
whole-digit_by (worth.Constant d) k true = record { whole = λ change. refl; kept = λ w. refl }
whole-digit_by (worth.Variable name) k true = record { whole = λ change. refl; kept = λ w. refl }
whole-digit_by v k false = record { whole = λ change. refl; kept = λ w. refl }

size-digit_tree : (r : Registers) (o : Object) (place : ℤ) → size_in r (digit_tree o place) ≡ 1
size-digit_tree r o (pos k) = size-digit_by r o.value k (nat_lt k (object_width o))
size-digit_tree r o (negsuc k) = refl

value-digit_tree : (r : Registers) (o : Object) (place : ℤ) (asked : ℕ)
    → tree_value r asked (digit_tree o place) ≡ resize asked (digit_at (object_width o) (object_value (values_of r) o) place ∷ [])
value-digit_tree r o (pos k) asked = value-digit_by r o.value k (nat_lt k (object_width o)) asked
value-digit_tree r o (negsuc k) asked = refl

whole-digit_tree : (o : Object) (place : ℤ) → IsWhole (digit_tree o place)
whole-digit_tree o (pos k) = whole-digit_by o.value k (nat_lt k (object_width o))
whole-digit_tree o (negsuc k) = record { whole = λ change. refl; kept = λ w. refl }

-- ---- bits

module _ (n : Names) (o : Object) (base i : Meaning) (range : VectorRange) (index : Option ℤ) (shape : Shape)
    (named_by : base.object ≡ Some o) (ranged : o.range ≡ Some range) (is : index ≡ near (constant_integer i))
    (one : shape.width ≡ 1) (plain : shape.signed ≡ false) where
  -- the digit that the meaning has is the one at the place
  digit_is : (values : Values) → digit_where (object_width o) (object_value values o) (bit_place (Some range) index) ∷ [] ≡ bit_of base.object (near (constant_integer i)) values
  digit_is values =
      ap (λ rs. digit_where (object_width o) (object_value values o) (bit_place rs index) ∷ []) (sym ranged)
      ∙ ap (λ k. digit_where (object_width o) (object_value values o) (bit_place o.range k) ∷ []) is
      ∙ ap (λ b. bit_of b (near (constant_integer i)) values) (sym named_by)

  bit_at : (place : Option ℤ) → bit_place (Some range) index ≡ place → IsTyped n (meaning.index base i) shape (bit_tree o place)
  bit_at None h =
      typed_alone n (meaning.index base i) (bit_of base.object (near (constant_integer i))) shape (core.Literal (X ∷ [])) one plain (λ values s. refl) (record { whole = λ change. refl; kept = λ w. refl })
      (λ r f. sym one)
      (λ r f asked.
      ap (λ p. resize asked (digit_where (object_width o) (object_value (values_of r) o) p ∷ [])) (sym h) ∙ ap (resize asked) (digit_is (values_of r)))
      (λ r f. sym (ap length (digit_is (values_of r))) ∙ sym one)
  bit_at (Some place) h =
      typed_alone n (meaning.index base i) (bit_of base.object (near (constant_integer i))) shape (digit_tree o place) one plain (λ values s. refl) (whole-digit_tree o place)
      (λ r f. size-digit_tree r o place ∙ sym one)
      (λ r f asked.
      value-digit_tree r o place asked
      ∙ ap (λ p. resize asked (digit_where (object_width o) (object_value (values_of r) o) p ∷ [])) (sym h) ∙ ap (resize asked) (digit_is (values_of r)))
      (λ r f. sym (ap length (digit_is (values_of r))) ∙ sym one)

  pub typed_bit : IsTyped n (meaning.index base i) shape (bit_tree o (bit_place (Some range) index))
  typed_bit = bit_at (bit_place (Some range) index) refl

-- ---- parts

size-digit_trees : (r : Registers) (o : Object) (place : ℤ) (width : ℕ) → model.total_size r.widths (all_resolved r.declared (source_expressions (digit_trees o place width))) ≡ width
size-digit_trees r o place zero = refl
size-digit_trees r o place (suc width) = omega (arith, size-digit_tree r o (place +ℤ pos width), size-digit_trees r o place width)

value-digit_trees : (r : Registers) (o : Object) (place : ℤ) (width : ℕ)
    → model.joined r.widths r.store (all_resolved r.declared (source_expressions (digit_trees o place width))) ≡ digits_from (object_width o) (object_value (values_of r) o) place width
value-digit_trees r o place zero = refl
value-digit_trees r o place (suc width) =
    let top : ℤ = place +ℤ pos width in
    let digit : tree_value r (size_in r (digit_tree o top)) (digit_tree o top) ≡ digit_at (object_width o) (object_value (values_of r) o) top ∷ [] =
    ap (λ k. tree_value r k (digit_tree o top)) (size-digit_tree r o top) ∙ value-digit_tree r o top 1 in
    λ k. value-digit_trees r o place width k ++ digit k

length-digits_from : (own : ℕ) (v : Vector) (place : ℤ) (width : ℕ) → length (digits_from own v place width) ≡ width
length-digits_from own v place zero = refl
length-digits_from own v place (suc width) =
    omega (arith, length-append (digits_from own v place width) (digit_at own v (place +ℤ pos width) ∷ []), length-digits_from own v place width)

length-digits_at : (own : ℕ) (v : Vector) (place : Option ℤ) (width : ℕ) → length (digits_at own v place width) ≡ width
length-digits_at own v None width = length-unknown width
length-digits_at own v (Some place) width = length-digits_from own v place width

size-digits_tree : (r : Registers) (o : Object) (place : Option ℤ) (width : ℕ) → size_in r (digits_tree o place width) ≡ width
size-digits_tree r o None width = length-unknown width
size-digits_tree r o (Some place) width = size-digit_trees r o place width

value-digits_tree : (r : Registers) (o : Object) (place : Option ℤ) (width asked : ℕ)
    → tree_value r asked (digits_tree o place width) ≡ resize asked (digits_at (object_width o) (object_value (values_of r) o) place width)
value-digits_tree r o None width asked = refl
value-digits_tree r o (Some place) width asked = ap (resize asked) (value-digit_trees r o place width)

whole-digits_tree : (o : Object) (place : Option ℤ) (width : ℕ) → IsWhole (digits_tree o place width)
whole-digits_tree o None width = record { whole = λ change. refl; kept = λ w. refl }
whole-digits_tree o (Some place) width = record { whole = λ change. refl; kept = λ w. refl }

module _ (n : Names) (o : Object) (form : PartForm) (base low high : Meaning) (range : VectorRange) (first second : Option ℤ) (shape : Shape) (place : Option ℤ)
    (named_by : base.object ≡ Some o) (ranged : o.range ≡ Some range)
    (is_first : first ≡ near (constant_integer low)) (is_second : second ≡ near (constant_integer high))
    (stands : place ≡ part_place form (Some range) first second) (wide : shape.width ≡ part_width form first second) (plain : shape.signed ≡ false) where
  part_is : (values : Values) → digits_at (object_width o) (object_value values o) place shape.width ≡ part_of base.object form (near (constant_integer low)) (near (constant_integer high)) values
  part_is values =
      (λ k. digits_at (object_width o) (object_value values o) (stands k) (wide k))
      ∙ ap (λ rs. digits_at (object_width o) (object_value values o) (part_place form rs first second) (part_width form first second)) (sym ranged)
      ∙ (λ k. digits_at (object_width o) (object_value values o) (part_place form o.range (is_first k) (is_second k)) (part_width form (is_first k) (is_second k)))
      ∙ ap (λ b. part_of b form (near (constant_integer low)) (near (constant_integer high)) values) (sym named_by)

  pub typed_part : IsTyped n (meaning.part form base low high) shape (digits_tree o place shape.width)
  typed_part =
      typed_alone n (meaning.part form base low high) (part_of base.object form (near (constant_integer low)) (near (constant_integer high))) shape
      (digits_tree o place shape.width) (wide ∙ (λ k. part_width form (is_first k) (is_second k))) plain (λ values s. refl) (whole-digits_tree o place shape.width)
      (λ r f. size-digits_tree r o place shape.width)
      (λ r f asked. value-digits_tree r o place shape.width asked ∙ ap (resize asked) (part_is (values_of r)))
      (λ r f. sym (ap length (part_is (values_of r))) ∙ length-digits_at (object_width o) (object_value (values_of r) o) place shape.width)

-- ---- told by equations

pub made_object : (n : Names) (scope : Option ℤ → Option ℕ) (o : Object) (shape : Shape) (tree : core.Expression Text) → IsNamedObject n o
    → shape.width ≡ object_width o → shape.signed ≡ o.signed → tree ≡ object_tree o.value → IsTyped n (named scope (Some o)) shape tree
made_object n scope o shape tree is width sign e = subst (IsTyped n (named scope (Some o)) shape) (sym e) (typed_object n scope o is shape width sign)

pub made_bit : (n : Names) (o : Object) (base i : Meaning) (range : VectorRange) (index : Option ℤ) (shape : Shape) (tree : core.Expression Text)
    → base.object ≡ Some o → o.range ≡ Some range → index ≡ near (constant_integer i) → shape.width ≡ 1 → shape.signed ≡ false
    → tree ≡ bit_tree o (bit_place (Some range) index) → IsTyped n (meaning.index base i) shape tree
made_bit n o base i range index shape tree named_by ranged is one plain e =
    subst (IsTyped n (meaning.index base i) shape) (sym e) (typed_bit n o base i range index shape named_by ranged is one plain)

pub made_part : (n : Names) (o : Object) (form : PartForm) (base low high : Meaning) (range : VectorRange) (first second : Option ℤ) (shape : Shape) (window : Window) (tree : core.Expression Text)
    → base.object ≡ Some o → o.range ≡ Some range → first ≡ near (constant_integer low) → second ≡ near (constant_integer high)
    → IsWindow range form first second window → shape.width ≡ window.width → shape.signed ≡ false
    → tree ≡ digits_tree o window.place window.width → IsTyped n (meaning.part form base low high) shape tree
made_part n o form base low high range first second shape window tree named_by ranged is_first is_second stands wide plain e =
    subst (IsTyped n (meaning.part form base low high) shape) (ap (digits_tree o window.place) wide ∙ sym e)
    (typed_part n o form base low high range first second shape window.place named_by ranged is_first is_second stands.place (wide ∙ stands.width) plain)

-- one digit more, below those that are made
pub digit_more : (o : Object) (place : ℤ) (j k : ℕ) (made whole : List (core.Expression Text)) (t : core.Expression Text) → k ≡ suc j → t ≡ digit_tree o (place +ℤ pos j)
    → made ++ digit_trees o place k ≡ whole → (made ++ t ∷ []) ++ digit_trees o place j ≡ whole
digit_more o place j k made whole t e is h =
    append_assoc made (t ∷ []) (digit_trees o place j) ∙ ap (λ u. made ++ u ∷ digit_trees o place j) is ∙ ap (λ i. made ++ digit_trees o place i) (sym e) ∙ h

-- all digits, from the first one on
pub digits_whole : (o : Object) (place : ℤ) (top width : ℕ) (first made : core.Expression Text) (others : List (core.Expression Text)) → width ≡ suc top
    → first ≡ digit_tree o (place +ℤ pos top) → others ≡ digit_trees o place top → made ≡ core.Concat (core.Also first (source_expressions others))
    → made ≡ digits_tree o (Some place) width
digits_whole o place top width first made others is e h m =
    m ∙ (λ i. core.Concat (core.Also (e i) (source_expressions (h i)))) ∙ ap (λ k. digits_tree o (Some place) k) (sym is)
