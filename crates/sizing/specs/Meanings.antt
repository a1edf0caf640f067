-- What an expression means: its size (IEEE 1364-2005, 5.4.1, table 5-22), its sign (5.5.1), and its value in a context of a size and a
-- sign (5.5.2), from what its operands mean.
use Rattle.std.specs.Prelude.{ℕ, zero, suc, ◌+◌, ◌*◌, max, Bool, true, false, not, ◌&&◌, List, [], ◌∷◌, ◌++◌, length, Option, Some, None, option_and_then, ℤ, if◌then◌else◌, codes}
use Rattle.std.specs.Str.{bytes_eq}
use Rattle.logic4.specs.declared.digit.Digit.{Digit}
use Rattle.logic4.specs.declared.digit.Digit.TheVariants.{Zero, One, X}
use Rattle.logic4.specs.declared.digit.Extension.TheVariants.{Sign}
use Rattle.logic4.specs.Vector.{Vector, is_known_digit, vector, resize, unknown}
use Rattle.logic4.specs.Extensions.{sign_digit, extend_vector}
use Rattle.logic4.specs.Signed.{signed_lt_vector, signed_le_vector}
use Rattle.logic4.specs.Operators.{each_pair, not_digit, not_vector, and_vector, or_vector, xor_vector, reduce_and, reduce_or, reduce_xor, add_vector, sub_vector, lt_vector, le_vector, eq_vector, ne_vector, case_eq_vector, case_ne_vector, shl_vector, shr_vector, concat_vector, truth, logical_not, logical_and, logical_or, conditional}
use Rattle.syntax_tree.specs.Expressions.{Expression, Expressions, Number, Real, Text, Name, Member, Index, Part, Call, SystemCall, Concatenation, Replication, Unary, Binary, Conditional, Refused, Nothing, Also}
use Rattle.syntax_tree.specs.declared.expressions.VerilogUnaryOperator.{VerilogUnaryOperator}
use Rattle.syntax_tree.specs.declared.expressions.VerilogUnaryOperator.TheVariants as before
use Rattle.syntax_tree.specs.declared.expressions.VerilogBinaryOperator.{VerilogBinaryOperator}
use Rattle.syntax_tree.specs.declared.expressions.VerilogBinaryOperator.TheVariants as between
use Rattle.syntax_tree.specs.declared.expressions.PartForm.{PartForm}
use Rattle.shaped_trees.specs.declared.shape.Shape.{Shape}
use Rattle.shaped_trees.specs.Integers.{integer_of}
use Rattle.shaped_trees.specs.Trees.{Values}
use Rattle.ranges.specs.Ranges.{near, natural, part_width}
use Rattle.sizing.specs.declared.environment.Object.{Object}
use Rattle.sizing.specs.Names.{Names, object_width, object_value}
use Rattle.sizing.specs.Selects.{bit_value, part_value}

-- What an expression means: its own size and sign; its value by the values of the variables, at the size and the sign of what stands
-- around it; the object that it names, if any; and the scope that it names, by the index behind it.
pub record Meaning : Type 0 where
  pub size : ℕ
  pub signed : Bool
  pub value : Values → Shape → Vector
  pub object : Option Object
  pub scope : Option ℤ → Option ℕ

-- the size and the sign that an expression has of its own
abbrev pub own_shape : Meaning → Shape
own_shape m = record { width = m.size; signed = m.signed }

-- the value of a self-determined operand (5.4.1)
abbrev pub self_determined_value : Meaning → Values → Vector
self_determined_value m values = m.value values (own_shape m)

-- no variable has a digit
abbrev pub no_values : Values
no_values name = []

-- the digits of a constant expression, which no variable changes
abbrev pub constant_value : Meaning → Vector
constant_value m = self_determined_value m no_values

-- the number of a constant expression, if it has one
abbrev pub constant_integer : Meaning → Option ℤ
constant_integer m = integer_of m.signed (constant_value m)

-- A value at a size: extended by its sign where what stands around it is signed, else with 0; or cut (5.5.2).
abbrev pub extended_by : Bool → ℕ → Vector → Vector
extended_by false width v = resize width v
extended_by true width v = extend_vector Sign width v

-- a value at a size and a sign
abbrev pub extended : Shape → Vector → Vector
extended s v = extended_by s.signed s.width v

-- an operand whose size and sign come from nothing around it, and which names no scope
abbrev pub alone_meaning : ℕ → Bool → (Values → Vector) → Meaning
alone_meaning size signed v = record {
  size = size;
  signed = signed;
  value = λ values s. extended s (v values);
  object = None;
  scope = λ index. None;
}

-- a number whose most significant digit fills up the size of what stands around it
abbrev pub filled_up : Vector → Meaning
filled_up v = record {
  size = length v;
  signed = false;
  value = λ values s. extend_vector Sign s.width v;
  object = None;
  scope = λ index. None;
}

-- 3.5.1: one without a size and a sign does where that digit is x or z
abbrev pub fills_up : Bool → Bool → Vector → Bool
fills_up sized signed v = not sized && not signed && not (is_known_digit (sign_digit v))

abbrev pub number_by : Bool → Bool → Vector → Meaning
number_by true signed v = filled_up v
number_by false signed v = alone_meaning (length v) signed (λ values. v)

-- a number by whether it has a size and a sign
abbrev pub number_meaning : Bool → Bool → Vector → Meaning
number_meaning sized signed v = number_by (fills_up sized signed v) signed v

-- one digit without a sign
abbrev pub one_digit_meaning : (Values → Digit) → Meaning
one_digit_meaning d = alone_meaning 1 false (λ values. d values ∷ [])

-- what means nothing
abbrev pub nothing : Meaning
nothing = alone_meaning 0 false (λ values. [])

-- the digits of bytes, eight for each, the first byte in the most significant ones (5.2.3)
abbrev pub byte_digits : List ℕ → Vector
byte_digits [] = []
byte_digits (b ∷ bs) = concat_vector (vector 8 b) (byte_digits bs)

-- the digits of a string: the empty one is a byte of 0 (5.2.3.3)
abbrev pub text_digits : List ℕ → Vector
text_digits [] = vector 8 0
text_digits (b ∷ bs) = byte_digits (b ∷ bs)

-- ---- names

-- what a name means, by the object and the scopes that it names
abbrev pub named : (Option ℤ → Option ℕ) → Option Object → Meaning
named scope None = record { size = 0; signed = false; value = λ values s. []; object = None; scope = scope }
named scope (Some o) = record {
  size = object_width o;
  signed = o.signed;
  value = λ values s. extended s (object_value values o);
  object = Some o;
  scope = scope;
}

-- a member of a scope
abbrev pub member : Names → Meaning → List ℕ → Meaning
member n base name =
    named (λ index. option_and_then (λ s. n.scope (Some s) name index) (base.scope None))
    (option_and_then (λ s. n.object (Some s) name) (base.scope None))

-- the scope of an index: one index stands behind a name
abbrev pub scope_of_index : Meaning → Meaning → Option ℤ → Option ℕ
scope_of_index base index None = option_and_then (λ i. base.scope (Some i)) (constant_integer index)
scope_of_index base index (Some i) = None

-- a digit of what an operand names, and one of a scope's copies
abbrev pub bit_of : Option Object → Option ℤ → Values → Vector
bit_of None index values = unknown 1
bit_of (Some o) index values = bit_value values o index

abbrev pub index : Meaning → Meaning → Meaning
index base i = record (alone_meaning 1 false (bit_of base.object (near (constant_integer i)))) { scope = scope_of_index base i }

-- a part of what an operand names
abbrev pub part_of : Option Object → PartForm → Option ℤ → Option ℤ → Values → Vector
part_of None form first second values = unknown (part_width form first second)
part_of (Some o) form first second values = part_value values o form first second

abbrev pub part : PartForm → Meaning → Meaning → Meaning → Meaning
part form base first second =
    alone_meaning (part_width form (near (constant_integer first)) (near (constant_integer second))) false
    (part_of base.object form (near (constant_integer first)) (near (constant_integer second)))

-- ---- concatenations

-- the sum of the sizes
abbrev pub total_size : List Meaning → ℕ
total_size [] = 0
total_size (m ∷ ms) = m.size + total_size ms

-- the digits of the parts, the first part in the most significant ones (5.1.14)
abbrev pub joined_digits : List Meaning → Values → Vector
joined_digits [] values = []
joined_digits (m ∷ ms) values = concat_vector (self_determined_value m values) (joined_digits ms values)

abbrev pub concatenation : List Meaning → Meaning
concatenation ms = alone_meaning (total_size ms) false (joined_digits ms)

-- digits so many times
abbrev pub repeated : ℕ → Vector → Vector
repeated zero v = []
repeated (suc n) v = v ++ repeated n v

-- how often a replication has its parts
abbrev pub replication_count : Option ℤ → ℕ
replication_count None = 0
replication_count (Some z) = natural z

abbrev pub replication : Meaning → List Meaning → Meaning
replication count ms =
    alone_meaning (replication_count (constant_integer count) * total_size ms) false (λ values. repeated (replication_count (constant_integer count)) (joined_digits ms values))

-- ---- operators

-- an operator before a context-determined operand
abbrev pub each_of : (ℕ → Vector → Vector) → Meaning → Meaning
each_of f m = record { size = m.size; signed = m.signed; value = λ values s. f s.width (m.value values s); object = None; scope = λ index. None }

-- 5.1.11, 5.1.9: an operator before a self-determined operand, which gives one digit
abbrev pub reduced : (Vector → Digit) → Meaning → Meaning
reduced f m = one_digit_meaning (λ values. f (self_determined_value m values))

-- 5.1.5: what is subtracted from 0
abbrev pub negated : ℕ → Vector → Vector
negated width v = sub_vector (vector width 0) v

abbrev pub unary : VerilogUnaryOperator → Meaning → Meaning
unary before.Plus m = each_of (λ width v. v) m
unary before.Minus m = each_of negated m
unary before.BitwiseNot m = each_of (λ width v. not_vector v) m
unary before.LogicalNot m = reduced logical_not m
unary before.ReductionAnd m = reduced reduce_and m
unary before.ReductionNand m = reduced (λ v. not_digit (reduce_and v)) m
unary before.ReductionOr m = reduced reduce_or m
unary before.ReductionNor m = reduced (λ v. not_digit (reduce_or v)) m
unary before.ReductionXor m = reduced reduce_xor m
unary before.ReductionXnor m = reduced (λ v. not_digit (reduce_xor v)) m

-- 5.5.1, table 5-22: the greater size, signed where both are
abbrev pub common_shape : Meaning → Meaning → Shape
common_shape m k = record { width = max m.size k.size; signed = m.signed && k.signed }

-- an operator between two context-determined operands
abbrev pub both_of : (Vector → Vector → Vector) → Meaning → Meaning → Meaning
both_of f m k = record {
  size = max m.size k.size;
  signed = m.signed && k.signed;
  value = λ values s. f (m.value values s) (k.value values s);
  object = None;
  scope = λ index. None;
}

-- 5.1.12: the left operand is context-determined, the right one self-determined
abbrev pub shifted : (Vector → Vector → Vector) → Meaning → Meaning → Meaning
shifted f m k = record {
  size = m.size;
  signed = m.signed;
  value = λ values s. f (m.value values s) (self_determined_value k values);
  object = None;
  scope = λ index. None;
}

-- 5.1.7, 5.1.8: the operands at their common size and sign
abbrev pub compared : (Bool → Vector → Vector → Digit) → Meaning → Meaning → Meaning
compared f m k = one_digit_meaning (λ values. f (common_shape m k).signed (m.value values (common_shape m k)) (k.value values (common_shape m k)))

-- 5.1.9: each operand on its own
abbrev pub decided : (Vector → Vector → Digit) → Meaning → Meaning → Meaning
decided f m k = one_digit_meaning (λ values. f (self_determined_value m values) (self_determined_value k values))

-- an order of numbers, with signs where both operands are signed
abbrev pub ordered : (Vector → Vector → Digit) → (Vector → Vector → Digit) → Bool → Vector → Vector → Digit
ordered signed plain true v w = signed v w
ordered signed plain false v w = plain v w

-- table 5-17: 1 where two known digits are the same, x where one isn't known
abbrev pub xnor_digit : Digit → Digit → Digit
xnor_digit Zero Zero = One
xnor_digit Zero One = Zero
xnor_digit One Zero = Zero
xnor_digit One One = One
xnor_digit _ _ = X

-- the operators of this step; no value is said of the others
abbrev pub binary : VerilogBinaryOperator → Meaning → Meaning → Meaning
binary between.LogicalOr m k = decided logical_or m k
binary between.LogicalAnd m k = decided logical_and m k
binary between.BitwiseOr m k = both_of or_vector m k
binary between.BitwiseXor m k = both_of xor_vector m k
binary between.BitwiseXnor m k = both_of (each_pair xnor_digit) m k
binary between.BitwiseAnd m k = both_of and_vector m k
binary between.Equal m k = compared (λ signed. eq_vector) m k
binary between.NotEqual m k = compared (λ signed. ne_vector) m k
binary between.CaseEqual m k = compared (λ signed. case_eq_vector) m k
binary between.CaseNotEqual m k = compared (λ signed. case_ne_vector) m k
binary between.Less m k = compared (ordered signed_lt_vector lt_vector) m k
binary between.LessEqual m k = compared (ordered signed_le_vector le_vector) m k
binary between.Greater m k = compared (ordered (λ v w. signed_lt_vector w v) (λ v w. lt_vector w v)) m k
binary between.GreaterEqual m k = compared (ordered (λ v w. signed_le_vector w v) (λ v w. le_vector w v)) m k
binary between.ShiftLeft m k = shifted shl_vector m k
binary between.ShiftRight m k = shifted shr_vector m k
binary between.ArithmeticShiftLeft m k = shifted shl_vector m k
binary between.Add m k = both_of add_vector m k
binary between.Subtract m k = both_of sub_vector m k
binary _ m k = nothing

-- 5.1.13: the condition is self-determined, the arms are context-determined
abbrev pub chosen_meaning : Meaning → Meaning → Meaning → Meaning
chosen_meaning c m k = record {
  size = max m.size k.size;
  signed = m.signed && k.signed;
  value = λ values s. conditional (truth (self_determined_value c values)) (m.value values s) (k.value values s);
  object = None;
  scope = λ index. None;
}

-- 5.5: `$signed` and `$unsigned` keep the digits of their operand
abbrev pub converted : Bool → List Meaning → Meaning
converted signed (m ∷ []) = alone_meaning m.size signed (self_determined_value m)
converted signed _ = nothing

-- the system functions of this step: the sign that one gives its operand
abbrev pub conversion_of : List ℕ → Option Bool
conversion_of name = if bytes_eq name (codes "$signed") then Some true else (if bytes_eq name (codes "$unsigned") then Some false else None)

abbrev pub system_by : Option Bool → List Meaning → Meaning
system_by None ms = nothing
system_by (Some signed) ms = converted signed ms

-- ---- expressions

abbrev mutual
  -- what an expression means at a place
  pub meaning : Names → Expression → Meaning
  meaning n (Number at sized signed cut v) = number_meaning sized signed v
  meaning n (Real at text) = nothing
  meaning n (Text at bytes) = alone_meaning (length (text_digits bytes)) false (λ values. text_digits bytes)
  meaning n (Name at name) = named (n.scope None name) (n.object None name)
  meaning n (Member at base name) = member n (meaning n base) name
  meaning n (Index at base i) = index (meaning n base) (meaning n i)
  meaning n (Part at form base first second) = part form (meaning n base) (meaning n first) (meaning n second)
  meaning n (Call at function arguments) = named (λ index. None) (n.call at)
  meaning n (SystemCall at name arguments) = system_by (conversion_of name) (meanings n arguments)
  meaning n (Concatenation at parts) = concatenation (meanings n parts)
  meaning n (Replication at count parts) = replication (meaning n count) (meanings n parts)
  meaning n (Unary at op e) = unary op (meaning n e)
  meaning n (Binary at op e f) = binary op (meaning n e) (meaning n f)
  meaning n (Conditional at c e f) = chosen_meaning (meaning n c) (meaning n e) (meaning n f)
  meaning n (Refused at) = nothing

  -- what expressions mean, in their order
  pub meanings : Names → Expressions → List Meaning
  meanings n Nothing = []
  meanings n (Also e es) = meaning n e ∷ meanings n es
