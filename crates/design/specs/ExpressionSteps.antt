-- The steps of an expression on a stack of vectors.
use Rattle.std.specs.Prelude.{◌≡◌, ℕ, ◌<◌, nat_le, ◌&&◌, if◌then◌else◌, List, [], ◌∷◌, ◌++◌, length, slice_range}
use Rattle.logic4.specs.Vector.{Vector, resize, unknown}
use Rattle.logic4.specs.Operators.{select_digit}
use Rattle.logic4.specs.Extensions.{extend_vector}
use Rattle.model.specs.Expressions.{Store, value_of, unary_value, one_digit}
use Rattle.design.specs.declared.code.Op.{Op}
use Rattle.design.specs.declared.code.Op.TheVariants.{Load, Pick, Constant, Unary, Binary, BinaryConstant, BinaryRegister, Join, Resize, Extend, Choose}
use Rattle.design.specs.declared.code.Span.{Span}
use Rattle.design.specs.Operate.{combined, joined_two, chosen}

-- the topmost vector, or one x digit where there is none
abbrev pub topmost : List Vector → Vector
topmost [] = unknown 1
topmost (v ∷ st) = v

-- the vectors below the topmost one
abbrev pub below : List Vector → List Vector
below [] = []
below (v ∷ st) = st

-- one step, over the values of the registers
abbrev pub act : Store → Op → List Vector → List Vector
act values (Load r size) st = resize size (value_of values r) ∷ st
act values (Pick r i size) st = one_digit size (select_digit (value_of values r) i) ∷ st
act values (Constant v) st = v ∷ st
act values (Unary op asked) st = unary_value op asked (topmost st) ∷ below st
act values (Binary op size asked) st = combined op size asked (topmost (below st)) (topmost st) ∷ below (below st)
act values (BinaryConstant op size asked v) st = combined op size asked (topmost st) v ∷ below st
act values (BinaryRegister op size asked r other) st = combined op size asked (topmost st) (resize other (value_of values r)) ∷ below st
act values Join st = joined_two (topmost (below st)) (topmost st) ∷ below (below st)
act values (Resize size) st = resize size (topmost st) ∷ below st
act values (Extend by size asked) st = resize asked (extend_vector by size (topmost st)) ∷ below st
act values (Choose size) st =
    chosen size (topmost (below (below st))) (topmost (below st)) (topmost st) ∷ below (below (below st))

-- the steps one after another
abbrev pub run_ops : Store → List Op → List Vector → List Vector
run_ops values [] st = st
run_ops values (op ∷ ops) st = run_ops values ops (act values op st)

-- the register that a step reads, if it reads one
abbrev pub reads_of : Op → List ℕ
reads_of (Load r size) = r ∷ []
reads_of (Pick r i size) = r ∷ []
reads_of (BinaryRegister op size asked r other) = r ∷ []
reads_of op = []

-- the registers that the steps read, in their order
abbrev pub all_reads : List Op → List ℕ
all_reads [] = []
all_reads (op ∷ ops) = reads_of op ++ all_reads ops

-- a step reads a declared register, if it reads one
abbrev pub IsOpOf : ℕ → Op → Type 0
IsOpOf n (Load r size) = r < n
IsOpOf n (Pick r i size) = r < n
IsOpOf n (BinaryRegister op size asked r other) = r < n
IsOpOf n op = Unit {0}

-- these steps leave this value on any stack, and read these registers in this order
pub record Computes (ops : List Op) (value : Store → Vector) (reads : List ℕ) : Type 0 where
  pub gives : (values : Store) (st : List Vector) → topmost (run_ops values ops st) ≡ value values
  pub uses : all_reads ops ≡ reads

-- a part of a list, or nothing where it isn't there
abbrev pub span_of : {A : Type 0} → List A → Span → List A
span_of xs span = if nat_le span.from span.to && nat_le span.to (length xs) then slice_range xs span.from span.to else []
