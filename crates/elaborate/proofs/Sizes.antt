-- The sizes of concatenations, and the numbers of arguments.
use Rattle.std.proofs.Common.{◌≡◌, ℕ, ◌+◌, ◌≤◌, nat_lt, List, [], ◌∷◌, map, length, refl, arith}
use Rattle.std.proofs.lemmas.Bool.Decides.{nat_tests}
use Rattle.logic4.specs.Vector.{greatest_width}
use Rattle.model.specs.declared.tree.SourceExpression as program
use Rattle.model.specs.SourceTrees.{source_expression_of, source_expressions}
use Rattle.model.specs.Elaboration.{count_of}
use Rattle.elaborate.specs.FirstFindings.{capped}

-- there are as many arguments as there are
pub count_is : (es : List program.SourceExpression) → count_of (source_expressions (map source_expression_of es)) ≡ length es
count_is [] = refl
count_is (e ∷ es) = omega (arith, count_is es)

-- a size is over the greatest where the capped one is
pub wide_is : (n : ℕ) → nat_lt greatest_width (capped n) ≡ nat_lt greatest_width n
wide_is n = grind (arith, nat_tests)

-- the sum of two sizes, capped, is that of the capped ones
pub sum_is : (m n : ℕ) → capped (capped m + capped n) ≡ capped (m + n)
sum_is m n = grind (arith, nat_tests)

pub wide_sum : (m n : ℕ) → nat_lt greatest_width (capped m + capped n) ≡ nat_lt greatest_width (m + n)
wide_sum m n = grind (arith, nat_tests)

-- one size more
pub more_size : (m n rest : ℕ) → capped (m + (n + rest)) ≡ capped (capped (m + capped n) + rest)
more_size m n rest = grind (arith, nat_tests)

pub capped_small : (n : ℕ) → capped n ≤ greatest_width + 1
capped_small n = grind (arith, nat_tests)
