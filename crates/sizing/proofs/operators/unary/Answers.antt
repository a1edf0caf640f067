use Rattle.sizing.proofs.operators.unary.Goals as goal

pub returns-in-Minus : goal.returns-in-Minus
returns-in-Minus c = rw c.in-Minus.is c.negative.ensures

pub returns-in-BitwiseNot : goal.returns-in-BitwiseNot
returns-in-BitwiseNot c = rw c.in-BitwiseNot.is c.complement.ensures

pub returns-in-LogicalNot : goal.returns-in-LogicalNot
returns-in-LogicalNot c = rw c.in-LogicalNot.is c.reduced.ensures

pub returns-in-ReductionAnd : goal.returns-in-ReductionAnd
returns-in-ReductionAnd c = rw c.in-ReductionAnd.is c.reduced-in-ReductionAnd.ensures

pub returns-in-ReductionNand : goal.returns-in-ReductionNand
returns-in-ReductionNand c = rw c.in-ReductionNand.is c.inverted.ensures

pub returns-in-ReductionOr : goal.returns-in-ReductionOr
returns-in-ReductionOr c = rw c.in-ReductionOr.is c.reduced-in-ReductionOr.ensures

pub returns-in-ReductionNor : goal.returns-in-ReductionNor
returns-in-ReductionNor c = rw c.in-ReductionNor.is c.inverted-in-ReductionNor.ensures

pub returns-in-ReductionXor : goal.returns-in-ReductionXor
returns-in-ReductionXor c = rw c.in-ReductionXor.is c.reduced-in-ReductionXor.ensures

pub returns-in-ReductionXnor : goal.returns-in-ReductionXnor
returns-in-ReductionXnor c = rw c.in-ReductionXnor.is c.inverted-in-ReductionXnor.ensures
