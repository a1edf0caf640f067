use Rattle.sizing.proofs.operators.binary.Goals as goal

pub returns-in_ok-decide-in-LogicalOr : goal.returns-in_ok-decide-in-LogicalOr
returns-in_ok-decide-in-LogicalOr c = rw c.in-LogicalOr.is c.in_ok-decide-in-LogicalOr.ensures

pub returns-in_ok-decide-in-LogicalAnd : goal.returns-in_ok-decide-in-LogicalAnd
returns-in_ok-decide-in-LogicalAnd c = rw c.in-LogicalAnd.is c.in_ok-decide-in-LogicalAnd.ensures

pub returns-in_ok-both-in-BitwiseOr : goal.returns-in_ok-both-in-BitwiseOr
returns-in_ok-both-in-BitwiseOr c = rw c.in-BitwiseOr.is c.in_ok-both-in-BitwiseOr.ensures

pub returns-in_ok-both-in-BitwiseXor : goal.returns-in_ok-both-in-BitwiseXor
returns-in_ok-both-in-BitwiseXor c = rw c.in-BitwiseXor.is c.in_ok-both-in-BitwiseXor.ensures

pub returns-in_ok-xnor-in-BitwiseXnor : goal.returns-in_ok-xnor-in-BitwiseXnor
returns-in_ok-xnor-in-BitwiseXnor c = rw c.in-BitwiseXnor.is c.in_ok-xnor-in-BitwiseXnor.ensures

pub returns-in_ok-both-in-BitwiseAnd : goal.returns-in_ok-both-in-BitwiseAnd
returns-in_ok-both-in-BitwiseAnd c = rw c.in-BitwiseAnd.is c.in_ok-both-in-BitwiseAnd.ensures

pub returns-in_ok-equal-in-Equal : goal.returns-in_ok-equal-in-Equal
returns-in_ok-equal-in-Equal c = rw c.in-Equal.is c.in_ok-equal-in-Equal.ensures

pub returns-in_ok-equal-in-NotEqual : goal.returns-in_ok-equal-in-NotEqual
returns-in_ok-equal-in-NotEqual c = rw c.in-NotEqual.is c.in_ok-equal-in-NotEqual.ensures

pub returns-in_ok-equal-in-CaseEqual : goal.returns-in_ok-equal-in-CaseEqual
returns-in_ok-equal-in-CaseEqual c = rw c.in-CaseEqual.is c.in_ok-equal-in-CaseEqual.ensures

pub returns-in_ok-equal-in-CaseNotEqual : goal.returns-in_ok-equal-in-CaseNotEqual
returns-in_ok-equal-in-CaseNotEqual c = rw c.in-CaseNotEqual.is c.in_ok-equal-in-CaseNotEqual.ensures

pub returns-in_ok-less-in-Less : goal.returns-in_ok-less-in-Less
returns-in_ok-less-in-Less c = rw c.in-Less.is c.in_ok-less-in-Less.ensures

pub returns-in_ok-less-in-LessEqual : goal.returns-in_ok-less-in-LessEqual
returns-in_ok-less-in-LessEqual c = rw c.in-LessEqual.is c.in_ok-less-in-LessEqual.ensures

pub returns-in_ok-greater-in-Greater : goal.returns-in_ok-greater-in-Greater
returns-in_ok-greater-in-Greater c = rw c.in-Greater.is c.in_ok-greater-in-Greater.ensures

pub returns-in_ok-greater-in-GreaterEqual : goal.returns-in_ok-greater-in-GreaterEqual
returns-in_ok-greater-in-GreaterEqual c = rw c.in-GreaterEqual.is c.in_ok-greater-in-GreaterEqual.ensures

pub returns-in_ok-shifted-in-ShiftRight : goal.returns-in_ok-shifted-in-ShiftRight
returns-in_ok-shifted-in-ShiftRight c = rw c.in-ShiftRight.is c.in_ok-shifted-in-ShiftRight.ensures

pub returns-in_ok-both-in-Add : goal.returns-in_ok-both-in-Add
returns-in_ok-both-in-Add c = rw c.in-Add.is c.in_ok-both-in-Add.ensures

pub returns-in_ok-both-in-Subtract : goal.returns-in_ok-both-in-Subtract
returns-in_ok-both-in-Subtract c = rw c.in-Subtract.is c.in_ok-both-in-Subtract.ensures

pub returns-in_ok-shifted-in-ShiftLeft : goal.returns-in_ok-shifted-in-ShiftLeft
returns-in_ok-shifted-in-ShiftLeft c = rw c.in-ShiftLeft.is c.in_ok-shifted-in-ShiftLeft.ensures

pub returns-in_ok-shifted-in-ArithmeticShiftLeft : goal.returns-in_ok-shifted-in-ArithmeticShiftLeft
returns-in_ok-shifted-in-ArithmeticShiftLeft c = rw c.in-ArithmeticShiftLeft.is c.in_ok-shifted-in-ArithmeticShiftLeft.ensures
