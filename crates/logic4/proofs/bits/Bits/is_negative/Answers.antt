use Rattle.logic4.specs.declared.digit.Digit.TheVariants.{Zero, One, X, Z}
use Rattle.logic4.proofs.Extended.{sign_test}
use Rattle.logic4.proofs.bits.Bits.is_negative.Goals as goal

pub returns-in-One : goal.returns-in-One
returns-in-One c = sign_test c.args.self _ One c.in-One.ensures c.width.ensures.value

pub returns-in-Zero : goal.returns-in-Zero
returns-in-Zero c = sign_test c.args.self _ Zero c.in-Zero.ensures c.width.ensures.value

pub returns-in-X : goal.returns-in-X
returns-in-X c = sign_test c.args.self _ X c.in-X.ensures c.width.ensures.value

pub returns-in-Z : goal.returns-in-Z
returns-in-Z c = sign_test c.args.self _ Z c.in-Z.ensures c.width.ensures.value
