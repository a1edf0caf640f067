use Rattle.std.proofs.Common.{arith}
use Rattle.logic4.proofs.Bytes.{byte_fits, ones_number}
use Rattle.logic4.proofs.bits.Bits.byte.Goals as goal

pub overflow_cast-result : goal.overflow_cast-result
overflow_cast-result c = omega (arith, byte_fits c.self.invariant c.self.view_is c.requires)

pub returns : goal.returns
returns c = ones_number c.self.invariant c.self.view_is
