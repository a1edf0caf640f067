-- A number whose bit isn't in the mask is none of them.
use Rattle.std.proofs.Common.{◌∙◌, sym}
use Rattle.model.specs.Turns.{contains}
use Rattle.certificates.proofs.numbers.Masked+u32.contains.Goals as goal

pub returns-else-may_have : goal.returns-else-may_have
returns-else-may_have c =
    c.if-may_have.false ∙ sym (c.may_have.ensures (contains c.args.self.now) c.mask.ensures c.if-may_have.false)
