-- Lists whose masks have no bit in common have no number in common.
use Rattle.std.proofs.Common.{◌∙◌, sym}
use Rattle.model.specs.Turns.{contains}
use Rattle.certificates.proofs.Masks.{none_in_both}
use Rattle.certificates.proofs.numbers.Masked+u32.meets.Goals as goal

pub returns-else-may_meet : goal.returns-else-may_meet
returns-else-may_meet c =
    let xs = c.args.self.now in
    let ys = c.args.others.now in
    c.if-may_meet.false
    ∙ sym (none_in_both xs ys (c.may_meet.ensures (contains xs) (contains ys) c.mask.ensures c.mask-2.ensures c.if-may_meet.false))
