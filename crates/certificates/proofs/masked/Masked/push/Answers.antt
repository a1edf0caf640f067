-- The mask has the bit of the new item's number too.
use Rattle.certificates.specs.Masks.{has_number}
use Rattle.certificates.proofs.Masks.{numbers_more}
use Rattle.certificates.proofs.masked.Masked.push.Goals as goal

pub invariant_of-self-2 : goal.invariant_of-self-2
invariant_of-self-2 g c = λ m h.
    let number_of = g.T.Numbered.number_of in
    let xs = c.self.inside.items.items in
    c.insert.ensures (has_number number_of xs) c.self.invariant m
    (numbers_more number_of xs c.push.new.self.items c.args.item c.number-number.result m c.in_ok-push.ensures.items c.number-number.ensures h)
