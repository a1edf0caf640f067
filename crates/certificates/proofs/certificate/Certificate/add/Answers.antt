-- One note more.
use Rattle.std.proofs.Common.{◌+◌, length, take, sym, ap, subst, arith}
use Rattle.certificates.proofs.Ordering.{ordered_certifies}
use Rattle.certificates.specs.Summaries.{AreSummed}
use Rattle.certificates.proofs.Summaries.{are_summed_more}
use Rattle.certificates.proofs.Adding.{one_added, added_ordered, ordered_before}
use Rattle.certificates.proofs.certificate.Certificate.add.Goals as goal

pub invariant_of-self-2 : goal.invariant_of-self-2
invariant_of-self-2 c =
    let n = c.self.inside.count in
    let xs = c.self.inside.notes.items in
    let ys = c.make_room.new.notes.items in (
      omega (arith, c.exchange.ensures.as_many, c.in_ok-make_room.ensures.room),
      (λ is.
          added_ordered xs ys c.exchange.new.notes.items (take n c.deref.result.now) n c.args.note.now
          (omega (arith, c.in_ok-make_room.ensures.room, c.deref.ensures.len, ap length c.deref.ensures.value)) c.make_room.ensures.same c.exchange.ensures.items
          (ap (λ ns. take n ns) c.deref.ensures.value) (c.self.invariant.1 (c.in_ok-certifies.ensures.before is)) (c.in_ok-certifies.ensures.goes_on is)
          (c.in_ok-certifies.ensures.apart is)),
      (λ ordered.
          let (rest, free, each) =
          ordered_before xs ys c.exchange.new.notes.items (take n c.deref.result.now) n c.args.note.now
          (omega (arith, c.in_ok-make_room.ensures.room, c.deref.ensures.len, ap length c.deref.ensures.value)) c.make_room.ensures.same c.exchange.ensures.items
          (ap (λ ns. take n ns) c.deref.ensures.value) ordered in
          c.in_ok-certifies.ensures.only_so (c.self.invariant.2 rest) free each),
      (λ holds.
          subst (AreSummed c.add.new.self) (sym (one_added xs ys c.exchange.new.notes.items n c.args.note.now
          (omega (arith, c.in_ok-make_room.ensures.room, c.deref.ensures.len, ap length c.deref.ensures.value)) c.make_room.ensures.same c.exchange.ensures.items))
          (are_summed_more c.self.inside.summary c.add.new.self (take n xs) c.args.note.now c.in_ok-add.ensures.more (c.self.invariant.3 (c.in_ok-add.ensures.before holds)) (c.in_ok-add.ensures.summed holds))),
    )

pub returns-clause-certified : goal.returns-clause-certified
returns-clause-certified c =
    λ is.
    let n = c.self.inside.count in
    ordered_certifies (take (n + 1) c.exchange.new.notes.items)
    (added_ordered c.self.inside.notes.items c.make_room.new.notes.items c.exchange.new.notes.items (take n c.deref.result.now) n c.args.note.now
    (omega (arith, c.in_ok-make_room.ensures.room, c.deref.ensures.len, ap length c.deref.ensures.value)) c.make_room.ensures.same c.exchange.ensures.items
    (ap (λ ns. take n ns) c.deref.ensures.value) (c.self.invariant.1 (c.in_ok-certifies.ensures.before is)) (c.in_ok-certifies.ensures.goes_on is)
    (c.in_ok-certifies.ensures.apart is))

pub returns-clause-so : goal.returns-clause-so
returns-clause-so c =
    λ is.
    let n = c.self.inside.count in
    added_ordered c.self.inside.notes.items c.make_room.new.notes.items c.exchange.new.notes.items (take n c.deref.result.now) n c.args.note.now
    (omega (arith, c.in_ok-make_room.ensures.room, c.deref.ensures.len, ap length c.deref.ensures.value)) c.make_room.ensures.same c.exchange.ensures.items
    (ap (λ ns. take n ns) c.deref.ensures.value) (c.self.invariant.1 (c.in_ok-certifies.ensures.before is)) (c.in_ok-certifies.ensures.goes_on is)
    (c.in_ok-certifies.ensures.apart is)

pub returns-clause-only_so : goal.returns-clause-only_so
returns-clause-only_so c =
    λ ordered.
    let n = c.self.inside.count in
    let (rest, free, each) =
    ordered_before c.self.inside.notes.items c.make_room.new.notes.items c.exchange.new.notes.items (take n c.deref.result.now) n c.args.note.now
    (omega (arith, c.in_ok-make_room.ensures.room, c.deref.ensures.len, ap length c.deref.ensures.value)) c.make_room.ensures.same c.exchange.ensures.items
    (ap (λ ns. take n ns) c.deref.ensures.value) ordered in
    c.in_ok-certifies.ensures.only_so (c.self.invariant.2 rest) free each
