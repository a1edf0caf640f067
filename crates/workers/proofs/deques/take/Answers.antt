use Rattle.std.proofs.Common.{ap, refl}
use Rattle.eventpool.specs.Ends.{Owning}
use Rattle.workers.proofs.Weighing.{got_one, got_own}
use Rattle.workers.proofs.deques.take.Goals as goal

pub returns-in-Some : goal.returns-in-Some
returns-in-Some g c =
    let row = c.args.row.now.items in
    let took = ap (λ (o : Owning _). o.taken) c.in-Some.ensures.taken in record {
      ends = (c.take.ensures.end, refl);
      some = got_one c.args.owner.now c.take.new.self row _ took;
      none = _;
      got = got_own c.args.owner.now c.take.new.self row _ took;
      same = _;
      put = ap (λ (o : Owning _). o.put) c.in-Some.ensures.taken;
    }
