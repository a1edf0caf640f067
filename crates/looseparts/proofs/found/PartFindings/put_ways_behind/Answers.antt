-- Behind the way that takes no step the others stay as they are.
use Rattle.std.proofs.Common.{◌≡◌, List, [], ◌∷◌, sym, subst}
use Rattle.std.specs.Global.{Vec}
use Rattle.loose.specs.declared.transition.LooseTransition.{LooseTransition}
use Rattle.looseparts.specs.PartLaws.{HaveEachBehind}
use Rattle.looseparts.specs.FoundWays.{ways_in}
use Rattle.looseparts.proofs.Waiters.{alone_before}
use Rattle.looseparts.proofs.found.PartFindings.put_ways_behind.Goals as goal

pub returns-then-is_no_step_alone-clause-ways : goal.returns-then-is_no_step_alone-clause-ways
returns-then-is_no_step_alone-clause-ways c =
    let ones = ways_in c.args.self.now.ways.items in
    let alone : ones ≡ [] ∷ [] = subst (λ (l : List (Vec LooseTransition)). ways_in l ≡ [] ∷ []) c.deref.ensures.value (c.is_no_step_alone.ensures c.if-is_no_step_alone.true) in
    subst (λ (v : Vec (Vec LooseTransition)). HaveEachBehind ones (ways_in c.args.others.now.items) (ways_in v.items)) (sym c.swap.ensures.x_after)
    (alone_before ones (ways_in c.args.others.now.items) alone)
