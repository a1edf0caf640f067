use Rattle.std.proofs.Common.{rules, ◌≡◌, [], subst}
use Rattle.std.specs.Prelude.{IsTrue}
use Rattle.regions.specs.Queue.{core_of, state_of}
use Rattle.regions.specs.Regions.{IsFirstRegion}
use Rattle.regions.proofs.FirstRegions.{only_first, quiet_none}
use Rattle.regions.proofs.queue.Queue.is_first.Goals as goal

pub returns-in-Some : goal.returns-in-Some
returns-in-Some c =
    let s = state_of (λ _. []) [] (core_of c.args.self.now) in
    let same : IsTrue c.eq.result → c.in-Some.first ≡ c.args.region = search rules in
    let tells : c.in-Some.first ≡ c.args.region → IsTrue c.eq.result = search rules in
    ((λ t. subst (IsFirstRegion s) (same t) c.in-Some.ensures), (λ h. tells (only_first s c.in-Some.first c.args.region c.in-Some.ensures h)))

pub returns-in-None : goal.returns-in-None
returns-in-None c =
    let s = state_of (λ _. []) [] (core_of c.args.self.now) in
    ((λ t. cc), (λ h. absurd (quiet_none s c.args.region c.in-None.ensures h)))
