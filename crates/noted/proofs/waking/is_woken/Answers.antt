-- Nothing is waited for.
use Rattle.std.proofs.Common.{ℕ, [], List, Option, sym, ap, ◌∙◌, arith}
use Rattle.model.specs.Design.{Trigger}
use Rattle.regions.specs.ProcessWaking.{triggers_at}
use Rattle.footprints.specs.Footprints.{matches_any}
use Rattle.footprints.proofs.Waking.{asleep}
use Rattle.noted.proofs.waking.is_woken.Goals as goal

pub returns-in-None-get : goal.returns-in-None-get
returns-in-None-get c =
    sym
    (ap (λ (o : Option ℕ). matches_any (triggers_at c.args.controls.now o) c.args.changes.now) c.in-Some.is
    ∙ ap (λ (ts : List Trigger). matches_any ts c.args.changes.now) (sym (c.in-None-get.ensures.lookup.4 (omega arith) [])) ∙ asleep c.args.changes.now)

pub returns-in-None : goal.returns-in-None
returns-in-None c =
    sym (ap (λ (o : Option ℕ). matches_any (triggers_at c.args.controls.now o) c.args.changes.now) c.in-None.is ∙ asleep c.args.changes.now)
