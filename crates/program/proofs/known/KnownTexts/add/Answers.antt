use Rattle.std.proofs.Common.{◌≡◌, ◌⊎◌, ℕ, List, subst, sym}
use Rattle.std.specs.List.{All, Contains}
use Rattle.model.specs.declared.entry.Entry.{Entry}
use Rattle.model.specs.declared.end.End.{End}
use Rattle.explore.specs.declared.Shown.{Shown}
use Rattle.explore.specs.Search.{IsShown}
use Rattle.explore.proofs.Shows.{shown_pushed}
use Rattle.program.proofs.Knowing.{each_before, each_pushed}
use Rattle.program.proofs.known.KnownTexts.add.Goals as goal

pub returns-then-is_there-clause-there : goal.returns-then-is_there-clause-there
returns-then-is_there-clause-there c = λ is.
    subst (λ (t : List ℕ). IsShown c.args.self.now.shown.items t c.args.one.end) c.as_slice-2.ensures.value
    (subst (λ (xs : List (Shown Entry End)). IsShown xs c.as_slice-2.result.now c.args.one.end) c.as_slice.ensures.value (c.is_there.ensures.there c.if-is_there.true))

pub returns-clause-there : goal.returns-clause-there
returns-clause-there c = λ is.
    subst (λ (xs : List (Shown Entry End)). IsShown xs c.args.one.text.items c.args.one.end) (sym c.in_ok-push.ensures.items) (shown_pushed c.args.self.now.shown.items c.args.one)

pub returns-then-is_there-clause-each : goal.returns-then-is_there-clause-each
returns-then-is_there-clause-each c = each_before (λ x. x ≡ c.args.one) c.args.self.now.shown.items

pub returns-clause-each : goal.returns-clause-each
returns-clause-each c =
    subst (λ (xs : List (Shown Entry End)). All (λ x. Contains c.args.self.now.shown.items x ⊎ (x ≡ c.args.one)) xs) (sym c.in_ok-push.ensures.items) (each_pushed c.args.self.now.shown.items c.args.one)
