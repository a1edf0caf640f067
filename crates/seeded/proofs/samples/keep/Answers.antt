-- A run that a kept one stands for, and one that is put behind those that are left.
use Rattle.std.proofs.Common.{◌≡◌, ◌⊎◌, ◌∷◌, ◌++◌, [], List, sym, subst}
use Rattle.std.specs.List.{All, AllPairs, Contains}
use Rattle.std.proofs.lemmas.List.Quantifiers.{all_pairs_push}
use Rattle.runs.specs.declared.run.RunRecord.{RunRecord}
use Rattle.runs.specs.Compared.{AreDifferentRuns}
use Rattle.seeded.specs.Samples.{AreStillIn, IsRepresented}
use Rattle.seeded.proofs.Keeping.{all_from_push, still_push, told_push}
use Rattle.seeded.proofs.samples.keep.Goals as goal

pub returns-then-is_told-clause-told : goal.returns-then-is_told-clause-told
returns-then-is_told-clause-told c =
    subst (λ (xs : List RunRecord). IsRepresented xs c.args.run) c.as_slice.ensures.value (c.is_told.ensures.like c.if-is_told.true)

pub returns-clause-apart : goal.returns-clause-apart
returns-clause-apart c =
    subst (λ (xs : List RunRecord). AllPairs AreDifferentRuns xs) (sym c.push_reserved.ensures.items)
    (all_pairs_push AreDifferentRuns c.give_way.new.kept.items c.args.run c.give_way.ensures.apart (λ k d lt. c.give_way.ensures.close k d lt))

pub returns-clause-from : goal.returns-clause-from
returns-clause-from c =
    subst (λ (xs : List RunRecord). All (λ one. Contains c.args.kept.now.items one ⊎ (one ≡ c.args.run)) xs) (sym c.push_reserved.ensures.items)
    (subst (λ (ys : List RunRecord). All (λ one. Contains ys one ⊎ (one ≡ c.args.run)) (c.give_way.new.kept.items ++ c.args.run ∷ [])) c.reserve.ensures.items
    (all_from_push c.reserve.new.self.items c.give_way.new.kept.items c.args.run c.give_way.ensures.from))

pub returns-clause-whole : goal.returns-clause-whole
returns-clause-whole c =
    subst (λ (xs : List RunRecord). AreStillIn c.args.kept.now.items xs) (sym c.push_reserved.ensures.items)
    (still_push c.args.kept.now.items c.give_way.new.kept.items c.args.run
    (subst (λ (ys : List RunRecord). AreStillIn ys c.give_way.new.kept.items) c.reserve.ensures.items c.give_way.ensures.whole))

pub returns-clause-told : goal.returns-clause-told
returns-clause-told c =
    subst (λ (xs : List RunRecord). IsRepresented xs c.args.run) (sym c.push_reserved.ensures.items) (told_push c.give_way.new.kept.items c.args.run)
