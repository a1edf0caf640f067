-- The visit that was found.
use Rattle.std.proofs.Common.{◌≡◌, ap, sym, subst, ◌∙◌, Some, List, ℕ, ◌&&◌, true, get_or}
use Rattle.std.specs.Prelude.{slice_get, IfSome}
use Rattle.std.proofs.lemmas.List.Quantifiers.{position-Some}
use Rattle.std.proofs.lemmas.Option.{get_or_from_slice_get}
use Rattle.std.proofs.Math.Dec.{eqb}
use Rattle.sharing.specs.Parts.{chunk_table, unshortened}
use Rattle.explore.specs.Visited.{visits}
use Rattle.explore.specs.declared.visited.Visit.{Visit}
use Rattle.explore.proofs.Visits.{visit_at, same_visit}
use Rattle.explore.proofs.visited.Visited.find.Goals as goal

pub returns-in-Some-get_full-clause-there : goal.returns-in-Some-get_full-clause-there
returns-in-Some-get_full-clause-there c =
    let row : Visit = record { text = c.args.text; key = c.in-Some.key } in
    let rows = c.args.self.now.rows.keys in
    let found : Visit = c.in-Some-get_full.field-0-1.now in
    let number = c.in-Some-get_full.number in
    let stored : slice_get rows number ≡ Some found = c.in-Some-get_full.ensures.stored in
    let tested = (position-Some _ rows number found (sym c.in-Some-get_full.ensures.index)).1 in
    let same : row ≡ found =
    same_visit row found
    (ap (λ (v : Visit). eqb row.text v.text && (eqb row.key.number v.key.number && eqb row.key.levels v.key.levels)) (sym (get_or_from_slice_get rows number found found stored)) ∙ tested) in
    let at : slice_get rows number ≡ Some row = stored ∙ ap (λ (v : Visit). Some v) (sym same) in
    let told : unshortened (chunk_table c.find.new.self) c.in-Some.key ≡ c.args.key.now = subst (λ o. IfSome o (λ short. unshortened (chunk_table c.find.new.self) short ≡ c.args.key.now)) c.in-Some.is c.in_ok-key.ensures.told in
    visit_at (chunk_table c.args.self.now.parts) rows number row c.args.key.now at (ap (λ (chunks : List (List ℕ)). unshortened chunks c.in-Some.key) (sym c.in_ok-key.ensures.same) ∙ told)
