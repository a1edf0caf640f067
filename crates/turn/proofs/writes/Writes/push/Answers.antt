use Rattle.std.proofs.Common.{◌≡◌, ◌∙◌, ℕ, ◌<◌, ◌++◌, ◌∷◌, [], sym, ap, subst, Some, length, arith}
use Rattle.std.specs.Prelude.{slice_get}
use Rattle.logic4.specs.Vector.{Vector}
use Rattle.turn.specs.TurnChanges.{noted, turn_changes_of}
use Rattle.turn.proofs.TurnChanges.{few_changes, turn_changes_of_more}
use Rattle.turn.proofs.writes.Writes.push.Goals as goal

pub note-requires-clause-counts : goal.note-requires-clause-counts
note-requires-clause-counts c = λ place n is.
    let list = c.self.inside.list in
    let few : n.changes < length list.items = few_changes list.items place n (subst (λ l. slice_get l place ≡ Some n) c.self.invariant.all is) in
    omega (arith, few, list.ok.0, c.self.ranges)

pub invariant_of-self-2 : goal.invariant_of-self-2
invariant_of-self-2 c =
    let w : ℕ × Vector = (c.args.register, c.args.value.now) in
    let items : c.push_reserved.new.self.items ≡ c.self.inside.list.items ++ w ∷ [] = c.push_reserved.ensures.items ∙ ap (λ l. l ++ (c.args.register, c.by_words.result) ∷ []) c.reserve.ensures.items ∙ ap (λ v. c.self.inside.list.items ++ (c.args.register, v) ∷ []) c.by_words.ensures in
    let all : c.note.new.turn_changes.items ≡ turn_changes_of (c.self.inside.list.items ++ w ∷ []) =
    c.in_ok-note.ensures.noted ∙ ap (λ l. noted l w) c.self.invariant.all ∙ sym (turn_changes_of_more c.self.inside.list.items w) in
    record {
      all = all ∙ ap turn_changes_of (sym items);
      placed = c.note.ensures.placed;
    }
