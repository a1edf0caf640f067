-- One change more.
use Rattle.std.proofs.Common.{◌≡◌, ◌∙◌, ◌+◌, ◌++◌, ◌∷◌, [], Some, List, ap, sym, take, arith}
use Rattle.std.specs.Prelude.{slice_get}
use Rattle.std.proofs.lemmas.List.{take_more}
use Rattle.steps.specs.declared.entry_account.Changed.{Changed}
use Rattle.differences.proofs.Given.{noted_more}
use Rattle.differences.proofs.followed_run.note_changes.Goals as goal

pub loop-change-preserved : goal.loop-change-preserved
loop-change-preserved c =
    let changes : List Changed = c.args.changes.now in
    let at = c.loop-change.change-index in
    let change : Changed = c.change-item.result in
    let more : take (at + 1) changes ≡ take at changes ++ change ∷ [] =
    take_more changes at change c.loop-change-test.true ∙ ap (λ (x : Changed). take at changes ++ x ∷ []) (sym c.change-item.is) in
    record {
      registers = c.note_giver.ensures.registers ∙ c.loop-change.invariant.registers;
      noted = λ r less.
          noted_more changes at change r (Some (Some c.args.giver)) (slice_get c.args.givers.now.items r) (slice_get c.loop-change.givers.items r) (slice_get c.note_giver.new.givers.items r) more
          (c.loop-change.invariant.noted r less) (c.note_giver.ensures.noted r (omega (arith, less, c.loop-change.invariant.registers)));
    }
