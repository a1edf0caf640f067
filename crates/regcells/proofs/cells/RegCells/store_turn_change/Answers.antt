use Rattle.std.proofs.Common.{◌≡◌, ℕ, length, sym, ap, ◌∙◌, subst}
use Rattle.std.specs.List.{All}
use Rattle.model.specs.Runs.{values_in}
use Rattle.regcells.specs.Passes.{name_of_pass, name_of_register, IsHolding}
use Rattle.regcells.proofs.Tables.{at_index, each_set, same_name, within, width_at, seen_at, given_one}
use Rattle.regcells.proofs.cells.RegCells.store_turn_change.Goals as goal

pub write-requires-clause-register : goal.write-requires-clause-register
write-requires-clause-register g c =
    let h = within c.holder.inside.passes.items _ _ c.args.turn_change.register c.holder.view_is c.requires.cells c.requires.register in
    same_name name_of_pass name_of_register c.holder.inside.passes.items c.self.inside.registers.items c.args.turn_change.register _ _
    (ap (λ f. f.cells) c.holder.view_is ∙ c.requires.cells ∙ sym c.self.view_is) h c.index_mut.ensures.value c.index.ensures

pub write-requires-clause-holding : goal.write-requires-clause-holding
write-requires-clause-holding g c =
    let h = within c.holder.inside.passes.items _ _ c.args.turn_change.register c.holder.view_is c.requires.cells c.requires.register in
    c.holder.invariant c.args.turn_change.register _ (at_index _ _ _ h c.index_mut.ensures.value)

pub write-requires-clause-widths : goal.write-requires-clause-widths
write-requires-clause-widths g c =
    subst (λ (w : ℕ). All (λ v. length v ≡ w) (values_in c.args.turn_change.register c.args.writes.now))
    (width_at c.self.inside.registers.items c.args.self.now c.args.turn_change.register c.index.result.now c.self.view_is c.requires.register c.index.ensures)
    c.requires.widths

pub write-requires-clause-room : goal.write-requires-clause-room
write-requires-clause-room g c =
    let h = within c.holder.inside.passes.items _ _ c.args.turn_change.register c.holder.view_is c.requires.cells c.requires.register in
    rw (← seen_at c.holder.inside.passes.items c.args.holder.now c.args.turn_change.register c.index_mut.result.now c.holder.view_is h c.index_mut.ensures.value) c.requires.room

pub invariant_of-holder : goal.invariant_of-holder
invariant_of-holder g c =
    each_set IsHolding c.holder.inside.passes.items c.args.turn_change.register c.write.new.pass c.holder.invariant c.write.ensures.holding

pub returns : goal.returns
returns g c =
    let h = within c.holder.inside.passes.items _ _ c.args.turn_change.register c.holder.view_is c.requires.cells c.requires.register in
    given_one c.holder.inside.passes.items c.args.holder.now c.args.turn_change.register c.index_mut.result.now c.write.new.pass (values_in c.args.turn_change.register c.args.writes.now) c.holder.view_is h c.index_mut.ensures.value c.write.ensures.name c.write.ensures.given
