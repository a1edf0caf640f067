use Rattle.std.proofs.Common.{length, sym, ap, ◌∙◌}
use Rattle.std.specs.Prelude.{slice_get}
use Rattle.regcells.specs.Values.{last_value}
use Rattle.regcells.specs.Passes.{name_of_pass, name_of_register, IsHolding}
use Rattle.regcells.proofs.Lasts.{last_at, same_holding}
use Rattle.regcells.proofs.Tables.{at_index, each_set, same_name, within, width_at, seen_at, set_same}
use Rattle.regcells.proofs.cells.RegCells.get_held.Goals as goal

pub check-requires-clause-register : goal.check-requires-clause-register
check-requires-clause-register g c =
    let h = within c.holder.inside.passes.items _ _ c.args.register c.holder.view_is c.requires.cells c.requires.register in
    same_name name_of_pass name_of_register c.holder.inside.passes.items c.self.inside.registers.items c.args.register _ _
    (ap (λ f. f.cells) c.holder.view_is ∙ c.requires.cells ∙ sym c.self.view_is) h c.index_mut.ensures.value c.index.ensures

pub check-requires-clause-begun : goal.check-requires-clause-begun
check-requires-clause-begun g c =
    let h = within c.holder.inside.passes.items _ _ c.args.register c.holder.view_is c.requires.cells c.requires.register in
    (c.holder.invariant c.args.register _ (at_index _ _ _ h c.index_mut.ensures.value)).begun

pub check-requires-clause-holds : goal.check-requires-clause-holds
check-requires-clause-holds g c =
    let h = within c.holder.inside.passes.items _ _ c.args.register c.holder.view_is c.requires.cells c.requires.register in
    ap (λ v. v.holds) (c.holder.invariant c.args.register _ (at_index _ _ _ h c.index_mut.ensures.value)).all

pub invariant_of-holder : goal.invariant_of-holder
invariant_of-holder g c =
    let h = within c.holder.inside.passes.items _ _ c.args.register c.holder.view_is c.requires.cells c.requires.register in
    let old = c.holder.invariant c.args.register _ (at_index _ _ _ h c.index_mut.ensures.value) in
    each_set IsHolding c.holder.inside.passes.items c.args.register c.check.new.pass c.holder.invariant (same_holding c.index_mut.result.now c.check.new.pass old (c.check.ensures.same ∙ sym old.all))

pub returns-clause-same : goal.returns-clause-same
returns-clause-same g c =
    set_same c.holder.inside.passes.items c.args.holder.now c.args.register c.index_mut.result.now c.check.new.pass c.holder.view_is c.index_mut.ensures.value c.check.ensures.name (ap (λ v. v.seen) c.check.ensures.same)

pub returns-clause-entry : goal.returns-clause-entry
returns-clause-entry g c =
    let h = within c.holder.inside.passes.items _ _ c.args.register c.holder.view_is c.requires.cells c.requires.register in
    ap (λ l. slice_get l c.check.result.version) (seen_at c.holder.inside.passes.items c.args.holder.now c.args.register c.index_mut.result.now c.holder.view_is h c.index_mut.ensures.value) ∙ c.check.ensures.entry

pub returns-clause-version : goal.returns-clause-version
returns-clause-version g c =
    let h = within c.holder.inside.passes.items _ _ c.args.register c.holder.view_is c.requires.cells c.requires.register in
    ap length (seen_at c.holder.inside.passes.items c.args.holder.now c.args.register c.index_mut.result.now c.holder.view_is h c.index_mut.ensures.value) ∙ c.check.ensures.version

pub returns-clause-last : goal.returns-clause-last
returns-clause-last g c =
    let h = within c.holder.inside.passes.items _ _ c.args.register c.holder.view_is c.requires.cells c.requires.register in
    last_at _ c.check.result.version c.check.result.value c.check.ensures.entry c.check.ensures.version
    ∙ sym (ap last_value (seen_at c.holder.inside.passes.items c.args.holder.now c.args.register c.index_mut.result.now c.holder.view_is h c.index_mut.ensures.value))

pub returns-clause-width : goal.returns-clause-width
returns-clause-width g c =
    c.check.ensures.width ∙ sym (width_at c.self.inside.registers.items c.args.self.now c.args.register c.index.result.now c.self.view_is c.requires.register c.index.ensures)
