use Rattle.std.proofs.Common.{◌∷◌, [], subst, sym, ap, ◌∙◌, refl}
use Rattle.regcells.specs.CellSeats.{last_values, IsOfRegisters}
use Rattle.regcells.proofs.LastValues.{ready_given, values_given}
use Rattle.regcells.proofs.held.HeldStoreStore.set.Goals as goal

pub returns-clause-ready : goal.returns-clause-ready
returns-clause-ready g c =
    let cells = c.args.self.now.cells.now in
    subst (IsOfRegisters cells) (sym c.store.ensures) (ready_given cells c.args.self.now.holder.now c.args.register (c.args.value ∷ []) c.args.value c.requires.ready refl c.requires.width)

pub returns-clause-values : goal.returns-clause-values
returns-clause-values g c =
    ap last_values c.store.ensures ∙ values_given c.args.self.now.holder.now c.args.register (c.args.value ∷ []) c.args.value refl
