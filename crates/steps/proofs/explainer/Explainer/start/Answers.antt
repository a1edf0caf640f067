-- The start.
use Rattle.std.proofs.Common.{length, sym, ◌∙◌, ap, subst, List}
use Rattle.std.proofs.lemmas.List.{length-map}
use Rattle.model.specs.States.{State}
use Rattle.design.specs.Compiled.{Compiled}
use Rattle.regions.specs.Machine.{state_at}
use Rattle.steps.specs.declared.cells.VersionedValue.{VersionedValue}
use Rattle.steps.specs.Cells.{first_cell}
use Rattle.steps.specs.ExplainerStanding.{standing_of, IsSoundState}
use Rattle.steps.proofs.Writes.{values_start, versions_start}
use Rattle.steps.proofs.Effects.{sound_start}
use Rattle.steps.proofs.Notes.{behind_start}
use Rattle.steps.proofs.explainer.Explainer.start.Goals as goal

pub invariant_of-result : goal.invariant_of-result
invariant_of-result c =
    let code = c.args.design.now in
    let m = c.in_ok-machine.machine in
    let sound : IsSoundState code (state_at m) = subst (λ (s : State). IsSoundState code s) (sym c.in_ok-machine.ensures.state) (sound_start code) in
    record {
      registers =
          ap (λ (l : List VersionedValue). length l) c.in_ok-cells.ensures ∙ length-map code.widths first_cell ∙ ap (λ (k : Compiled). length k.widths) (sym c.in_ok-machine.ensures.code);
      sound = subst (λ (k : Compiled). IsSoundState k (state_at m)) (sym c.in_ok-machine.ensures.code) sound;
    }

pub returns-clause-behind : goal.returns-clause-behind
returns-clause-behind c =
    let code = c.args.design.now in
    behind_start (standing_of c.in_ok-machine.machine c.in_ok-cells.cells.items c.new-2.result) code c.in_ok-machine.ensures.code c.in_ok-machine.ensures.state c.in_ok-machine.ensures.lines
    (values_start c.in_ok-cells.cells.items code.widths c.in_ok-cells.ensures) (versions_start c.in_ok-cells.cells.items code.widths c.in_ok-cells.ensures)
