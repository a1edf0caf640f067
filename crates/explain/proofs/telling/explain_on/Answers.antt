-- By the names of the design.
use Rattle.std.proofs.Common.{refl}
use Rattle.explain.specs.declared.telling.ExplanationOptions.{ExplanationOptions}
use Rattle.explain.specs.Wanted.{wanted_registers}
use Rattle.explain.proofs.Ends.{explains_if, explains_fault_if}
use Rattle.explain.proofs.telling.explain_on.Goals as goal

pub returns-clause-told : goal.returns-clause-told
returns-clause-told g c =
    let telling : ExplanationOptions = record { names = record { design = c.args.subject.design; processes = c.args.subject.processes; style = c.args.subject.presentation.style }; presentation = c.args.subject.presentation; registers = c.args.subject.registers } in
    explains_if _ c.args.subject.processes.now c.args.subject.design.now (wanted_registers c.args.subject.registers) c.args.subject.presentation c.args.entries.now (g.W.Write.contents c.args.out.now) (g.W.Write.contents c.explain_entries.new.out) telling (record {
      design_is = refl;
      processes_are = refl;
      registers_are = refl;
      presentation_is = refl;
      style_is = refl;
    }) c.explain_entries.ensures.told

pub returns-clause-stopped : goal.returns-clause-stopped
returns-clause-stopped g c =
    let telling : ExplanationOptions = record { names = record { design = c.args.subject.design; processes = c.args.subject.processes; style = c.args.subject.presentation.style }; presentation = c.args.subject.presentation; registers = c.args.subject.registers } in
    explains_fault_if _ c.args.subject.processes.now c.args.subject.design.now (wanted_registers c.args.subject.registers) c.args.subject.presentation c.args.entries.now (g.W.Write.contents c.args.out.now) (g.W.Write.contents c.explain_entries.new.out) telling (record {
      design_is = refl;
      processes_are = refl;
      registers_are = refl;
      presentation_is = refl;
      style_is = refl;
    }) c.explain_entries.ensures.stopped
