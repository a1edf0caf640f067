-- The journal that was left to read.
use Rattle.std.proofs.Common.{List, OnOk, subst}
use Rattle.model.specs.declared.entry.Entry.{Entry}
use Rattle.explain.specs.ExplainedText.{Explains, ExplainsFault}
use Rattle.explain.specs.Explained.{IfExplainReplay}
use Rattle.explain.specs.Wanted.{wanted_registers}
use Rattle.explain.proofs.Ends.{no_read_if, begun_if, text_if, text_fault_if, lawful_if, replay_if}
use Rattle.explain.proofs.telling.explain.Goals as goal

pub returns-clause-lawful : goal.returns-clause-lawful
returns-clause-lawful g c =
    lawful_if _ c.args.subject.processes.now c.args.subject.design.now (wanted_registers c.args.subject.registers) c.args.subject.presentation c.in-Ok.entries.items _ (g.W.Write.contents c.args.out.now) (g.W.Write.contents c.explain_on.new.out)
    c.in-Ok.ensures.journal
    (subst (λ (es : List Entry). OnOk c.explain_on.result (Explains c.args.subject.processes.now c.args.subject.design.now (wanted_registers c.args.subject.registers) c.args.subject.presentation es (g.W.Write.contents c.args.out.now) (g.W.Write.contents c.explain_on.new.out)))
    c.deref.ensures.value c.explain_on.ensures.told)

pub returns-clause-told : goal.returns-clause-told
returns-clause-told g c =
    text_if _ c.args.subject.processes.now c.args.subject.design.now (wanted_registers c.args.subject.registers) c.args.subject.presentation c.in-Ok.entries.items _ (g.W.Write.contents c.args.out.now) (g.W.Write.contents c.explain_on.new.out)
    c.in-Ok.ensures.journal
    (subst (λ (es : List Entry). OnOk c.explain_on.result (Explains c.args.subject.processes.now c.args.subject.design.now (wanted_registers c.args.subject.registers) c.args.subject.presentation es (g.W.Write.contents c.args.out.now) (g.W.Write.contents c.explain_on.new.out)))
    c.deref.ensures.value c.explain_on.ensures.told)

pub returns-clause-stopped : goal.returns-clause-stopped
returns-clause-stopped g c =
    text_fault_if _ c.args.subject.processes.now c.args.subject.design.now (wanted_registers c.args.subject.registers) c.args.subject.presentation c.in-Ok.entries.items _ (g.W.Write.contents c.args.out.now) (g.W.Write.contents c.explain_on.new.out)
    c.in-Ok.ensures.journal
    (subst (λ (es : List Entry). IfExplainReplay c.explain_on.result (ExplainsFault c.args.subject.processes.now c.args.subject.design.now (wanted_registers c.args.subject.registers) c.args.subject.presentation es (g.W.Write.contents c.args.out.now) (g.W.Write.contents c.explain_on.new.out)))
    c.deref.ensures.value c.explain_on.ensures.stopped)

pub returns-clause-read : goal.returns-clause-read
returns-clause-read g c = no_read_if _ _ c.explain_on.ensures.own

pub returns-clause-replay : goal.returns-clause-replay
returns-clause-replay g c =
    replay_if _ c.args.subject.processes.now c.args.subject.design.now (wanted_registers c.args.subject.registers) c.args.subject.presentation c.in-Ok.entries.items _ (g.W.Write.contents c.args.out.now) (g.W.Write.contents c.explain_on.new.out)
    c.in-Ok.ensures.journal
    (subst (λ (es : List Entry). IfExplainReplay c.explain_on.result (ExplainsFault c.args.subject.processes.now c.args.subject.design.now (wanted_registers c.args.subject.registers) c.args.subject.presentation es (g.W.Write.contents c.args.out.now) (g.W.Write.contents c.explain_on.new.out)))
    c.deref.ensures.value c.explain_on.ensures.stopped)

pub returns-clause-nothing : goal.returns-clause-nothing
returns-clause-nothing g c = begun_if _ _ c.explain_on.ensures.own
