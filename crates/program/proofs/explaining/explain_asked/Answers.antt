-- The registers are those of the names that the request gives, and so is the presentation.
use Rattle.std.proofs.Common.{◌≡◌, ◌∙◌, inl, option_map, subst, sym, List, ℕ, IfErr, IfOk}
use Rattle.std.specs.Borrow.{Bor}
use Rattle.design.specs.Compiled.{Compiled}
use Rattle.explain.specs.Wanted.{wanted_registers}
use Rattle.explain.specs.declared.telling.Presentation.{Presentation}
use Rattle.program.specs.declared.fault.CommandFault.{CommandFault}
use Rattle.program.specs.AskedRegisters.{AreAsked}
use Rattle.program.specs.Presentations.{presentation_for}
use Rattle.program.specs.Printed.{AreAskedFor, HasExplainedSome, HasExplainedTo}
use Rattle.program.specs.Program.{status_of}
use Rattle.program.proofs.Ended.{if_err, output_same}
use Rattle.program.proofs.Explained.{alone_at, every_asked, name_told_if, named_asked_for, unknown_asked}
use Rattle.program.proofs.explaining.explain_asked.Goals as goal

pub returns-in-Every-clause-ended : goal.returns-in-Every-clause-ended
returns-in-Every-clause-ended g c = λ from file journal at opened.
    let names = option_map (λ (n : Bor (List ℕ)). n.now) c.args.request.now.registers in
    subst (λ (w : Presentation). IfOk c.explain_bytes.result (HasExplainedTo from file journal names w (g.O.Write.contents c.args.out.now) (g.O.Write.contents c.explain_bytes.new.out))) c.requires.presented
    (c.explain_bytes.ensures.ended from file journal names at opened (every_asked c.args.subject.design.now names c.in_ok-asked.asked c.in_ok-asked.ensures c.in-Every.is))

pub returns-in-Every-clause-refused : goal.returns-in-Every-clause-refused
returns-in-Every-clause-refused g c = λ from file journal at opened.
    let names = option_map (λ (n : Bor (List ℕ)). n.now) c.args.request.now.registers in
    subst (λ (w : Presentation). IfErr c.explain_bytes.result (λ (fault : CommandFault). status_of fault ≡ 5 → HasExplainedSome from file journal names w (g.O.Write.contents c.args.out.now) (g.O.Write.contents c.explain_bytes.new.out) fault)) c.requires.presented
    (c.explain_bytes.ensures.refused from file journal names at opened (every_asked c.args.subject.design.now names c.in_ok-asked.asked c.in_ok-asked.ensures c.in-Every.is))

pub returns-in-Named-clause-ended : goal.returns-in-Named-clause-ended
returns-in-Named-clause-ended g c = λ from file journal at opened.
    let names = option_map (λ (n : Bor (List ℕ)). n.now) c.args.request.now.registers in
    subst (λ (w : Presentation). IfOk c.explain_bytes-in-Named.result (HasExplainedTo from file journal names w (g.O.Write.contents c.args.out.now) (g.O.Write.contents c.explain_bytes-in-Named.new.out))) (c.told_alone-named.ensures.presentation ∙ c.requires.presented)
    (c.explain_bytes-in-Named.ensures.ended from file journal names (alone_at from file c.args.subject c.told_alone-named.result c.told_alone-named.ensures.processes c.told_alone-named.ensures.design at) opened
    (subst (λ (d : Compiled). AreAskedFor d names (wanted_registers c.told_alone-named.result.registers)) (sym c.told_alone-named.ensures.design)
    (subst (AreAskedFor c.args.subject.design.now names) (sym c.told_alone-named.ensures.registers)
    (named_asked_for c.args.subject.design.now names c.in-Named.registers.items c.as_slice.result.now (subst (AreAsked c.args.subject.design.now names) c.in-Named.is c.in_ok-asked.ensures) c.as_slice.ensures.value))))

pub returns-in-Named-clause-refused : goal.returns-in-Named-clause-refused
returns-in-Named-clause-refused g c = λ from file journal at opened.
    let names = option_map (λ (n : Bor (List ℕ)). n.now) c.args.request.now.registers in
    subst (λ (w : Presentation). IfErr c.explain_bytes-in-Named.result (λ (fault : CommandFault). status_of fault ≡ 5 → HasExplainedSome from file journal names w (g.O.Write.contents c.args.out.now) (g.O.Write.contents c.explain_bytes-in-Named.new.out) fault)) (c.told_alone-named.ensures.presentation ∙ c.requires.presented)
    (c.explain_bytes-in-Named.ensures.refused from file journal names (alone_at from file c.args.subject c.told_alone-named.result c.told_alone-named.ensures.processes c.told_alone-named.ensures.design at) opened
    (subst (λ (d : Compiled). AreAskedFor d names (wanted_registers c.told_alone-named.result.registers)) (sym c.told_alone-named.ensures.design)
    (subst (AreAskedFor c.args.subject.design.now names) (sym c.told_alone-named.ensures.registers)
    (named_asked_for c.args.subject.design.now names c.in-Named.registers.items c.as_slice.result.now (subst (AreAsked c.args.subject.design.now names) c.in-Named.is c.in_ok-asked.ensures) c.as_slice.ensures.value))))

pub returns-in-Unknown-clause-ended : goal.returns-in-Unknown-clause-ended
returns-in-Unknown-clause-ended g c = λ from file journal at opened.
    let names = option_map (λ (n : Bor (List ℕ)). n.now) c.args.request.now.registers in
    name_told_if from file journal names (presentation_for c.args.request.now) c.in-Unknown.name.now (g.O.Write.contents c.args.out.now) c.no_register.result
    (unknown_asked from file c.args.subject names c.in_ok-asked.asked c.in-Unknown.name at c.in_ok-asked.ensures c.in-Unknown.is) c.no_register.ensures.told

pub returns-in-Unknown-clause-refused : goal.returns-in-Unknown-clause-refused
returns-in-Unknown-clause-refused g c = λ from file journal at opened. if_err _ c.no_register.result (λ f five. inl (output_same (g.O.Write.contents c.args.out.now)))

pub returns-in-Unknown-clause-nothing : goal.returns-in-Unknown-clause-nothing
returns-in-Unknown-clause-nothing g c = if_err _ c.no_register.result (λ f three. output_same (g.O.Write.contents c.args.out.now))

pub returns-in_err-asked-clause-refused : goal.returns-in_err-asked-clause-refused
returns-in_err-asked-clause-refused g c = λ from file journal at opened. if_err _ c.from_residual.result (λ f five. inl (output_same (g.O.Write.contents c.args.out.now)))

pub returns-in_err-asked-clause-nothing : goal.returns-in_err-asked-clause-nothing
returns-in_err-asked-clause-nothing g c = if_err _ c.from_residual.result (λ f three. output_same (g.O.Write.contents c.args.out.now))
