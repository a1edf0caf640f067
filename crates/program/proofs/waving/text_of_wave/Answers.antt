-- In one scope, or in those of a whole design.
use Rattle.std.proofs.Common.{◌≡◌, ◌∙◌, ap, map, sym, subst, List, ℕ, IfOk}
use Rattle.waves.specs.Dump.{vcd_text}
use Rattle.waves.specs.ScopedDump.{PlainScope, plain_scope, scoped_text}
use Rattle.program.specs.declared.waving.DumpedScopes.{DumpedScopes}
use Rattle.program.specs.Dumps.{dump_text_in}
use Rattle.program.specs.Subjects.{plain_design_scope}
use Rattle.program.proofs.waving.text_of_wave.Goals as goal

pub returns-in-One : goal.returns-in-One
returns-in-One c =
    let design = c.args.dumped.now.design in
    let wave = c.args.wave.now in
    subst (λ (s : DumpedScopes). IfOk c.value_change_dump.result (λ text. text.items ≡ dump_text_in s design wave)) (sym c.in-One.is)
    (subst (λ (n : List ℕ). IfOk c.value_change_dump.result (λ text. text.items ≡ vcd_text n design.names design.widths wave.changes.items wave.end)) c.as_str.ensures.value c.value_change_dump.ensures)

pub returns-in_ok-shown-in-Several : goal.returns-in_ok-shown-in-Several
returns-in_ok-shown-in-Several c =
    let design = c.args.dumped.now.design in
    let wave = c.args.wave.now in
    let same : map plain_scope c.as_slice-in-Several.result.now ≡ map plain_design_scope c.in-Several.scopes.scopes.items =
    ap (map plain_scope) c.as_slice-in-Several.ensures.value ∙ (c.in_ok-shown-in-Several.ensures ∙ ap (map plain_design_scope) c.as_slice.ensures.value) in
    subst (λ (s : DumpedScopes). IfOk c.scoped_dump.result (λ text. text.items ≡ dump_text_in s design wave)) (sym c.in-Several.is)
    (subst (λ (ss : List PlainScope). IfOk c.scoped_dump.result (λ text. text.items ≡ scoped_text c.in-Several.scopes.tick ss design.names design.widths wave.changes.items wave.end)) same c.scoped_dump.ensures)
