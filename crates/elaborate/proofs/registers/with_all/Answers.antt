use Rattle.std.proofs.Common.{◌≡◌, ◌++◌, [], ◌∷◌, None, string_bytes, sym, ap, subst, ◌∙◌, rules}
use Rattle.elaborate.specs.FirstFindings.{found_name, IsFirstOf}
use Rattle.elaborate.proofs.Turns.{one_name, found_after, fault_at}
use Rattle.elaborate.proofs.registers.with_all.Goals as goal

pub loop-name-preserved : goal.loop-name-preserved
loop-name-preserved c =
    let name = string_bytes c.name-item.result in
    let grown : c.in_ok-names.names ≡ c.loop-name.names ++ (name, c.args.range) ∷ [] =
    c.in_ok-names.ensures.added ∙ ap (λ text. c.loop-name.names ++ (text, c.args.range) ∷ []) c.as_str.ensures.value in
    let none : found_name c.args.limits c.loop-name.names (name, c.args.range) ≡ None =
    subst (λ text. found_name c.args.limits c.loop-name.names (text, c.args.range) ≡ None) c.as_str.ensures.value c.in_ok-names.ensures.allowed in
    record {
      registers = one_name string_bytes c.args.limits c.args.range c.loop-name.names c.args.more.now c.loop-name.name-index c.name-item.result c.loop-name-test.true c.name-item.is c.in_ok-names.names grown ∙ c.loop-name.invariant.registers;
      found = c.loop-name.invariant.found ∙ found_after string_bytes c.args.limits c.args.range c.loop-name.names c.args.more.now c.loop-name.name-index c.name-item.result c.loop-name-test.true c.name-item.is c.in_ok-names.names grown none;
    }

pub returns-in_err-names-clause-fault : goal.returns-in_err-names-clause-fault
returns-in_err-names-clause-fault c =
    let told = subst (λ text. IsFirstOf c.in_err-names.field-0.0 (found_name c.args.limits c.loop-name.names (text, c.args.range))) c.as_str.ensures.value c.in_err-names.ensures.fault in
    let is =
    subst (IsFirstOf c.in_err-names.field-0.0) (sym c.loop-name.invariant.found)
    (fault_at string_bytes c.args.limits c.args.range c.loop-name.names c.args.more.now c.loop-name.name-index c.name-item.result c.loop-name-test.true c.name-item.is c.in_err-names.field-0.0 told) in
    search rules
