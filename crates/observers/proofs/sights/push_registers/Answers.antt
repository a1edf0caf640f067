-- One line more.
use Rattle.std.proofs.Common.{◌++◌, ◌∙◌, ap, flat_map, get_or, sym, take, List, ℕ}
use Rattle.std.proofs.lemmas.List.{flat_map_more, take_more}
use Rattle.looseruns.specs.RegisterObserver.{seen_register_line}
use Rattle.observers.proofs.sights.push_registers.Goals as goal

pub loop-register-preserved : goal.loop-register-preserved
loop-register-preserved c =
    let line : ℕ → List ℕ = λ r. seen_register_line c.args.machine.now.values r in
    let registers = c.args.registers.now in
    let i = c.loop-register.register-index in
    let old = c.args.bytes.now.items in
    c.in_ok-push_register.ensures
    ∙ (ap (λ (l : List ℕ). l ++ line (get_or registers i 0)) c.loop-register.invariant
    ∙ (flat_map_more line old (take i registers) (get_or registers i 0) ∙ ap (λ (l : List ℕ). old ++ flat_map line l) (sym (take_more registers i 0 c.loop-register-test.true))))
