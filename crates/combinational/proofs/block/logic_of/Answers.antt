use Rattle.std.proofs.Common.{rules, ◌≡◌, ◌<◌, ◌≤◌, ◌++◌, ℕ, true, false, [], length, get_or, ap, subst, ◌∙◌}
use Rattle.model.specs.Design.{End}
use Rattle.model.specs.Turns.{contains}
use Rattle.design.specs.DesignTrees.{statements_of}
use Rattle.phases.specs.Combinational.{is_plain, reads, written, settled}
use Rattle.combinational.proofs.Waits.{IsAwaiting}
use Rattle.combinational.proofs.Bounds.{process_there}
use Rattle.combinational.proofs.LogicFound.{logic_found}
use Rattle.combinational.proofs.block.logic_of.Goals as goal

pub returns : goal.returns
returns c =
    let code = c.args.design.now in
    let p = c.args.process in
    let tree = c.index-trees-process.result in
    let ts = c.in-Some.text.triggers.now in
    let before = statements_of c.in-Some.text.before.now in
    let behind = statements_of c.in-Some.text.behind.now in
    let inside : tree ≡ get_or code.processes p tree = c.index-trees-process.is ∙ ap (λ xs. get_or xs p tree) c.trees.ensures in
    let is : IsAwaiting code p before ts behind = process_there code.processes p tree (record { repeats = false; body = End }) c.requires inside ∙ c.in-Some.ensures in
    let plain_before : is_plain before ≡ true = search rules in
    let plain_behind : is_plain behind ≡ true = search rules in
    let few : length code.nodes ≤ 65534 = search rules in
    let sure : (r : ℕ) → contains c.in_ok-outputs.outputs.items r ≡ true → contains (settled behind ++ settled before) r ≡ true = search rules in
    let apart : (r : ℕ) → contains c.in_ok-outputs.outputs.items r ≡ true → contains c.in-Some-2.inputs.items r ≡ false = search rules in
    let within : (r : ℕ) → r < c.registers-registers.result → contains (reads behind (reads before [])) r ≡ true → contains c.in-Some-2.inputs.items r ≡ true = search rules in
    logic_found code p _ before ts behind c.registers-registers.ensures.compiled c.requires is plain_before plain_behind few (search rules) (c.in-Some-wait_behind.ensures ts behind is) c.in_ok-outputs.ensures.written
    (subst (λ n. (r : ℕ) → r < n → contains (written behind ++ written before) r ≡ true → contains c.in_ok-outputs.outputs.items r ≡ true) c.registers-registers.ensures.value c.in_ok-outputs.ensures.all)
    (subst (λ n. (r : ℕ) → r < n → contains (reads behind (reads before [])) r ≡ true → contains c.in-Some-2.inputs.items r ≡ true) c.registers-registers.ensures.value within) sure apart
