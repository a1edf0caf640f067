use Rattle.std.proofs.Common.{◌∙◌, List, map, ap}
use Rattle.std.proofs.lemmas.List.{length-map}
use Rattle.std.specs.Prelude.{string_bytes}
use Rattle.design.specs.declared.tree.Process.{Process}
use Rattle.design.specs.DesignTrees.{process_of, tree_design}
use Rattle.design.specs.CodePlaces.{statement_count}
use Rattle.design.specs.Emit.{starts_of, all_code}
use Rattle.design.proofs.Made.{made}
use Rattle.design.proofs.design.Design.new.Goals as goal

-- the vectors are those that were borrowed
pub invariant_of-result : goal.invariant_of-result
invariant_of-result c =
    let ps = c.args.processes.items in
    let ws = c.args.widths.items in
    made _ c.requires.sound (length-map c.args.names.keys string_bytes ∙ c.requires.named)
    (c.in_ok-emitter.ensures.code
    ∙ ap (λ w. all_code w (statement_count (tree_design w c.deref-2.result.now)) (map process_of c.deref-2.result.now)) c.deref.ensures.value
    ∙ ap (λ (l : List Process). all_code ws (statement_count (tree_design ws l)) (map process_of l)) c.deref-2.ensures.value)
    (c.in_ok-emitter.ensures.starts
    ∙ ap (λ w. starts_of 0 (statement_count (tree_design w c.deref-2.result.now)) (map process_of c.deref-2.result.now)) c.deref.ensures.value
    ∙ ap (λ (l : List Process). starts_of 0 (statement_count (tree_design ws l)) (map process_of l)) c.deref-2.ensures.value)
