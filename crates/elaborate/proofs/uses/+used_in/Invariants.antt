use Rattle.std.proofs.Common.{◌≡◌, map, drop}
use Rattle.model.specs.SourceTrees.{source_statement_of, source_statements}
use Rattle.elaborate.specs.FirstFindings.{all_used_in}
use Rattle.elaborate.proofs.uses.+used_in.Given as goal

abbrev pub invariant-block-loop-s : goal.invariant-block-loop-s
invariant-block-loop-s l =
    all_used_in l.names (source_statements (map source_statement_of l.body)) ≡ all_used_in l.names (source_statements (map source_statement_of (drop l.s-index l.body)))
