use Rattle.std.proofs.Common.{◌≡◌, map, drop}
use Rattle.model.specs.SourceTrees.{source_statement_of, source_statements}
use Rattle.elaborate.specs.FirstFindings.{all_found_in, first_finding, or_fault}
use Rattle.elaborate.specs.Formed.{AreFormedStatements}
use Rattle.elaborate.proofs.check.+found_in.Given as goal

abbrev pub invariant-block-loop-s : goal.invariant-block-loop-s
invariant-block-loop-s l = record {
  found : all_found_in l.names (source_statements (map source_statement_of l.body)) ≡ or_fault (first_finding l.found) (all_found_in l.names (source_statements (map source_statement_of (drop l.s-index l.body))));
  formed : AreFormedStatements (source_statements (map source_statement_of (drop l.s-index l.body))) → AreFormedStatements (source_statements (map source_statement_of l.body));
}
