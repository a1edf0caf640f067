use Rattle.std.proofs.Common.{◌≡◌, ◌≤◌, ◌+◌, drop, option_map}
use Rattle.model.specs.Elaboration.{argument_count, pieces_from, pieces_of}
use Rattle.elaborate.specs.Formats.{stage_of}
use Rattle.elaborate.proofs.format.conversions.Given as goal

abbrev pub invariant-loop-byte : goal.invariant-loop-byte
invariant-loop-byte l = record {
  counted : option_map (λ pieces. l.count + argument_count pieces) (pieces_from (stage_of l.stage) (drop l.byte-index l.format)) ≡ option_map argument_count (pieces_of l.format);
  few : l.count ≤ l.byte-index;
}
