-- One line more.
use Rattle.std.proofs.Common.{ap, ◌∙◌}
use Rattle.std.proofs.lemmas.List.{take_all}
use Rattle.preprocess.specs.Sources.{definition_lines}
use Rattle.preprocess.proofs.Sourced.{lines_more}
use Rattle.preprocess.proofs.preprocess.command_line.Goals as goal

pub loop-definition-preserved : goal.loop-definition-preserved
loop-definition-preserved c =
    lines_more c.args.definitions.now c.loop-definition.definition-index _ c.loop-definition.text.items _ c.loop-definition-test.true c.loop-definition.invariant c.in_ok-add_definition.ensures

pub returns : goal.returns
returns c = record {
  is_named = c.in_ok-from_str.ensures.ok;
  has_lines = c.loop-definition.invariant ∙ ap definition_lines (take_all c.loop-definition.definition-index c.args.definitions.now c.loop-definition-test.false);
}
