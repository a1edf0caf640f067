-- One entry more.
use Rattle.std.proofs.Common.{◌∙◌}
use Rattle.explain.proofs.EntryText.{next_before}
use Rattle.explain.proofs.entry_text.explain_before.Goals as goal

pub loop-at-preserved : goal.loop-at-preserved
loop-at-preserved c = record {
  code = c.explain_next.ensures.code ∙ c.loop-at.invariant.code;
  before = next_before c.args.entries.now c.loop-at.at c.loop-at.explainer c.explain_next.new.explainer c.in-Ok.ensures.told;
}
