-- The entries so far are taken.
use Rattle.std.proofs.Common.{◌≡◌}
use Rattle.explain.specs.EntryText.{IsBefore}
use Rattle.explain.proofs.entry_text.explain_before.Given as goal

abbrev pub invariant-loop-at : goal.invariant-loop-at
invariant-loop-at l = record {
  code : l.explainer.position.code ≡ l.fn.explainer.position.code;
  before : IsBefore l.entries l.at l.explainer;
}
