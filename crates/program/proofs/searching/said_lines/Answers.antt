-- What is said of the texts stands behind how far the search came.
use Rattle.std.proofs.Common.{◌++◌, ◌∙◌, ap, List, ℕ}
use Rattle.program.proofs.searching.said_lines.Goals as goal

pub returns : goal.returns
returns c = record {
  reach = c.in_ok-reach.reach.items;
  is_reach = c.in_ok-reach.ensures;
  last = c.in_ok-last.last.items;
  is_last = c.in_ok-last.ensures;
  said_is = c.in_ok-said.ensures ∙ ap (λ (l : List ℕ). c.in_ok-reach.reach.items ++ l) c.as_slice.ensures.value;
}
