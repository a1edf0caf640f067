-- Whether the counts pass from here on is whether they do in all.
use Rattle.std.proofs.Common.{◌≡◌, ◌≤◌, map, length}
use Rattle.tokens.specs.Tokens.{plain_token}
use Rattle.vparse.specs.Nesting.{passes, deep_left}
use Rattle.vparse.proofs.nesting.too_deep.Given as goal

abbrev pub invariant-loop-left : goal.invariant-loop-left
invariant-loop-left l = record {
  open_within : l.height ≤ 64;
  signs_within : l.signs ≤ 64;
  first : deep_left 0 0 (map plain_token l.fn.tokens) ≡ deep_left l.height l.signs (map plain_token l.left);
  same : passes 0 0 (map plain_token l.fn.tokens) ≡ passes l.height l.signs (map plain_token l.left);
}

abbrev pub decreases-loop-left : goal.decreases-loop-left
decreases-loop-left l = length l.left
