-- The groups so far, and those that are left behind them.
use Rattle.std.proofs.Common.{◌≡◌, ◌<◌, ◌++◌, [], length, get_or, reverse}
use Rattle.std.specs.List.{All}
use Rattle.explore.specs.NumberedTexts.{joined_groups, line_groups, texts}
use Rattle.explore.proofs.text_table.TextTable.read.Given as goal

abbrev pub invariant-loop-group : goal.invariant-loop-group
invariant-loop-group l =
    record {
      there : All (λ group. group < length (line_groups l.self.groups)) l.back.items;
      rest : get_or (texts l.self) l.number [] ≡ l.text.items ++ joined_groups (line_groups l.self.groups) (reverse l.back.items);
    }

abbrev pub decreases-loop-group : goal.decreases-loop-group
decreases-loop-group l = length l.back.items
