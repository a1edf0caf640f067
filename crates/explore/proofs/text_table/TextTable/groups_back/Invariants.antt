-- The groups that were passed stand behind the text with the number `k`.
use Rattle.std.proofs.Common.{◌≡◌, ◌<◌, ◌++◌, [], length, get_or, reverse}
use Rattle.std.specs.List.{All}
use Rattle.explore.specs.NumberedTexts.{joined_groups, line_groups, texts}
use Rattle.explore.proofs.text_table.TextTable.groups_back.Given as goal

abbrev pub invariant-loop-k : goal.invariant-loop-k
invariant-loop-k l =
    record {
      within : l.k < length (texts l.self);
      there : All (λ group. group < length (line_groups l.self.groups)) l.back.items;
      rest : get_or (texts l.self) l.number [] ≡ get_or (texts l.self) l.k [] ++ joined_groups (line_groups l.self.groups) (reverse l.back.items);
    }

abbrev pub decreases-loop-k : goal.decreases-loop-k
decreases-loop-k l = l.k
