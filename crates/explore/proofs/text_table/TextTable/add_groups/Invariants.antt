-- The groups so far are numbered, and what is left goes behind them.
use Rattle.std.proofs.Common.{◌≡◌, ◌<◌, ◌++◌, [], length, get_or}
use Rattle.sharing.specs.Parts.{Extends}
use Rattle.explore.specs.NumberedTexts.{texts, IsTexts}
use Rattle.explore.proofs.text_table.TextTable.add_groups.Given as goal

abbrev pub invariant-groups : goal.invariant-groups
invariant-groups l =
    record {
      ok : IsTexts l.self;
      grows : Extends (texts l.fn.self) (texts l.self);
      within : l.number < length (texts l.self);
      text : get_or (texts l.fn.self) l.from [] ++ l.bytes ≡ get_or (texts l.self) l.number [] ++ l.rest;
    }

abbrev pub decreases-groups : goal.decreases-groups
decreases-groups l = length l.rest
