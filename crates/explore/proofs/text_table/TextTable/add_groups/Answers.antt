use Rattle.std.proofs.Common.{◌≡◌, [], length, get_or, refl, sym, ◌∙◌, arith}
use Rattle.explore.specs.NumberedTexts.{texts}
use Rattle.explore.proofs.Growing.{Extends-itself, Extends-through}
use Rattle.explore.proofs.TextEdges.{group_taken, none_more}
use Rattle.explore.proofs.text_table.TextTable.add_groups.Goals as goal

pub groups-preserved : goal.groups-preserved
groups-preserved c =
    record {
      ok = c.in_ok-number.ensures.ok;
      grows = Extends-through (texts c.args.self.now) (texts c.groups.self) (texts c.add_group.new.self) c.groups.invariant.grows c.in_ok-number.ensures.grows;
      within = c.in_ok-number.ensures.within;
      text = group_taken (get_or (texts c.args.self.now) c.args.from []) (get_or (texts c.groups.self) c.groups.number []) (get_or (texts c.add_group.new.self) c.in_ok-number.number []) c.split_at.result.0.now c.groups.rest.now c.split_at.result.1.now c.args.bytes.now
          c.groups.invariant.text c.in_ok-number.ensures.text c.split_at.ensures.by_index.0;
    }

pub groups-init : goal.groups-init
groups-init c =
    record {
      ok = c.requires.ok;
      grows = Extends-itself (texts c.args.self.now);
      within = c.requires.from;
      text = refl;
    }

pub returns : goal.returns
returns c =
    let none : length c.groups.rest.now ≡ 0 = grind (arith, c.is_empty.ensures, c.groups-test.false) in
    record {
      ok = c.groups.invariant.ok;
      grows = c.groups.invariant.grows;
      within = c.groups.invariant.within;
      text = none_more (get_or (texts c.groups.self) c.groups.number []) c.groups.rest.now none ∙ sym c.groups.invariant.text;
    }
