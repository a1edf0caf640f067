use Rattle.std.proofs.Common.{◌≡◌, [], length, get_or, arith}
use Rattle.explore.specs.NumberedTexts.{texts}
use Rattle.explore.proofs.Growing.{Extends-itself}
use Rattle.explore.proofs.TextEdges.{none_more, text_taken}
use Rattle.explore.proofs.text_table.TextTable.longer.Goals as goal

pub returns-then-is_empty : goal.returns-then-is_empty
returns-then-is_empty c =
    let none : length c.args.printed.now ≡ 0 = grind (arith, c.is_empty.ensures, c.if-is_empty.true) in
    record {
      ok = c.requires.ok;
      grows = Extends-itself (texts c.args.self.now);
      within = c.requires.before;
      text = none_more (get_or (texts c.args.self.now) c.args.before []) c.args.printed.now none;
    }

pub returns : goal.returns
returns c =
    let all = texts c.args.self.now in
    record {
      ok = c.in_ok-number.ensures.ok;
      grows = c.in_ok-number.ensures.grows;
      within = c.in_ok-number.ensures.within;
      text = text_taken (get_or (texts c.add_groups.new.self) c.in_ok-number.number []) (get_or all c.args.before []) (get_or all c.in_ok-from.from []) c.as_slice.result.now c.extend_from_slice.new.self.items c.take_up.new.bytes.items c.args.printed.now
          c.in_ok-number.ensures.text c.as_slice.ensures.value c.in_ok-extend_from_slice.ensures.items c.in_ok-from.ensures.text;
    }
