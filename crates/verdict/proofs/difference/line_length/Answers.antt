-- The place of the first newline.
use Rattle.std.proofs.Common.{length, rules, tests}
use Rattle.std.specs.Prelude.{◌==◌}
use Rattle.std.specs.List.{position_or_len}
use Rattle.std.proofs.lemmas.Iterator.{YieldsList-from_slice}
use Rattle.std.proofs.lemmas.Iterator.Search.{position_from_yields_List}
use Rattle.verdict.proofs.LineLaws.{found_line, last_line}
use Rattle.verdict.proofs.difference.line_length.Goals as goal

pub returns-in-Some-clause-value : goal.returns-in-Some-clause-value
returns-in-Some-clause-value c =
    found_line (position_or_len (λ b. b == 10) c.args.text.now) (length c.args.text.now) c.in-Some.at
    (position_from_yields_List (λ b. b == 10) _ _ _ c.in-Some.ensures.ran (YieldsList-from_slice c.args.text.now c.iter.ensures.rest) (λ x b q k. search (rules, tests)))

pub returns-in-None-clause-value : goal.returns-in-None-clause-value
returns-in-None-clause-value c =
    last_line (position_or_len (λ b. b == 10) c.args.text.now) (length c.args.text.now)
    (position_from_yields_List (λ b. b == 10) _ _ _ c.in-None.ensures.ran (YieldsList-from_slice c.args.text.now c.iter.ensures.rest) (λ x b q k. search (rules, tests)))
