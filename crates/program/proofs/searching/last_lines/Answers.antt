-- What is said of the texts, with those whose runs stop short.
use Rattle.std.proofs.Common.{◌∙◌, option_map}
use Rattle.program.proofs.Searched.{told_last}
use Rattle.program.proofs.searching.last_lines.Goals as goal

pub returns : goal.returns
returns c =
    told_last c.args.search_options (option_map (λ path. path.now) c.args.prefix) c.args.end c.args.texts.now.claim c.args.texts.now.shown.items c.as_slice-shown.result.now c.ends_differ.result c.endings_of.result c.first_of.result.now c.as_slice.result.now c.new-last.result.items
    c.push_verdict.new.text.items c.until_line.result.now c.extend_from_slice.new.self.items c.as_slice-shown.ensures.value c.ends_differ.ensures c.endings_of.ensures c.first_of.ensures (c.as_slice.ensures.value ∙ c.in_ok-stops.ensures) c.new-last.ensures.items c.in_ok-push_verdict.ensures
    c.in_ok-extend_from_slice.ensures.items c.until_line.ensures
