use Rattle.std.proofs.Common.{sym, ap, ◌∙◌}
use Rattle.elaborate.specs.FirstFindings.{found_format}
use Rattle.elaborate.proofs.Sizes.{count_is}
use Rattle.elaborate.proofs.check.line.Goals as goal

pub returns : goal.returns
returns c = c.shows.ensures ∙ ap (found_format c.args.format.now) (sym (count_is c.args.arguments.now))
