-- The arguments of one declaration more.
use Rattle.std.proofs.Common.{map, refl}
use Rattle.std.specs.List.{flat_map}
use Rattle.statement_parts.proofs.Gathering.{next_added}
use Rattle.routine_texts.specs.Routines.{arguments_declared}
use Rattle.routine_texts.specs.Tables.{argument_plain}
use Rattle.routine_texts.proofs.table.arguments_of.Goals as goal

pub loop-source-preserved : goal.loop-source-preserved
loop-source-preserved c =
    next_added (flat_map arguments_declared) arguments_declared c.args.declarations.now c.loop-source.source-index c.source-item.result (map argument_plain c.loop-source.found.items) (map argument_plain c.add_arguments.new.found.items) _ (λ d ds. refl)
    c.loop-source-test.true c.source-item.is c.in_ok-add_arguments.ensures c.loop-source.invariant
