use Rattle.std.proofs.Common.{refl, false}
use Rattle.model.specs.SourceTrees.{source_expression_of}
use Rattle.sizing.proofs.Selections.{made_part}
use Rattle.sizing.proofs.selects.part.Goals as goal

pub returns : goal.returns
returns c = λ n base low high is named_by first second.
    made_part n c.args.object.now c.args.form base low high c.in_ok-selected.selected.range c.args.first c.args.second
    (record { width = c.in-Some.window.width; signed = false }) c.in-Some.window (source_expression_of c.in_ok-digits_at.field-0) named_by
    c.in_ok-selected.ensures.range first second c.in-Some.ensures.window refl refl c.in_ok-digits_at.ensures
