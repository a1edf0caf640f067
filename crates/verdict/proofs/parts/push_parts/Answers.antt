-- One part more; all of them at the end.
use Rattle.std.proofs.Common.{◌∙◌, ◌++◌, ap, List, take}
use Rattle.std.proofs.lemmas.List.{take_all, take_more}
use Rattle.verdict.specs.LineParts.{line_parts_text}
use Rattle.verdict.specs.declared.parts.LinePart.{LinePart}
use Rattle.verdict.proofs.PartLaws.{part_more}
use Rattle.verdict.proofs.parts.push_parts.Goals as goal

pub loop-part-preserved : goal.loop-part-preserved
loop-part-preserved c =
    part_more c.push_part.new.text.items c.args.text.now.items c.loop-part.text.items (take c.loop-part.part-index c.args.parts.now) _ _
    (take_more c.args.parts.now c.loop-part.part-index _ c.loop-part-test.true) c.loop-part.invariant c.in_ok-push_part.ensures

pub returns : goal.returns
returns c =
    c.loop-part.invariant ∙ ap (λ (ps : List LinePart). c.args.text.now.items ++ line_parts_text ps) (take_all c.loop-part.part-index c.args.parts.now c.loop-part-test.false)
