use Rattle.std.proofs.Common.{◌≡◌, ◌+◌, ◌++◌, None, map, option_map, drop, ap, sym, ◌∙◌}
use Rattle.model.specs.SourceTrees.{piece_of}
use Rattle.model.specs.Elaboration.{pieces_from, pieces_of}
use Rattle.elaborate.specs.Formats.{stage_of}
use Rattle.elaborate.proofs.Reading.{one_byte, no_byte}
use Rattle.elaborate.proofs.Turns.{next_at}
use Rattle.elaborate.proofs.format.pieces.Goals as goal

pub loop-byte-preserved : goal.loop-byte-preserved
loop-byte-preserved c =
    one_byte (map piece_of c.loop-byte.pieces.items) _ _ (stage_of c.loop-byte.stage) _ _ (drop (c.loop-byte.byte-index + 1) c.args.format.now) (sym c.in-Some.ensures) c.in_ok-push.ensures
    ∙ ap (λ bs. option_map (λ more. map piece_of c.loop-byte.pieces.items ++ more) (pieces_from (stage_of c.loop-byte.stage) bs)) (sym (next_at c.args.format.now c.loop-byte.byte-index 0 c.loop-byte-test.true))
    ∙ c.loop-byte.invariant

pub returns-in_default : goal.returns-in_default
returns-in_default c =
    let none : pieces_of c.args.format.now ≡ None =
    sym c.loop-byte.invariant
    ∙ ap (λ bs. option_map (λ more. map piece_of c.loop-byte.pieces.items ++ more) (pieces_from (stage_of c.loop-byte.stage) bs)) (next_at c.args.format.now c.loop-byte.byte-index 0 c.loop-byte-test.true)
    ∙ no_byte (map piece_of c.loop-byte.pieces.items) (stage_of c.loop-byte.stage) _ (drop (c.loop-byte.byte-index + 1) c.args.format.now) (sym c.in_default.ensures) in
    rw none (ap (map piece_of) c.new.ensures.items)
