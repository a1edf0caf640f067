-- One list more.
use Rattle.std.proofs.Common.{◌∷◌, ◌++◌, [], ap, ◌∙◌, arith}
use Rattle.explore.specs.Pieces.{pieces}
use Rattle.explore.specs.declared.pieces.NumberedSpan.{NumberedSpan}
use Rattle.explore.proofs.Rows.{rows-push, AreRows-push}
use Rattle.explore.proofs.pieces.Pieces.push.Goals as goal

pub returns-clause-whole : goal.returns-clause-whole
returns-clause-whole g c =
    let row : NumberedSpan = record { number = c.in_ok-number.number; length = c.in_ok-length.length; begin = c.len-begin.result } in
    AreRows-push c.args.self.now.arena.items c.args.items.now c.extend_from_slice.new.self.items c.args.self.now.rows.items c.push.new.self.items row c.requires.whole c.in_ok-extend_from_slice.ensures.items c.in_ok-push.ensures.items
    (omega (arith, c.len-begin.ensures)) (omega (arith, c.in_ok-length.ensures))

pub returns-clause-pieces : goal.returns-clause-pieces
returns-clause-pieces g c =
    let row : NumberedSpan = record { number = c.in_ok-number.number; length = c.in_ok-length.length; begin = c.len-begin.result } in
    rows-push c.args.self.now.arena.items c.args.items.now c.extend_from_slice.new.self.items c.args.self.now.rows.items c.push.new.self.items row c.requires.whole c.in_ok-extend_from_slice.ensures.items c.in_ok-push.ensures.items
    (omega (arith, c.len-begin.ensures)) (omega (arith, c.in_ok-length.ensures))
    ∙ ap (λ n. pieces c.args.self.now ++ (n, c.args.items.now) ∷ []) c.in_ok-number.ensures
