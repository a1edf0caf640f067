use Rattle.std.proofs.Common.{◌≡◌, ◌∙◌, ◌++◌, ap, arith}
use Rattle.flattext.specs.Phrases.{indent}
use Rattle.flattext.proofs.Pieces.{one_deeper}
use Rattle.flattext.proofs.phrases.push_indent.Goals as goal

pub loop-level-preserved : goal.loop-level-preserved
loop-level-preserved c = one_deeper c.args.text.now.items c.loop-level.text.items c.extend_from_slice.new.self.items c.loop-level._level c.in_ok-extend_from_slice.ensures.items c.loop-level.invariant

pub returns : goal.returns
returns c =
    let all : c.loop-level._level ≡ c.args.depth = omega arith in
    c.loop-level.invariant ∙ ap (λ n. c.args.text.now.items ++ indent n) all
