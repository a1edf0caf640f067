use Rattle.std.proofs.Common.{sym, ◌∙◌, ap, ◌+◌}
use Rattle.regcells.specs.Values.{values_after}
use Rattle.regcells.specs.Passes.{seen_by}
use Rattle.regcells.proofs.Moves.{stores, end_of}
use Rattle.regcells.proofs.register.Register.put.Goals as goal

pub swap-requires-clause-rule : goal.swap-requires-clause-rule
swap-requires-clause-rule g c =
    let w = c.words_of-words.ensures in
    let values = values_after (seen_by c.args.pass.now) g.X.Giving.given in
    let end = end_of values c.args.value c.words_of-words.result c.requires.last (c.requires.version ∙ ap (λ n. n + 1) (sym w.version)) w.value w.hold c.requires.width in
    stores _ _ g.X.Giving.given c.words_of-words.result c.requires.holds end
