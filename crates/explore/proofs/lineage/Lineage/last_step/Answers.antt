use Rattle.std.proofs.Common.{◌≡◌, ℕ, ◌-◌, ◌+◌, ◌≤◌, arith, get_or, [], ap, ◌∙◌, Some, List}
use Rattle.std.specs.Prelude.{slice_get}
use Rattle.explore.specs.Pieces.{pieces}
use Rattle.explore.specs.Lineage.{ways}
use Rattle.explore.proofs.Steps.{length-gone, gone-step}
use Rattle.explore.proofs.lineage.Lineage.last_step.Goals as goal

pub piece-requires-clause-whole : goal.piece-requires-clause-whole
piece-requires-clause-whole g c = c.requires.lineage.whole

pub piece-requires-clause-within : goal.piece-requires-clause-within
piece-requires-clause-within g c = omega (arith, length-gone (pieces c.args.self.now.steps), c.requires.within, c.requires.moved)

pub returns : goal.returns
returns g c =
    let steps = pieces c.args.self.now.steps in
    let step : ℕ × List g.row.M.Denot = (c.piece.result.0, c.piece.result.1.now) in
    let at : slice_get steps (c.args.number - 1) ≡ Some step = c.piece.ensures in
    let low : step.0 ≤ c.args.number - 1 = c.requires.lineage.after (c.args.number - 1) step at in
    let back : c.args.number ≡ (c.args.number - 1) + 1 = omega (arith, c.requires.moved) in
    record {
      from = omega (arith, low, c.requires.moved);
      way = ap (λ (n : ℕ). get_or (ways c.args.self.now) n []) back ∙ gone-step steps (c.args.number - 1) step c.requires.lineage.after at;
      step = λ k is. let same : k ≡ c.args.number - 1 = omega (arith, is) in ap (λ (n : ℕ). slice_get steps n) same ∙ at;
    }
