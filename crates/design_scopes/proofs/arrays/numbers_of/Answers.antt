use Rattle.std.proofs.Common.{◌≡◌, ◌≢◌, ◌^◌, ◌<◌, SFits, w64, to_z, of_z, sym, ap, ◌∙◌, refl, arith, rules, ℤ}
use Rattle.std.proofs.lemmas.Int.{to_z-of_z, of_z-to_z}
use Rattle.design_scopes.proofs.Indices.{first_index, more_indices, all_there}
use Rattle.design_scopes.proofs.arrays.numbers_of.Goals as goal

pub loop-turn-init : goal.loop-turn-init
loop-turn-init c =
    let fits : SFits w64 c.args.range.most = search rules in
    first_index c.args.range _ _ c.new-found.ensures.items (search (rules, to_z-of_z))

pub loop-turn-preserved : goal.loop-turn-preserved
loop-turn-preserved c =
    let index : ℤ = to_z w64 c.loop-turn.index-bits in
    let small : c.loop-turn.index-bits < 2 ^ 64 = omega arith in
    let fits : SFits w64 index = search rules in
    let last : SFits w64 c.args.range.least = search rules in
    let next : SFits w64 c.towards-index.result = search rules in
    let differs : index ≢ c.args.range.least = λ same. c.if-index-range.false (sym (of_z-to_z w64 c.loop-turn.index-bits small) ∙ ap (of_z w64) same) in
    more_indices c.args.range c.loop-turn.found.items c.push.new.self.items index _ c.towards-index.result index (to_z w64 (of_z w64 c.args.range.least)) _ c.loop-turn.invariant c.in_ok-push.ensures.items (search (rules, to_z-of_z)) differs c.towards-index.ensures
    refl (to_z-of_z w64 c.args.range.least last) (search (rules, to_z-of_z))

pub returns-then-index-range : goal.returns-then-index-range
returns-then-index-range c =
    let index : ℤ = to_z w64 c.loop-turn.index-bits in
    let fits : SFits w64 index = search rules in
    let last : SFits w64 c.args.range.least = search rules in
    let same : index ≡ c.args.range.least = ap (to_z w64) c.if-index-range.true ∙ to_z-of_z w64 c.args.range.least last in
    all_there c.args.range c.loop-turn.found.items c.push.new.self.items index _ c.loop-turn.invariant c.in_ok-push.ensures.items (search (rules, to_z-of_z)) same
