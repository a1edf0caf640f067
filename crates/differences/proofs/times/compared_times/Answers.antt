-- All times, sorted, and each once.
use Rattle.std.proofs.Common.{◌≡◌, ◌∙◌, ap, ℕ, List, [], ◌∷◌, ◌++◌, rules}
use Rattle.std.specs.Prelude.{flat_map}
use Rattle.std.proofs.Math.Dec.{eqb}
use Rattle.std.proofs.lemmas.List.Filters.{dedup_is}
use Rattle.differences.specs.ComparedValues.{advance_to}
use Rattle.differences.proofs.TimeLaws.{collected, times_are}
use Rattle.differences.proofs.times.compared_times.Goals as goal

pub returns : goal.returns
returns c =
    let pushed : c.push.new.self.items ≡ 0 ∷ [] = search rules in
    let all : c.push_advances-2.new.times.items ≡ collected c.args.first.now c.args.second.now c.args.last =
    c.in_ok-push_advances-2.ensures
    ∙ ap (λ (l : List ℕ). l ++ flat_map (advance_to c.args.last) c.args.second.now)
    (c.in_ok-push_advances.ensures ∙ ap (λ (l : List ℕ). l ++ flat_map (advance_to c.args.last) c.args.first.now) pushed) in
    times_are c.args.first.now c.args.second.now c.args.last c.push_advances-2.new.times.items c.sort_unstable.new.self.items c.dedup.new.self.items all
    c.sort_unstable.ensures.permutation c.sort_unstable.ensures.sorted (dedup_is eqb c.sort_unstable.new.self.items c.dedup.new.self.items c.dedup.ensures.filtered)
