-- The scope of a register, and nothing behind the last one.
use Rattle.std.proofs.Common.{◌≤◌, ◌≡◌, [], ℕ, List, Bor, map, length, sym, arith}
use Rattle.std.proofs.lemmas.List.{get_or-map, get_or_past, length-map}
use Rattle.waves.proofs.scoped.home_of.Goals as goal

pub returns-then-place-homes : goal.returns-then-place-homes
returns-then-place-homes c = sym (get_or-map (λ (home : Bor (List ℕ)). home.now) c.args.homes.now c.args.register _ [] (omega arith))

pub returns-else-place-homes : goal.returns-else-place-homes
returns-else-place-homes c =
    let homes = c.args.homes.now in
    let now = λ (home : Bor (List ℕ)). home.now in
    let count : length (map now homes) ≡ length homes = length-map homes now in
    let behind : length (map now homes) ≤ c.args.register = omega (arith, count) in
    sym (get_or_past (map now homes) c.args.register [] behind)
