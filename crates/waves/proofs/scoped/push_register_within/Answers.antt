-- The line is that of the register, by its name, its scope and its width.
use Rattle.std.proofs.Common.{◌≡◌, ◌++◌, ℕ, List, OnOk, map, option_map, subst}
use Rattle.waves.specs.ScopedDump.{plain_scope}
use Rattle.waves.proofs.ScopedLaws.{declared_is}
use Rattle.waves.proofs.scoped.push_register_within.Goals as goal

pub returns : goal.returns
returns c =
    let all = c.args.all.now in
    let around = option_map (λ path. path.now) c.args.around in
    let line = declared_is (map plain_scope all.scopes.now) around all.design.now.names all.design.now.widths all.homes.now c.args.register c.name_of-name.result.now c.home_of-home.result.now c.own_name.result.now c.is_declared-declared.result c.width-width.result
    c.requires.named c.requires.homes c.name_of-name.ensures c.home_of-home.ensures c.is_declared-declared.ensures c.own_name.ensures c.width-width.ensures.value in
    subst (λ (piece : List ℕ). OnOk c.push_declared.result (c.push_declared.new.text.items ≡ c.args.text.now.items ++ piece)) line c.push_declared.ensures
