-- One register more, and all of them.
use Rattle.std.proofs.Common.{◌≡◌, ◌<◌, ◌≤◌, List, length, subst, arith}
use Rattle.std.proofs.lemmas.List.{take_all}
use Rattle.model.specs.Syntax.{Text}
use Rattle.waves.specs.FullNames.{AreHomes}
use Rattle.waves.proofs.ScopedLaws.{home_more}
use Rattle.waves.proofs.scoped.homes_of.Goals as goal

pub loop-register-preserved : goal.loop-register-preserved
loop-register-preserved c =
    let names = c.args.design.now.names in
    let named : length names ≡ length c.args.design.now.widths = c.registers-register-end.ensures.compiled.named in
    let inside : c.loop-register.register < length names = omega (arith, named, c.registers-register-end.ensures.value, c.loop-register-test.true) in
    home_more names c.loop-register.register c.loop-register.homes.items c.push.new.self.items c.scope_of.result c.name_of.result.now inside c.name_of.ensures c.scope_of.ensures c.in_ok-push.ensures.items c.loop-register.invariant

pub returns : goal.returns
returns c =
    let names = c.args.design.now.names in
    let named : length names ≡ length c.args.design.now.widths = c.registers-register-end.ensures.compiled.named in
    let behind : length names ≤ c.loop-register.register = omega (arith, named, c.registers-register-end.ensures.value, c.loop-register-test.false) in
    subst (λ (found : List Text). AreHomes found c.loop-register.homes.items) (take_all c.loop-register.register names behind) c.loop-register.invariant
