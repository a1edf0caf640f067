-- None is told yet, and one more is told.
use Rattle.std.proofs.Common.{sym, subst, ◌∷◌, [], List, arith, map, option_map, take}
use Rattle.causes.specs.declared.parting_race.PartingRace.{PartingRace}
use Rattle.naming.specs.Naming.{TellsSome, parting_of}
use Rattle.naming.proofs.Races.{partings_more, tells_both, tells_nothing}
use Rattle.naming.proofs.naming.push_each.Goals as goal

pub loop-place-init : goal.loop-place-init
loop-place-init c =
    (tells_nothing c.args.places.now c.args.names.now.design.now c.args.names.now.shown.now (option_map (λ path. path.now) c.args.names.now.prefix) c.args.text.now.items c.args.told.now, omega arith)

pub loop-place-preserved : goal.loop-place-preserved
loop-place-preserved c =
    let names = c.args.names.now in
    let prefix = option_map (λ path. path.now) names.prefix in
    let places = c.args.places.now in
    let at = c.loop-place.place in
    let original = c.args.found.now.original in
    let races = c.as_slice-races.result.now in
    let item = c.index-races-place.result in
    let told = map (parting_of original) (take at races) in
    let some = tells_both places names.design.now names.shown.now prefix told (parting_of original item ∷ []) c.args.text.now.items c.loop-place.text.items c.push_told.new.text.items c.args.told.now c.loop-place.told
    c.push_told.new.self c.loop-place.invariant.0 c.in_ok-push_told.ensures.tells in (
      subst (λ (rs : List PartingRace). TellsSome places names.design.now names.shown.now prefix rs c.args.text.now.items c.push_told.new.text.items c.args.told.now c.push_told.new.self)
          (sym (partings_more original races at item c.loop-place-test.true c.index-races-place.is)) some,
      omega (arith, c.loop-place.invariant.1, c.in_ok-push_told.ensures.few),
    )
