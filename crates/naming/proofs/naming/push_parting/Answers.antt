-- None is told yet, and one more is told.
use Rattle.std.proofs.Common.{◌≡◌, ◌∙◌, ap, sym, subst, ◌+◌, ◌∷◌, [], ◌++◌, List, arith, option_map, take}
use Rattle.std.proofs.lemmas.List.{take_more}
use Rattle.causes.specs.declared.parting_race.PartingRace.{PartingRace}
use Rattle.naming.specs.Naming.{TellsSome}
use Rattle.naming.proofs.Races.{tells_both, tells_nothing}
use Rattle.naming.proofs.naming.push_parting.Goals as goal

pub loop-place-init : goal.loop-place-init
loop-place-init c =
    (tells_nothing c.args.places.now c.args.names.now.design.now c.args.names.now.shown.now (option_map (λ path. path.now) c.args.names.now.prefix) c.args.text.now.items c.args.told.now, omega arith)

pub loop-place-preserved : goal.loop-place-preserved
loop-place-preserved c =
    let names = c.args.names.now in
    let prefix = option_map (λ path. path.now) names.prefix in
    let places = c.args.places.now in
    let at = c.loop-place.place in
    let causes = c.args.causes.now in
    let item = c.index-causes-place.result in
    let behind : take (at + 1) causes ≡ take at causes ++ item ∷ [] = take_more causes at item c.loop-place-test.true ∙ ap (λ (r : PartingRace). take at causes ++ r ∷ []) (sym c.index-causes-place.is) in
    let some = tells_both places names.design.now names.shown.now prefix (take at causes) (item ∷ []) c.args.text.now.items c.loop-place.text.items c.push_told.new.text.items c.args.told.now c.loop-place.told c.push_told.new.self
    c.loop-place.invariant.0 c.in_ok-push_told.ensures.tells in (
      subst (λ (rs : List PartingRace). TellsSome places names.design.now names.shown.now prefix rs c.args.text.now.items c.push_told.new.text.items c.args.told.now c.push_told.new.self) (sym behind) some,
      omega (arith, c.loop-place.invariant.1, c.in_ok-push_told.ensures.few),
    )
