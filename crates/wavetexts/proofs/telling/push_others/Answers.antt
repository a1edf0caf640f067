use Rattle.std.proofs.Common.{◌+◌, subst, option_map, arith}
use Rattle.model.specs.declared.entry.Entry.{Entry}
use Rattle.model.specs.declared.end.End.{End}
use Rattle.explore.specs.declared.Shown.{Shown}
use Rattle.wavetexts.specs.ToldWaves.{IsWaveTold}
use Rattle.wavetexts.proofs.Told.{tells_more}
use Rattle.wavetexts.proofs.telling.push_others.Goals as goal

pub loop-place-preserved : goal.loop-place-preserved
loop-place-preserved c =
    let names = c.args.names.now in
    let prefix = option_map (λ path. path.now) names.prefix in
    let first = c.args.first.now.text.items in
    let at = c.loop-place.place in
    let told = c.told_wave-told.result in
    tells_more names.design.now.names names.registers.now prefix first 2 at (at + 2) c.args.others.now c.index-others-place.result told c.args.text.now.items c.loop-place.text.items c.push_wave.new.text.items c.loop-place-test.true
    c.loop-place.invariant (omega arith) (subst (λ (w : Shown Entry End). IsWaveTold names.design.now.names names.registers.now prefix first (at + 2) w.text.items told) c.index-others-place.is c.told_wave-told.ensures) c.in_ok-push_wave.ensures
