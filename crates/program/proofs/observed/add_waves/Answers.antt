-- The waves of texts, added one by one.
use Rattle.std.proofs.Common.{◌++◌, IsTrue}
use Rattle.std.specs.List.{All, Any}
use Rattle.model.specs.declared.entry.Entry.{Entry}
use Rattle.model.specs.declared.end.End.{End}
use Rattle.explore.specs.declared.Shown.{Shown}
use Rattle.explore.specs.Search.{IsShown}
use Rattle.looseruns.specs.ObservedJournals.{SeenEnd}
use Rattle.wavetexts.specs.Waves.{IsWaveOfText}
use Rattle.program.proofs.Knowing.{each_before}
use Rattle.program.proofs.Searched.{if_ok}
use Rattle.program.proofs.Waved.{texts_of_waves, waves_each}
use Rattle.program.proofs.observed.add_waves.Goals as goal

pub returns-clause-each : goal.returns-clause-each
returns-clause-each c = waves_each c.args.all.now.shown.items c.add_all.new.self.shown.items c.in_ok-waves.waves.items c.args.others.items c.in_ok-waves.ensures c.add_all.ensures.each

pub returns-in_err-waves-clause-each : goal.returns-in_err-waves-clause-each
returns-in_err-waves-clause-each c = each_before (λ (w : Shown Entry End). Any (λ (s : Shown Entry SeenEnd). IsWaveOfText s w) c.args.others.items) c.args.all.now.shown.items

pub returns-clause-there : goal.returns-clause-there
returns-clause-there c =
    let shown = c.add_all.new.self.shown.items in
    if_ok (λ whole. IsTrue whole → All (λ (s : Shown Entry End). IsShown shown s.text.items s.end) c.in_ok-waves.waves.items)
    (λ whole. IsTrue whole → All (λ (s : Shown Entry SeenEnd). IsShown shown (s.text.items ++ s.end.seen) s.end.end) c.args.others.items) c.add_all.result
    (λ whole there yes. texts_of_waves (λ text end. IsShown shown text end) c.args.others.items c.in_ok-waves.waves.items c.in_ok-waves.ensures (there yes)) c.add_all.ensures.there
