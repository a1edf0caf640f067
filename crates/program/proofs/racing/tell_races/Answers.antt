-- The lines that were shown tell the races, with the texts that are known from then on.
use Rattle.std.proofs.Common.{◌∙◌, ℕ, ◌<◌, List, length, option_map, subst}
use Rattle.std.specs.Io.KnownBytes.{Appends}
use Rattle.model.specs.declared.entry.Entry.{Entry}
use Rattle.model.specs.declared.end.End.{End}
use Rattle.explore.specs.declared.Shown.{Shown}
use Rattle.locations.specs.declared.location.ProcessLocation.{ProcessLocation}
use Rattle.causes.specs.Causes.{HasAnswer}
use Rattle.causes.specs.declared.parting_race.PartingRace.{PartingRace}
use Rattle.conflicts.specs.declared.bounds.RaceBounds.{RaceBounds}
use Rattle.naming.specs.Naming.{TellsRaces}
use Rattle.program.proofs.racing.tell_races.Goals as goal

pub returns-clause-told : goal.returns-clause-told
returns-clause-told g c =
    let processes = c.args.subject.now.processes.items in
    let source = c.args.subject.now.source.items in
    let design = c.args.subject.now.design in
    let request = c.args.request.now in
    let prefix = option_map (λ path. path.now) request.journals in
    let race_bounds : RaceBounds = record { pairs = 1000; races = 64; entries = 20000000 } in
    let found = c.races_of-found.result in
    let causes = c.first_causes-causes.result in
    let known = c.in_ok-orders.orders.shown.items in
    let first = c.in_ok-lines.lines.items in (
      first,
      record {
        are_races = c.races_of-found.ensures;
        are_known = c.in_ok-orders.ensures.known;
        are_causes = c.first_causes-causes.ensures.are;
        answered = subst (λ (ss : List (Shown Entry End)). 1 < length ss → HasAnswer found causes) c.as_slice.ensures.value c.first_causes-causes.ensures.answered;
        texts = c.len-texts.ensures ∙ c.in_ok-orders.orders.shown.ok.0;
        refused = c.in_ok-orders.ensures.refused;
        tells = subst (λ (ps : List ProcessLocation). TellsRaces ps source design known prefix race_bounds found causes.causes.items first) c.as_slice-2.ensures.value
            (subst (λ (text : List ℕ). TellsRaces c.as_slice-2.result.now text design known prefix race_bounds found causes.causes.items first) c.as_slice-3.ensures.value
            (subst (λ (cs : List PartingRace). TellsRaces c.as_slice-2.result.now c.as_slice-3.result.now design known prefix race_bounds found cs first) c.as_slice-5.ensures.value
            (subst (λ (ss : List (Shown Entry End)). TellsRaces c.as_slice-2.result.now c.as_slice-3.result.now design ss prefix race_bounds found c.as_slice-5.result.now first) c.as_slice-4.ensures.value c.in_ok-lines.ensures)));
      },
      subst (λ (l : List ℕ). Appends (g.O.Write.contents c.args.out.now) (g.O.Write.contents c.show_bytes.new.out) l) c.as_slice-6.ensures.value c.in_ok-show_bytes.ensures.written,
    )
