use Rattle.std.proofs.Common.{◌≡◌, ◌∙◌, ap, ◌+◌, ◌++◌, List, ℕ, arith, drop, take, length, map, option_map, sym, subst}
use Rattle.causes.specs.Causes.{numbered_causes}
use Rattle.causes.specs.declared.parting_race.PartingRace.{PartingRace}
use Rattle.races.specs.declared.told.Race.{Race}
use Rattle.statements.specs.declared.statement_token.StatementToken.{StatementToken}
use Rattle.statements.specs.PlainStatementTokens.{plain_statement_token}
use Rattle.naming.specs.SourcePlaces.{AreStatementsOf}
use Rattle.naming.specs.Naming.{TellsSome, numbered_before, numbered_races, unnamed_lines}
use Rattle.naming.proofs.Races.{tells_more_behind}
use Rattle.naming.proofs.naming.push_more_races.Goals as goal

pub places_with-places-requires : goal.places_with-places-requires
places_with-places-requires c =
    subst (λ (ts : List StatementToken). AreStatementsOf c.args.names.now.source.now (map plain_statement_token ts)) (sym c.as_slice-tokens.ensures.value) c.in_ok-statements.ensures

pub returns : goal.returns
returns c =
    let names = c.args.names.now in
    let prefix = option_map (λ path. path.now) names.prefix in
    let places = c.places_with-places.result in
    let before = c.args.before in
    let found = c.args.found.now in
    let causes = c.args.causes.now in
    let old = c.args.text.now.items in
    let mid = c.push_parting.new.text.items in
    let next = c.push_kept.new.text.items in
    let started = c.told_before-told.result in
    let after = c.push_parting.new.told in
    let of_source = c.places_with-places.ensures in
    let early : c.split_at.result.0.now ≡ take before causes.causes.items = c.split_at.ensures.front ∙ ap (take before) c.as_slice.ensures.value in
    let more : c.split_at.result.1.now ≡ drop before causes.causes.items = c.split_at.ensures.back ∙ ap (drop before) c.as_slice.ensures.value in
    let found_count : c.numbered_found.result ≡ length (numbered_races found.races.items) = c.numbered_found.ensures.value ∙ ap (λ (rs : List Race). length (numbered_races rs)) c.as_slice-2.ensures.value in
    let early_count : c.numbered_count.result ≡ length (numbered_causes (take before causes.causes.items)) = c.numbered_count.ensures.value ∙ ap (λ (cs : List PartingRace). length (numbered_causes cs)) early in
    let first : started.number ≡ numbered_before found before causes.causes.items + 1 = omega (arith, c.told_before-told.ensures.number, found_count, early_count) in
    let some = subst (λ (cs : List PartingRace). TellsSome places names.design.now names.shown.now prefix cs old mid started after) more c.in_ok-push_parting.ensures.tells in
    let unnamed = c.in_ok-push_unnamed_texts.ensures ∙ ap (λ (ns : List ℕ). next ++ unnamed_lines ns) c.as_slice-3.ensures.value in
    let seen = c.push_unseen.ensures in
    tells_more_behind c.push_unseen.result names.processes.now names.source.now places names.design.now names.shown.now prefix names.race_bounds found before causes old mid next c.push_unnamed_texts.new.text.items c.push_end.new.text.items c.push_alone.new.text.items c.push_unseen.new.text.items
    started after of_source first c.told_before-told.ensures.none some c.in_ok-push_kept.ensures unnamed c.in_ok-push_end.ensures c.in_ok-push_alone.ensures seen
