use Rattle.std.proofs.Common.{List, map, option_map, sym, subst}
use Rattle.statements.specs.declared.statement_token.StatementToken.{StatementToken}
use Rattle.statements.specs.PlainStatementTokens.{plain_statement_token}
use Rattle.naming.specs.SourcePlaces.{AreStatementsOf}
use Rattle.naming.specs.Naming.{parting_of}
use Rattle.naming.proofs.Races.{tells_behind, tells_both}
use Rattle.naming.proofs.naming.push_races.Goals as goal

pub places_with-places-requires : goal.places_with-places-requires
places_with-places-requires c =
    subst (λ (ts : List StatementToken). AreStatementsOf c.args.names.now.source.now (map plain_statement_token ts)) (sym c.as_slice-tokens.ensures.value) c.in_ok-statements.ensures

pub returns : goal.returns
returns c =
    let names = c.args.names.now in
    let prefix = option_map (λ path. path.now) names.prefix in
    let places = c.places_with-places.result in
    let found = c.args.found.now in
    let causes = c.args.causes.now in
    let old = c.args.text.now.items in
    let mid = c.push_each.new.text.items in
    let started = c.told_before-told.result in
    let of_source = c.places_with-places.ensures in
    let some = tells_both places names.design.now names.shown.now prefix causes (map (parting_of found.original) found.races.items) old c.push_parting.new.text.items mid started c.push_parting.new.told
    c.push_each.new.told c.in_ok-push_parting.ensures.tells c.in_ok-push_each.ensures in
    tells_behind c.push_end.result names.processes.now names.source.now places names.design.now names.shown.now prefix names.race_bounds found causes old mid c.push_kept.new.text.items c.push_end.new.text.items started
    c.push_each.new.told of_source c.told_before-told.ensures.number c.told_before-told.ensures.none some c.in_ok-push_kept.ensures c.push_end.ensures
