-- The texts of the first run, of the second runs and of the random orders, one behind the other.
use Rattle.std.proofs.Common.{◌∙◌, List, subst, sym}
use Rattle.std.specs.List.{All}
use Rattle.std.proofs.lemmas.List.Elements.{All-nil}
use Rattle.model.specs.declared.entry.Entry.{Entry}
use Rattle.model.specs.declared.end.End.{End}
use Rattle.explore.specs.declared.Shown.{Shown}
use Rattle.runs.specs.RunRecords.{IsRun}
use Rattle.races.specs.declared.told.Race.{Race}
use Rattle.program.specs.Findings.{IsKnown, IsLawfulShown, limits_in}
use Rattle.program.proofs.Knowing.{all_known, races_run, refused_by}
use Rattle.program.proofs.known.known_texts.Goals as goal

pub returns-clause-known : goal.returns-clause-known
returns-clause-known g c =
    let code = c.args.design.now in
    let search_options = c.args.search_options in
    let limits = limits_in search_options in
    let found = c.args.found.now in
    let races = c.requires.races.1 in
    let begun = subst (λ (ss : List (Shown Entry End)). All (IsLawfulShown code limits) ss) (sym c.new-known.ensures.none) (All-nil (IsLawfulShown code limits)) in
    let one = c.in_ok-add_run.ensures.lawful code limits races.original begun in
    let shown = subst (λ (rs : List Race). All (λ (race : Race). IsRun code limits race.exchanged) rs) (sym c.as_slice.ensures.value) (races_run code limits c.requires.races.0 found races) in
    let two = c.in_ok-add_races.ensures.lawful code limits shown one in
    let told = subst (λ (rs : List Race). All (λ (race : Race). IsKnown c.add_races.new.self.most c.add_races.new.self.shown.items race.exchanged) rs) c.as_slice.ensures.value c.in_ok-add_races.ensures.known in
    let most = c.in_ok-orders_refused.ensures.grows.most ∙ (c.in_ok-add_races.ensures.grows.most ∙ (c.in_ok-add_run.ensures.grows.most ∙ c.new-known.ensures.most)) in
    all_known code search_options found c.add_run.new.self c.add_races.new.self c.add_orders.new.self most (c.in_ok-orders_refused.ensures.lawful two) c.in_ok-add_races.ensures.few
    c.in_ok-orders_refused.ensures.few c.in_ok-add_races.ensures.grows c.in_ok-orders_refused.ensures.grows c.in_ok-add_run.ensures.known told

pub returns-clause-refused : goal.returns-clause-refused
returns-clause-refused g c =
    refused_by c.args.search_options.samples c.args.found.now.cut c.in_ok-orders_refused.orders_refused c.is_refused-refused.result c.is_refused-refused.ensures c.in_ok-orders_refused.ensures.refused
