use Rattle.std.proofs.Common.{option_map}
use Rattle.program.proofs.Searched.{tells_alone}
use Rattle.program.proofs.racing.race_lines.Goals as goal

pub returns : goal.returns
returns c =
    let names = c.args.names.now in
    tells_alone names.processes.now names.source.now names.design.now names.shown.now (option_map (λ path. path.now) names.prefix) names.race_bounds c.args.found.now c.args.causes.now c.new-lines.result.items c.push_races.new.text.items
    c.new-lines.ensures.items c.in_ok-push_races.ensures
