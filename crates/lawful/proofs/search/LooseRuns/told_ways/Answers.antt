-- The ways from a node are those of a search, as they are told.
use Rattle.loose.specs.Classes.{class_in}
use Rattle.lawful.proofs.search.LooseRuns.told_ways.Goals as goal

pub ways-requires : goal.ways-requires
ways-requires g c =
    let o = c.args.self.now in
    let (run, at) = c.requires in
    (run, g.met.T.RunTelling.stands_loosely o.telling.now o.analyzed_design (class_in o.classes.items) o.limits c.args.node run at)

pub returns : goal.returns
returns g c run stands text sight =
    let o = c.args.self.now in
    c.in_ok-told.ensures (class_in o.classes.items) o.analyzed_design o.limits c.args.node run stands text sight c.in_ok-ways.ensures
