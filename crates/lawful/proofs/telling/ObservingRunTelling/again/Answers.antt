-- The node of a run, made again before an observer.
use Rattle.loose.specs.Classes.{class_in}
use Rattle.lawful.proofs.SeenAgain.{made_seen_again}
use Rattle.lawful.proofs.telling.ObservingRunTelling.again.Goals as goal

pub returns : goal.returns
returns c code limits run other from whole =
    made_seen_again (class_in c.args.classes.now) code limits c.args.self.now c.args.from.now c.in_ok-node.node other run c.args.moves.now c.in_ok-node.ensures from whole
