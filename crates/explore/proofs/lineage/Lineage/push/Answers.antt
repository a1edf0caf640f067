use Rattle.explore.specs.Pieces.{pieces}
use Rattle.explore.proofs.Steps.{gone-push, AreSteps-push}
use Rattle.explore.proofs.lineage.Lineage.push.Goals as goal

pub returns-clause-lineage : goal.returns-clause-lineage
returns-clause-lineage g c =
    record {
      whole = c.in_ok-push.ensures.whole;
      after = AreSteps-push (pieces c.args.self.now.steps) (pieces c.push.new.self) (c.args.from, c.args.moves.now) c.requires.lineage.after c.in_ok-push.ensures.pieces c.requires.from;
    }

pub returns-clause-ways : goal.returns-clause-ways
returns-clause-ways g c = gone-push (pieces c.args.self.now.steps) (pieces c.push.new.self) (c.args.from, c.args.moves.now) c.in_ok-push.ensures.pieces
