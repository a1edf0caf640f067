-- Files that are included are added at each step.
use Rattle.std.proofs.Common.{refl}
use Rattle.preprocess.proofs.Sourced.{adds_none, adds_same, adds_next}
use Rattle.preprocess.proofs.preprocessor.Preprocessor.run.Goals as goal

pub loop-piece-init : goal.loop-piece-init
loop-piece-init c = adds_none c.args.known.now c.args.self.now.work.files.items _ refl

pub returns-in_err-piece-clause-adds : goal.returns-in_err-piece-clause-adds
returns-in_err-piece-clause-adds c = adds_same c.args.known.now c.args.self.now.work.files.items _ _ c.loop-piece.invariant c.next_piece.ensures.files

pub returns-then-steps-eq0-clause-adds : goal.returns-then-steps-eq0-clause-adds
returns-then-steps-eq0-clause-adds c = adds_same c.args.known.now c.args.self.now.work.files.items _ _ c.loop-piece.invariant c.next_piece.ensures.files

pub returns-in_err-step-clause-adds : goal.returns-in_err-step-clause-adds
returns-in_err-step-clause-adds c = adds_next c.args.known.now c.args.self.now.work.files.items _ _ _ c.loop-piece.invariant c.next_piece.ensures.files c.step.ensures.adds

pub loop-piece-preserved : goal.loop-piece-preserved
loop-piece-preserved c = adds_next c.args.known.now c.args.self.now.work.files.items _ _ _ c.loop-piece.invariant c.next_piece.ensures.files c.step.ensures.adds

pub returns-clause-adds : goal.returns-clause-adds
returns-clause-adds c = adds_same c.args.known.now c.args.self.now.work.files.items _ _ c.loop-piece.invariant c.next_piece.ensures.files
