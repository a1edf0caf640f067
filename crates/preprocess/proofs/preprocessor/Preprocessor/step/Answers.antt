-- A piece that stands has a place that stands.
use Rattle.preprocess.proofs.Sourced.{adds_none}
use Rattle.std.proofs.Common.{refl}
use Rattle.preprocess.proofs.Standing.{piece_span}
use Rattle.preprocess.proofs.preprocessor.Preprocessor.step.Goals as goal

pub read_joint-requires : goal.read_joint-requires
read_joint-requires c = piece_span c.args.self.now.work.files.items c.args.piece c.requires

pub returns-in-Directive-clause-adds : goal.returns-in-Directive-clause-adds
returns-in-Directive-clause-adds c = c.read_directive.ensures.adds

pub returns-in-Token-clause-adds : goal.returns-in-Token-clause-adds
returns-in-Token-clause-adds c = adds_none c.args.known.now c.args.self.now.work.files.items _ c.read_token.ensures.files

pub returns-in-Joint-clause-adds : goal.returns-in-Joint-clause-adds
returns-in-Joint-clause-adds c = adds_none c.args.known.now c.args.self.now.work.files.items _ refl
