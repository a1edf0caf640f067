-- A piece that stands has a place that stands.
use Rattle.preprocess.proofs.Sourced.{adds_none}
use Rattle.std.proofs.Common.{refl}
use Rattle.preprocess.proofs.Standing.{piece_span}
use Rattle.preprocess.proofs.preprocessor.Preprocessor.read_directive.Goals as goal

pub read_condition-requires : goal.read_condition-requires
read_condition-requires c = piece_span c.args.self.now.work.files.items c.args.piece c.requires

pub define-requires : goal.define-requires
define-requires c = piece_span c.args.self.now.work.files.items c.args.piece c.requires

pub undefine-requires : goal.undefine-requires
undefine-requires c = piece_span c.args.self.now.work.files.items c.args.piece c.requires

pub include-requires : goal.include-requires
include-requires c = piece_span c.args.self.now.work.files.items c.args.piece c.requires

pub read_line-requires : goal.read_line-requires
read_line-requires c = piece_span c.args.self.now.work.files.items c.args.piece c.requires

pub read_setting-requires : goal.read_setting-requires
read_setting-requires c = piece_span c.args.self.now.work.files.items c.args.piece c.requires

pub returns-in-BeginKeywords-clause-fault : goal.returns-in-BeginKeywords-clause-fault
returns-in-BeginKeywords-clause-fault c = piece_span c.args.self.now.work.files.items c.args.piece c.requires

pub returns-in_default-directive-clause-adds : goal.returns-in_default-directive-clause-adds
returns-in_default-directive-clause-adds c = adds_none c.args.known.now c.args.self.now.work.files.items _ c.read_setting.ensures.files

pub returns-then-is_condition-clause-adds : goal.returns-then-is_condition-clause-adds
returns-then-is_condition-clause-adds c = adds_none c.args.known.now c.args.self.now.work.files.items _ c.read_condition.ensures.files

pub returns-in-Define-clause-adds : goal.returns-in-Define-clause-adds
returns-in-Define-clause-adds c = adds_none c.args.known.now c.args.self.now.work.files.items _ c.define.ensures.files

pub returns-in-Undefine-clause-adds : goal.returns-in-Undefine-clause-adds
returns-in-Undefine-clause-adds c = adds_none c.args.known.now c.args.self.now.work.files.items _ c.undefine.ensures.files

pub returns-in-Line-clause-adds : goal.returns-in-Line-clause-adds
returns-in-Line-clause-adds c = adds_none c.args.known.now c.args.self.now.work.files.items _ c.read_line.ensures.files

pub returns-in-Pragma-clause-adds : goal.returns-in-Pragma-clause-adds
returns-in-Pragma-clause-adds c = adds_none c.args.known.now c.args.self.now.work.files.items _ c.skip_line.ensures

pub returns-in_default-clause-adds : goal.returns-in_default-clause-adds
returns-in_default-clause-adds c = adds_none c.args.known.now c.args.self.now.work.files.items _ c.read_use.ensures.files

pub returns-then-not-is_active-clause-adds : goal.returns-then-not-is_active-clause-adds
returns-then-not-is_active-clause-adds c = adds_none c.args.known.now c.args.self.now.work.files.items _ refl

pub returns-in-BeginKeywords-clause-adds : goal.returns-in-BeginKeywords-clause-adds
returns-in-BeginKeywords-clause-adds c = adds_none c.args.known.now c.args.self.now.work.files.items _ refl

pub returns-in-Include-clause-adds : goal.returns-in-Include-clause-adds
returns-in-Include-clause-adds c = c.include.ensures.adds
