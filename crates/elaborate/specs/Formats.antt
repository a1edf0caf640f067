-- The reading of formats, as the program does it.
use Rattle.std.specs.Prelude.{List, [], ◌∷◌, Option, Some, None}
use Rattle.model.specs.Elaboration as model
use Rattle.model.specs.Syntax as source
use Rattle.model.specs.declared.tree.Piece.{Piece}
use Rattle.model.specs.SourceTrees.{piece_of}
use Rattle.elaborate.specs.declared.format.FormatStage.{FormatStage}
use Rattle.elaborate.specs.declared.format.FormatStage.TheVariants.{AtByte, AfterPercent, AfterZero}

-- where a format is read
abbrev pub stage_of : FormatStage → model.FormatStage
stage_of AtByte = model.AtByte
stage_of AfterPercent = model.AfterPercent
stage_of AfterZero = model.AfterZero

-- the piece that a byte completes, if it completes one
abbrev pub completed_piece : Option Piece → List source.Piece
completed_piece None = []
completed_piece (Some piece) = piece_of piece ∷ []

-- where a format is read next, and the piece that was completed
abbrev pub step_of : FormatStage × Option Piece → model.FormatStage × List source.Piece
step_of step = (stage_of step.0, completed_piece step.1)
