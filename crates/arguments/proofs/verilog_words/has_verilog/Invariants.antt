-- It stands among all words where it stands among those that are left.
use Rattle.std.proofs.Common.{◌≡◌, length}
use Rattle.arguments.specs.CommandWords.{texts_of}
use Rattle.arguments.specs.VerilogWords.{has_verilog}
use Rattle.arguments.proofs.verilog_words.has_verilog.Given as goal

abbrev pub invariant-loop-left : goal.invariant-loop-left
invariant-loop-left l = has_verilog (texts_of l.left) ≡ has_verilog (texts_of l.own)

abbrev pub decreases-loop-left : goal.decreases-loop-left
decreases-loop-left l = length l.left
