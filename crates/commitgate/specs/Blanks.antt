-- What the type of a gate without a name keeps.
use Rattle.std.specs.Prelude.{◌≡◌, ℕ, ◌≤◌, [], List, None, replicate}
use Rattle.crossbeam_utils.specs.Seq.{cell_view}
use Rattle.model.specs.States.{start}
use Rattle.design.specs.Compiled.{design_of}
use Rattle.regcells.specs.CellSeats as regs
use Rattle.runstate.specs.declared.run_state.RunState.{RunState}
use Rattle.commitgate.specs.Named.{Named}
use Rattle.runstate.specs.GateState.{state_in}
use Rattle.runstate.specs.RunState.{gate_state_of}
use Rattle.runstate.specs.Guarded.{Guarded}
use Rattle.runstate.specs.Marked.{keeper}
use Rattle.commitgate.specs.Seats.{first_values}

-- of each register of a gate all x alone was seen
abbrev pub first_fresh : Named → regs.Fresh
first_fresh n = record { cells = n.cells; seen = first_values n.code }

-- The cells have the widths of the design's registers, and the holder and each worker's seat have seen that they are all x;
-- the mark's pass knows the empty ledger; the journal is empty, the regions are at the start, and no end is stored; and
-- there is room for a number of each worker.
pub record IsBlank (n : Named) (room : ℕ) (committed : List ℕ) (seats : List regs.Fresh) (run_state : RunState) : Type 0 where
  pub code_is : run_state.design.now ≡ n.code
  pub limits_is : run_state.limits ≡ n.limits
  pub widths_are : regs.register_widths n.cells ≡ n.code.widths
  pub seats_are : seats ≡ replicate n.workers (first_fresh n)
  pub holder_is : run_state.holder ≡ first_fresh n
  pub mark_is : run_state.whole.table_id ≡ n.mark
  pub keeps : cell_view run_state.whole ≡ keeper 0 []
  pub guarded : Guarded n.code n.limits (gate_state_of run_state)
  pub starts : state_in n.code (gate_state_of run_state) ≡ start (design_of n.code)
  pub journal_is : run_state.journal.items ≡ []
  pub end_is : run_state.end ≡ None
  pub none_yet : committed ≡ []
  pub room_is : n.workers ≤ room
