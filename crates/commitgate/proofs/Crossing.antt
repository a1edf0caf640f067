-- That threads may share a gate. `search` runs out of steps where it goes down through all of a gate's types at once, so
-- each large type is a step of its own.
use denote.RattleType.{RattleType}
use denote.Ref.{NamedLft}
use denote.Struct.Declared.{shape}
use denote.Param.Send.{IsSend, IsSync, AllSend, AllSync, struct_send, struct_sync, recorded_send, recorded_sync, view_send, sendable}
use Rattle.std.proofs.Crossing.{crosses}
use Rattle.crossbeam_utils.proofs.atomic.seq_cell.Wide.TheSendSync as cell
use Rattle.design.specs.contracts.design.Design as Design
use Rattle.regcells.proofs.cells.RegCells.TheSendSync as cells
use Rattle.runstate.proofs.Crossing.{run_state_send}
use Rattle.commitgate.specs.declared.naming.Naming as Naming
use Rattle.commitgate.proofs.ticket.Ticket.TheSendSync as ticket
use Rattle.commitgate.specs.contracts.state.GateState as State
use Rattle.commitgate.specs.contracts.state.GateState.TheInside as inside
use Rattle.commitgate.specs.contracts.gate.Gate as Gate

-- the design that they borrow may be shared
module _ (l : NamedLft) (design : IsSync Design.the_row) where
  module _ (K : RattleType) (n : Naming.Ghosts K.Denot) (k : IsSend K) where
    state_fields : AllSend (shape (inside.the_type l K n)).fields
    state_fields = (run_state_send l design, (search (ticket.the_send, crosses, sendable) depth 20, (search (crosses, sendable) depth 40, tt)))

    inside_send : IsSend (inside.the_field l K n).row
    inside_send = struct_send (shape (inside.the_type l K n)) state_fields

    state_send : IsSend (State.the_row l K n)
    state_send = search (inside_send, view_send, recorded_send) depth 20

    gate_fields : AllSync (shape (Gate.the_type l K n)).fields
    gate_fields = (
      search (cells.the_sync, sendable) depth 20,
      (
        search (cell.the_field_sync, cell.the_sync, crosses, sendable) depth 20,
        (search (state_send, crosses, sendable) depth 20, (search (crosses, sendable) depth 20, (search (crosses, sendable) depth 20, tt))),
      ),
    )

    pub gate_sync : IsSync (Gate.the_row l K n)
    gate_sync = recorded_sync (Gate.the_field l K n).row _ _ (Gate.the_type l K n).to_one (struct_sync (shape (Gate.the_type l K n)) gate_fields)
