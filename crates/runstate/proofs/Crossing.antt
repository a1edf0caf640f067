-- That threads may share the state of a run. `search` runs out of steps where it goes down through all of its types
-- at once, so each large type is a step of its own.
use denote.Ref.{NamedLft}
use denote.Struct.Declared.{shape}
use denote.Param.Send.{IsSend, IsSync, AllSend, struct_send, sendable}
use Rattle.std.proofs.Crossing.{crosses}
use Rattle.atomic_table.proofs.shared.Seat.TheSendSync as pass
use Rattle.design.specs.contracts.design.Design as Design
use Rattle.regions.specs.contracts.state.State as Regions
use Rattle.regions.specs.contracts.state.Made as Made
use Rattle.regcells.proofs.cells.Holder.TheSendSync as holder
use Rattle.runstate.specs.contracts.run_state.RunState as RunState

regions_send : IsSend Regions.the_row
regions_send = search (crosses, sendable) depth 40 fits 5000

made_send : IsSend Made.the_field.row
made_send = search (crosses, sendable) depth 40 fits 5000

-- the design that they borrow may be shared
module _ (l : NamedLft) (design : IsSync Design.the_row) where
  run_state_fields : AllSend (shape (RunState.the_type l)).fields
  run_state_fields = (
    search sendable depth 20,
    (
      search sendable depth 20,
      (
        search (regions_send, sendable) depth 20,
        (
          search (holder.the_send, sendable) depth 20,
          (
            search (crosses, sendable) depth 20,
            (
              search (made_send, sendable) depth 20,
              (search sendable depth 20, (search (pass.the_send, sendable) depth 20, tt)),
            ),
          ),
        ),
      ),
    ),
  )

  pub run_state_send : IsSend (RunState.the_field l).row
  run_state_send = struct_send (shape (RunState.the_type l)) run_state_fields
