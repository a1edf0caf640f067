-- A process that stands as its logic says is a member.
use Rattle.std.proofs.Common.{◌≡◌, ◌<◌, ◌⊎◌, inl, inr, ℕ, true, false, List, [], ◌++◌, length, Option, Some, None, refl, sym, ap, subst, ◌∙◌}
use Rattle.std.specs.Prelude.{slice_get, slice_index_or, is_some, IfSome}
use Rattle.std.specs.Option.{IsSomeAnd}
use Rattle.std.proofs.lemmas.List.{length-map}
use Rattle.logic4.specs.Vector.{Vector}
use Rattle.model.specs.Design.{Trigger}
use Rattle.model.specs.Expressions.{Store}
use Rattle.model.specs.Turns.{Remainder, short_turn}
use Rattle.model.specs.Turns as turns
use Rattle.model.specs.States as states
use Rattle.model.specs.States.{State}
use Rattle.model.specs.Runs.{turn_of}
use Rattle.orders.specs.Apart.{all_given}
use Rattle.design.specs.Compiled.{Compiled, design_of}
use Rattle.design.specs.declared.code.ProcState.{ProcState}
use Rattle.design.specs.DesignInvariant.{pending_part, remainder_of_state, controls_of, IsStateOf}
use Rattle.design.specs.CodePlaces.{remainder_at}
use Rattle.turn.specs.TurnLogs.{LogView, IsLogOf}
use Rattle.phases.specs.Phase.{Block, triggers, continuation_of, IsTurnPending, IsBlockWaiting, HasSettled, IsConsistent}
use Rattle.regions.specs.declared.queue.Continuation.{Continuation}
use Rattle.regions.specs.Queue.{Core, state_of}
use Rattle.regions.specs.Machine.{Stands}
use Rattle.regions.specs.ProcessWaking.{triggers_at}
use Rattle.regions.specs.Reader.{IsTurnOn}
use Rattle.regions.proofs.Evaluated.{remainder_is}
use Rattle.combinational.specs.declared.block.Logic.{Logic}
use Rattle.combinational.specs.declared.network.Network.{Network}
use Rattle.combinational.specs.Found.{IsNetworkOf, HasLogic, block_in}
use Rattle.settling.specs.Settling.{IsMember, IsMemberAt, IsPendingOrSettled, IsPlaceBehind}
use Rattle.settling.specs.LogicStanding.{IsContinuedAt, StandsBehind, HasUnchangingTurn, StandsAs}
use Rattle.settling.proofs.Phases.{member_block}
use Rattle.settling.proofs.Places.{element_at}

-- a process that goes on so, and waits for these
abbrev placed : List Trigger → Remainder → states.Continuation
placed ts rest = record { remainder = rest; triggers = ts }

-- the remainder of a process that goes on behind its wait
remainder_behind : (code : Compiled) (x : Continuation) (logic : Logic) → StandsBehind x logic → remainder_of_state code x.state ≡ (block_in code logic).rest
remainder_behind code x logic behind =
    ap (λ (o : Option (ℕ × Vector)). pending_part o ++ remainder_at (design_of code) x.state.place) behind.pending ∙ ap (remainder_at (design_of code)) behind.place

same_turn : (one other : turns.Turn) (o : Option turns.Turn) → o ≡ Some one → o ≡ Some other → one ≡ other
same_turn one other o is is' = cc

-- the turn that leaves every value is the only one
consistent : (code : Compiled) (s : State) (p : ℕ) (block : Block) → continuation_of s p ≡ record { remainder = block.rest; triggers = triggers block } → HasUnchangingTurn (design_of code) s p → IsConsistent (design_of code) s p block
consistent code s p block is (turn, turned, leaves) other here =
    let at : turn_of (design_of code) s p ≡ Some other = ap (λ (x : states.Continuation). short_turn (design_of code) p x.remainder s.store s.time) is ∙ here in
    subst (λ (t : turns.Turn). all_given s.store t.writes ≡ s.store) (same_turn turn other (turn_of (design_of code) s p) turned at) leaves

awaited_at : (controls : List (List Trigger)) (waits control : ℕ) (ts : List Trigger) → waits ≡ control → slice_get controls control ≡ Some ts → triggers_at controls (Some waits) ≡ ts
awaited_at controls waits control ts same at = ap (λ n. slice_index_or controls n []) same ∙ element_at controls control ts [] at

stands_by : (code : Compiled) (s : State) (p : ℕ) (logic : Logic) (rest : Remainder) (waits : Option ℕ) → continuation_of s p ≡ record { remainder = rest; triggers = triggers_at (controls_of code) waits } → rest ≡ (block_in code logic).rest
    → slice_get (controls_of code) logic.control ≡ Some (triggers (block_in code logic)) → StandsAs s p logic.control waits → IsTurnPending s p (block_in code logic) ⊎ IsBlockWaiting s p (block_in code logic)
stands_by code s p logic rest None is left at stand =
    inl (stand, is ∙ ap (placed []) left)
stands_by code s p logic rest (Some waits) is left at (same, none) =
    inr (
      none,
      is ∙ ap (placed (triggers_at (controls_of code) (Some waits))) left
          ∙ ap (λ (ts : List Trigger). placed ts (block_in code logic).rest) (awaited_at (controls_of code) waits logic.control (triggers (block_in code logic)) same at),
    )

pending_by : (code : Compiled) (s : State) (p : ℕ) (logic : Logic) (rest : Remainder) (waits : Option ℕ) → continuation_of s p ≡ record { remainder = rest; triggers = triggers_at (controls_of code) waits } → rest ≡ (block_in code logic).rest
    → StandsAs s p logic.control waits → waits ≡ None → IsTurnPending s p (block_in code logic)
pending_by code s p logic rest None is left stand none = (stand, is ∙ ap (placed []) left)
pending_by code s p logic rest (Some waits) is left stand none = cc

pub member_stands : (code : Compiled) (core : Core) (s : State) (network : Network) (p : ℕ) (logic : Logic) (x : Continuation) → IsNetworkOf code network → slice_get network.logics.items p ≡ Some (Some logic)
    → (p < length s.processes) × (continuation_of s p ≡ record { remainder = remainder_of_state code x.state; triggers = triggers_at (controls_of code) x.waits }) → IsContinuedAt core p x.state → StandsBehind x logic
    → StandsAs s p logic.control x.waits → IsMemberAt code core s network p x
member_stands code core s network p logic x found at (exists, is) place behind stand =
    let has : HasLogic code p logic = found.each p logic at in
    record {
      member = record {
        logic = logic;
        found = at;
        exists = exists;
        stands = stands_by code s p logic (remainder_of_state code x.state) x.waits is (remainder_behind code x logic behind) has.control stand;
      };
      place = place;
      pending = pending_by code s p logic (remainder_of_state code x.state) x.waits is (remainder_behind code x logic behind) stand;
    }

-- a place that was found is that of a member
pub some_member : (code : Compiled) (core : Core) (s : State) (network : Network) (p : ℕ) (o : Option Continuation) → is_some o ≡ true → IfSome o (IsMemberAt code core s network p) → IsMember code s network p
some_member code core s network p None is at = cc
some_member code core s network p (Some x) is at = at.member

-- a member that waits for nothing is pending or settled, and one whose turn leaves every value
none_waited : (o : Option ℕ) → is_some o ≡ false → o ≡ None
none_waited None is = refl
none_waited (Some waits) is = cc

pub pending_so : (code : Compiled) (core : Core) (s : State) (network : Network) (p : ℕ) (x : Continuation) → IsMemberAt code core s network p x → is_some x.waits ≡ false → IsPendingOrSettled code s network p
pending_so code core s network p x h is =
    record { member = h.member; settled = inl (h.pending (none_waited x.waits is)) }

pub settled_so : (code : Compiled) (s : State) (network : Network) (p : ℕ) → IsMember code s network p → HasUnchangingTurn (design_of code) s p → IsPendingOrSettled code s network p
settled_so code s network p m leaves =
    record { member = m; settled = settled_if m.stands }
  where
    settled_if : IsTurnPending s p (block_in code m.logic) ⊎ IsBlockWaiting s p (block_in code m.logic) → IsTurnPending s p (block_in code m.logic) ⊎ HasSettled (design_of code) s p (block_in code m.logic)
    settled_if (inl h) = inl h
    settled_if (inr (none, is)) = inr (none, is, consistent code s p (block_in code m.logic) is leaves)

-- a turn that there is leaves every value where the writes of its log do
leaving_turn : (code : Compiled) (log : LogView) (a : Store) (o : Option turns.Turn) → IsSomeAnd o (IsLogOf (remainder_of_state code) (controls_of code) log) → all_given a log.writes ≡ a
    → (turn : turns.Turn) × (o ≡ Some turn) × (all_given a turn.writes ≡ a)
leaving_turn code log a None h leaves = absurd h
leaving_turn code log a (Some turn) h leaves = (turn, refl, subst (λ (ws : List (ℕ × Vector)). all_given a ws ≡ a) h.writes leaves)

-- the turn where a process goes on leaves every value
left_from : (code : Compiled) (core : Core) (values : List Vector) (p : ℕ) (place : ProcState) (log : LogView) → Stands code core values → IsTurnOn code place values core.time log → IsContinuedAt core p place → all_given values log.writes ≡ values
    → HasUnchangingTurn (design_of code) (state_of (remainder_of_state code) values core) p
left_from code core values p place log stands is (within, at) leaves =
    let d : ProcState × List Trigger = (place, []) in
    let own : IsStateOf code p place = subst (IsStateOf code p) (at d) (stands.states p d within) in
    let count : length values ≡ length code.widths = sym (length-map values length) ∙ ap length stands.store in
    let (turn, is_turn, left) = leaving_turn code log values (short_turn (design_of code) p (remainder_of_state code place) values core.time) (is.is_log.turn p own values count (is.agrees p own)) leaves in
    (turn, ap (λ (r : Remainder). short_turn (design_of code) p r values core.time) (remainder_is (remainder_of_state code) core.processes p place at) ∙ is_turn, left)

-- and so does what was evaluated on the values of a machine
pub left_by : (code design : Compiled) (core : Core) (values store : List Vector) (p : ℕ) (place : ProcState) (now : ℕ) (log : LogView) (writes : List (ℕ × Vector)) → Stands code core values → design ≡ code → now ≡ core.time → store ≡ values → IsTurnOn design place store now log
    → IsContinuedAt core p place → writes ≡ log.writes → all_given values writes ≡ values → HasUnchangingTurn (design_of code) (state_of (remainder_of_state code) values core) p
left_by code design core values store p place now log writes stands codes time still is at are leaves =
    let is' : IsTurnOn code place values core.time log =
    subst (λ (k : Compiled). IsTurnOn k place values core.time log) codes (subst (λ (vs : List Vector). IsTurnOn design place vs core.time log) still (subst (λ (t : ℕ). IsTurnOn design place store t log) time is)) in
    left_from code core values p place log stands is' at (subst (λ (ws : List (ℕ × Vector)). all_given values ws ≡ values) are leaves)

-- where a process goes on behind its wait is a place of its own
pub place_is : (code : Compiled) (core : Core) (values : List Vector) (network : Network) (p : ℕ) (logic : Logic) (x : Continuation) → Stands code core values → slice_get network.logics.items p ≡ Some (Some logic) → IsContinuedAt core p x.state
    → StandsBehind x logic → IsPlaceBehind code network p x.state
place_is code core values network p logic x stands found (within, at) behind =
    let d : ProcState × List Trigger = (x.state, []) in
    record {
      own = subst (IsStateOf code p) (at d) (stands.states p d within);
      rest = remainder_behind code x logic behind ∙ ap (λ (b : Block). b.rest) (sym (member_block code network p logic found));
    }
