-- What a test at the end of a phase says of a member.
use Rattle.std.proofs.Common.{◌≡◌, ◌≢◌, ◌⊎◌, inl, inr, ℕ, ◌+◌, ◌≤◌, Bool, true, List, [], ◌∷◌, ◌++◌, map, length, take, Some, sym, ap, subst, ◌∙◌, arith, get_or, ◌<◌, ◌==◌, ◌||◌, if◌then◌else◌, false}
use Rattle.std.specs.Prelude.{slice_get}
use Rattle.std.proofs.lemmas.List.{length-map, take_more, map-append}
use Rattle.logic4.specs.Vector.{Vector}
use Rattle.model.specs.Expressions.{value_of}
use Rattle.model.specs.Turns.{contains}
use Rattle.model.specs.Laws.{evaluations_in}
use Rattle.design.specs.Compiled.{Compiled, design_of}
use Rattle.phases.specs.Phase.{Block, IsTurnPending, IsBlockWaiting, HasSettled, IsConsistent}
use Rattle.phases.proofs.Members.{still_consistent}
use Rattle.combinational.specs.declared.block.Logic.{Logic}
use Rattle.combinational.specs.declared.network.Network.{Network}
use Rattle.regions.specs.declared.queue.Evaluation.{Evaluation}
use Rattle.regions.specs.Queue.{evaluation_event}
use Rattle.regions.specs.Machine.{MachineView, Stands, state_at}
use Rattle.settling.specs.declared.begin.Begin.{Begin}
use Rattle.settling.specs.Settling.{block_at, IsPendingOrSettled}
use Rattle.settling.specs.Settled.{HasSettledSince}
use Rattle.settling.proofs.Phases.{member_block, settled_so, changed_so}

-- the processes of evaluations are active

active_if : (rest : ℕ) (b later : Bool) → (b || later) ≡ true → (later ≡ true → 1 ≤ rest) → 1 ≤ (if b then 1 else 0) + rest
active_if rest true later there more = omega arith
active_if rest false later there more = omega (arith, more there)

pub active_there : (es : List Evaluation) (p : ℕ) → contains (map (λ (e : Evaluation). e.process) es) p ≡ true → 1 ≤ evaluations_in p (map evaluation_event es)
active_there [] p there = absurd (cc)
active_there (e ∷ es) p there =
    active_if (evaluations_in p (map evaluation_event es)) (e.process == p) (contains (map (λ (x : Evaluation). x.process) es) p) there (active_there es p)

pub processes_more : (es : List Evaluation) (at : ℕ) (ps more : List ℕ) (e : Evaluation) → at < length es → ps ≡ map (λ (x : Evaluation). x.process) (take at es) → e ≡ get_or es at e → more ≡ ps ++ e.process ∷ []
    → more ≡ map (λ (x : Evaluation). x.process) (take (at + 1) es)
processes_more es at ps more e within before is longer =
    let one : take (at + 1) es ≡ take at es ++ e ∷ [] = take_more es at e within ∙ ap (λ (f : Evaluation). take at es ++ f ∷ []) (sym is) in
    longer ∙ ap (λ (l : List ℕ). l ++ e.process ∷ []) before
    ∙ sym (ap (map (λ (x : Evaluation). x.process)) one ∙ map-append (λ (x : Evaluation). x.process) (take at es) (e ∷ []))

-- it was pending
pub pending_since : (begin : Begin) (end : MachineView) (network : Network) (p : ℕ) → contains begin.pending.items p ≡ true → HasSettledSince begin end network p
pending_since begin end network p there start members ends member =
    inl (inl (pending (ends.stands p member)))
  where
    pending : IsTurnPending (state_at start) p (block_at start.code network p) ⊎ IsBlockWaiting (state_at start) p (block_at start.code network p) → IsTurnPending (state_at start) p (block_at start.code network p)
    pending (inl h) = h
    pending (inr (none, continuation)) = absurd (omega (arith, none, ends.begins.active p there))

-- one of its inputs has another value
pub changed_since : (begin : Begin) (end : MachineView) (network : Network) (p : ℕ) (logic : Logic) (registers : List ℕ) (store : List Vector) → slice_get network.logics.items p ≡ Some (Some logic) → registers ≡ logic.inputs.items → store ≡ end.values
    → (r : ℕ) × (contains registers r ≡ true) × (value_of begin.values r ≢ value_of store r) → HasSettledSince begin end network p
changed_since begin end network p logic registers store found are is differs start members ends member =
    inr (changed_so start.code (state_at start) (state_at end) network p logic registers begin.values store found are ends.begins.values is differs)

-- it is untouched, and has settled
pub kept_since : (begin : Begin) (end : MachineView) (network : Network) (p : ℕ) (logic : Logic) (store : List Vector) → slice_get network.logics.items p ≡ Some (Some logic) → store ≡ end.values
    → ((r : ℕ) → contains logic.inputs.items r ≡ true → value_of begin.values r ≡ value_of store r) → ((r : ℕ) → contains logic.outputs.items r ≡ true → value_of begin.values r ≡ value_of store r)
    → Stands end.code end.core end.values → IsPendingOrSettled end.code (state_at end) network p → HasSettledSince begin end network p
kept_since begin end network p logic store found is inputs outputs stands settled start members ends member =
    inl (settled_then (ends.stands p member))
  where
    same : (r : ℕ) → value_of begin.values r ≡ value_of store r → value_of end.values r ≡ value_of start.values r
    same r kept =
        ap (λ (a : List Vector). value_of a r) (sym is) ∙ sym kept ∙ ap (λ (a : List Vector). value_of a r) ends.begins.values

    count : length end.values ≡ length start.values
    count =
        sym (length-map end.values length) ∙ ap length stands.store ∙ ap (λ (k : Compiled). length k.widths) (sym ends.code) ∙ sym ends.begins.count ∙ ap length ends.begins.values

    at_end : IsTurnPending (state_at end) p (block_at end.code network p) ⊎ HasSettled (design_of end.code) (state_at end) p (block_at end.code network p)
        → IsConsistent (design_of end.code) (state_at end) p (block_at end.code network p)
    at_end (inl (one, continuation)) =
        let zero : evaluations_in p (state_at end).active ≡ 0 = ap (evaluations_in p) ends.over in
        absurd (omega (arith, one, zero))
    at_end (inr (none, continuation, consistent)) = consistent

    consistent : IsConsistent (design_of start.code) (state_at end) p (block_at start.code network p)
    consistent =
        subst (λ (k : Compiled). IsConsistent (design_of k) (state_at end) p (block_at k network p)) (sym ends.code) (at_end (settled_so end.code (state_at end) network p settled))

    settled_then : IsTurnPending (state_at start) p (block_at start.code network p) ⊎ IsBlockWaiting (state_at start) p (block_at start.code network p)
        → IsTurnPending (state_at start) p (block_at start.code network p) ⊎ HasSettled (design_of start.code) (state_at start) p (block_at start.code network p)
    settled_then (inl h) = inl h
    settled_then (inr (none, continuation)) =
        inr (
          none,
          continuation,
          still_consistent (design_of start.code) (state_at end) (state_at start) p (block_at start.code network p) (ends.blocks p member) (sym ends.time) count
              (λ r there. same r (inputs r (ap (λ (b : Block). contains b.inputs r) (sym (member_block start.code network p logic found)) ∙ there)))
              (λ r there. same r (outputs r (ap (λ (b : Block). contains b.outputs r) (sym (member_block start.code network p logic found)) ∙ there))) consistent,
        )
