-- The processes of a machine in its state.
use Rattle.std.proofs.Common.{◌≡◌, ◌<◌, ℕ, zero, suc, true, false, List, [], ◌∷◌, map, length, Some, refl, sym, ap, subst, ◌∙◌, arith, get_or, ◌==◌}
use Rattle.std.specs.Prelude.{slice_get, slice_index_or}
use Rattle.std.specs.List.{list_any}
use Rattle.logic4.specs.Vector.{Vector}
use Rattle.model.specs.Design.{Trigger}
use Rattle.model.specs.Turns.{Remainder, contains}
use Rattle.model.specs.States as states
use Rattle.design.specs.declared.code.ProcState.{ProcState}
use Rattle.design.specs.Compiled.{Compiled}
use Rattle.design.specs.DesignInvariant.{remainder_of_state, controls_of}
use Rattle.phases.specs.Phase.{continuation_of, waits_for_register}
use Rattle.regions.specs.declared.queue.Continuation.{Continuation}
use Rattle.regions.specs.Queue.{Core, state_of, standing, process_wait_of}
use Rattle.regions.specs.ProcessWaking.{triggers_at}
use Rattle.settling.specs.Waiting.{OthersSleep}
use Rattle.settling.specs.LogicStanding.{IsContinuedAt}

pub element_at : {X : Type 0} (xs : List X) (k : ℕ) (x d : X) → slice_get xs k ≡ Some x → slice_index_or xs k d ≡ x
element_at [] k x d is = cc
element_at (y ∷ xs) zero x d is = cc
element_at (y ∷ xs) (suc k) x d is = element_at xs k x d is

standing_at : (rem : ProcState → Remainder) (controls : List (List Trigger)) (ps : List Continuation) (p : ℕ) (x : Continuation) (d : states.Continuation) → p < length ps → x ≡ get_or ps p x
    → slice_index_or (map (standing rem) (map (process_wait_of controls) ps)) p d ≡ standing rem (process_wait_of controls x)
standing_at rem controls [] p x d within is = absurd (omega (arith, within))
standing_at rem controls (y ∷ ps) zero x d within is = ap (λ (z : Continuation). standing rem (process_wait_of controls z)) (sym is)
standing_at rem controls (y ∷ ps) (suc p) x d within is = standing_at rem controls ps p x d (omega (arith, within)) is

exists_at : (rem : ProcState → Remainder) (controls : List (List Trigger)) (ps : List Continuation) (p : ℕ) → p < length ps → p < length (map (standing rem) (map (process_wait_of controls) ps))
exists_at rem controls [] p within = within
exists_at rem controls (y ∷ ps) zero within = omega arith
exists_at rem controls (y ∷ ps) (suc p) within = omega (arith, exists_at rem controls ps p (omega (arith, within)))

asleep_at : (rem : ProcState → Remainder) (controls : List (List Trigger)) (ps : List Continuation) (q r : ℕ) (none : states.Continuation) → none.triggers ≡ [] → ((d : Continuation) → q < length ps → list_any (λ (t : Trigger). t.1 == r) (triggers_at controls (slice_index_or ps q d).waits) ≡ false)
    → waits_for_register (slice_index_or (map (standing rem) (map (process_wait_of controls) ps)) q none) r ≡ false
asleep_at rem controls [] q r none is h = ap (list_any (λ (t : Trigger). t.1 == r)) is
asleep_at rem controls (y ∷ ps) zero r none is h = h y (omega arith)
asleep_at rem controls (y ∷ ps) (suc q) r none is h = asleep_at rem controls ps q r none is (λ d within. h d (omega (arith, within)))

-- the processes of a machine's queue
pub same_processes : (core queue : Core) (ps : List Continuation) (controls : List (List Trigger)) → map (process_wait_of queue.controls) ps ≡ queue.processes → queue ≡ core → core.controls ≡ controls → map (process_wait_of controls) ps ≡ core.processes
same_processes core queue ps controls are same controls_are =
    ap (λ (cs : List (List Trigger)). map (process_wait_of cs) ps) (sym controls_are ∙ ap (λ (k : Core). k.controls) (sym same)) ∙ are ∙ ap (λ (k : Core). k.processes) same

-- a process of a machine exists in its state, goes on from its place, and waits by its event control
pub process_at : (code : Compiled) (core : Core) (values : List Vector) (ps : List Continuation) (p : ℕ) (x : Continuation) → map (process_wait_of (controls_of code)) ps ≡ core.processes → p < length ps → x ≡ get_or ps p x
    → (p < length (state_of (remainder_of_state code) values core).processes) × (continuation_of (state_of (remainder_of_state code) values core) p ≡ record { remainder = remainder_of_state code x.state; triggers = triggers_at (controls_of code) x.waits })
process_at code core values ps p x are within is = (
  subst (λ (qs : List (ProcState × List Trigger)). p < length (map (standing (remainder_of_state code)) qs)) are (exists_at (remainder_of_state code) (controls_of code) ps p within),
  subst
      (λ (qs : List (ProcState × List Trigger)). slice_index_or (map (standing (remainder_of_state code)) qs) p (record { remainder = []; triggers = [] }) ≡ record { remainder = remainder_of_state code x.state; triggers = triggers_at (controls_of code) x.waits })
      are (standing_at (remainder_of_state code) (controls_of code) ps p x (record { remainder = []; triggers = [] }) within is),
)

continued : (controls : List (List Trigger)) (ps : List Continuation) (p : ℕ) (x : Continuation) → p < length ps → x ≡ get_or ps p x
    → (p < length (map (process_wait_of controls) ps)) × ((d : ProcState × List Trigger) → (slice_index_or (map (process_wait_of controls) ps) p d).0 ≡ x.state)
continued controls [] p x within is = absurd (omega (arith, within))
continued controls (q ∷ ps) zero x within is = (omega arith, λ d. ap (λ (y : Continuation). y.state) (sym is))
continued controls (q ∷ ps) (suc p) x within is =
    let (within', at) = continued controls ps p x (omega (arith, within)) is in
    (omega (arith, within'), at)

-- and it goes on there among those of the queue
pub continued_at : (core : Core) (controls : List (List Trigger)) (ps : List Continuation) (p : ℕ) (x : Continuation) → map (process_wait_of controls) ps ≡ core.processes → p < length ps → x ≡ get_or ps p x → IsContinuedAt core p x.state
continued_at core controls ps p x are within is =
    subst (λ (qs : List (ProcState × List Trigger)). (p < length qs) × ((d : ProcState × List Trigger) → (slice_index_or qs p d).0 ≡ x.state)) are (continued controls ps p x within is)

-- a process that is no member waits for none of these registers
pub stranger_sleeps : (code : Compiled) (core : Core) (values : List Vector) (ps : List Continuation) (members registers : List ℕ) (q r : ℕ) → map (process_wait_of (controls_of code)) ps ≡ core.processes → OthersSleep (controls_of code) ps members registers → contains members q ≡ false → contains registers r ≡ true
    → waits_for_register (continuation_of (state_of (remainder_of_state code) values core) q) r ≡ false
stranger_sleeps code core values ps members registers q r are sleep none there =
    subst
    (λ (qs : List (ProcState × List Trigger)). waits_for_register (slice_index_or (map (standing (remainder_of_state code)) qs) q (record { remainder = []; triggers = [] })) r ≡ false)
    are (asleep_at (remainder_of_state code) (controls_of code) ps q r (record { remainder = []; triggers = [] }) refl (λ d within. sleep q d within none r there))
