-- What the tests of a machine say of its state.
use Rattle.std.proofs.Common.{◌≡◌, ℕ, true, false, List, ◌++◌, map, sym, ap, subst, ◌∙◌}
use Rattle.logic4.specs.Vector.{Vector}
use Rattle.model.specs.Design.{Trigger}
use Rattle.model.specs.Turns.{contains}
use Rattle.model.specs.Laws.{evaluations_in}
use Rattle.orders.specs.Alike.{updates_in}
use Rattle.design.specs.Compiled.{Compiled}
use Rattle.design.specs.DesignInvariant.{remainder_of_state, controls_of}
use Rattle.phases.specs.Phase.{continuation_of, waits_for_register}
use Rattle.regions.specs.declared.queue.Continuation.{Continuation}
use Rattle.regions.specs.declared.queue.Update.{Update}
use Rattle.regions.specs.declared.queue.Evaluation.{Evaluation}
use Rattle.regions.specs.Queue.{Core, state_of, process_wait_of, update_event, evaluation_event}
use Rattle.regions.specs.Machine.{Stands}
use Rattle.settling.specs.Waiting.{OthersSleep}
use Rattle.settling.proofs.Listed.{updates_active, evaluations_active}
use Rattle.settling.proofs.Places.{same_processes, stranger_sleeps}

-- the processes of a queue, by the event controls of the design
pub processes_told : (code : Compiled) (core queue : Core) (values : List Vector) (ps : List Continuation) → Stands code core values → map (process_wait_of queue.controls) ps ≡ queue.processes → queue ≡ core → map (process_wait_of (controls_of code)) ps ≡ core.processes
processes_told code core queue values ps stands are same = same_processes core queue ps (controls_of code) are same stands.controls

pub sleep_told : (code design : Compiled) (core queue : Core) (values : List Vector) (ps : List Continuation) (controls : List (List Trigger)) (members registers rs : List ℕ) → design ≡ code → Stands code core values → controls ≡ controls_of design
    → map (process_wait_of queue.controls) ps ≡ queue.processes → queue ≡ core → registers ≡ rs → OthersSleep controls ps members registers → (q r : ℕ) → contains members q ≡ false → contains rs r ≡ true
    → waits_for_register (continuation_of (state_of (remainder_of_state code) values core) q) r ≡ false
sleep_told code design core queue values ps controls members registers rs codes stands controls_are are same registers_are sleep q r none there =
    let sleep' : OthersSleep (controls_of code) ps members rs =
    subst (λ (cs : List (List Trigger)). OthersSleep cs ps members rs) (controls_are ∙ ap controls_of codes) (subst (OthersSleep controls ps members) registers_are sleep) in
    stranger_sleeps code core values ps members rs q r (processes_told code core queue values ps stands are same) sleep' none there

pub inside_told : (core queue : Core) (us : List Update) (es : List Evaluation) (p : ℕ) → map update_event us ++ map evaluation_event es ≡ queue.active → queue ≡ core → evaluations_in p (map evaluation_event es) ≡ evaluations_in p core.active
inside_told core queue us es p active same =
    evaluations_active us es core.active p (active ∙ ap (λ (k : Core). k.active) same)

pub updates_told : (core queue : Core) (us : List Update) (es : List Evaluation) (registers deref : List ℕ) → map update_event us ++ map evaluation_event es ≡ queue.active → queue ≡ core → deref ≡ registers → registers ≡ map (λ (w : ℕ × Vector). w.0) (updates_in (map update_event us))
    → deref ≡ map (λ (w : ℕ × Vector). w.0) (updates_in core.active)
updates_told core queue us es registers deref active same is are =
    is ∙ are ∙ ap (map (λ (w : ℕ × Vector). w.0)) (updates_active us es core.active (active ∙ ap (λ (k : Core). k.active) same))

pub apart_told : (updated registers shared outputs : List ℕ) → registers ≡ updated → shared ≡ outputs → ((r : ℕ) → contains registers r ≡ true → contains shared r ≡ false) → (r : ℕ) → contains updated r ≡ true → contains outputs r ≡ false
apart_told updated registers shared outputs is is' off r there =
    ap (λ (l : List ℕ). contains l r) (sym is') ∙ off r (ap (λ (l : List ℕ). contains l r) is ∙ there)
