-- No time passes while events are taken.
use Rattle.std.proofs.Common.{◌≡◌, ℕ, List, [], ◌∷◌, Some, sym, ap, ◌∙◌}
use Rattle.std.specs.List.{All}
use Rattle.std.proofs.lemmas.List.Elements.{All-head, All-tail}
use Rattle.std.proofs.lemmas.Option.{option_and_then_some}
use Rattle.model.specs.declared.entry.Entry.{Entry}
use Rattle.model.specs.declared.entry.Entry.TheVariants.{Turn, Update, ActivateInactive, ActivateNba, ActivateMonitor, Advance}
use Rattle.model.specs.Design.{Design}
use Rattle.model.specs.States.{State}
use Rattle.model.specs.Runs.{Effect, joined}
use Rattle.orders.specs.Alike.{IsInOrder}
use Rattle.phases.specs.Phase.{TakesEvent}
use Rattle.loose.specs.Loose.{loose_step, loose_run_from}
use Rattle.loose.proofs.LooseSteps.{from_loose, loose_step_keeps_order}
use Rattle.footprints.proofs.Deeds.{turned_is_done, updated_is_done}

step_keeps_time : (class : ℕ → ℕ) (design : Design) (s : State) (entry : Entry) (x : Effect) → IsInOrder s → TakesEvent entry → loose_step class design s entry ≡ Some x → x.state.time ≡ s.time
step_keeps_time class design s (Turn n) x order takes step =
    let (going, (p, turn, at, exact, short, same)) = from_loose class design s (Turn n) x step in
    ap (λ (e : Effect). e.state.time) same ∙ (turned_is_done s n p turn order).time
step_keeps_time class design s (Update n) x order takes step =
    let (going, (r, v, at, first, same)) = from_loose class design s (Update n) x step in
    ap (λ (e : Effect). e.state.time) same ∙ (updated_is_done s n r v order going).time
step_keeps_time class design s ActivateInactive x order takes step = absurd takes
step_keeps_time class design s ActivateNba x order takes step = absurd takes
step_keeps_time class design s ActivateMonitor x order takes step = absurd takes
step_keeps_time class design s (Advance time) x order takes step = absurd takes

pub events_keep_time : (class : ℕ → ℕ) (design : Design) (entries : List Entry) (e f : Effect) → IsInOrder e.state → All TakesEvent entries → loose_run_from class design e entries ≡ Some f → f.state.time ≡ e.state.time
events_keep_time class design [] e f order takes run =
    let same : e ≡ f = cc in
    ap (λ (x : Effect). x.state.time) (sym same)
events_keep_time class design (entry ∷ entries) e f order takes run =
    option_and_then_some (λ x. loose_run_from class design (joined e x) entries) (loose_step class design e.state entry) f run
    (λ x step later.
    events_keep_time class design entries (joined e x) f (loose_step_keeps_order class design e.state entry x order step) (All-tail TakesEvent entry entries takes) later
    ∙ step_keeps_time class design e.state entry x order (All-head TakesEvent entry entries takes) step)
