-- The first update, where it has the number.
use Rattle.std.proofs.Common.{◌≡◌, ℕ, List, false, sym, ap, subst, ◌∙◌}
use Rattle.std.specs.Prelude.{IfSome, MatchOption, [], None}
use Rattle.std.proofs.lemmas.List.{length-map}
use Rattle.logic4.specs.Vector.{Vector}
use Rattle.model.specs.declared.entry.Entry.TheVariants as entries
use Rattle.model.specs.Turns.{Remainder}
use Rattle.model.specs.Runs.{least, refusal}
use Rattle.design.specs.declared.code.ProcState.{ProcState}
use Rattle.design.specs.DesignInvariant.{remainder_of_state}
use Rattle.regions.specs.Order.{IsOrdered}
use Rattle.regions.specs.Queue.{Core, standing, state_of}
use Rattle.regions.specs.Find.{update_numbers, IsFirstUpdate}
use Rattle.regions.specs.Machine.{state_at}
use Rattle.noted.proofs.Noted.{other_than, same_as, permitted_first, other_refused, updated_at}
use Rattle.noted.proofs.taking.update_at.Goals as goal

pub returns-then-ne : goal.returns-then-ne
returns-then-ne c =
    let m = c.args.machine.now in
    let found = c.first_update.result in
    let first = c.first_update.ensures.least ∙ ap (λ (k : Core). least (update_numbers k.active)) c.state.ensures in
    let permitted = subst
    (λ (k : Core). IfSome found (λ n. (rem : ProcState → Remainder) (values : List Vector) → k.finished ≡ false → refusal (state_of rem values k) (entries.Update n) ≡ None))
    c.state.ensures c.first_update.ensures.permitted in
    let its = permitted_first m.core (remainder_of_state m.code) m.values found permitted (sym c.is_finished.ensures ∙ c.if-is_finished.false) in
    other_refused (state_at m) c.args.number found first its (other_than found c.args.number c.if-ne.ensures)

pub returns : goal.returns
returns c =
    let m = c.args.machine.now in
    let found = c.first_update.result in
    let updated = c.first_updated.result in
    let first = c.first_update.ensures.least ∙ ap (λ (k : Core). least (update_numbers k.active)) c.state.ensures in
    let permitted = subst
    (λ (k : Core). IfSome found (λ n. (rem : ProcState → Remainder) (values : List Vector) → k.finished ≡ false → refusal (state_of rem values k) (entries.Update n) ≡ None))
    c.state.ensures c.first_update.ensures.permitted in
    let its = permitted_first m.core (remainder_of_state m.code) m.values found permitted (sym c.is_finished.ensures ∙ c.if-is_finished.false) in
    let order = subst (λ (n : ℕ). IsOrdered m.code.widths n (state_at m)) (sym (length-map m.core.processes (standing (remainder_of_state m.code)))) c.stands_in_order.ensures in
    let known = subst (λ (k : Core). MatchOption updated (update_numbers k.active ≡ []) (IsFirstUpdate k.active)) c.state-2.ensures c.first_updated.ensures in
    updated_at m.code (state_at m) c.args.number found updated order first its (same_as found c.args.number c.if-ne.ensures) known
