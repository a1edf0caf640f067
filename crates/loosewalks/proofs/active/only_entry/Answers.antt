-- The only of the entries that may be taken.
use Rattle.std.proofs.Common.{◌≡◌, ap, sym, ◌∙◌, arith}
use Rattle.std.specs.VecDeque.{deque_len}
use Rattle.std.proofs.lemmas.Bool.{eqb-true}
use Rattle.regions.specs.Queue.{Core}
use Rattle.loosewalks.proofs.ActiveEntries.{nothing_active}
use Rattle.loosewalks.proofs.active.only_entry.Goals as goal

pub only_change-requires : goal.only_change-requires
only_change-requires c =
    let m = c.args.machine.now in
    let us = c.active.result.0.now in
    let es = c.active.result.1.now in
    let none : deque_len es ≡ 0 = eqb-true (deque_len es) 0 (sym c.is_empty.ensures ∙ c.if-is_empty.true) in
    let none' : deque_len us ≡ 0 = eqb-true (deque_len us) 0 (sym c.is_empty-then-is_empty.ensures ∙ c.if-is_empty-2.true) in
    record { idle = nothing_active m.core.active us.items es.items (c.active.ensures ∙ ap (λ (k : Core). k.active) c.state.ensures) (omega (arith, none', us.ok.0)) (omega (arith, none, es.ok.0)) }
