-- The waves of the texts that a search found.
use Rattle.std.proofs.Common.{◌≡◌, ◌∙◌, ℕ, ◌+◌, ◌≤◌, ap, false, length, option_map, subst}
use Rattle.std.specs.Prelude.{IfOk}
use Rattle.std.specs.Global.{Vec}
use Rattle.model.specs.declared.entry.Entry.{Entry}
use Rattle.observers.specs.Observers.{observer_of}
use Rattle.lawful.specs.ArrangedNodes.{registers_seen}
use Rattle.program.specs.Observed.{observer_of_registers, wave_claim_of}
use Rattle.program.proofs.Followed.{waves_followed}
use Rattle.program.proofs.Waved.{waves_found}
use Rattle.program.proofs.observed.find_waves.Goals as goal

pub returns : goal.returns
returns g c =
    let explored = c.observed_orders-explored in
    let all = c.add_waves-added.new.all in
    let options = c.args.search_options in
    let stopped = c.stop_of-stopped.result in
    let nodes = explored.result.nodes in
    let number = c.number_of-number.result in
    let claimed = c.wave_claim_of-claim.ensures ∙ ap (λ (n : ℕ). wave_claim_of options stopped nodes number n) (c.len.ensures ∙ all.shown.ok.0) in
    let full = subst (λ (n : ℕ). IfOk c.add_waves-added.result (λ b. b ≡ false → length all.shown.items ≡ n)) c.add_waves-added.ensures.most c.add_waves-added.ensures.full in
    waves_found (λ (j : Vec Entry). j.items) c.args.design.now options c.args.registers.now (observer_of c.in_ok-observing.observing) (registers_seen c.in_ok-observing.observing) explored.result.stopped stopped nodes explored.result.endless c.endless_of-endless.result number
    c.wave_claim_of-claim.result c.add_waves-added.result explored.result.followed_before explored.result.shown.items c.new.result.items all.shown.items c.in_ok-observing.ensures.sees c.in_ok-observing.ensures.count (subst (λ (n : ℕ). nodes ≤ n) c.bounds_of-bounds.ensures.nodes explored.ensures.few) claimed
    c.stop_of-stopped.ensures c.endless_of-endless.ensures (c.number_of-number.ensures ∙ ap (λ (n : ℕ). option_map (λ j. n + 1) c.endless_of-endless.result) (ap length c.as_slice.ensures.value)) explored.ensures.sound explored.ensures.within explored.ensures.all
    explored.ensures.endless c.new.ensures.items c.add_waves-added.ensures.each explored.ensures.distinct (λ is. explored.ensures.full is ∙ (c.bounds_of-bounds.ensures.shown ∙ c.texts_bound.ensures))
    full c.add_waves-added.ensures.there c.add_waves-added.ensures.few.distinct
    (subst (λ (n : ℕ). length all.shown.items ≤ n) c.add_waves-added.ensures.most c.add_waves-added.ensures.few.few)
    (waves_followed c.args.design.now options c.in_ok-observing.observing (observer_of_registers c.args.registers.now) (length c.args.registers.now) stopped nodes number c.wave_claim_of-claim.result c.add_waves-added.result explored.result all.shown.items c.in_ok-observing.ensures.sees
    c.in_ok-observing.ensures.count claimed c.stop_of-stopped.ensures explored.ensures.before c.add_waves-added.ensures.there full)
