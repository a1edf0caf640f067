use Rattle.std.proofs.Common.{◌≡◌, ℕ, ◌+◌, ◌≤◌, ◌∙◌, ap, false, length, option_map, subst}
use Rattle.std.specs.Prelude.{IfOk}
use Rattle.std.specs.Global.{Vec}
use Rattle.model.specs.declared.entry.Entry.{Entry}
use Rattle.program.proofs.Followed.{texts_followed}
use Rattle.program.proofs.Searched.{searched_found}
use Rattle.program.proofs.searching.find_texts.Goals as goal

pub returns-clause-found : goal.returns-clause-found
returns-clause-found g c =
    let explored = c.lawful_orders-explored in
    let all = c.add_all-added.new.self in
    let few = subst (λ (n : ℕ). length all.shown.items ≤ n) c.add_all-added.ensures.grows.most c.add_all-added.ensures.few.few in
    let full = subst (λ (n : ℕ). IfOk c.add_all-added.result (λ b. b ≡ false → length all.shown.items ≡ n)) c.add_all-added.ensures.grows.most c.add_all-added.ensures.full in
    searched_found (λ (j : Vec Entry). j.items) c.args.design.now c.args.search_options explored.result.stopped c.stop_of-stopped.result explored.result.nodes explored.result.endless c.endless_of-endless.result c.number_of-number.result
    c.claim_of-claim.result c.add_all-added.result explored.result.followed_before c.args.known.items explored.result.shown.items c.add_all-added.new.self.shown.items c.in-None.is (subst (λ (n : ℕ). explored.result.nodes ≤ n) c.bounds_of-bounds.ensures.nodes explored.ensures.few) c.claim_of-claim.ensures c.stop_of-stopped.ensures
    c.endless_of-endless.ensures (c.number_of-number.ensures ∙ ap (λ (n : ℕ). option_map (λ j. n + 1) c.endless_of-endless.result) (ap length c.as_slice.ensures.value)) explored.ensures.sound explored.ensures.within explored.ensures.distinct
    (λ is. explored.ensures.full is ∙ c.bounds_of-bounds.ensures.shown) explored.ensures.all explored.ensures.endless c.requires.lawful c.add_all-added.ensures.each c.add_all-added.ensures.there full c.add_all-added.ensures.few.distinct few
    (texts_followed c.args.design.now c.args.search_options c.stop_of-stopped.result explored.result.nodes c.number_of-number.result c.claim_of-claim.result c.add_all-added.result explored.result c.add_all-added.new.self.shown.items c.claim_of-claim.ensures c.stop_of-stopped.ensures
    explored.ensures.before c.add_all-added.ensures.there full)
