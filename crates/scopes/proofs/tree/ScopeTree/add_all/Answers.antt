use Rattle.std.proofs.Common.{◌≡◌, ◌+◌, ◌++◌, ◌<◌, Some, [], ◌∷◌, take, get_or, pos, to_z, of_z, w64, ap, sym, ◌∙◌, length, length-append, map, arith, rules}
use Rattle.std.specs.Option.{option_copied}
use Rattle.std.proofs.lemmas.List.{take_more}
use Rattle.std.proofs.lemmas.Int.{ints, to_z-of_z}
use Rattle.scopes.specs.Scopes.{Head, scope_head, head_at, names_at}
use Rattle.scopes.specs.Trees.{opened}
use Rattle.scopes.proofs.Adding.{outer_may, head_at-push, names_at-push, one_more, heads_more}
use Rattle.scopes.proofs.tree.ScopeTree.add_all.Goals as goal

pub invariant_of-self : goal.invariant_of-self
invariant_of-self c =
    record {
      outer_first = outer_may c.push.result c.loop-index.self.scopes.items c.push.new.self.items c.in_ok-made.made c.args.around c.push.ensures.items c.loop-index.invariant.within (ap (λ (h : Head). h.around) c.in_ok-made.ensures.head) c.loop-index.self.outer_first;
    }

pub loop-index-preserved : goal.loop-index-preserved
loop-index-preserved c =
    let xs = c.loop-index.self.scopes.items in
    let made = c.in_ok-made.made in
    let around = c.args.around in
    let is_inside = c.loop-index.invariant in
    let pushed = c.in_ok-push.ensures.items in
    let longer = ap length pushed in
    let indices = c.args.indices.now in
    let i = c.loop-index.index-index in
    let index = get_or indices i (pos 0) in
    let within_indices : i < length indices = omega arith in
    let same : to_z w64 (of_z w64 index) ≡ index = first_of (grind (arith, ints, to_z-of_z), search (rules, to_z-of_z)) in
    let head_in = opened (head_at c.args.self.now.scopes.items around) around c.args.name.now (option_copied c.args.instance_of) in
    record {
      within = omega (arith, length-append xs (made ∷ []), longer, is_inside.within);
      outer = ap (λ ys. head_at ys around) pushed ∙ head_at-push xs made around is_inside.within ∙ is_inside.outer;
      heads = heads_more (map scope_head c.args.self.now.scopes.items) head_in (take i indices) (take (i + 1) indices) (to_z w64 (of_z w64 index)) (map scope_head xs) (map scope_head c.push.new.self.items) is_inside.heads
          (one_more xs c.push.new.self.items made (head_in (Some (to_z w64 (of_z w64 index)))) pushed (c.in_ok-made.ensures.head ∙ ap (λ h. opened h around c.args.name.now (option_copied c.args.instance_of) (Some (to_z w64 (of_z w64 index)))) is_inside.outer))
          (take_more indices i (pos 0) within_indices ∙ ap (λ x. take i indices ++ x ∷ []) (sym same));
      names = λ k. ap (λ ys. names_at ys k) pushed ∙ names_at-push xs made c.in_ok-made.ensures.names k ∙ is_inside.names k;
    }
