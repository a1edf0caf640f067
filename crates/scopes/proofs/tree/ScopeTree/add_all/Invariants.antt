-- The scopes of the indices so far are added.
use Rattle.std.proofs.Common.{◌≡◌, ℕ, ◌<◌, ◌++◌, Some, map, take, length}
use Rattle.std.specs.Option.{option_copied}
use Rattle.scopes.specs.Scopes.{scope_head, head_at, names_at}
use Rattle.scopes.specs.Trees.{opened}
use Rattle.scopes.proofs.tree.ScopeTree.add_all.Given as goal

abbrev pub invariant-loop-index : goal.invariant-loop-index
invariant-loop-index l = record {
  within : l.around < length l.self.scopes.items;
  outer : head_at l.self.scopes.items l.around ≡ head_at l.initial.self.scopes.items l.around;
  heads : map scope_head l.self.scopes.items ≡ map scope_head l.initial.self.scopes.items ++ map (opened (head_at l.initial.self.scopes.items l.around) l.around l.name (option_copied l.instance_of)) (map Some (take l.index-index l.indices));
  names : (k : ℕ) → names_at l.self.scopes.items k ≡ names_at l.initial.self.scopes.items k;
}
