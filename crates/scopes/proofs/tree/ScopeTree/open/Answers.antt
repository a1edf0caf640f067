use Rattle.std.proofs.Common.{◌≡◌, ◌<◌, ◌≤◌, [], ◌∷◌, None, length, sym, ap, subst, rules}
use Rattle.std.specs.Option.{option_copied}
use Rattle.scopes.specs.declared.scope.NameScope.{NameScope}
use Rattle.scopes.specs.declared.scope.Entity.TheVariants as entity
use Rattle.scopes.specs.Scopes.{Head, head_at}
use Rattle.scopes.specs.Faults.{IsScopeFault}
use Rattle.scopes.specs.Trees.{Declares, opened}
use Rattle.scopes.proofs.Adding.{outer_may, one_more, same_names, opens_all}
use Rattle.scopes.proofs.Growing.{opens_grows}
use Rattle.scopes.proofs.Told.{came_back, declare_told}
use Rattle.scopes.proofs.tree.ScopeTree.open.Goals as goal

pub invariant_of-self : goal.invariant_of-self
invariant_of-self c =
    let xs = c.args.self.now.scopes.items in
    let within : c.args.around < length xs = search rules in
    record {
      outer_first = outer_may c.push.result xs c.push.new.self.items c.in_ok-made.made c.args.around c.push.ensures.items within (ap (λ (h : Head). h.around) c.in_ok-made.ensures.head) c.args.self.now.outer_first;
    }

pub returns-in_err-declare-clause-fault : goal.returns-in_err-declare-clause-fault
returns-in_err-declare-clause-fault c =
    let xs = c.args.self.now.scopes.items in
    let ys = c.push.new.self.items in
    let within : c.args.around < length xs = search rules in
    let more : length xs ≤ length ys = search rules in
    came_back c.from_residual-in_err-declare.result (λ f. IsScopeFault f xs c.args.around c.args.name.now) _ c.from_residual-in_err-declare.ensures.1 (λ f is.
    subst (λ g. IsScopeFault g xs c.args.around c.args.name.now) (sym is)
    (declare_told c.in_err-declare.field-0.0 xs ys c.args.around c.args.name.now (same_names xs ys c.in_ok-made.made c.in_ok-push.ensures.items c.in_ok-made.ensures.names) within more c.in_err-declare.ensures.fault))

pub returns-clause-opens : goal.returns-clause-opens
returns-clause-opens c =
    let xs = c.args.self.now.scopes.items in
    let ys = c.push.new.self.items in
    let made = c.in_ok-made.made in
    let head = opened (head_at xs c.args.around) c.args.around c.args.name.now (option_copied c.args.instance_of) None in
    let number : c.len-number.result ≡ length xs = search rules in
    let declares : Declares ys c.declare.new.self.scopes.items c.args.around c.args.name.now (entity.Scope (length xs)) =
    subst (λ n. Declares ys c.declare.new.self.scopes.items c.args.around c.args.name.now (entity.Scope n)) number c.in_ok-declare.ensures.declares in
    opens_all xs ys c.declare.new.self.scopes.items c.args.around c.args.name.now (option_copied c.args.instance_of) (None ∷ []) (entity.Scope (length xs))
    (one_more xs ys made head c.in_ok-push.ensures.items c.in_ok-made.ensures.head) (same_names xs ys made c.in_ok-push.ensures.items c.in_ok-made.ensures.names) declares

pub returns-clause-grows : goal.returns-clause-grows
returns-clause-grows c =
    opens_grows c.args.self.now.scopes.items c.declare.new.self.scopes.items c.args.around c.args.name.now (option_copied c.args.instance_of) (None ∷ []) (entity.Scope (length c.args.self.now.scopes.items)) (returns-clause-opens c)
