use Rattle.std.proofs.Common.{◌<◌, length, rules}
use Rattle.scopes.proofs.Adding.{names_at-get, outer_set, declares_told}
use Rattle.scopes.proofs.Growing.{grows_told}
use Rattle.scopes.proofs.Told.{names_told}
use Rattle.scopes.proofs.tree.ScopeTree.declare.Goals as goal

pub invariant_of-self : goal.invariant_of-self
invariant_of-self c =
    let xs = c.args.self.now.scopes.items in
    let within : c.args.scope < length xs = search rules in
    record {
      outer_first = outer_set xs c.args.scope c.index_mut.result.now c.declare.new.self within c.index_mut.ensures.value c.declare.ensures.head c.args.self.now.outer_first;
    }

pub returns-clause-declares : goal.returns-clause-declares
returns-clause-declares c =
    let xs = c.args.self.now.scopes.items in
    let within : c.args.scope < length xs = search rules in
    declares_told c.declare.result xs c.args.scope c.index_mut.result.now c.declare.new.self c.args.name.now c.args.found within c.index_mut.ensures.value c.declare.ensures.head c.declare.ensures.added c.declare.ensures.fresh

pub returns-clause-fault : goal.returns-clause-fault
returns-clause-fault c =
    let xs = c.args.self.now.scopes.items in
    let within : c.args.scope < length xs = search rules in
    names_told c.declare.result xs c.args.scope c.args.name.now _ (names_at-get xs c.args.scope c.index_mut.result.now within c.index_mut.ensures.value) c.declare.ensures.fault

pub returns-clause-grows : goal.returns-clause-grows
returns-clause-grows c =
    grows_told c.declare.result _ _ c.args.scope c.args.name.now c.args.found (returns-clause-declares c)
