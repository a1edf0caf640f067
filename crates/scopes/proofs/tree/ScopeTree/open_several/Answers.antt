use Rattle.scopes.proofs.Growing.{adds_grows, grows_trans}
use Rattle.scopes.proofs.tree.ScopeTree.open_several.Goals as goal

pub returns-clause-grows : goal.returns-clause-grows
returns-clause-grows c =
    let old = c.args.self.now.scopes.items in
    grows_trans old c.add_all.new.self.scopes.items c.declare.new.self.scopes.items (adds_grows old c.add_all.new.self.scopes.items _ c.in_ok-add_all.ensures.heads c.in_ok-add_all.ensures.names) c.in_ok-declare.ensures.grows
