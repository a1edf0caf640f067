-- Each call from the contents of a scope to those of a scope in it has less room.
use Rattle.std.proofs.Common.{◌≡◌, ◌++◌, ◌+◌, ◌*◌, Some, take, map, option_map}
use Rattle.std.specs.List.{flat_map}
use Rattle.model.specs.Syntax.{Text}
use Rattle.waves.specs.ScopedDump.{plain_scope, contents_text, scope_within}
use Rattle.waves.proofs.scoped.+scoped.Given as goal

abbrev pub decreases-push_contents : goal.decreases-push_contents
decreases-push_contents l = 4 * l.room

abbrev pub decreases-push_scopes : goal.decreases-push_scopes
decreases-push_scopes l = 4 * l.room + 3

abbrev pub decreases-push_scope_within : goal.decreases-push_scope_within
decreases-push_scope_within l = 4 * l.room + 2

abbrev pub decreases-push_scope : goal.decreases-push_scope
decreases-push_scope l = 4 * l.room + 1

-- the lines of the scopes so far are put
abbrev pub invariant-push_scopes-loop-scope : goal.invariant-push_scopes-loop-scope
invariant-push_scopes-loop-scope l =
    l.text.items
    ≡ l.fn.text.items
    ++ flat_map (scope_within (map plain_scope l.all.scopes.now) (option_map (λ path. path.now) l.around) (λ (path : Text). contents_text l.room (map plain_scope l.all.scopes.now) l.all.design.now.names l.all.design.now.widths (Some path)))
    (map plain_scope (take l.scope-index l.scopes))
