-- What stands in a scope: its registers, and then its scopes.
use Rattle.std.proofs.Common.{◌∙◌, ◌++◌, ℕ, List, Some, map, option_map, sym, ap, arith}
use Rattle.model.specs.Syntax.{Text}
use Rattle.waves.specs.ScopedDump.{PlainScope, plain_scope, contents_text, registers_within, scope_within}
use Rattle.waves.proofs.ScopedLaws.{contents_bare, contents_more, put_last, scopes_more, scopes_end}
use Rattle.waves.proofs.scoped.+scoped.Goals as goal

pub push_contents-returns-then-room-eq0 : goal.push_contents-returns-then-room-eq0
push_contents-returns-then-room-eq0 t c =
    let all = c.args.all.now in
    let scopes = map plain_scope all.scopes.now in
    let around = option_map (λ path. path.now) c.args.around in
    c.in_ok-push_registers_within.ensures
    ∙ ap (λ (text : List ℕ). c.args.text.now.items ++ text) (sym (contents_bare scopes all.design.now.names all.design.now.widths around c.args.room c.if-room-eq0.true))

pub push_contents-returns : goal.push_contents-returns
push_contents-returns t c =
    let all = c.args.all.now in
    let scopes = map plain_scope all.scopes.now in
    let around = option_map (λ path. path.now) c.args.around in
    let names = all.design.now.names in
    let widths = all.design.now.widths in
    put_last c.push_scopes.result c.push_scopes.new.text.items c.push_registers_within.new.text.items c.args.text.now.items (registers_within scopes around 0 names widths) _ (contents_text c.args.room scopes names widths around)
    c.in_ok-push_registers_within.ensures (contents_more scopes names widths around c.args.room (omega (arith, c.if-room-eq0.false))) c.push_scopes.ensures

pub push_scopes-loop-scope-preserved : goal.push_scopes-loop-scope-preserved
push_scopes-loop-scope-preserved t c =
    let all = c.args.all.now in
    let scopes = map plain_scope all.scopes.now in
    let around = option_map (λ path. path.now) c.args.around in
    let lines : PlainScope → List ℕ = scope_within scopes around (λ (path : Text). contents_text c.args.room scopes all.design.now.names all.design.now.widths (Some path)) in
    scopes_more lines all.scopes.now c.loop-scope.scope-index _ c.args.text.now.items c.loop-scope.text.items c.push_scope_within.new.text.items c.loop-scope-test.true c.in_ok-push_scope_within.ensures c.loop-scope.invariant

pub push_scopes-returns : goal.push_scopes-returns
push_scopes-returns t c =
    let all = c.args.all.now in
    let scopes = map plain_scope all.scopes.now in
    let around = option_map (λ path. path.now) c.args.around in
    let lines : PlainScope → List ℕ = scope_within scopes around (λ (path : Text). contents_text c.args.room scopes all.design.now.names all.design.now.widths (Some path)) in
    scopes_end lines all.scopes.now c.loop-scope.scope-index c.args.text.now.items c.loop-scope.text.items (omega (arith, c.loop-scope-test.false)) c.loop-scope.invariant
