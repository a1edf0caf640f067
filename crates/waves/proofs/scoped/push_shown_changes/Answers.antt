-- One change more, and at last the end.
use Rattle.std.proofs.Common.{◌≡◌, ◌++◌, ℕ, List, OnOk, subst, arith}
use Rattle.waves.specs.ScopedDump.{shown_changes_text}
use Rattle.waves.proofs.ScopedLaws.{changes_next, changes_end}
use Rattle.waves.proofs.scoped.push_shown_changes.Goals as goal

pub loop-change-preserved : goal.loop-change-preserved
loop-change-preserved c =
    let names = c.args.design.now.names in
    let changes = c.args.changes.now in
    changes_next names changes c.loop-change.change-index c.change-item.result c.loop-change.standing c.args.end c.in_ok-time.time c.is_shown-shown.result c.name_of.result.now (c.args.text.now.items ++ shown_changes_text names changes c.args.end) c.loop-change.text.items c.push_change.new.text.items
    c.loop-change-test.true c.change-item.is c.is_shown-shown.ensures c.name_of.ensures c.in_ok-time.ensures.time c.in_ok-time.ensures.text c.loop-change.invariant

pub returns : goal.returns
returns c =
    let names = c.args.design.now.names in
    let changes = c.args.changes.now in
    subst (λ (text : List ℕ). OnOk c.push_new_time.result (c.push_new_time.new.text.items ≡ text))
    (changes_end names changes c.loop-change.change-index c.loop-change.standing c.args.end c.loop-change.text.items _ (omega (arith, c.loop-change-test.false)) c.loop-change.invariant) c.push_new_time.ensures
