-- One byte of the format more, and its end.
use Rattle.std.proofs.Common.{get_or, arith, ◌∙◌}
use Rattle.std.proofs.lemmas.List.{get_or_default}
use Rattle.call_scopes.proofs.Shown.{shown_next, ends_begun, ends_whole}
use Rattle.call_scopes.proofs.formats.with_path.Goals as goal

pub loop-byte-preserved : goal.loop-byte-preserved
loop-byte-preserved c =
    let format = c.args.format.now in
    let i = c.loop-byte.byte-index in
    let b = get_or format i 0 in
    shown_next c.args.path.now format c.loop-byte.begun c.begins-begun.result i b c.loop-byte.found.items c.push_byte.new.found.items _ c.loop-byte-test.true (get_or_default format i 0 b c.loop-byte-test.true) c.in_ok-push_byte.ensures c.begins-begun.ensures
    c.loop-byte.invariant

pub returns-then-begun : goal.returns-then-begun
returns-then-begun c =
    c.in_ok-push.ensures.items ∙ ends_begun c.args.path.now c.args.format.now c.loop-byte.begun c.loop-byte.byte-index c.loop-byte.found.items _ c.if-begun.true (omega arith) c.loop-byte.invariant

pub returns : goal.returns
returns c = ends_whole c.args.path.now c.args.format.now c.loop-byte.begun c.loop-byte.byte-index c.loop-byte.found.items _ c.if-begun.false (omega arith) c.loop-byte.invariant
