-- One byte of the name more.
use Rattle.std.proofs.Common.{get_or, refl}
use Rattle.std.proofs.lemmas.List.{get_or_default}
use Rattle.statement_parts.proofs.Gathering.{next_added}
use Rattle.call_scopes.specs.Formats.{byte_as_format, as_format}
use Rattle.call_scopes.proofs.formats.push_path.Goals as goal

pub loop-byte-preserved : goal.loop-byte-preserved
loop-byte-preserved c =
    let path = c.args.path.now in
    let i = c.loop-byte.byte-index in
    let b = get_or path i 0 in
    next_added as_format byte_as_format path i b c.loop-byte.found.items c.push_name_byte.new.found.items _ (λ b bs. refl) c.loop-byte-test.true (get_or_default path i 0 b c.loop-byte-test.true) c.in_ok-push_name_byte.ensures c.loop-byte.invariant
