-- By characters where the bytes are a text, else by bytes.
use Rattle.std.proofs.Common.{sym}
use Rattle.std.proofs.lemmas.Str.{is_utf8-from_IsUtf8}
use Rattle.locations.proofs.Texts.{no_utf8}
use Rattle.locations.proofs.excerpt.push_part.Goals as goal

pub returns-in-Ok : goal.returns-in-Ok
returns-in-Ok c =
    let text = c.in-Ok.ensures.cases.0 in
    rw (is_utf8-from_IsUtf8 c.args.part.now c.in-Ok.ensures.cases.1) (rw (sym text) c.push_chars.ensures)

pub returns-in-Err : goal.returns-in-Err
returns-in-Err c = rw (no_utf8 c.args.part.now c.in-Err.ensures.cases.0) c.push_bytes.ensures
