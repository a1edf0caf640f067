-- The bytes of the row are these.
use Rattle.std.proofs.Common.{ap, sym, ◌∙◌, arith, take, drop, ◌-◌, ◌+◌}
use Rattle.std.proofs.lemmas.Slice.Eq.{bytes_eq-Decides}
use Rattle.std.proofs.lemmas.Option.{slice_get_read}
use Rattle.sharing.proofs.Rows.{chunk_at}
use Rattle.sharing.proofs.chunks.Chunks.same_in.Goals as goal

pub returns-then-eq : goal.returns-then-eq
returns-then-eq c =
    let row = c.index-row.result.now in
    let bytes = take ((row.begin + row.length) - row.begin) (drop row.begin c.deref.result.now) in
    chunk_at c.args.self.now.arena.items c.args.self.now.rows.items _ row c.args.bytes.now
    (slice_get_read c.args.self.now.rows.items c.len.result _ row (omega (arith, c.len.ensures)) (omega (arith, c.if-at-len.false)) c.index-row.ensures)
    (ap (λ l. take ((row.begin + row.length) - row.begin) (drop row.begin l)) (sym c.deref.ensures.value)
    ∙ (bytes_eq-Decides bytes c.args.bytes.now).0 (sym c.eq.ensures ∙ c.if-eq.true))
