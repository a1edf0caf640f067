-- A chunk more, whose number is how many there were.
use Rattle.std.proofs.Common.{◌≡◌, ◌∷◌, ◌++◌, [], ap, sym, ◌∙◌, arith, List, ℕ, length}
use Rattle.std.specs.Prelude.{slice_get}
use Rattle.std.proofs.lemmas.List.{length-map}
use Rattle.sharing.specs.Parts.{chunk, chunks}
use Rattle.sharing.specs.declared.chunks.ChunkSpan.{ChunkSpan}
use Rattle.sharing.proofs.Rows.{chunks_of, chunks-push, last_added}
use Rattle.sharing.proofs.chunks.Chunks.push.Goals as goal

pushed : (c : goal.After-put) → chunks_of c.extend_from_slice.new.self.items c.push.new.self.items ≡ chunks c.args.self.now ++ c.args.bytes.now ∷ []
pushed c =
    let row : ChunkSpan = record { begin = c.len-begin.result; length = length c.args.bytes.now } in
    let first : c.len-begin.result ≡ length c.widen.new.self.arena.items = omega (arith, c.len-begin.ensures) in
    chunks-push c.args.self.now.arena.items c.args.bytes.now c.extend_from_slice.new.self.items c.args.self.now.rows.items c.push.new.self.items row c.requires.whole
    (c.in_ok-extend_from_slice.ensures.items ∙ ap (λ v. v.items ++ c.args.bytes.now) c.widen.ensures.arena)
    (c.in_ok-push.ensures.items ∙ ap (λ v. v.items ++ row ∷ []) c.widen.ensures.rows)
    (first ∙ ap (λ v. length v.items) c.widen.ensures.arena) (omega arith)

pub returns-clause-grows : goal.returns-clause-grows
returns-clause-grows c = (c.args.bytes.now ∷ [], pushed c)

pub returns-clause-number : goal.returns-clause-number
returns-clause-number c =
    let old : List (List ℕ) = chunks c.args.self.now in
    let last : c.in_ok-number.number ≡ length c.args.self.now.rows.items = omega (arith, c.in_ok-number.ensures, c.len.ensures) in
    ap (λ (l : List (List ℕ)). slice_get l c.in_ok-number.number) (pushed c)
    ∙ (ap (λ n. slice_get (old ++ c.args.bytes.now ∷ []) n) (last ∙ sym (length-map c.args.self.now.rows.items (chunk c.args.self.now.arena.items)))
    ∙ last_added old c.args.bytes.now)
