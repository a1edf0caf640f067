-- The words of what ran, or else of all that does so.
use Rattle.std.proofs.Common.{◌≡◌, ◌∙◌, ap, ℕ, List, Option}
use Rattle.statements.specs.declared.lines.LineRange.{LineRange}
use Rattle.statements.specs.declared.part.StatementPart.{StatementPart}
use Rattle.naming.specs.RaceWords.{access_word}
use Rattle.naming.specs.RoleWords.{bytes_done, in_lines_run, lines_run, name_done, part_done, role_run}
use Rattle.naming.proofs.role_words.role_words.Goals as goal

pub returns : goal.returns
returns c =
    let places = c.args.places.now in
    let role = c.args.role in
    let site = c.args.site in
    let run = c.args.run.now in
    let named = ap (λ (n : Option (List ℕ)). bytes_done places role.process n c.part_done.result) c.name_done-name.ensures in
    let done = ap (λ (p : Option StatementPart). bytes_done places role.process (name_done site role.does) p) c.part_done.ensures in
    let bytes : c.as_slice.result.now ≡ bytes_done places role.process (name_done site role.does) (part_done role.does) = c.as_slice.ensures.value ∙ (c.in_ok-bytes.ensures ∙ (named ∙ done)) in
    let lines : c.as_slice-2.result.now ≡ role_run places site role run = c.as_slice-2.ensures.value ∙ (c.in_ok-lines.ensures ∙ ap (λ (bs : List ℕ). lines_run places.source.now bs run) bytes) in
    let range = c.role_lines-range.result in
    c.in_ok-words.ensures
    ∙ (ap (λ (w : List ℕ). in_lines_run w c.as_slice-2.result.now range) c.word_of.ensures
    ∙ (ap (λ (ls : List ℕ). in_lines_run (access_word role.does) ls range) lines ∙ ap (λ (r : Option LineRange). in_lines_run (access_word role.does) (role_run places site role run) r) c.role_lines-range.ensures))
