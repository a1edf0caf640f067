-- All of them were saved, or a beginning.
use Rattle.std.proofs.Common.{List, length, map, option_map, sym}
use Rattle.std.proofs.lemmas.List.{length-map}
use Rattle.model.specs.declared.entry.Entry.{Entry}
use Rattle.model.specs.declared.end.End.{End}
use Rattle.explore.specs.declared.Shown.{Shown}
use Rattle.files.proofs.Journals.{all_are_first, first_none}
use Rattle.program.proofs.early_journals.save_early.Goals as goal

pub returns-in-Ok-clause-saved : goal.returns-in-Ok-clause-saved
returns-in-Ok-clause-saved g c =
    let known = c.args.known.now in
    let entries_of = λ (s : Shown Entry End). s.moves.items in
    let prefix = option_map (λ path. path.now) c.args.request.now.journals in
    let journals : List (List Entry) = map entries_of known in
    let before = g.F.Files.made c.args.files.now in
    all_are_first before (g.F.Files.made c.save_all.new.files) prefix (length known) journals (sym (length-map known entries_of)) (c.in-Ok.ensures.saved before (first_none before prefix journals))

pub returns-in-Err-clause-saved : goal.returns-in-Err-clause-saved
returns-in-Err-clause-saved g c =
    let prefix = option_map (λ path. path.now) c.args.request.now.journals in
    let journals : List (List Entry) = map (λ (s : Shown Entry End). s.moves.items) c.args.known.now in
    let before = g.F.Files.made c.args.files.now in
    c.in-Err.ensures.some before (first_none before prefix journals)
