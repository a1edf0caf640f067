-- A search that was told first and last.
use Rattle.std.proofs.Common.{List, None, inl, option_map, subst}
use Rattle.program.specs.Findings.{journals_of}
use Rattle.locations.specs.declared.location.ProcessLocation.{ProcessLocation}
use Rattle.program.specs.Printed.{IsSaidLast}
use Rattle.program.proofs.Early.{early_on, early_some, left_early}
use Rattle.program.proofs.Ended.{if_err, output_same, some_saved_on}
use Rattle.program.proofs.Searched.{early_answered, early_causes, more_by, search_begun, search_left, search_shown, told_behind}
use Rattle.program.proofs.searching.search_design.Goals as goal

pub more_lines-requires-clause-are : goal.more_lines-requires-clause-are
more_lines-requires-clause-are g c = λ κs _.
    early_causes c.args.subject.now.processes.items c.args.subject.now.source.items c.args.subject.now.design c.args.request.now.search_options (option_map (λ path. path.now) c.args.request.now.journals) c.in_ok-early.early (g.O.Write.contents c.args.out.now) (g.O.Write.contents c.tell_races.new.out)
    c.in_ok-early.ensures.told

pub more_lines-requires-clause-answered : goal.more_lines-requires-clause-answered
more_lines-requires-clause-answered g c = λ κs _.
    early_answered c.args.subject.now.processes.items c.args.subject.now.source.items c.args.subject.now.design c.args.request.now.search_options (option_map (λ path. path.now) c.args.request.now.journals) c.in_ok-early.early (g.O.Write.contents c.args.out.now) (g.O.Write.contents c.tell_races.new.out)
    c.in_ok-early.ensures.told

pub returns-in-Ok-clause-shown : goal.returns-in-Ok-clause-shown
returns-in-Ok-clause-shown g c = λ from file held.
    let request = c.args.request.now in
    let texts = c.in_ok-texts.texts in
    let prefix = option_map (λ path. path.now) request.journals in
    let begun = g.O.Write.contents c.tell_races.new.out in
    let end = g.O.Write.contents c.tell_texts.new.out in
    let tried = g.F.Files.made c.try_first.new.files in
    let between = g.F.Files.made c.save_early-saved.new.files in
    let saved = c.save_early-saved.result in
    let known = c.in_ok-early.early.known.items in
    let endless = option_map (λ journal. journal.items) texts.endless in
    let early = early_on tried between prefix c.as_slice-first.result.now known texts.shown.items saved.count endless saved.fault c.as_slice-first.ensures.value c.save_early-saved.ensures.count c.in_ok-texts.ensures.grown c.save_early-saved.ensures.saved in
    let said = subst (λ (ps : List ProcessLocation). IsSaidLast ps request.search_options prefix c.in_ok-early.early.races.found.original.end texts.claim texts.followed_before texts.shown.items c.in_ok-said.said.items) c.as_slice.ensures.value c.in_ok-said.ensures in
    search_shown from file c.args.subject.now request.search_options prefix c.in_ok-early.early texts.claim texts.followed_before texts.shown.items endless (g.O.Write.contents c.args.out.now) begun end
    (g.F.Files.made c.args.files.now) tried (g.F.Files.made c.tell_texts.new.files) c.in_ok-last.last.items c.finding_of-found.result held c.in_ok-early.ensures.told c.in_ok-texts.ensures.found c.in_ok-texts.ensures.grown
    (told_behind c.args.subject.now.processes.items c.args.subject.now.source.items c.args.subject.now.design request.search_options prefix c.in_ok-early.early.races texts.claim texts.followed_before texts.shown.items c.as_slice-3.result.now c.in_ok-more.more.items c.in_ok-said.said.items
    c.as_slice-4.result.now c.in_ok-last.last.items c.as_slice-3.ensures.value (more_by c.as_slice.result.now c.args.subject.now.processes.items c.as_slice-2.result.now c.args.subject.now.source.items c.args.subject.now.design request.search_options prefix c.in_ok-early.early.races
    c.as_slice-3.result.now c.in_ok-more.more.items c.as_slice.ensures.value c.as_slice-2.ensures.value c.in_ok-more.ensures) said c.as_slice-4.ensures.value c.in_ok-last.ensures) c.in-Ok.ensures.told c.in_ok-try_first.ensures.kept (c.in-Ok.ensures.saved tried early) c.finding_of-found.ensures

pub returns-clause-wanting : goal.returns-clause-wanting
returns-clause-wanting g c = λ from file held six.
    let request = c.args.request.now in
    let texts = c.in_ok-texts.texts in
    let prefix = option_map (λ path. path.now) request.journals in
    let begun = g.O.Write.contents c.tell_races.new.out in
    let end = g.O.Write.contents c.tell_texts.new.out in
    let tried = g.F.Files.made c.try_first.new.files in
    let between = g.F.Files.made c.save_early-saved.new.files in
    let after = g.F.Files.made c.tell_texts.new.files in
    let saved = c.save_early-saved.result in
    let known = c.in_ok-early.early.known.items in
    let endless = option_map (λ journal. journal.items) texts.endless in
    let early = early_on tried between prefix c.as_slice-first.result.now known texts.shown.items saved.count endless saved.fault c.as_slice-first.ensures.value c.save_early-saved.ensures.count c.in_ok-texts.ensures.grown c.save_early-saved.ensures.saved in
    let some = early_some tried between prefix c.as_slice-first.result.now known saved.fault c.as_slice-first.ensures.value c.save_early-saved.ensures.saved in
    let said = subst (λ (ps : List ProcessLocation). IsSaidLast ps request.search_options prefix c.in_ok-early.early.races.found.original.end texts.claim texts.followed_before texts.shown.items c.in_ok-said.said.items) c.as_slice.ensures.value c.in_ok-said.ensures in
    search_left from file c.args.subject.now request.search_options prefix c.in_ok-early.early texts.claim texts.followed_before texts.shown.items endless (g.O.Write.contents c.args.out.now) begun end (g.F.Files.made c.args.files.now) tried after
    c.in_ok-last.last.items held c.in_ok-early.ensures.told c.in_ok-texts.ensures.found c.in_ok-texts.ensures.grown
    (told_behind c.args.subject.now.processes.items c.args.subject.now.source.items c.args.subject.now.design request.search_options prefix c.in_ok-early.early.races texts.claim texts.followed_before texts.shown.items c.as_slice-3.result.now c.in_ok-more.more.items c.in_ok-said.said.items
    c.as_slice-4.result.now c.in_ok-last.last.items c.as_slice-3.ensures.value (more_by c.as_slice.result.now c.args.subject.now.processes.items c.as_slice-2.result.now c.args.subject.now.source.items c.args.subject.now.design request.search_options prefix c.in_ok-early.early.races
    c.as_slice-3.result.now c.in_ok-more.more.items c.as_slice.ensures.value c.as_slice-2.ensures.value c.in_ok-more.ensures) said c.as_slice-4.ensures.value c.in_ok-last.ensures) c.in_ok-try_first.ensures.kept
    (left_early begun end tried between after prefix (journals_of known None) (journals_of texts.shown.items endless) c.in_ok-last.last.items some (c.in-Err.ensures.wanting tried early six))

pub returns-in_err-try_first-clause-wanting : goal.returns-in_err-try_first-clause-wanting
returns-in_err-try_first-clause-wanting g c = λ from file held. if_err _ c.from_residual.result (λ f six. inl (output_same (g.O.Write.contents c.args.out.now), c.in_err-try_first.ensures.kept))

pub returns-in_err-texts-clause-wanting : goal.returns-in_err-texts-clause-wanting
returns-in_err-texts-clause-wanting g c = λ from file held.
    if_err _ c.from_residual-in_err-texts.result
    (λ f six. search_begun from file c.args.subject.now c.args.request.now.search_options (option_map (λ path. path.now) c.args.request.now.journals) c.in_ok-early.early (g.O.Write.contents c.args.out.now) (g.O.Write.contents c.tell_races.new.out)
    (g.F.Files.made c.args.files.now) (g.F.Files.made c.save_early-saved.new.files) held c.in_ok-early.ensures.told
    (some_saved_on (g.F.Files.made c.args.files.now) (g.F.Files.made c.try_first.new.files) (g.F.Files.made c.save_early-saved.new.files) (option_map (λ path. path.now) c.args.request.now.journals) (journals_of c.in_ok-early.early.known.items None) c.in_ok-try_first.ensures.kept
    (early_some (g.F.Files.made c.try_first.new.files) (g.F.Files.made c.save_early-saved.new.files) (option_map (λ path. path.now) c.args.request.now.journals) c.as_slice-first.result.now c.in_ok-early.early.known.items c.save_early-saved.result.fault
    c.as_slice-first.ensures.value c.save_early-saved.ensures.saved)))

pub returns-in_err-last-clause-wanting : goal.returns-in_err-last-clause-wanting
returns-in_err-last-clause-wanting g c = λ from file held.
    if_err _ c.from_residual-in_err-last.result
    (λ f six. search_begun from file c.args.subject.now c.args.request.now.search_options (option_map (λ path. path.now) c.args.request.now.journals) c.in_ok-early.early (g.O.Write.contents c.args.out.now) (g.O.Write.contents c.tell_races.new.out)
    (g.F.Files.made c.args.files.now) (g.F.Files.made c.save_early-saved.new.files) held c.in_ok-early.ensures.told
    (some_saved_on (g.F.Files.made c.args.files.now) (g.F.Files.made c.try_first.new.files) (g.F.Files.made c.save_early-saved.new.files) (option_map (λ path. path.now) c.args.request.now.journals) (journals_of c.in_ok-early.early.known.items None) c.in_ok-try_first.ensures.kept
    (early_some (g.F.Files.made c.try_first.new.files) (g.F.Files.made c.save_early-saved.new.files) (option_map (λ path. path.now) c.args.request.now.journals) c.as_slice-first.result.now c.in_ok-early.early.known.items c.save_early-saved.result.fault
    c.as_slice-first.ensures.value c.save_early-saved.ensures.saved)))

pub returns-in_err-more-clause-wanting : goal.returns-in_err-more-clause-wanting
returns-in_err-more-clause-wanting g c = λ from file held.
    if_err _ c.from_residual-in_err-more.result
    (λ f six. search_begun from file c.args.subject.now c.args.request.now.search_options (option_map (λ path. path.now) c.args.request.now.journals) c.in_ok-early.early (g.O.Write.contents c.args.out.now) (g.O.Write.contents c.tell_races.new.out)
    (g.F.Files.made c.args.files.now) (g.F.Files.made c.save_early-saved.new.files) held c.in_ok-early.ensures.told
    (some_saved_on (g.F.Files.made c.args.files.now) (g.F.Files.made c.try_first.new.files) (g.F.Files.made c.save_early-saved.new.files) (option_map (λ path. path.now) c.args.request.now.journals) (journals_of c.in_ok-early.early.known.items None) c.in_ok-try_first.ensures.kept
    (early_some (g.F.Files.made c.try_first.new.files) (g.F.Files.made c.save_early-saved.new.files) (option_map (λ path. path.now) c.args.request.now.journals) c.as_slice-first.result.now c.in_ok-early.early.known.items c.save_early-saved.result.fault
    c.as_slice-first.ensures.value c.save_early-saved.ensures.saved)))

pub returns-in_err-said-clause-wanting : goal.returns-in_err-said-clause-wanting
returns-in_err-said-clause-wanting g c = λ from file held.
    if_err _ c.from_residual-in_err-said.result
    (λ f six. search_begun from file c.args.subject.now c.args.request.now.search_options (option_map (λ path. path.now) c.args.request.now.journals) c.in_ok-early.early (g.O.Write.contents c.args.out.now) (g.O.Write.contents c.tell_races.new.out)
    (g.F.Files.made c.args.files.now) (g.F.Files.made c.save_early-saved.new.files) held c.in_ok-early.ensures.told
    (some_saved_on (g.F.Files.made c.args.files.now) (g.F.Files.made c.try_first.new.files) (g.F.Files.made c.save_early-saved.new.files) (option_map (λ path. path.now) c.args.request.now.journals) (journals_of c.in_ok-early.early.known.items None) c.in_ok-try_first.ensures.kept
    (early_some (g.F.Files.made c.try_first.new.files) (g.F.Files.made c.save_early-saved.new.files) (option_map (λ path. path.now) c.args.request.now.journals) c.as_slice-first.result.now c.in_ok-early.early.known.items c.save_early-saved.result.fault
    c.as_slice-first.ensures.value c.save_early-saved.ensures.saved)))
