-- What was read leaves the files that were saved; or a whole design is refused.
use Rattle.std.proofs.Common.{Ok, Err, inl, option_map}
use Rattle.std.specs.Io.KnownBytes.{Keeps}
use Rattle.files.specs.Saved.{KeepsFiles}
use Rattle.program.specs.declared.finding.SearchFinding.{SearchFinding}
use Rattle.program.specs.Subjects.{IsSubjectIn, sources_with}
use Rattle.program.proofs.Ended.{if_err, kept, kept_on, output_kept, output_same, search_left_on, shown_on}
use Rattle.program.proofs.Subjects.{asks_whole, subject_taken}
use Rattle.program.proofs.searching.search_races.Goals as goal

pub returns-in-Ok-clause-shown : goal.returns-in-Ok-clause-shown
returns-in-Ok-clause-shown g c =
    let request = c.args.request.now in
    let from = sources_with (g.F.Files.held c.args.files.now) (option_map (λ w. w.now) c.args.design_words) in
    let start = g.F.Files.made c.args.files.now in
    let read = g.F.Files.made c.read_sources.new.files in
    let judged = g.F.Files.made c.judged_subject.new.files in
    let at = subject_taken from request.file.now c.in_ok-texts.texts _ c.in-Taken.subject c.in_ok-texts.ensures.texts c.in_ok-subject.ensures.judged c.in-Taken.is in
    shown_on from request.file.now request.search_options (option_map (λ path. path.now) request.journals) (g.O.Write.contents c.args.out.now) (g.O.Write.contents c.search_design.new.out) start judged (g.F.Files.made c.search_design.new.files) (Ok c.in-Ok.found)
    (kept_on start read judged c.read_sources.ensures.kept c.judged_subject.ensures.kept) (c.in-Ok.ensures.shown from request.file.now at)

pub returns-clause-unsaved : goal.returns-clause-unsaved
returns-clause-unsaved g c =
    output_kept {T = SearchFinding} (KeepsFiles (g.F.Files.made c.args.files.now) (g.F.Files.made c.search_design.new.files)) (Err c.in-Err.fault) c.in-Err.ensures.fault

pub returns-clause-nothing : goal.returns-clause-nothing
returns-clause-nothing g c =
    output_kept {T = SearchFinding} (Keeps (g.O.Write.contents c.args.out.now) (g.O.Write.contents c.search_design.new.out)) (Err c.in-Err.fault) c.in-Err.ensures.fault

pub returns-clause-wanting : goal.returns-clause-wanting
returns-clause-wanting g c =
    let request = c.args.request.now in
    let from = sources_with (g.F.Files.held c.args.files.now) (option_map (λ w. w.now) c.args.design_words) in
    let start = g.F.Files.made c.args.files.now in
    let read = g.F.Files.made c.read_sources.new.files in
    let judged = g.F.Files.made c.judged_subject.new.files in
    let at = subject_taken from request.file.now c.in_ok-texts.texts _ c.in-Taken.subject c.in_ok-texts.ensures.texts c.in_ok-subject.ensures.judged c.in-Taken.is in
    search_left_on from request.file.now request.search_options (option_map (λ path. path.now) request.journals) (g.O.Write.contents c.args.out.now) (g.O.Write.contents c.search_design.new.out) start judged (g.F.Files.made c.search_design.new.files) (Err c.in-Err.fault)
    (kept_on start read judged c.read_sources.ensures.kept c.judged_subject.ensures.kept) (c.in-Err.ensures.wanting from request.file.now at)

pub returns-in-Wrong-clause-shown : goal.returns-in-Wrong-clause-shown
returns-in-Wrong-clause-shown g c =
    let start = g.F.Files.made c.args.files.now in
    let read = g.F.Files.made c.read_sources.new.files in
    let judged = g.F.Files.made c.judged_subject.new.files in (
      asks_whole (IsSubjectIn c.in_ok-texts.texts) (g.F.Files.held c.args.files.now) c.args.request.now.file.now (option_map (λ w. w.now) c.args.design_words) c.in_ok-texts.texts _ c.in-Wrong.text c.in_ok-texts.ensures.texts
          c.in_ok-subject.ensures.judged c.in-Wrong.is,
      output_same (g.O.Write.contents c.args.out.now),
      kept_on start read judged c.read_sources.ensures.kept c.judged_subject.ensures.kept,
    )

pub returns-in_err-spare_first_of-clause-wanting : goal.returns-in_err-spare_first_of-clause-wanting
returns-in_err-spare_first_of-clause-wanting g c = if_err _ c.from_residual.result (λ f six. inl (output_same (g.O.Write.contents c.args.out.now), kept (g.F.Files.made c.args.files.now)))

pub returns-in_err-texts-clause-wanting : goal.returns-in_err-texts-clause-wanting
returns-in_err-texts-clause-wanting g c = if_err _ c.from_residual-in_err-texts.result (λ f six. inl (output_same (g.O.Write.contents c.args.out.now), c.read_sources.ensures.kept))

pub returns-in_err-subject-clause-wanting : goal.returns-in_err-subject-clause-wanting
returns-in_err-subject-clause-wanting g c =
    let start = g.F.Files.made c.args.files.now in
    let read = g.F.Files.made c.read_sources.new.files in
    let judged = g.F.Files.made c.judged_subject.new.files in
    if_err _ c.from_residual-in_err-subject.result (λ f six. inl (output_same (g.O.Write.contents c.args.out.now), kept_on start read judged c.read_sources.ensures.kept c.judged_subject.ensures.kept))
