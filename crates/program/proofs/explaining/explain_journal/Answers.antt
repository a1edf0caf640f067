-- FILE is read and JOURNAL opened, and the journal is told on the design that is asked for; or a whole design is refused.
use Rattle.std.proofs.Common.{inl, option_map, refl, rules, sym}
use Rattle.program.specs.Subjects.{IsSubjectIn, sources_with}
use Rattle.program.proofs.Ended.{held_on, if_err, kept_on, output_same}
use Rattle.program.proofs.Subjects.{asks_whole, subject_taken}
use Rattle.program.proofs.explaining.explain_journal.Goals as goal

pub returns-clause-ended : goal.returns-clause-ended
returns-clause-ended g c =
    let request = c.args.request.now in
    let held = g.F.Files.held c.args.files.now in
    let from = sources_with held (option_map (λ w. w.now) c.args.design_words) in
    let at = subject_taken from request.file.now c.in_ok-texts.texts _ c.in-Taken.found c.in_ok-texts.ensures.texts c.in_ok-found.ensures.judged c.in-Taken.is in
    c.explain_asked.ensures.ended from request.file.now request.journal.now (c.in-Taken.found, at, refl, c.as_slice.ensures.value)
    (search (
      sym c.new-journal.ensures.held,
      held_on held (g.F.Files.held c.read_sources.new.files) request.journal.now _ c.read_sources.ensures.held c.in_ok-open_file.ensures.opened,
      rules,
    ))

pub returns-clause-refused : goal.returns-clause-refused
returns-clause-refused g c =
    let request = c.args.request.now in
    let held = g.F.Files.held c.args.files.now in
    let from = sources_with held (option_map (λ w. w.now) c.args.design_words) in
    let at = subject_taken from request.file.now c.in_ok-texts.texts _ c.in-Taken.found c.in_ok-texts.ensures.texts c.in_ok-found.ensures.judged c.in-Taken.is in
    c.explain_asked.ensures.refused from request.file.now request.journal.now (c.in-Taken.found, at, refl, c.as_slice.ensures.value)
    (search (
      sym c.new-journal.ensures.held,
      held_on held (g.F.Files.held c.read_sources.new.files) request.journal.now _ c.read_sources.ensures.held c.in_ok-open_file.ensures.opened,
      rules,
    ))

pub returns-in-Wrong-clause-ended : goal.returns-in-Wrong-clause-ended
returns-in-Wrong-clause-ended g c = (
  asks_whole (IsSubjectIn c.in_ok-texts.texts) (g.F.Files.held c.args.files.now) c.args.request.now.file.now (option_map (λ w. w.now) c.args.design_words) c.in_ok-texts.texts _ c.in-Wrong.text c.in_ok-texts.ensures.texts
      c.in_ok-found.ensures.judged c.in-Wrong.is,
  output_same (g.O.Write.contents c.args.out.now),
)

pub returns-clause-unsaved : goal.returns-clause-unsaved
returns-clause-unsaved g c =
    let start = g.F.Files.made c.args.files.now in
    let read = g.F.Files.made c.read_sources.new.files in
    let opened = g.F.Files.made c.open_file.new.files in
    kept_on start opened (g.F.Files.made c.judged_subject.new.files) (kept_on start read opened c.read_sources.ensures.kept c.open_file.ensures.kept) c.judged_subject.ensures.kept

pub returns-in-Wrong-clause-unsaved : goal.returns-in-Wrong-clause-unsaved
returns-in-Wrong-clause-unsaved g c =
    let start = g.F.Files.made c.args.files.now in
    let read = g.F.Files.made c.read_sources.new.files in
    let opened = g.F.Files.made c.open_file.new.files in
    kept_on start opened (g.F.Files.made c.judged_subject.new.files) (kept_on start read opened c.read_sources.ensures.kept c.open_file.ensures.kept) c.judged_subject.ensures.kept

pub returns-in_err-found-clause-unsaved : goal.returns-in_err-found-clause-unsaved
returns-in_err-found-clause-unsaved g c =
    let start = g.F.Files.made c.args.files.now in
    let read = g.F.Files.made c.read_sources.new.files in
    let opened = g.F.Files.made c.open_file.new.files in
    kept_on start opened (g.F.Files.made c.judged_subject.new.files) (kept_on start read opened c.read_sources.ensures.kept c.open_file.ensures.kept) c.judged_subject.ensures.kept

pub returns-in_err-found-clause-refused : goal.returns-in_err-found-clause-refused
returns-in_err-found-clause-refused g c = if_err _ c.from_residual-in_err-found.result (λ f five. inl (output_same (g.O.Write.contents c.args.out.now)))

pub returns-in_err-found-clause-nothing : goal.returns-in_err-found-clause-nothing
returns-in_err-found-clause-nothing g c = if_err _ c.from_residual-in_err-found.result (λ f three. output_same (g.O.Write.contents c.args.out.now))
