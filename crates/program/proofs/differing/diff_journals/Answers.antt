-- What was read and compared was shown; or a whole design is refused.
use Rattle.std.proofs.Common.{codes, option_map, sym, subst, refl, ℕ, List}
use Rattle.std.specs.Io.KnownBytes.{Appends}
use Rattle.journal.specs.Counted.{held}
use Rattle.program.specs.declared.ending.Ending.{Ending}
use Rattle.program.specs.Printed.{HasEnded}
use Rattle.program.specs.Subjects.{IsSubjectIn, sources_with}
use Rattle.program.proofs.Ended.{compared_ended, diff_performed, held_on, kept_on, output_same}
use Rattle.program.proofs.Explained.{appends_kept}
use Rattle.program.proofs.Subjects.{asks_whole, refused_command, subject_taken}
use Rattle.program.proofs.differing.diff_journals.Goals as goal

pub returns-clause-unsaved : goal.returns-clause-unsaved
returns-clause-unsaved g c =
    let start = g.F.Files.made c.args.files.now in
    let read = g.F.Files.made c.read_sources.new.files in
    let first = g.F.Files.made c.open_file.new.files in
    let second = g.F.Files.made c.open_file-2.new.files in
    kept_on start second (g.F.Files.made c.judged_subject.new.files) (kept_on start first second (kept_on start read first c.read_sources.ensures.kept c.open_file.ensures.kept) c.open_file-2.ensures.kept) c.judged_subject.ensures.kept

pub returns-clause-ended : goal.returns-clause-ended
returns-clause-ended g c = λ words asks.
    let request = c.args.request.now in
    let old = g.O.Write.contents (held c.args.out.now) in
    let new = g.O.Write.contents (held c.send_off.new.out) in
    let shown = g.O.Write.contents (held c.show_bytes.new.out) in
    let known = g.F.Files.held c.args.files.now in
    let read = g.F.Files.held c.read_sources.new.files in
    let from = sources_with known (option_map (λ w. w.now) c.args.design_words) in
    let files = g.F.Files.made c.args.files.now in
    let after = g.F.Files.made c.judged_subject.new.files in
    subst (λ (e : Ending). HasEnded from words old new files after e) (sym c.of_comparison.ensures)
    (compared_ended from words old new files after c.in_ok-told.told.same
    (diff_performed from words request old new files after c.in_ok-told.told.same asks (record {
      subject = c.in-Taken.subject;
      is_subject = subject_taken from request.file.now c.in_ok-texts.texts _ c.in-Taken.subject c.in_ok-texts.ensures.texts c.in_ok-subject.ensures.judged c.in-Taken.is;
      one = _;
      one_opened = held_on known read request.first.now _ c.read_sources.ensures.held c.in_ok-first.ensures.opened;
      other = _;
      other_opened = held_on known read request.second.now _ c.read_sources.ensures.held (held_on read (g.F.Files.held c.open_file.new.files) request.second.now _ c.open_file.ensures.held c.in_ok-second.ensures.opened);
      told = c.in_ok-told.told;
      compares = c.in_ok-told.ensures;
      printed = appends_kept old shown new c.in_ok-told.told.text.items (subst (λ (text : List ℕ). Appends old shown text) c.as_slice.ensures.value c.in_ok-show_bytes.ensures.written) c.send_off.ensures.kept;
      same_is = refl;
    }) (returns-clause-unsaved g c)))

pub returns-in-Wrong-clause-unsaved : goal.returns-in-Wrong-clause-unsaved
returns-in-Wrong-clause-unsaved g c =
    let start = g.F.Files.made c.args.files.now in
    let read = g.F.Files.made c.read_sources.new.files in
    let first = g.F.Files.made c.open_file.new.files in
    let second = g.F.Files.made c.open_file-2.new.files in
    kept_on start second (g.F.Files.made c.judged_subject.new.files) (kept_on start first second (kept_on start read first c.read_sources.ensures.kept c.open_file.ensures.kept) c.open_file-2.ensures.kept) c.judged_subject.ensures.kept

pub returns-in-Wrong-clause-ended : goal.returns-in-Wrong-clause-ended
returns-in-Wrong-clause-ended g c = λ words asks.
    let from = sources_with (g.F.Files.held c.args.files.now) (option_map (λ w. w.now) c.args.design_words) in
    let old = g.O.Write.contents (held c.args.out.now) in
    let whole = asks_whole (IsSubjectIn c.in_ok-texts.texts) (g.F.Files.held c.args.files.now) c.args.request.now.file.now (option_map (λ w. w.now) c.args.design_words) c.in_ok-texts.texts _ c.in-Wrong.text c.in_ok-texts.ensures.texts
    c.in_ok-subject.ensures.judged c.in-Wrong.is in
    refused_command from words (codes "diff") old old (g.F.Files.made c.args.files.now) (g.F.Files.made c.judged_subject.new.files) c.in-Wrong.text refl asks.begins whole (output_same old) (returns-in-Wrong-clause-unsaved g c)

pub returns-in_err-subject-clause-unsaved : goal.returns-in_err-subject-clause-unsaved
returns-in_err-subject-clause-unsaved g c =
    let start = g.F.Files.made c.args.files.now in
    let read = g.F.Files.made c.read_sources.new.files in
    let first = g.F.Files.made c.open_file.new.files in
    let second = g.F.Files.made c.open_file-2.new.files in
    kept_on start second (g.F.Files.made c.judged_subject.new.files) (kept_on start first second (kept_on start read first c.read_sources.ensures.kept c.open_file.ensures.kept) c.open_file-2.ensures.kept) c.judged_subject.ensures.kept

pub returns-in_err-told-clause-unsaved : goal.returns-in_err-told-clause-unsaved
returns-in_err-told-clause-unsaved g c =
    let start = g.F.Files.made c.args.files.now in
    let read = g.F.Files.made c.read_sources.new.files in
    let first = g.F.Files.made c.open_file.new.files in
    let second = g.F.Files.made c.open_file-2.new.files in
    kept_on start second (g.F.Files.made c.judged_subject.new.files) (kept_on start first second (kept_on start read first c.read_sources.ensures.kept c.open_file.ensures.kept) c.open_file-2.ensures.kept) c.judged_subject.ensures.kept

pub returns-in_err-show_bytes-clause-unsaved : goal.returns-in_err-show_bytes-clause-unsaved
returns-in_err-show_bytes-clause-unsaved g c =
    let start = g.F.Files.made c.args.files.now in
    let read = g.F.Files.made c.read_sources.new.files in
    let first = g.F.Files.made c.open_file.new.files in
    let second = g.F.Files.made c.open_file-2.new.files in
    kept_on start second (g.F.Files.made c.judged_subject.new.files) (kept_on start first second (kept_on start read first c.read_sources.ensures.kept c.open_file.ensures.kept) c.open_file-2.ensures.kept) c.judged_subject.ensures.kept

pub returns-in_err-send_off-clause-unsaved : goal.returns-in_err-send_off-clause-unsaved
returns-in_err-send_off-clause-unsaved g c =
    let start = g.F.Files.made c.args.files.now in
    let read = g.F.Files.made c.read_sources.new.files in
    let first = g.F.Files.made c.open_file.new.files in
    let second = g.F.Files.made c.open_file-2.new.files in
    kept_on start second (g.F.Files.made c.judged_subject.new.files) (kept_on start first second (kept_on start read first c.read_sources.ensures.kept c.open_file.ensures.kept) c.open_file-2.ensures.kept) c.judged_subject.ensures.kept
