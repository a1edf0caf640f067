-- The dump that was put, by what was read and computed before; or a whole design is refused.
use Rattle.std.proofs.Common.{refl, subst, option_map, codes, ℕ, List, Result, Ok, Err, OnErr}
use Rattle.model.specs.declared.entry.Entry.{Entry}
use Rattle.files.specs.Saved.{AddsFile}
use Rattle.program.specs.Dumps.{IsDumpedOf, IsDumpTextOf}
use Rattle.program.specs.Printed.{dumped}
use Rattle.program.specs.Subjects.{sources_with}
use Rattle.program.proofs.Ended.{added_on, held_on, kept_on, output_same, waves_performed}
use Rattle.program.proofs.Subjects.{asks_whole, dump_made, refused_command}
use Rattle.program.proofs.waving.dump_waves.Goals as goal

pub returns-clause-dumped : goal.returns-clause-dumped
returns-clause-dumped g c =
    let request = c.args.request.now in
    let known = g.F.Files.held c.args.files.now in
    let from = sources_with known (option_map (λ w. w.now) c.args.design_words) in
    let start = g.F.Files.made c.args.files.now in
    let read = g.F.Files.made c.read_sources.new.files in
    let opened = g.F.Files.made c.open_file.new.files in
    let judged = g.F.Files.made c.dumped_design.new.files in
    let begun = g.F.Files.made c.begin_at.new.files in
    let end = g.F.Files.made c.save_text.new.files in
    let path = request.out.now in
    let made = c.in-Taken.dumped in
    let entries = c.in_ok-entries.entries.items in
    let text = c.in_ok-text.text.items in
    let keeps = kept_on start judged begun (kept_on start opened judged (kept_on start read opened c.read_sources.ensures.kept c.open_file.ensures.kept) c.dumped_design.ensures.kept) c.begin_at.ensures.kept in
    let told = subst (λ (journal : List Entry). IsDumpTextOf made journal text) c.as_slice.ensures.value c.in_ok-text.ensures in
    let saved = subst (λ (bytes : List ℕ). AddsFile begun end (record { path = path; bytes = bytes })) c.as_slice-2.ensures.value c.in_ok-save_text.ensures.saved in
    record {
      design = made.design;
      left = _;
      opened = held_on known (g.F.Files.held c.read_sources.new.files) request.journal.now _ c.read_sources.ensures.held c.in_ok-journal.ensures.opened;
      journal = entries;
      is_read = c.in_ok-entries.ensures;
      text = text;
      is_dump = dump_made from request.file.now c.in_ok-texts.texts _ made entries text c.in_ok-texts.ensures.texts c.in_ok-dumped.ensures.judged c.in-Taken.is told;
      saved = added_on start begun end (record { path = path; bytes = text }) keeps saved;
    }

pub returns-clause-ended : goal.returns-clause-ended
returns-clause-ended g c = λ words known asks.
    let from = sources_with (g.F.Files.held c.args.files.now) (option_map (λ w. w.now) c.args.design_words) in
    dumped (waves_performed from words c.args.request.now known (g.F.Files.made c.args.files.now) (g.F.Files.made c.save_text.new.files) asks (returns-clause-dumped g c))

pub returns-in-Wrong-clause-dumped : goal.returns-in-Wrong-clause-dumped
returns-in-Wrong-clause-dumped g c =
    let start = g.F.Files.made c.args.files.now in
    let read = g.F.Files.made c.read_sources.new.files in
    let opened = g.F.Files.made c.open_file.new.files in (
      asks_whole (IsDumpedOf c.in_ok-texts.texts) (g.F.Files.held c.args.files.now) c.args.request.now.file.now (option_map (λ w. w.now) c.args.design_words) c.in_ok-texts.texts _ c.in-Wrong.text c.in_ok-texts.ensures.texts
          c.in_ok-dumped.ensures.judged c.in-Wrong.is,
      kept_on start opened (g.F.Files.made c.dumped_design.new.files) (kept_on start read opened c.read_sources.ensures.kept c.open_file.ensures.kept) c.dumped_design.ensures.kept,
    )

pub returns-in-Wrong-clause-ended : goal.returns-in-Wrong-clause-ended
returns-in-Wrong-clause-ended g c = λ words known asks.
    let w = returns-in-Wrong-clause-dumped g c in
    let from = sources_with (g.F.Files.held c.args.files.now) (option_map (λ w. w.now) c.args.design_words) in
    refused_command from words (codes "waves") known known (g.F.Files.made c.args.files.now) (g.F.Files.made c.dumped_design.new.files) c.in-Wrong.text refl asks.begins w.0 (output_same known) w.1

-- what holds whatever the fault
on_err : {T E : Type 0} (P : Type 0) (r : Result T E) → P → OnErr r P
on_err P (Ok x) h = tt
on_err P (Err e) h = h

pub returns-in_err-dumped-clause-unsaved : goal.returns-in_err-dumped-clause-unsaved
returns-in_err-dumped-clause-unsaved g c =
    let start = g.F.Files.made c.args.files.now in
    let read = g.F.Files.made c.read_sources.new.files in
    let opened = g.F.Files.made c.open_file.new.files in
    on_err _ c.from_residual-in_err-dumped.result
    (kept_on start opened (g.F.Files.made c.dumped_design.new.files) (kept_on start read opened c.read_sources.ensures.kept c.open_file.ensures.kept) c.dumped_design.ensures.kept)

pub returns-in_err-entries-clause-unsaved : goal.returns-in_err-entries-clause-unsaved
returns-in_err-entries-clause-unsaved g c =
    let start = g.F.Files.made c.args.files.now in
    let read = g.F.Files.made c.read_sources.new.files in
    let opened = g.F.Files.made c.open_file.new.files in
    on_err _ c.from_residual-in_err-entries.result
    (kept_on start opened (g.F.Files.made c.dumped_design.new.files) (kept_on start read opened c.read_sources.ensures.kept c.open_file.ensures.kept) c.dumped_design.ensures.kept)

pub returns-in_err-target-clause-unsaved : goal.returns-in_err-target-clause-unsaved
returns-in_err-target-clause-unsaved g c =
    let start = g.F.Files.made c.args.files.now in
    let read = g.F.Files.made c.read_sources.new.files in
    let opened = g.F.Files.made c.open_file.new.files in
    let judged = g.F.Files.made c.dumped_design.new.files in
    on_err _ c.from_residual-in_err-target.result
    (kept_on start judged (g.F.Files.made c.begin_at.new.files) (kept_on start opened judged (kept_on start read opened c.read_sources.ensures.kept c.open_file.ensures.kept) c.dumped_design.ensures.kept) c.begin_at.ensures.kept)

pub returns-in_err-text-clause-unsaved : goal.returns-in_err-text-clause-unsaved
returns-in_err-text-clause-unsaved g c =
    let start = g.F.Files.made c.args.files.now in
    let read = g.F.Files.made c.read_sources.new.files in
    let opened = g.F.Files.made c.open_file.new.files in
    let judged = g.F.Files.made c.dumped_design.new.files in
    on_err _ c.from_residual-in_err-text.result
    (kept_on start judged (g.F.Files.made c.begin_at.new.files) (kept_on start opened judged (kept_on start read opened c.read_sources.ensures.kept c.open_file.ensures.kept) c.dumped_design.ensures.kept) c.begin_at.ensures.kept)

pub returns-in_err-save_text-clause-unsaved : goal.returns-in_err-save_text-clause-unsaved
returns-in_err-save_text-clause-unsaved g c =
    let start = g.F.Files.made c.args.files.now in
    let read = g.F.Files.made c.read_sources.new.files in
    let opened = g.F.Files.made c.open_file.new.files in
    let judged = g.F.Files.made c.dumped_design.new.files in
    let begun = g.F.Files.made c.begin_at.new.files in
    on_err _ c.from_residual-in_err-save_text.result
    (kept_on start begun (g.F.Files.made c.save_text.new.files)
    (kept_on start judged begun (kept_on start opened judged (kept_on start read opened c.read_sources.ensures.kept c.open_file.ensures.kept) c.dumped_design.ensures.kept) c.begin_at.ensures.kept) c.in_err-save_text.ensures.unsaved)
