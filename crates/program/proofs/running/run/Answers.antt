-- What the run left was saved and printed; or a whole design is refused.
use Rattle.std.proofs.Common.{List, ℕ, Option, rules, subst}
use Rattle.std.specs.Prelude.{option_map}
use Rattle.std.specs.Io.KnownBytes.{Appends}
use Rattle.model.specs.declared.entry.Entry.{Entry}
use Rattle.files.specs.Saved.{SavesWhereAsked}
use Rattle.program.specs.Subjects.{IsDesignFor, sources_with}
use Rattle.program.proofs.Ended.{if_err, kept_on, output_same, printed_by, saved_on}
use Rattle.program.proofs.Subjects.{asks_whole, design_taken, run_ended, sound_taken}
use Rattle.program.proofs.running.run.Goals as goal

pub left_by_run-requires : goal.left_by_run-requires
left_by_run-requires g c = (search rules, (search rules, sound_taken c.in_ok-texts.texts _ c.in-Taken.design c.in_ok-design.ensures.judged c.in-Taken.is))

pub returns-clause-printed : goal.returns-clause-printed
returns-clause-printed g c =
    let request = c.args.request.now in
    let left = c.in_ok-left.left in
    let from = sources_with (g.F.Files.held c.args.files.now) (option_map (λ w. w.now) c.args.design_words) in
    let path = option_map (λ p. p.now) request.journal in
    let start = g.F.Files.made c.args.files.now in
    let read = g.F.Files.made c.read_sources.new.files in
    let judged = g.F.Files.made c.judged_design.new.files in
    let begun = g.F.Files.made c.begin.new.files in
    let end = g.F.Files.made c.save.new.files in
    let old = g.O.Write.contents c.args.out.now in
    let new = g.O.Write.contents c.show.new.out in
    let described = design_taken from request.file.now c.in_ok-texts.texts _ c.in-Taken.design c.in_ok-texts.ensures.texts c.in_ok-design.ensures.judged c.in-Taken.is in
    let keeps = kept_on start judged begun (kept_on start read judged c.read_sources.ensures.kept c.judged_design.ensures.kept) c.begin.ensures.kept in
    let lines = subst (λ (l : List ℕ). Appends old new l) c.as_str.ensures.value c.in_ok-show.ensures.written in
    let saved = saved_on start begun end path left.journal.items keeps
    (subst (λ (l : List Entry). SavesWhereAsked begun end path l) c.as_slice.ensures.value
    (subst (λ (p : Option (List ℕ)). SavesWhereAsked begun end p c.as_slice.result.now) c.in_ok-begun.ensures.path c.in_ok-save.ensures.saved)) in
    run_ended from request.file.now request.seed request.options path old new start end c.of.result c.of_run.result c.of_run.ensures
    (printed_by from request.file.now request.seed request.options path old new start end left c.of.result (c.in_ok-left.ensures.left from request.file.now described) lines saved c.of.ensures)

pub returns-in-Wrong-clause-printed : goal.returns-in-Wrong-clause-printed
returns-in-Wrong-clause-printed g c =
    let start = g.F.Files.made c.args.files.now in
    let read = g.F.Files.made c.read_sources.new.files in
    let judged = g.F.Files.made c.judged_design.new.files in (
      asks_whole (IsDesignFor c.in_ok-texts.texts) (g.F.Files.held c.args.files.now) c.args.request.now.file.now (option_map (λ w. w.now) c.args.design_words) c.in_ok-texts.texts _ c.in-Wrong.text c.in_ok-texts.ensures.texts
          c.in_ok-design.ensures.judged c.in-Wrong.is,
      output_same (g.O.Write.contents c.args.out.now),
      kept_on start read judged c.read_sources.ensures.kept c.judged_design.ensures.kept,
    )

pub returns-in_err-design-clause-unsaved : goal.returns-in_err-design-clause-unsaved
returns-in_err-design-clause-unsaved g c =
    let start = g.F.Files.made c.args.files.now in
    let read = g.F.Files.made c.read_sources.new.files in
    let judged = g.F.Files.made c.judged_design.new.files in
    if_err _ c.from_residual-in_err-design.result (λ f other. kept_on start read judged c.read_sources.ensures.kept c.judged_design.ensures.kept)

pub returns-in_err-begun-clause-unsaved : goal.returns-in_err-begun-clause-unsaved
returns-in_err-begun-clause-unsaved g c =
    let start = g.F.Files.made c.args.files.now in
    let read = g.F.Files.made c.read_sources.new.files in
    let judged = g.F.Files.made c.judged_design.new.files in
    let begun = g.F.Files.made c.begin.new.files in
    if_err _ c.from_residual-in_err-begun.result (λ f other. kept_on start judged begun (kept_on start read judged c.read_sources.ensures.kept c.judged_design.ensures.kept) c.begin.ensures.kept)

pub returns-in_err-left-clause-unsaved : goal.returns-in_err-left-clause-unsaved
returns-in_err-left-clause-unsaved g c =
    let start = g.F.Files.made c.args.files.now in
    let read = g.F.Files.made c.read_sources.new.files in
    let judged = g.F.Files.made c.judged_design.new.files in
    let begun = g.F.Files.made c.begin.new.files in
    if_err _ c.from_residual-in_err-left.result (λ f other. kept_on start judged begun (kept_on start read judged c.read_sources.ensures.kept c.judged_design.ensures.kept) c.begin.ensures.kept)

pub returns-in_err-save-clause-unsaved : goal.returns-in_err-save-clause-unsaved
returns-in_err-save-clause-unsaved g c =
    let start = g.F.Files.made c.args.files.now in
    let read = g.F.Files.made c.read_sources.new.files in
    let judged = g.F.Files.made c.judged_design.new.files in
    let begun = g.F.Files.made c.begin.new.files in
    if_err _ c.from_residual-in_err-save.result (λ f other. kept_on start begun (g.F.Files.made c.save.new.files) (kept_on start judged begun (kept_on start read judged c.read_sources.ensures.kept c.judged_design.ensures.kept) c.begin.ensures.kept) c.in_err-save.ensures.unsaved)
