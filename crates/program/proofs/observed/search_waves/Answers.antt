-- What was read leaves the files that were saved; or a whole design is refused.
use Rattle.std.proofs.Common.{inl, option_map}
use Rattle.std.specs.Io.KnownBytes.{Keeps}
use Rattle.files.specs.Saved.{KeepsFiles}
use Rattle.program.specs.Subjects.{IsDesignFor, sources_with}
use Rattle.program.proofs.Ended.{if_err, kept, kept_on, output_kept, output_same}
use Rattle.program.proofs.Subjects.{asks_whole, design_taken}
use Rattle.program.proofs.Waved.{observed_left_on, observed_on}
use Rattle.program.proofs.observed.search_waves.Goals as goal

pub returns-clause-ended : goal.returns-clause-ended
returns-clause-ended g c =
    let request = c.args.request.now in
    let from = sources_with (g.F.Files.held c.args.files.now) (option_map (λ w. w.now) c.args.design_words) in
    let start = g.F.Files.made c.args.files.now in
    let read = g.F.Files.made c.read_sources.new.files in
    let judged = g.F.Files.made c.judged_design.new.files in
    observed_on from request.file.now c.in-Taken.design request.observed request.search_options (option_map (λ path. path.now) request.journals) (g.O.Write.contents c.args.out.now) (g.O.Write.contents c.observe_design.new.out)
    start judged (g.F.Files.made c.observe_design.new.files) c.observe_design.result (design_taken from request.file.now c.in_ok-texts.texts _ c.in-Taken.design c.in_ok-texts.ensures.texts c.in_ok-design.ensures.judged c.in-Taken.is)
    (kept_on start read judged c.read_sources.ensures.kept c.judged_design.ensures.kept) c.observe_design.ensures.ended

pub returns-clause-unsaved : goal.returns-clause-unsaved
returns-clause-unsaved g c = output_kept (KeepsFiles (g.F.Files.made c.args.files.now) (g.F.Files.made c.observe_design.new.files)) c.observe_design.result c.observe_design.ensures.fault

pub returns-clause-nothing : goal.returns-clause-nothing
returns-clause-nothing g c =
    output_kept (Keeps (g.O.Write.contents c.args.out.now) (g.O.Write.contents c.observe_design.new.out)) c.observe_design.result c.observe_design.ensures.fault

pub returns-clause-wanting : goal.returns-clause-wanting
returns-clause-wanting g c =
    let request = c.args.request.now in
    let from = sources_with (g.F.Files.held c.args.files.now) (option_map (λ w. w.now) c.args.design_words) in
    let start = g.F.Files.made c.args.files.now in
    let read = g.F.Files.made c.read_sources.new.files in
    let judged = g.F.Files.made c.judged_design.new.files in
    observed_left_on from request.file.now c.in-Taken.design request.observed request.search_options (option_map (λ path. path.now) request.journals) (g.O.Write.contents c.args.out.now) (g.O.Write.contents c.observe_design.new.out)
    start judged (g.F.Files.made c.observe_design.new.files) c.observe_design.result (design_taken from request.file.now c.in_ok-texts.texts _ c.in-Taken.design c.in_ok-texts.ensures.texts c.in_ok-design.ensures.judged c.in-Taken.is)
    (kept_on start read judged c.read_sources.ensures.kept c.judged_design.ensures.kept) c.observe_design.ensures.wanting

pub returns-in-Wrong-clause-ended : goal.returns-in-Wrong-clause-ended
returns-in-Wrong-clause-ended g c =
    let start = g.F.Files.made c.args.files.now in
    let read = g.F.Files.made c.read_sources.new.files in
    let judged = g.F.Files.made c.judged_design.new.files in (
      asks_whole (IsDesignFor c.in_ok-texts.texts) (g.F.Files.held c.args.files.now) c.args.request.now.file.now (option_map (λ w. w.now) c.args.design_words) c.in_ok-texts.texts _ c.in-Wrong.text c.in_ok-texts.ensures.texts
          c.in_ok-design.ensures.judged c.in-Wrong.is,
      output_same (g.O.Write.contents c.args.out.now),
      kept_on start read judged c.read_sources.ensures.kept c.judged_design.ensures.kept,
    )

pub returns-in_err-spare_first_of-clause-wanting : goal.returns-in_err-spare_first_of-clause-wanting
returns-in_err-spare_first_of-clause-wanting g c = if_err _ c.from_residual.result (λ f six. inl (output_same (g.O.Write.contents c.args.out.now), kept (g.F.Files.made c.args.files.now)))

pub returns-in_err-texts-clause-wanting : goal.returns-in_err-texts-clause-wanting
returns-in_err-texts-clause-wanting g c = if_err _ c.from_residual-in_err-texts.result (λ f six. inl (output_same (g.O.Write.contents c.args.out.now), c.read_sources.ensures.kept))

pub returns-in_err-design-clause-wanting : goal.returns-in_err-design-clause-wanting
returns-in_err-design-clause-wanting g c =
    let start = g.F.Files.made c.args.files.now in
    let read = g.F.Files.made c.read_sources.new.files in
    let judged = g.F.Files.made c.judged_design.new.files in
    if_err _ c.from_residual-in_err-design.result (λ f six. inl (output_same (g.O.Write.contents c.args.out.now), kept_on start read judged c.read_sources.ensures.kept c.judged_design.ensures.kept))
