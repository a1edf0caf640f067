-- The journal was replayed on the design that is asked for; or a whole design is refused.
use Rattle.std.proofs.Common.{codes, option_map, refl, rules, sym}
use Rattle.journal.specs.Counted.{held}
use Rattle.program.specs.Subjects.{IsDesignFor, sources_with}
use Rattle.program.proofs.Ended.{held_on, kept_on, output_same}
use Rattle.program.proofs.Subjects.{asks_whole, design_taken, prints_kept, refused_command, replay_performed, replayed_on}
use Rattle.program.proofs.replaying.replay_journal.Goals as goal

pub returns-clause-printed : goal.returns-clause-printed
returns-clause-printed g c =
    let request = c.args.request.now in
    let known = g.F.Files.held c.args.files.now in
    let from = sources_with known (option_map (λ w. w.now) c.args.design_words) in
    replayed_on from request.file.now request.journal.now c.in-Taken.design _ _ _
    (design_taken from request.file.now c.in_ok-texts.texts _ c.in-Taken.design c.in_ok-texts.ensures.texts c.in_ok-design.ensures.judged c.in-Taken.is)
    (prints_kept c.in-Taken.design _ (g.O.Write.contents (held c.args.out.now)) (g.O.Write.contents (held c.replay_on_design-replayed.new.out)) (g.O.Write.contents (held c.send_off.new.out)) c.in-Ok.ensures.ok c.send_off.ensures.kept)
    (search (sym c.new-journal.ensures.held, held_on known (g.F.Files.held c.read_sources.new.files) request.journal.now _ c.read_sources.ensures.held c.in_ok-open_file.ensures.opened, rules))

pub returns-in-Wrong-clause-printed : goal.returns-in-Wrong-clause-printed
returns-in-Wrong-clause-printed g c = (
  asks_whole (IsDesignFor c.in_ok-texts.texts) (g.F.Files.held c.args.files.now) c.args.request.now.file.now (option_map (λ w. w.now) c.args.design_words) c.in_ok-texts.texts _ c.in-Wrong.text c.in_ok-texts.ensures.texts
      c.in_ok-design.ensures.judged c.in-Wrong.is,
  output_same (g.O.Write.contents (held c.args.out.now)),
)

pub returns-clause-unsaved : goal.returns-clause-unsaved
returns-clause-unsaved g c =
    let start = g.F.Files.made c.args.files.now in
    let read = g.F.Files.made c.read_sources.new.files in
    let opened = g.F.Files.made c.open_file.new.files in
    kept_on start opened (g.F.Files.made c.judged_design.new.files) (kept_on start read opened c.read_sources.ensures.kept c.open_file.ensures.kept) c.judged_design.ensures.kept

pub returns-clause-ended : goal.returns-clause-ended
returns-clause-ended g c = λ words asks.
    let from = sources_with (g.F.Files.held c.args.files.now) (option_map (λ w. w.now) c.args.design_words) in
    replay_performed from words c.args.request.now (g.O.Write.contents (held c.args.out.now)) (g.O.Write.contents (held c.send_off.new.out)) (g.F.Files.made c.args.files.now) (g.F.Files.made c.judged_design.new.files) asks (returns-clause-printed g c)
    (returns-clause-unsaved g c)

pub returns-in-Wrong-clause-unsaved : goal.returns-in-Wrong-clause-unsaved
returns-in-Wrong-clause-unsaved g c =
    let start = g.F.Files.made c.args.files.now in
    let read = g.F.Files.made c.read_sources.new.files in
    let opened = g.F.Files.made c.open_file.new.files in
    kept_on start opened (g.F.Files.made c.judged_design.new.files) (kept_on start read opened c.read_sources.ensures.kept c.open_file.ensures.kept) c.judged_design.ensures.kept

pub returns-in-Wrong-clause-ended : goal.returns-in-Wrong-clause-ended
returns-in-Wrong-clause-ended g c = λ words asks.
    let w = returns-in-Wrong-clause-printed g c in
    let from = sources_with (g.F.Files.held c.args.files.now) (option_map (λ w. w.now) c.args.design_words) in
    refused_command from words (codes "replay") (g.O.Write.contents (held c.args.out.now)) (g.O.Write.contents (held c.args.out.now)) (g.F.Files.made c.args.files.now) (g.F.Files.made c.judged_design.new.files) c.in-Wrong.text refl asks.begins w.0 w.1
    (returns-in-Wrong-clause-unsaved g c)

pub returns-in_err-design-clause-unsaved : goal.returns-in_err-design-clause-unsaved
returns-in_err-design-clause-unsaved g c =
    let start = g.F.Files.made c.args.files.now in
    let read = g.F.Files.made c.read_sources.new.files in
    let opened = g.F.Files.made c.open_file.new.files in
    kept_on start opened (g.F.Files.made c.judged_design.new.files) (kept_on start read opened c.read_sources.ensures.kept c.open_file.ensures.kept) c.judged_design.ensures.kept

pub returns-in-Err-clause-unsaved : goal.returns-in-Err-clause-unsaved
returns-in-Err-clause-unsaved g c =
    let start = g.F.Files.made c.args.files.now in
    let read = g.F.Files.made c.read_sources.new.files in
    let opened = g.F.Files.made c.open_file.new.files in
    kept_on start opened (g.F.Files.made c.judged_design.new.files) (kept_on start read opened c.read_sources.ensures.kept c.open_file.ensures.kept) c.judged_design.ensures.kept

pub returns-in_err-send_off-clause-unsaved : goal.returns-in_err-send_off-clause-unsaved
returns-in_err-send_off-clause-unsaved g c =
    let start = g.F.Files.made c.args.files.now in
    let read = g.F.Files.made c.read_sources.new.files in
    let opened = g.F.Files.made c.open_file.new.files in
    kept_on start opened (g.F.Files.made c.judged_design.new.files) (kept_on start read opened c.read_sources.ensures.kept c.open_file.ensures.kept) c.judged_design.ensures.kept
