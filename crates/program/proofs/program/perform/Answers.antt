-- What is asked for was done, and a check is no other request.
use Rattle.std.proofs.Common.{ap, option_map, subst}
use Rattle.std.specs.Io.KnownBytes.{Keeps}
use Rattle.journal.specs.Counted.{held}
use Rattle.arguments.specs.CommandWords.{Asks, AsksCheck, AsksExplain}
use Rattle.files.specs.Saved.{KeepsFiles}
use Rattle.program.proofs.Ended.{at_any_fault, check_alone, explain_alone, if_err, if_read, is_check, is_explain, kept, left_of_dump, left_of_telling, left_unless_one, one_only, output_same, run_performed, unless_one, unless_told, version_performed}
use Rattle.program.proofs.Explained.{refused_performed, telling_performed}
use Rattle.program.proofs.Subjects.{on_any_fault}
use Rattle.program.specs.Subjects.{sources_with}
use Rattle.program.proofs.program.perform.Goals as goal

pub returns-in-Run-clause-checked : goal.returns-in-Run-clause-checked
returns-in-Run-clause-checked g c = λ words asks begins. absurd (check_alone words c.args.request.now (ap is_check c.in-Run.is) asks begins)

pub returns-in-Replay-clause-checked : goal.returns-in-Replay-clause-checked
returns-in-Replay-clause-checked g c = λ words asks begins. absurd (check_alone words c.args.request.now (ap is_check c.in-Replay.is) asks begins)

pub returns-in-Races-clause-checked : goal.returns-in-Races-clause-checked
returns-in-Races-clause-checked g c = λ words asks begins. absurd (check_alone words c.args.request.now (ap is_check c.in-Races.is) asks begins)

pub returns-in-Run-clause-nothing : goal.returns-in-Run-clause-nothing
returns-in-Run-clause-nothing g c = λ words asks.
    unless_one (Keeps (g.O.Write.contents (held c.args.out.now)) (g.O.Write.contents (held c.run.new.out))) words c.run.result c.run.ensures.nothing

pub returns-in-Replay-clause-nothing : goal.returns-in-Replay-clause-nothing
returns-in-Replay-clause-nothing g c = λ words asks.
    unless_one (Keeps (g.O.Write.contents (held c.args.out.now)) (g.O.Write.contents (held c.replay_journal.new.out))) words c.replay_journal.result c.replay_journal.ensures.nothing

pub returns-in-Races-clause-nothing : goal.returns-in-Races-clause-nothing
returns-in-Races-clause-nothing g c = λ words asks.
    if_read (Keeps (g.O.Write.contents (held c.args.out.now)) (g.O.Write.contents (held c.perform_races.new.out))) words c.perform_races.result c.perform_races.ensures.nothing

pub returns-in-Explain-clause-checked : goal.returns-in-Explain-clause-checked
returns-in-Explain-clause-checked g c = λ words asks begins. absurd (check_alone words c.args.request.now (ap is_check c.in-Explain.is) asks begins)

pub returns-in-Explain-clause-refused : goal.returns-in-Explain-clause-refused
returns-in-Explain-clause-refused g c = λ words asks begins.
    refused_performed (sources_with (g.F.Files.held c.args.files.now) (option_map (λ w. w.now) c.args.design_words)) words c.in-Explain.request (g.O.Write.contents (held c.args.out.now)) (g.O.Write.contents (held c.explain_journal.new.out)) c.explain_journal.result
    (subst (Asks words) c.in-Explain.is asks) c.explain_journal.ensures.refused

pub returns-in-Explain-clause-ended : goal.returns-in-Explain-clause-ended
returns-in-Explain-clause-ended g c = λ words asks.
    telling_performed (sources_with (g.F.Files.held c.args.files.now) (option_map (λ w. w.now) c.args.design_words)) words c.in-Explain.request (g.O.Write.contents (held c.args.out.now)) (g.O.Write.contents (held c.explain_journal.new.out)) (g.F.Files.made c.args.files.now)
    (g.F.Files.made c.explain_journal.new.files) c.explain_journal.result (subst (Asks words) c.in-Explain.is asks) c.explain_journal.ensures.ended c.explain_journal.ensures.unsaved

pub returns-in-Run-clause-ended : goal.returns-in-Run-clause-ended
returns-in-Run-clause-ended g c = λ words asks.
    run_performed (sources_with (g.F.Files.held c.args.files.now) (option_map (λ w. w.now) c.args.design_words)) words c.in-Run.request (g.O.Write.contents (held c.args.out.now)) (g.O.Write.contents (held c.run.new.out)) (g.F.Files.made c.args.files.now)
    (g.F.Files.made c.run.new.files) c.run.result (subst (Asks words) c.in-Run.is asks) c.run.ensures.printed

pub returns-in-Explain-clause-nothing : goal.returns-in-Explain-clause-nothing
returns-in-Explain-clause-nothing g c = λ words asks.
    let own : AsksExplain words c.in-Explain.request = subst (Asks words) c.in-Explain.is asks in
    unless_told (Keeps (g.O.Write.contents (held c.args.out.now)) (g.O.Write.contents (held c.explain_journal.new.out))) words c.explain_journal.result own.begins c.explain_journal.ensures.nothing

pub returns-in-Explain-clause-unsaved : goal.returns-in-Explain-clause-unsaved
returns-in-Explain-clause-unsaved g c = if_err _ c.explain_journal.result (λ f source. c.explain_journal.ensures.unsaved)

pub returns-in-Run-clause-refused : goal.returns-in-Run-clause-refused
returns-in-Run-clause-refused g c = λ words asks begins. absurd (explain_alone words c.args.request.now (ap is_explain c.in-Run.is) asks begins)

pub returns-in-Replay-clause-refused : goal.returns-in-Replay-clause-refused
returns-in-Replay-clause-refused g c = λ words asks begins. absurd (explain_alone words c.args.request.now (ap is_explain c.in-Replay.is) asks begins)

pub returns-in-Races-clause-refused : goal.returns-in-Races-clause-refused
returns-in-Races-clause-refused g c = λ words asks begins. absurd (explain_alone words c.args.request.now (ap is_explain c.in-Races.is) asks begins)

pub returns-in-Check-clause-refused : goal.returns-in-Check-clause-refused
returns-in-Check-clause-refused g c = λ words asks begins. absurd (explain_alone words c.args.request.now (ap is_explain c.in-Check.is) asks begins)

pub returns-in-Waves-clause-refused : goal.returns-in-Waves-clause-refused
returns-in-Waves-clause-refused g c = λ words asks begins. absurd (explain_alone words c.args.request.now (ap is_explain c.in-Waves.is) asks begins)

pub returns-in-Version-clause-refused : goal.returns-in-Version-clause-refused
returns-in-Version-clause-refused g c = λ words asks begins. absurd (explain_alone words c.args.request.now (ap is_explain c.in-Version.is) asks begins)

pub returns-in-Check-clause-ended : goal.returns-in-Check-clause-ended
returns-in-Check-clause-ended g c = λ words asks.
    let own : AsksCheck words c.in-Check.request = subst (Asks words) c.in-Check.is asks in
    c.perform_check.ensures.ended words (record { begins = own.begins; file = own.is_check.file })

pub returns-in-Check-clause-checked : goal.returns-in-Check-clause-checked
returns-in-Check-clause-checked g c = λ words asks begins. c.perform_check.ensures.fault

pub returns-in-Check-clause-nothing : goal.returns-in-Check-clause-nothing
returns-in-Check-clause-nothing g c = λ words asks.
    unless_one (Keeps (g.O.Write.contents (held c.args.out.now)) (g.O.Write.contents (held c.perform_check.new.out))) words c.perform_check.result c.perform_check.ensures.nothing

pub returns-in-Check-clause-unsaved : goal.returns-in-Check-clause-unsaved
returns-in-Check-clause-unsaved g c = if_err _ c.perform_check.result (λ f source. c.perform_check.ensures.unsaved)

pub returns-in-Waves-clause-ended : goal.returns-in-Waves-clause-ended
returns-in-Waves-clause-ended g c = λ words asks. c.dump_waves.ensures.ended words (g.O.Write.contents (held c.args.out.now)) (subst (Asks words) c.in-Waves.is asks)

pub returns-in-Waves-clause-checked : goal.returns-in-Waves-clause-checked
returns-in-Waves-clause-checked g c = λ words asks begins. absurd (check_alone words c.args.request.now (ap is_check c.in-Waves.is) asks begins)

pub returns-in-Waves-clause-nothing : goal.returns-in-Waves-clause-nothing
returns-in-Waves-clause-nothing g c = λ words asks. if_err _ c.dump_waves.result (λ f other. output_same (g.O.Write.contents (held c.args.out.now)))

pub returns-in-Waves-clause-unsaved : goal.returns-in-Waves-clause-unsaved
returns-in-Waves-clause-unsaved g c = at_any_fault (KeepsFiles (g.F.Files.made c.args.files.now) (g.F.Files.made c.dump_waves.new.files)) c.dump_waves.result c.dump_waves.ensures.unsaved

pub returns-in-Version-clause-ended : goal.returns-in-Version-clause-ended
returns-in-Version-clause-ended g c = λ words asks.
    version_performed (sources_with (g.F.Files.held c.args.files.now) (option_map (λ w. w.now) c.args.design_words)) words (g.O.Write.contents (held c.args.out.now)) (g.O.Write.contents (held c.perform_version.new.out)) (g.F.Files.made c.args.files.now)
    c.perform_version.result (subst (Asks words) c.in-Version.is asks) c.perform_version.ensures.shown c.perform_version.ensures.done

pub returns-in-Version-clause-checked : goal.returns-in-Version-clause-checked
returns-in-Version-clause-checked g c = λ words asks begins. absurd (check_alone words c.args.request.now (ap is_check c.in-Version.is) asks begins)

pub returns-in-Version-clause-nothing : goal.returns-in-Version-clause-nothing
returns-in-Version-clause-nothing g c = λ words asks.
    let left = Keeps (g.O.Write.contents (held c.args.out.now)) (g.O.Write.contents (held c.perform_version.new.out)) in
    unless_one left words c.perform_version.result (one_only left c.perform_version.result c.perform_version.ensures.fault)

pub returns-in-Version-clause-unsaved : goal.returns-in-Version-clause-unsaved
returns-in-Version-clause-unsaved g c = if_err _ c.perform_version.result (λ f source. kept (g.F.Files.made c.args.files.now))

pub returns-in-Run-clause-wanting : goal.returns-in-Run-clause-wanting
returns-in-Run-clause-wanting g c = λ words asks.
    left_unless_one (sources_with (g.F.Files.held c.args.files.now) (option_map (λ w. w.now) c.args.design_words)) words (g.O.Write.contents (held c.args.out.now)) (g.O.Write.contents (held c.run.new.out)) (g.F.Files.made c.args.files.now) (g.F.Files.made c.run.new.files) c.run.result c.run.ensures.nothing c.run.ensures.unsaved

pub returns-in-Replay-clause-wanting : goal.returns-in-Replay-clause-wanting
returns-in-Replay-clause-wanting g c = λ words asks.
    left_unless_one (sources_with (g.F.Files.held c.args.files.now) (option_map (λ w. w.now) c.args.design_words)) words (g.O.Write.contents (held c.args.out.now)) (g.O.Write.contents (held c.replay_journal.new.out)) (g.F.Files.made c.args.files.now) (g.F.Files.made c.replay_journal.new.files) c.replay_journal.result c.replay_journal.ensures.nothing
    (if_err _ c.replay_journal.result (λ f other. c.replay_journal.ensures.unsaved))

pub returns-in-Races-clause-wanting : goal.returns-in-Races-clause-wanting
returns-in-Races-clause-wanting g c = λ words asks. c.perform_races.ensures.wanting words (subst (Asks words) c.in-Races.is asks)

pub returns-in-Check-clause-wanting : goal.returns-in-Check-clause-wanting
returns-in-Check-clause-wanting g c = λ words asks.
    left_unless_one (sources_with (g.F.Files.held c.args.files.now) (option_map (λ w. w.now) c.args.design_words)) words (g.O.Write.contents (held c.args.out.now)) (g.O.Write.contents (held c.perform_check.new.out)) (g.F.Files.made c.args.files.now) (g.F.Files.made c.perform_check.new.files) c.perform_check.result c.perform_check.ensures.nothing
    (if_err _ c.perform_check.result (λ f other. c.perform_check.ensures.unsaved))

pub returns-in-Explain-clause-wanting : goal.returns-in-Explain-clause-wanting
returns-in-Explain-clause-wanting g c = λ words asks.
    let own : AsksExplain words c.in-Explain.request = subst (Asks words) c.in-Explain.is asks in
    left_of_telling (sources_with (g.F.Files.held c.args.files.now) (option_map (λ w. w.now) c.args.design_words)) words (g.O.Write.contents (held c.args.out.now)) (g.O.Write.contents (held c.explain_journal.new.out)) (g.F.Files.made c.args.files.now) (g.F.Files.made c.explain_journal.new.files) c.explain_journal.result own.begins c.explain_journal.ensures.unsaved

pub returns-in-Waves-clause-wanting : goal.returns-in-Waves-clause-wanting
returns-in-Waves-clause-wanting g c = λ words asks.
    left_of_dump (sources_with (g.F.Files.held c.args.files.now) (option_map (λ w. w.now) c.args.design_words)) words (g.O.Write.contents (held c.args.out.now)) (g.F.Files.made c.args.files.now) (g.F.Files.made c.dump_waves.new.files) c.dump_waves.result c.dump_waves.ensures.unsaved

pub returns-in-Version-clause-wanting : goal.returns-in-Version-clause-wanting
returns-in-Version-clause-wanting g c = λ words asks.
    let left = Keeps (g.O.Write.contents (held c.args.out.now)) (g.O.Write.contents (held c.perform_version.new.out)) in
    left_unless_one (sources_with (g.F.Files.held c.args.files.now) (option_map (λ w. w.now) c.args.design_words)) words (g.O.Write.contents (held c.args.out.now)) (g.O.Write.contents (held c.perform_version.new.out)) (g.F.Files.made c.args.files.now) (g.F.Files.made c.args.files.now) c.perform_version.result (one_only left c.perform_version.result c.perform_version.ensures.fault)
    (if_err _ c.perform_version.result (λ f other. kept (g.F.Files.made c.args.files.now)))

pub returns-in-Diff-clause-ended : goal.returns-in-Diff-clause-ended
returns-in-Diff-clause-ended g c = λ words asks. c.diff_journals.ensures.ended words (subst (Asks words) c.in-Diff.is asks)

pub returns-in-Diff-clause-checked : goal.returns-in-Diff-clause-checked
returns-in-Diff-clause-checked g c = λ words asks begins. absurd (check_alone words c.args.request.now (ap is_check c.in-Diff.is) asks begins)

pub returns-in-Diff-clause-refused : goal.returns-in-Diff-clause-refused
returns-in-Diff-clause-refused g c = λ words asks begins. absurd (explain_alone words c.args.request.now (ap is_explain c.in-Diff.is) asks begins)

pub returns-in-Diff-clause-nothing : goal.returns-in-Diff-clause-nothing
returns-in-Diff-clause-nothing g c = λ words asks.
    unless_one (Keeps (g.O.Write.contents (held c.args.out.now)) (g.O.Write.contents (held c.diff_journals.new.out))) words c.diff_journals.result c.diff_journals.ensures.nothing

pub returns-in-Diff-clause-unsaved : goal.returns-in-Diff-clause-unsaved
returns-in-Diff-clause-unsaved g c = if_err _ c.diff_journals.result (λ f source. c.diff_journals.ensures.unsaved)

pub returns-in-Diff-clause-wanting : goal.returns-in-Diff-clause-wanting
returns-in-Diff-clause-wanting g c = λ words asks.
    left_unless_one (sources_with (g.F.Files.held c.args.files.now) (option_map (λ w. w.now) c.args.design_words)) words (g.O.Write.contents (held c.args.out.now)) (g.O.Write.contents (held c.diff_journals.new.out)) (g.F.Files.made c.args.files.now) (g.F.Files.made c.diff_journals.new.files) c.diff_journals.result c.diff_journals.ensures.nothing
    (if_err _ c.diff_journals.result (λ f other. c.diff_journals.ensures.unsaved))

pub returns-in-Flatten-clause-ended : goal.returns-in-Flatten-clause-ended
returns-in-Flatten-clause-ended g c = λ words asks. c.perform_flatten.ensures.ended words (subst (Asks words) c.in-Flatten.is asks)

pub returns-in-Flatten-clause-checked : goal.returns-in-Flatten-clause-checked
returns-in-Flatten-clause-checked g c = λ words asks begins. absurd (check_alone words c.args.request.now (ap is_check c.in-Flatten.is) asks begins)

pub returns-in-Flatten-clause-refused : goal.returns-in-Flatten-clause-refused
returns-in-Flatten-clause-refused g c = λ words asks begins. absurd (explain_alone words c.args.request.now (ap is_explain c.in-Flatten.is) asks begins)

pub returns-in-Flatten-clause-nothing : goal.returns-in-Flatten-clause-nothing
returns-in-Flatten-clause-nothing g c = λ words asks.
    unless_one (Keeps (g.O.Write.contents (held c.args.out.now)) (g.O.Write.contents (held c.perform_flatten.new.out))) words c.perform_flatten.result c.perform_flatten.ensures.nothing

pub returns-in-Flatten-clause-unsaved : goal.returns-in-Flatten-clause-unsaved
returns-in-Flatten-clause-unsaved g c =
    at_any_fault (KeepsFiles (g.F.Files.made c.args.files.now) (g.F.Files.made c.perform_flatten.new.files)) c.perform_flatten.result c.perform_flatten.ensures.unsaved

pub returns-in-Flatten-clause-wanting : goal.returns-in-Flatten-clause-wanting
returns-in-Flatten-clause-wanting g c = λ words asks.
    left_unless_one (sources_with (g.F.Files.held c.args.files.now) (option_map (λ w. w.now) c.args.design_words)) words (g.O.Write.contents (held c.args.out.now)) (g.O.Write.contents (held c.perform_flatten.new.out)) (g.F.Files.made c.args.files.now) (g.F.Files.made c.perform_flatten.new.files) c.perform_flatten.result c.perform_flatten.ensures.nothing
    (on_any_fault (KeepsFiles (g.F.Files.made c.args.files.now) (g.F.Files.made c.perform_flatten.new.files)) c.perform_flatten.result c.perform_flatten.ensures.unsaved)
