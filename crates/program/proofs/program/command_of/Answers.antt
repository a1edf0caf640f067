-- What the status tells of how a command ended.
use Rattle.std.proofs.Common.{◌≡◌, ◌⊎◌, ◌≤◌, ◌∙◌, inl, inr, option_map, sym, subst, ℕ}
use Rattle.journal.specs.Counted.{held}
use Rattle.arguments.specs.CommandWords.{texts_of}
use Rattle.program.specs.Printed.{IsUnprinted, untouched}
use Rattle.program.specs.StandardError.{IsReported}
use Rattle.program.specs.Subjects.{sources_with}
use Rattle.program.proofs.Ended.{IsSourceStatus, done_by_status, unnamed_by_status, faulty_by_status, refused_by_status, stopped_by_status, wanting_by_status, several_by_status, nothing_by_status, unsaved_by_status, reported_all, silent_by_status, source_status, told_by_status, refused_done, refused_wrong, kept}
use Rattle.program.proofs.Statuses.{at_most_seven}
use Rattle.program.proofs.program.command_of.Goals as goal

-- a request, performed

pub returns-in-Ok-clause-range : goal.returns-in-Ok-clause-range
returns-in-Ok-clause-range g c = subst (λ (n : ℕ). n ≤ 7) (sym c.finish.ensures.status) (at_most_seven c.perform-ended.result)

pub returns-in-Ok-clause-done : goal.returns-in-Ok-clause-done
returns-in-Ok-clause-done g c = λ e.
    done_by_status (sources_with (g.F.Files.held c.args.files.now) (option_map (λ w. w.now) c.args.design_words)) (texts_of c.args.words.now) (g.O.Write.contents (held c.args.out.now)) (g.O.Write.contents (held c.perform-ended.new.out)) (g.F.Files.made c.args.files.now) (g.F.Files.made c.perform-ended.new.files) c.perform-ended.result (c.perform-ended.ensures.ended (texts_of c.args.words.now) c.in-Ok.ensures.asked) (sym c.finish.ensures.status ∙ e)

pub returns-in-Ok-clause-wrong : goal.returns-in-Ok-clause-wrong
returns-in-Ok-clause-wrong g c = λ e.
    inr (unnamed_by_status (sources_with (g.F.Files.held c.args.files.now) (option_map (λ w. w.now) c.args.design_words)) (texts_of c.args.words.now) (g.O.Write.contents (held c.args.out.now)) (g.O.Write.contents (held c.perform-ended.new.out)) (g.F.Files.made c.args.files.now) (g.F.Files.made c.perform-ended.new.files) g.E.Write.contents c.args.err.now c.finish.new.err c.of.result c.in-Ok.request c.perform-ended.result c.in-Ok.ensures.asked c.of.ensures (c.perform-ended.ensures.ended (texts_of c.args.words.now) c.in-Ok.ensures.asked) c.finish.ensures.told (sym c.finish.ensures.status ∙ e))

pub returns-in-Ok-clause-refused : goal.returns-in-Ok-clause-refused
returns-in-Ok-clause-refused g c = λ e begins.
    refused_by_status (sources_with (g.F.Files.held c.args.files.now) (option_map (λ w. w.now) c.args.design_words)) (texts_of c.args.words.now) (g.O.Write.contents (held c.args.out.now)) (g.O.Write.contents (held c.perform-ended.new.out)) (g.F.Files.made c.args.files.now) (g.F.Files.made c.perform-ended.new.files) c.perform-ended.result (c.perform-ended.ensures.ended (texts_of c.args.words.now) c.in-Ok.ensures.asked)
    begins (c.perform-ended.ensures.checked (texts_of c.args.words.now) c.in-Ok.ensures.asked begins) (sym c.finish.ensures.status ∙ e)

pub returns-in-Ok-clause-faulty : goal.returns-in-Ok-clause-faulty
returns-in-Ok-clause-faulty g c = λ e begins.
    faulty_by_status (sources_with (g.F.Files.held c.args.files.now) (option_map (λ w. w.now) c.args.design_words)) (texts_of c.args.words.now) (g.O.Write.contents (held c.args.out.now)) (g.O.Write.contents (held c.perform-ended.new.out)) g.E.Write.contents c.args.err.now c.finish.new.err c.of.result c.perform-ended.result
    (c.perform-ended.ensures.refused (texts_of c.args.words.now) c.in-Ok.ensures.asked begins) c.finish.ensures.told (sym c.finish.ensures.status ∙ e)

pub returns-in-Ok-clause-stopped : goal.returns-in-Ok-clause-stopped
returns-in-Ok-clause-stopped g c = λ e.
    stopped_by_status (sources_with (g.F.Files.held c.args.files.now) (option_map (λ w. w.now) c.args.design_words)) (texts_of c.args.words.now) (g.O.Write.contents (held c.args.out.now)) (g.O.Write.contents (held c.perform-ended.new.out)) (g.F.Files.made c.args.files.now) (g.F.Files.made c.perform-ended.new.files) g.E.Write.contents c.args.err.now c.finish.new.err c.of.result c.perform-ended.result (c.perform-ended.ensures.ended (texts_of c.args.words.now) c.in-Ok.ensures.asked) c.finish.ensures.told (sym c.finish.ensures.status ∙ e)

pub returns-in-Ok-clause-wanting : goal.returns-in-Ok-clause-wanting
returns-in-Ok-clause-wanting g c = λ e.
    wanting_by_status (sources_with (g.F.Files.held c.args.files.now) (option_map (λ w. w.now) c.args.design_words)) (texts_of c.args.words.now) (g.O.Write.contents (held c.args.out.now)) (g.O.Write.contents (held c.perform-ended.new.out)) (g.F.Files.made c.args.files.now) (g.F.Files.made c.perform-ended.new.files) g.E.Write.contents c.args.err.now c.finish.new.err c.of.result c.perform-ended.result (c.perform-ended.ensures.ended (texts_of c.args.words.now) c.in-Ok.ensures.asked)
    (c.perform-ended.ensures.wanting (texts_of c.args.words.now) c.in-Ok.ensures.asked) c.finish.ensures.told (sym c.finish.ensures.status ∙ e)

pub returns-in-Ok-clause-several : goal.returns-in-Ok-clause-several
returns-in-Ok-clause-several g c = λ e.
    several_by_status (sources_with (g.F.Files.held c.args.files.now) (option_map (λ w. w.now) c.args.design_words)) (texts_of c.args.words.now) (g.O.Write.contents (held c.args.out.now)) (g.O.Write.contents (held c.perform-ended.new.out)) (g.F.Files.made c.args.files.now) (g.F.Files.made c.perform-ended.new.files) c.perform-ended.result (c.perform-ended.ensures.ended (texts_of c.args.words.now) c.in-Ok.ensures.asked) (sym c.finish.ensures.status ∙ e)

pub returns-in-Ok-clause-nothing : goal.returns-in-Ok-clause-nothing
returns-in-Ok-clause-nothing g c = λ e.
    nothing_by_status (sources_with (g.F.Files.held c.args.files.now) (option_map (λ w. w.now) c.args.design_words)) (texts_of c.args.words.now) (g.O.Write.contents (held c.args.out.now)) (g.O.Write.contents (held c.perform-ended.new.out)) (g.F.Files.made c.args.files.now) (g.F.Files.made c.perform-ended.new.files) c.perform-ended.result (c.perform-ended.ensures.ended (texts_of c.args.words.now) c.in-Ok.ensures.asked)
    (c.perform-ended.ensures.nothing (texts_of c.args.words.now) c.in-Ok.ensures.asked) (subst (IsUnprinted (texts_of c.args.words.now)) c.finish.ensures.status e)

pub returns-in-Ok-clause-unsaved : goal.returns-in-Ok-clause-unsaved
returns-in-Ok-clause-unsaved g c = λ e.
    unsaved_by_status (sources_with (g.F.Files.held c.args.files.now) (option_map (λ w. w.now) c.args.design_words)) (texts_of c.args.words.now) (g.O.Write.contents (held c.args.out.now)) (g.O.Write.contents (held c.perform-ended.new.out)) (g.F.Files.made c.args.files.now) (g.F.Files.made c.perform-ended.new.files) c.perform-ended.result (c.perform-ended.ensures.ended (texts_of c.args.words.now) c.in-Ok.ensures.asked) c.perform-ended.ensures.unsaved (subst IsSourceStatus c.finish.ensures.status e)

pub returns-in-Ok-clause-silent : goal.returns-in-Ok-clause-silent
returns-in-Ok-clause-silent g c = λ e.
    silent_by_status g.E.Write.contents c.args.err.now c.finish.new.err c.of.result c.perform-ended.result c.finish.ensures.told (subst (λ (n : ℕ). (n ≡ 0) ⊎ (n ≡ 7)) c.finish.ensures.status e)

pub returns-in-Ok-clause-told : goal.returns-in-Ok-clause-told
returns-in-Ok-clause-told g c = λ all left.
    subst (IsReported g.E.Write.contents c.args.err.now c.finish.new.err all) (sym c.finish.ensures.status)
    (told_by_status (sources_with (g.F.Files.held c.args.files.now) (option_map (λ w. w.now) c.args.design_words)) g.E.Write.contents c.args.err.now c.finish.new.err all (texts_of c.args.words.now) (g.O.Write.contents (held c.args.out.now)) (g.O.Write.contents (held c.perform-ended.new.out))
    (g.F.Files.made c.args.files.now) (g.F.Files.made c.perform-ended.new.files) c.of.result c.in-Ok.request c.perform-ended.result left c.in-Ok.ensures.asked c.of.ensures
    (c.perform-ended.ensures.ended (texts_of c.args.words.now) c.in-Ok.ensures.asked) c.finish.ensures.told)

-- words that make no request

pub returns-in-Err-clause-done : goal.returns-in-Err-clause-done
returns-in-Err-clause-done g c =
    refused_done (sources_with (g.F.Files.held c.args.files.now) (option_map (λ w. w.now) c.args.design_words)) (texts_of c.args.words.now) c.in-Err.no_request c.refuse.result (g.O.Write.contents (held c.args.out.now)) (g.O.Write.contents (held c.refuse.new.out))
    (g.F.Files.made c.args.files.now) c.in-Err.ensures.refused c.refuse.ensures.status c.refuse.ensures.helped

pub returns-in-Err-clause-told : goal.returns-in-Err-clause-told
returns-in-Err-clause-told g c = λ all left.
    reported_all g.E.Write.contents c.args.err.now c.refuse.new.err all (texts_of c.args.words.now) (option_map (λ w. w.now) c.args.design_words) c.refuse.result left
    (c.refuse.ensures.told (texts_of c.args.words.now) (inl c.in-Err.ensures.refused))

pub returns-in-Err-clause-nothing : goal.returns-in-Err-clause-nothing
returns-in-Err-clause-nothing g c = λ e. c.refuse.ensures.nothing (source_status (texts_of c.args.words.now) c.refuse.result e)

pub returns-in-Err-clause-wanting : goal.returns-in-Err-clause-wanting
returns-in-Err-clause-wanting g c = λ six. inr (untouched (c.refuse.ensures.wanting six) (kept (g.F.Files.made c.args.files.now)))

pub returns-in-Err-clause-wrong : goal.returns-in-Err-clause-wrong
returns-in-Err-clause-wrong g c = λ two. inl (refused_wrong (texts_of c.args.words.now) c.in-Err.no_request c.refuse.result c.in-Err.ensures.refused c.refuse.ensures.status two)
