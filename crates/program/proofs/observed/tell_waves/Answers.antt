-- What was said of waves, and what is left where memory was refused.
use Rattle.std.proofs.Common.{inl, option_map}
use Rattle.program.specs.Findings.{journals_of}
use Rattle.program.proofs.Early.{none_early}
use Rattle.program.proofs.Ended.{if_err, output_same}
use Rattle.program.proofs.Waved.{found_waves, left_waves}
use Rattle.program.proofs.observed.tell_waves.Goals as goal

pub returns-in-Ok-clause-ended : goal.returns-in-Ok-clause-ended
returns-in-Ok-clause-ended g c =
    let request = c.args.request.now in
    let prefix = option_map (λ path. path.now) request.journals in
    let waves = c.in_ok-waves.waves in
    let begun = g.O.Write.contents c.args.out.now in
    let end = g.O.Write.contents c.tell_texts.new.out in
    let tried = g.F.Files.made c.try_first.new.files in
    let endless = option_map (λ journal. journal.items) waves.endless in
    let early = none_early tried prefix c.none.result.count (journals_of waves.shown.items endless) c.none.result.fault c.none.ensures.count c.none.ensures.fault in
    found_waves c.args.design.now request.observed request.search_options prefix c.args.registers.now waves.claim waves.followed_before waves.shown.items (option_map (λ journal. journal.items) waves.endless) c.in_ok-said.said.items begun end
    (g.F.Files.made c.args.files.now) (g.F.Files.made c.try_first.new.files) (g.F.Files.made c.tell_texts.new.files) c.finding_of-found.result c.requires c.in_ok-waves.ensures c.in_ok-said.ensures
    c.in-Ok.ensures.told c.in_ok-try_first.ensures.kept (c.in-Ok.ensures.saved tried early) c.finding_of-found.ensures

pub returns-in-Err-clause-wanting : goal.returns-in-Err-clause-wanting
returns-in-Err-clause-wanting g c = λ six.
    let request = c.args.request.now in
    let prefix = option_map (λ path. path.now) request.journals in
    let waves = c.in_ok-waves.waves in
    let endless = option_map (λ journal. journal.items) waves.endless in
    let begun = g.O.Write.contents c.args.out.now in
    let end = g.O.Write.contents c.tell_texts.new.out in
    let tried = g.F.Files.made c.try_first.new.files in
    let saved = g.F.Files.made c.tell_texts.new.files in
    let early = none_early tried prefix c.none.result.count (journals_of waves.shown.items endless) c.none.result.fault c.none.ensures.count c.none.ensures.fault in
    left_waves c.args.design.now request.observed request.search_options prefix c.args.registers.now waves.claim waves.followed_before waves.shown.items endless c.in_ok-said.said.items begun end (g.F.Files.made c.args.files.now) tried saved c.requires c.in_ok-waves.ensures c.in_ok-said.ensures
    c.in_ok-try_first.ensures.kept
    (c.in-Err.ensures.wanting tried early six)

pub returns-in_err-try_first-clause-wanting : goal.returns-in_err-try_first-clause-wanting
returns-in_err-try_first-clause-wanting g c = if_err _ c.from_residual.result (λ f six. inl (output_same (g.O.Write.contents c.args.out.now), c.in_err-try_first.ensures.kept))

pub returns-in_err-waves-clause-wanting : goal.returns-in_err-waves-clause-wanting
returns-in_err-waves-clause-wanting g c = if_err _ c.from_residual-in_err-waves.result (λ f six. inl (output_same (g.O.Write.contents c.args.out.now), c.in_ok-try_first.ensures.kept))

pub returns-in_err-said-clause-wanting : goal.returns-in_err-said-clause-wanting
returns-in_err-said-clause-wanting g c = if_err _ c.from_residual-in_err-said.result (λ f six. inl (output_same (g.O.Write.contents c.args.out.now), c.in_ok-try_first.ensures.kept))
