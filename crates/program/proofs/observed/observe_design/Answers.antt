-- A name that no register has ends a search before it begins.
use Rattle.std.proofs.Common.{inl, option_map, subst}
use Rattle.program.specs.Observed.{AreRegistersAsked}
use Rattle.program.proofs.Ended.{if_err, kept, output_same}
use Rattle.program.proofs.Waved.{unknown_ended}
use Rattle.program.proofs.observed.observe_design.Goals as goal

pub returns-in-Unknown-clause-ended : goal.returns-in-Unknown-clause-ended
returns-in-Unknown-clause-ended g c =
    let request = c.args.request.now in
    unknown_ended c.args.design.now request.observed request.search_options (option_map (λ path. path.now) request.journals) c.in-Unknown.name.now (g.O.Write.contents c.args.out.now) (g.F.Files.made c.args.files.now) c.no_register.result (subst (AreRegistersAsked c.args.design.now request.observed) c.in-Unknown.is c.in_ok-asked.ensures)
    c.no_register.ensures.told

pub returns-in-Unknown-clause-wanting : goal.returns-in-Unknown-clause-wanting
returns-in-Unknown-clause-wanting g c = if_err _ c.no_register.result (λ f six. inl (output_same (g.O.Write.contents c.args.out.now), kept (g.F.Files.made c.args.files.now)))

pub returns-in_err-asked-clause-wanting : goal.returns-in_err-asked-clause-wanting
returns-in_err-asked-clause-wanting g c = if_err _ c.from_residual.result (λ f six. inl (output_same (g.O.Write.contents c.args.out.now), kept (g.F.Files.made c.args.files.now)))
