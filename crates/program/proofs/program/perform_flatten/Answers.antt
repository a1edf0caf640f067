-- What the words ask for was done.
use Rattle.std.proofs.Common.{option_map, ap}
use Rattle.journal.specs.Counted.{held}
use Rattle.program.specs.Subjects.{sources_with}
use Rattle.program.proofs.Subjects.{flatten_performed}
use Rattle.program.proofs.program.perform_flatten.Goals as goal

pub returns-in-Some-clause-ended : goal.returns-in-Some-clause-ended
returns-in-Some-clause-ended g c = λ words asks.
    let from = sources_with (g.F.Files.held c.args.files.now) (option_map (λ w. w.now) c.args.design_words) in
    flatten_performed c.flatten.result from words c.in-Some.words.now c.args.request.now (g.O.Write.contents (held c.args.out.now)) (g.O.Write.contents (held c.flatten.new.out)) (g.F.Files.made c.args.files.now)
    (g.F.Files.made c.flatten.new.files) (ap (option_map (λ w. w.now)) c.in-Some.is) asks c.flatten.ensures.ended
