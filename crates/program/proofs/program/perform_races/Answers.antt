-- What the words ask for was done.
use Rattle.program.proofs.Ended.{left_of_waves, search_left, search_performed, waves_performed_by}
use Rattle.std.proofs.Common.{option_map}
use Rattle.program.specs.Subjects.{sources_with}
use Rattle.program.proofs.program.perform_races.Goals as goal

pub returns-else-is_lines-clause-ended : goal.returns-else-is_lines-clause-ended
returns-else-is_lines-clause-ended g c = λ words asks.
    waves_performed_by (sources_with (g.F.Files.held c.args.files.now) (option_map (λ w. w.now) c.args.design_words)) words c.args.request.now (g.O.Write.contents c.args.out.now) (g.O.Write.contents c.search_waves.new.out) (g.F.Files.made c.args.files.now) (g.F.Files.made c.search_waves.new.files)
    c.search_waves.result asks c.search_waves.ensures.ended

pub returns-else-is_lines-clause-wanting : goal.returns-else-is_lines-clause-wanting
returns-else-is_lines-clause-wanting g c = λ words asks.
    left_of_waves (sources_with (g.F.Files.held c.args.files.now) (option_map (λ w. w.now) c.args.design_words)) words c.args.request.now (g.O.Write.contents c.args.out.now) (g.O.Write.contents c.search_waves.new.out) (g.F.Files.made c.args.files.now) (g.F.Files.made c.search_waves.new.files)
    c.search_waves.result asks c.search_waves.ensures.wanting

pub returns-then-is_lines-clause-ended : goal.returns-then-is_lines-clause-ended
returns-then-is_lines-clause-ended g c = λ words asks.
    search_performed (sources_with (g.F.Files.held c.args.files.now) (option_map (λ w. w.now) c.args.design_words)) words c.args.request.now (g.O.Write.contents c.args.out.now) (g.O.Write.contents c.search_races.new.out) (g.F.Files.made c.args.files.now) (g.F.Files.made c.search_races.new.files)
    c.search_races.result asks (c.is_lines.ensures.yes c.if-is_lines.true) c.search_races.ensures.shown

pub returns-then-is_lines-clause-wanting : goal.returns-then-is_lines-clause-wanting
returns-then-is_lines-clause-wanting g c = λ words asks.
    search_left (sources_with (g.F.Files.held c.args.files.now) (option_map (λ w. w.now) c.args.design_words)) words c.args.request.now (g.O.Write.contents c.args.out.now) (g.O.Write.contents c.search_races.new.out) (g.F.Files.made c.args.files.now) (g.F.Files.made c.search_races.new.files)
    c.search_races.result asks c.search_races.ensures.wanting
