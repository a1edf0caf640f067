-- What the words ask for was done.
use Rattle.std.proofs.Common.{inl, option_map, rules}
use Rattle.journal.specs.Counted.{held}
use Rattle.std.specs.Io.KnownBytes.{Keeps}
use Rattle.program.specs.Subjects.{sources_with}
use Rattle.program.proofs.Ended.{check_performed, one_only, output_same, right_if, wrong_if}
use Rattle.program.proofs.program.perform_check.Goals as goal

pub returns-in-Ok-None-clause-ended : goal.returns-in-Ok-None-clause-ended
returns-in-Ok-None-clause-ended g c = λ words asks.
    let from = sources_with (g.F.Files.held c.args.files.now) (option_map (λ w. w.now) c.args.design_words) in
    let file = c.args.request.now.file.now in
    check_performed from words file (g.O.Write.contents (held c.args.out.now)) (g.O.Write.contents (held c.show_right.new.out)) (g.F.Files.made c.args.files.now) (g.F.Files.made c.check.new.files) c.show_right.result asks
    (right_if from file c.in-Ok-None.field-0 (search rules) c.in-Ok-None.ensures.checked) c.check.ensures.kept c.show_right.ensures.shown c.show_right.ensures.done

pub returns-in-Ok-None-clause-nothing : goal.returns-in-Ok-None-clause-nothing
returns-in-Ok-None-clause-nothing g c =
    one_only (Keeps (g.O.Write.contents (held c.args.out.now)) (g.O.Write.contents (held c.show_right.new.out))) c.show_right.result c.show_right.ensures.fault

pub returns-in-Ok-Some-clause-ended : goal.returns-in-Ok-Some-clause-ended
returns-in-Ok-Some-clause-ended g c = λ words asks.
    let from = sources_with (g.F.Files.held c.args.files.now) (option_map (λ w. w.now) c.args.design_words) in
    let file = c.args.request.now.file.now in
    inl (record {
      begins = asks.begins;
      file = file;
      is_file = asks.file;
      is_wrong = wrong_if from file c.in-Ok-Some.field-0 c.in-Ok-Some.text (search rules) c.in-Ok-Some.ensures.checked;
      unprinted = output_same (g.O.Write.contents (held c.args.out.now));
      unsaved = c.check.ensures.kept;
    })
