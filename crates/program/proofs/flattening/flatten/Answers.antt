-- The text of the flat module was put; or the design is refused.
use Rattle.std.proofs.Common.{◌∙◌, option_map}
use Rattle.program.specs.Subjects.{IsModuleOf}
use Rattle.program.proofs.Ended.{kept_on, output_same}
use Rattle.program.proofs.Subjects.{flattened_by, module_of_result}
use Rattle.program.proofs.flattening.flatten.Goals as goal

pub returns-in_ok-text-in-Taken-clause-ended : goal.returns-in_ok-text-in-Taken-clause-ended
returns-in_ok-text-in-Taken-clause-ended g c =
    let words = c.args.words.now in
    let start = g.F.Files.made c.args.files.now in
    let read = g.F.Files.made c.read_texts.new.files in
    let judged = g.F.Files.made c.judged_module.new.files in
    let made = c.in-Taken.made in
    flattened_by c.put.result (g.F.Files.held c.args.files.now) words (option_map (λ path. path.now) c.args.request.now.out) c.as_slice.result.now _ _ start judged (g.F.Files.made c.put.new.files)
    (kept_on start read judged c.read_texts.ensures.kept c.judged_module.ensures.kept)
    (record {
      files = c.in_ok-read.read.items;
      held = c.in_ok-read.ensures.texts;
      made = made;
      is_module = module_of_result (IsModuleOf c.in_ok-read.read.items words) _ made c.in_ok-made.ensures.judged c.in-Taken.is;
      text_is = c.as_slice.ensures.value ∙ c.in_ok-text-in-Taken.ensures;
    }) c.put.ensures.put

pub returns-in-Wrong-clause-ended : goal.returns-in-Wrong-clause-ended
returns-in-Wrong-clause-ended g c =
    let start = g.F.Files.made c.args.files.now in
    let read = g.F.Files.made c.read_texts.new.files in
    let judged = g.F.Files.made c.judged_module.new.files in
    (output_same _, kept_on start read judged c.read_texts.ensures.kept c.judged_module.ensures.kept)
