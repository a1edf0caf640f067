-- The module, by the macros that the words define.
use Rattle.std.proofs.Common.{List, IfOk, ap, map, subst, ◌∙◌}
use Rattle.lexemes.specs.declared.token.SourceFile.{SourceFile}
use Rattle.preprocess.specs.declared.preprocess.Definition.{Definition}
use Rattle.whole_designs.specs.Wholes.{IsWholeDesignOf}
use Rattle.arguments.specs.VerilogWords.{plain_named}
use Rattle.program.specs.Subjects.{IfTaken}
use Rattle.program.proofs.Subjects.{module_judged}
use Rattle.program.proofs.subject.judged_module.Goals as goal

pub returns-clause-judged : goal.returns-clause-judged
returns-clause-judged g c =
    let words = c.args.texts.words.now in
    let same = c.asked_of-asked.ensures ∙ c.as_slice-definitions.ensures.value in
    let result = c.module_of_texts.result in
    module_judged result c.args.texts.files.items words c.in_ok-defined.defined.items (c.in_ok-defined.ensures ∙ ap (map plain_named) c.as_slice.ensures.value)
    (subst (λ (files : List SourceFile). IfOk result (λ r. IfTaken r (IsWholeDesignOf files c.in_ok-defined.defined.items))) c.as_slice-all.ensures.value
    (subst (λ (ds : List Definition). IfOk result (λ r. IfTaken r (IsWholeDesignOf c.as_slice-all.result.now ds))) same c.module_of_texts.ensures.judged))
