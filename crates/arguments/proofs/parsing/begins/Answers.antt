use Rattle.std.proofs.Common.{◌∙◌, sym, ap, Some}
use Rattle.std.proofs.lemmas.Slice.Eq.{bytes_eq-Decides}
use Rattle.arguments.proofs.SecondWord.{second_text, no_second_text, unlike}
use Rattle.arguments.proofs.parsing.begins.Goals as goal

pub returns-in-Some-clause-yes : goal.returns-in-Some-clause-yes
returns-in-Some-clause-yes c = λ e.
    second_text c.args.words.now c.in-Some.word.now c.in-Some.ensures.lookup.3.0 c.in-Some.ensures.lookup.1
    ∙ ap Some (sym c.as_str.ensures.value ∙ (bytes_eq-Decides c.as_str.result.now c.args.name.now).0 (sym c.eq.ensures ∙ e))

pub returns-in-Some-clause-no : goal.returns-in-Some-clause-no
returns-in-Some-clause-no c = λ e begins.
    unlike c.as_str.result.now c.args.name.now (sym c.eq.ensures ∙ e)
    (ap Some c.as_str.ensures.value
    ∙ (sym (second_text c.args.words.now c.in-Some.word.now c.in-Some.ensures.lookup.3.0 c.in-Some.ensures.lookup.1) ∙ begins))

pub returns-in-None-clause-no : goal.returns-in-None-clause-no
returns-in-None-clause-no c = λ e begins. no_second_text c.args.words.now c.args.name.now c.in-None.ensures.lookup.0 begins
