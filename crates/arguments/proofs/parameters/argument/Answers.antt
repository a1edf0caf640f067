-- The word or option takes what it is to take, under its name.
use Rattle.arguments.specs.Arguments.{form_of, name_of}
use Rattle.arguments.proofs.FormedLemmas.{is_same_form, takes_same_form}
use Rattle.arguments.proofs.parameters.argument.Goals as goal

pub returns : goal.returns
returns c =
    let form = form_of c.args.parameter in
    let name = name_of c.args.parameter in
    record {
      takes = takes_same_form c.formed.result c.form.result form c.name.result.now name c.form.ensures c.name.ensures c.formed.ensures.takes;
      rule = is_same_form c.formed.result c.form.result form c.name.result.now name c.form.ensures c.name.ensures c.formed.ensures.rule;
    }
