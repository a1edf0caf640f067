-- A word that is cut at its first sign of equality, or has none.
use Rattle.std.proofs.Common.{◌∙◌, ap, sym, Some, None, arith}
use Rattle.std.proofs.lemmas.Str.Pattern.{split_parts}
use Rattle.arguments.specs.VerilogWords.{named_text}
use Rattle.arguments.proofs.SaidLemmas.{named_at, named_alone}
use Rattle.arguments.proofs.said_words.named_word.Goals as goal

pub returns-in-Some : goal.returns-in-Some
returns-in-Some c =
    let parts = split_parts 61 c.args.text.now (Some (c.in-Some.name, c.in-Some.value)) c.in-Some.ensures.cases (omega arith) in
    sym (ap named_text parts.0 ∙ named_at c.in-Some.name.now c.in-Some.value.now parts.1)

pub returns-in-None : goal.returns-in-None
returns-in-None c = sym (named_alone c.args.text.now (split_parts 61 c.args.text.now None c.in-None.ensures.cases (omega arith)))
