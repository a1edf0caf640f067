-- Words that ask for no whole design, and those that do.
use Rattle.std.proofs.Common.{arith}
use Rattle.std.proofs.Common.{◌≡◌, ◌∙◌, ◌-◌, drop, length, subst, sym, take, true}
use Rattle.arguments.specs.CommandWords.{texts_of}
use Rattle.arguments.specs.VerilogWords.{asks_whole}
use Rattle.arguments.proofs.SaidLemmas.{split_words_of, too_short}
use Rattle.arguments.proofs.verilog_words.split_words.Goals as goal

pub returns-in_default-clause-split : goal.returns-in_default-clause-split
returns-in_default-clause-split c = too_short c.args.words.now (omega arith)

pub returns-in-Ok-clause-split : goal.returns-in-Ok-clause-split
returns-in-Ok-clause-split c =
    split_words_of c.args.words.now c.program-item.result c.command-item.result c.in-Ok.split c.as_str-2.result.now c.as_str-3.result.now c.in-len2-up.len_at_least c.program-item.is c.command-item.is c.as_str-2.ensures.value c.as_str-3.ensures.value
    (subst (λ q. asks_whole q (texts_of (take (length c.args.words.now - 2) (drop 2 c.args.words.now))) ≡ true) (c.as_str.ensures.value ∙ sym c.as_str-3.ensures.value) (sym c.ask_whole.ensures ∙ c.if-not-ask_whole.false))
    c.in-Ok.ensures.split
