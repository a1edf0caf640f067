-- A word that is cut at its first sign of equality.
use Rattle.std.proofs.Common.{ℕ, List, Some, None, codes, arith}
use Rattle.std.proofs.lemmas.Str.Pattern.{split_after, split_parts}
use Rattle.arguments.proofs.ObservedWords.{named_some, no_equals}
use Rattle.arguments.proofs.observed.named_by.Goals as goal

pub returns-in-Some-clause-some : goal.returns-in-Some-clause-some
returns-in-Some-clause-some c =
    let parts = split_parts 61 c.args.text.now (Some (c.in-Some.head, c.in-Some.names)) c.in-Some.ensures.cases (omega arith) in
    named_some c.named_behind.result c.args.text.now c.in-Some.head.now c.in-Some.names parts.0 c.named_behind.ensures.some

pub returns-in-Some-clause-none : goal.returns-in-Some-clause-none
returns-in-Some-clause-none c = λ none names is.
    c.named_behind.ensures.none none
    (split_after 61 c.args.text.now (codes "registers") names (Some (c.in-Some.head, c.in-Some.names)) c.in-Some.ensures.cases (omega arith) is no_equals).0

pub returns-in-None-clause-none : goal.returns-in-None-clause-none
returns-in-None-clause-none c = λ none names is.
    split_after 61 c.args.text.now (codes "registers") names None c.in-None.ensures.cases (omega arith) is no_equals
