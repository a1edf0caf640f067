use Rattle.std.proofs.Common.{◌≡◌, ◌∙◌, ap, ℕ, Option, unwrap_or, codes, rules, lit<}
use Rattle.std.specs.Str.Parse.{ParsesUnsigned, ExplainsUnsignedError, HasUnsignedDigitsIfOk}
use Rattle.clap.specs.Words.{found_of, rows_of}
use Rattle.arguments.specs.CommandWords.{number_given}
use Rattle.arguments.proofs.WordLemmas.{signed_given}
use Rattle.arguments.proofs.given.given_workers.Goals as goal

pub returns-clause-given : goal.returns-clause-given
returns-clause-given c =
    let found = found_of c.args.matches.now in
    let is : c.get_one.result ≡ number_given (codes "workers") (rows_of found) =
    signed_given _ (λ bs r. ParsesUnsigned 32 10 bs r × ExplainsUnsignedError 10 bs r × HasUnsignedDigitsIfOk bs r)
    found (codes "workers") 1 16 c.get_one.result (lit< tt) c.requires (λ t x g. g.0) c.get_one.ensures.none c.get_one.ensures.value in
    let default : c.unwrap_or.result ≡ unwrap_or c.get_one.result 2 = search rules in
    default ∙ ap (λ (o : Option ℕ). unwrap_or o 2) is
