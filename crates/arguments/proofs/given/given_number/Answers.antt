use Rattle.std.proofs.Common.{lit<}
use Rattle.std.specs.Str.Parse.{ParsesUnsigned, ExplainsUnsignedError, HasUnsignedDigitsIfOk}
use Rattle.clap.specs.Words.{found_of}
use Rattle.arguments.proofs.WordLemmas.{signed_given}
use Rattle.arguments.proofs.given.given_number.Goals as goal

pub returns-clause-given : goal.returns-clause-given
returns-clause-given c =
    signed_given _ (λ bs r. ParsesUnsigned 32 10 bs r × ExplainsUnsignedError 10 bs r × HasUnsignedDigitsIfOk bs r)
    (found_of c.args.matches.now) c.args.name.now 1 4294967295 c.get_one.result (lit< tt) c.requires (λ t x g. g.0) c.get_one.ensures.none c.get_one.ensures.value
