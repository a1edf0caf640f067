use Rattle.std.specs.Str.Parse.{ParsesUnsigned, ExplainsUnsignedError, HasUnsignedDigitsIfOk}
use Rattle.clap.specs.Words.{found_of}
use Rattle.arguments.proofs.WordLemmas.{unsigned_given}
use Rattle.arguments.proofs.given.given_time.Goals as goal

pub returns : goal.returns
returns c =
    unsigned_given _ (λ bs r. ParsesUnsigned 64 10 bs r × ExplainsUnsignedError 10 bs r × HasUnsignedDigitsIfOk bs r)
    (found_of c.args.matches.now) c.args.name.now 0 281474976710656 c.get_one.result c.requires (λ t x g. g.0) c.get_one.ensures.none c.get_one.ensures.value
