-- An option without a value is given where its text is `true`.
use Rattle.clap.specs.Words.{found_of}
use Rattle.arguments.proofs.WordLemmas.{flag_read}
use Rattle.arguments.proofs.given.given_flag.Goals as goal

pub returns : goal.returns
returns c =
    flag_read (found_of c.args.matches.now) c.args.name.now c.get_flag.result c.requires c.get_flag.ensures.none c.get_flag.ensures.value c.get_flag.ensures.other
