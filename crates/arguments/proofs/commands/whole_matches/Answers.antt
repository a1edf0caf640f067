use Rattle.clap.specs.Words.{app_of}
use Rattle.arguments.specs.CommandWords.{texts_of}
use Rattle.arguments.proofs.WordLemmas.{whole_taken, whole_failed}
use Rattle.arguments.proofs.commands.whole_matches.Goals as goal

pub returns : goal.returns
returns c =
    let cmd = c.in_ok-program.field-0 in
    let words = texts_of c.args.words.now in
    record {
      taken = whole_taken (app_of cmd) words c.try_get_matches_from.result c.in_ok-program.ensures c.try_get_matches_from.ensures.kinds;
      failed = whole_failed (app_of cmd) words c.try_get_matches_from.result c.in_ok-program.ensures c.try_get_matches_from.ensures.kinds;
    }
