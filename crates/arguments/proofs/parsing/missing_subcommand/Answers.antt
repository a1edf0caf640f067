-- An error of this kind.
use Rattle.clap.specs.declared.error.kind.ErrorKind.TheVariants.{MissingSubcommand}
use Rattle.arguments.proofs.parsing.missing_subcommand.Goals as goal

pub returns : goal.returns
returns c = c.made.ensures MissingSubcommand c.missing.ensures
