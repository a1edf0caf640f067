-- The option of a command line that names registers.
use Rattle.std.specs.Prelude.{codes}
use Rattle.clap.specs.Words.{Text}
use Rattle.arguments.specs.declared.request.Request.{Request}
use Rattle.arguments.specs.declared.request.Request.TheVariants as request
use Rattle.program.specs.declared.register_option.RegisterOption.{RegisterOption}
use Rattle.program.specs.declared.register_option.RegisterOption.TheVariants as options

-- the option by which a request names registers, if it does: `--registers` of `explain`, and else `--observe`, which `races` alone has
abbrev pub naming_option : Request → RegisterOption
naming_option (request.Explain explain) = options.Registers
naming_option r = options.Observe

-- the word of the command that has the option
abbrev pub word_of_option : RegisterOption → Text
word_of_option options.Observe = codes "races"
word_of_option options.Registers = codes "explain"
