-- The kind is that of the words.
use Rattle.std.proofs.Common.{◌≡◌, subst, IfOk}
use Rattle.clap.specs.Words.{kind_of}
use Rattle.clap.specs.declared.error.kind.ErrorKind.{ErrorKind}
use Rattle.arguments.proofs.commands.said_in_vain.Goals as goal

pub returns : goal.returns
returns c = subst (λ (k : ErrorKind). IfOk c.said.result (λ e. kind_of e ≡ k)) c.kind.ensures c.said.ensures
