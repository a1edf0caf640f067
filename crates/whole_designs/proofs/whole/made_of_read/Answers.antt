-- The slices are those of the texts that are read.
use Rattle.std.proofs.Common.{subst, List}
use Rattle.std.specs.Prelude.{IfErr}
use Rattle.lexemes.specs.declared.token.SourceFile.{SourceFile}
use Rattle.whole_designs.specs.Refusals.{AreFoundIn}
use Rattle.whole_designs.proofs.PlacedFaults.{stand_alike}
use Rattle.whole_designs.proofs.whole.made_of_read.Goals as goal

pub made_of-requires : goal.made_of-requires
made_of-requires c =
    record { stand = stand_alike c.args.read.now.files.items c.as_slice-files.result.now c.args.read.now.tokens.items c.as_slice-tokens.result.now c.as_slice-files.ensures.value c.as_slice-tokens.ensures.value c.requires }

pub returns-clause-refused : goal.returns-clause-refused
returns-clause-refused c = subst (λ (files : List SourceFile). IfErr c.made_of.result (AreFoundIn files)) c.as_slice-files.ensures.value c.made_of.ensures.refused
