-- By the text that is given.
use Rattle.std.proofs.Common.{◌∙◌, ap, sym, List, ℕ, Option}
use Rattle.std.specs.Option.{option_map_or}
use Rattle.literals.specs.declared.literal.Radix.TheVariants.{Binary}
use Rattle.arguments.specs.CommandWords.{radix_of}
use Rattle.arguments.proofs.given.given_radix.Goals as goal

pub returns-in-Some : goal.returns-in-Some
returns-in-Some c = c.radix_of.ensures ∙ ap (λ (o : Option (List ℕ)). option_map_or radix_of o Binary) (sym c.in-Some.ensures)

pub returns-in-None : goal.returns-in-None
returns-in-None c = ap (λ (o : Option (List ℕ)). option_map_or radix_of o Binary) (sym c.in-None.ensures)
