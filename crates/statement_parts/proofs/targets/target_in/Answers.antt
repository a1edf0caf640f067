-- The object with this name and this width is a variable.
use Rattle.std.proofs.Common.{option_map, string_bytes, sym, ap, ◌∙◌}
use Rattle.statement_parts.proofs.Meant.{variable_is}
use Rattle.statement_parts.proofs.targets.target_in.Goals as goal

pub returns : goal.returns
returns c =
    variable_is c.args.object.now (string_bytes c.in-Some.name) c.in-Some-width.width (ap (option_map string_bytes) (sym c.in-Some.is) ∙ c.in_ok-name.ensures) c.in-Some-width.ensures
