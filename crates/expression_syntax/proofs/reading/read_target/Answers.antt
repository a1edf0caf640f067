use Rattle.expression_syntax.proofs.Steps.{path_target, braces_target}
use Rattle.expression_syntax.proofs.reading.read_target.Goals as goal

pub returns-then-sees : goal.returns-then-sees
returns-then-sees c = braces_target _ _ _ _ _ c.into_inner.ensures c.in_ok-parse_braces.ensures

pub returns : goal.returns
returns c = path_target _ _ _ _ _ c.into_inner-2.ensures c.in_ok-parse_path.ensures
