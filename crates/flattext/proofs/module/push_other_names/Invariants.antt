-- What is still to be put are the names that are left.
use Rattle.std.proofs.Common.{◌≡◌, ◌++◌, map, drop}
use Rattle.std.specs.Prelude.{string_bytes}
use Rattle.flattext.specs.Modules.{other_names_text}
use Rattle.flattext.proofs.module.push_other_names.Given as goal

abbrev pub invariant-loop-name : goal.invariant-loop-name
invariant-loop-name l = l.text.items ++ other_names_text (map string_bytes (drop l.name-index l.names)) ≡ l.fn.text.items ++ other_names_text (map string_bytes l.names)
