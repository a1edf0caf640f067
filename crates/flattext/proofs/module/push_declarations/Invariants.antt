-- What is still to be put are the declarations that are left.
use Rattle.std.proofs.Common.{◌≡◌, ◌++◌, map, drop}
use Rattle.model.specs.SourceTrees.{declaration_of}
use Rattle.flattext.specs.Modules.{declarations_text}
use Rattle.flattext.proofs.module.push_declarations.Given as goal

abbrev pub invariant-loop-declaration : goal.invariant-loop-declaration
invariant-loop-declaration l =
    l.text.items ++ declarations_text (map declaration_of (drop l.declaration-index l.declarations)) ≡ l.fn.text.items ++ declarations_text (map declaration_of l.declarations)
