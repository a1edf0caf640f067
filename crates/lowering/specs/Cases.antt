-- What the program has of the items of a `case`.
use Rattle.std.specs.Prelude.{map}
use Rattle.statement_forms.specs.Views.{core_statements}
use Rattle.statement_forms.specs.Forms.{branch_of}
use Rattle.lowering.specs.declared.statements.CaseParts.{CaseParts}
use Rattle.lowering.specs.Lowering.{CaseMade}

-- the branches, and what the default does
abbrev pub case_made : CaseParts → CaseMade
case_made p = (map branch_of p.branches.items, core_statements p.otherwise)
