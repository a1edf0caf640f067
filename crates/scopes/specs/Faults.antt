-- What is told of scopes and names that can't be added.
use Rattle.std.specs.Prelude.{ℕ, ◌≤◌, List, length, IsSome}
use Rattle.scopes.specs.declared.fault.ScopeFault.{ScopeFault}
use Rattle.scopes.specs.declared.fault.ScopeFault.TheVariants as fault
use Rattle.scopes.specs.declared.scope.NameScope.{NameScope}
use Rattle.scopes.specs.Scopes.{NameText, DeclaredNames, meaning, declared_in, head_at}

-- the most scopes that stand around one, and the most scopes of a design
abbrev pub most_depth : ℕ
most_depth = 64

abbrev pub most_scopes : ℕ
most_scopes = 65536

-- Of a name it is told that it is declared twice only where it is there already. Else only want of memory is told.
abbrev pub IsNameFault : ScopeFault → DeclaredNames → NameText → Type 0
IsNameFault fault.NoScope names name = ⊥
IsNameFault fault.DeclaredTwice names name = IsSome (meaning names name)
IsNameFault fault.Deep names name = ⊥
IsNameFault fault.ManyScopes names name = ⊥
IsNameFault fault.NoText names name = ⊥
IsNameFault fault.Memory names name = Unit {0}

-- Of a scope it is told that it stands too deep only where it does. That its name is no text, and want of memory, may be told.
abbrev pub IsDepthFault : ScopeFault → ℕ → Type 0
IsDepthFault fault.NoScope depth = ⊥
IsDepthFault fault.DeclaredTwice depth = ⊥
IsDepthFault fault.Deep depth = most_depth ≤ depth
IsDepthFault fault.ManyScopes depth = ⊥
IsDepthFault fault.NoText depth = Unit {0}
IsDepthFault fault.Memory depth = Unit {0}

-- Of a name in a scope it is told besides that there is no such scope.
abbrev pub IsDeclareFault : ScopeFault → List NameScope → ℕ → NameText → Type 0
IsDeclareFault fault.NoScope scopes k name = length scopes ≤ k
IsDeclareFault fault.DeclaredTwice scopes k name = IsSome (declared_in scopes k name)
IsDeclareFault fault.Deep scopes k name = ⊥
IsDeclareFault fault.ManyScopes scopes k name = ⊥
IsDeclareFault fault.NoText scopes k name = ⊥
IsDeclareFault fault.Memory scopes k name = Unit {0}

-- Of a scope it may be told besides that it stands too deep, that there are too many, or that its name is no text.
abbrev pub IsScopeFault : ScopeFault → List NameScope → ℕ → NameText → Type 0
IsScopeFault fault.NoScope scopes around name = length scopes ≤ around
IsScopeFault fault.DeclaredTwice scopes around name = IsSome (declared_in scopes around name)
IsScopeFault fault.Deep scopes around name = most_depth ≤ (head_at scopes around).depth
IsScopeFault fault.ManyScopes scopes around name = most_scopes ≤ length scopes
IsScopeFault fault.NoText scopes around name = Unit {0}
IsScopeFault fault.Memory scopes around name = Unit {0}
