-- What is told of one step is what is told of the whole.
use Rattle.std.proofs.Common.{◌≡◌, ℕ, ◌<◌, ◌≤◌, List, length, IsSome, Result, Ok, Err, IfErr, IsErrAnd, sym, subst, arith}
use Rattle.scopes.specs.declared.fault.ScopeFault.{ScopeFault}
use Rattle.scopes.specs.declared.fault.ScopeFault.TheVariants as fault
use Rattle.scopes.specs.declared.scope.NameScope.{NameScope}
use Rattle.scopes.specs.Scopes.{NameText, DeclaredNames, meaning, head_at, names_at}
use Rattle.scopes.specs.Faults.{IsNameFault, IsDepthFault, IsDeclareFault, IsScopeFault}

-- of a scope that isn't added yet
pub depth_told : (f : ScopeFault) (scopes : List NameScope) (around : ℕ) (name : NameText) → IsDepthFault f (head_at scopes around).depth → IsScopeFault f scopes around name
depth_told fault.NoScope scopes around name h = absurd h
depth_told fault.DeclaredTwice scopes around name h = absurd h
depth_told fault.Deep scopes around name h = h
depth_told fault.ManyScopes scopes around name h = absurd h
depth_told fault.NoText scopes around name h = tt
depth_told fault.Memory scopes around name h = tt

-- of a name, once scopes are added
pub declare_told : (f : ScopeFault) (old mid : List NameScope) (around : ℕ) (name : NameText) → ((k : ℕ) → names_at mid k ≡ names_at old k) → around < length old → length old ≤ length mid
    → IsDeclareFault f mid around name → IsScopeFault f old around name
declare_told fault.NoScope old mid around name same within more h = absurd (omega (arith, h))
declare_told fault.DeclaredTwice old mid around name same within more h = subst (λ ns. IsSome (meaning ns name)) (same around) h
declare_told fault.Deep old mid around name same within more h = absurd h
declare_told fault.ManyScopes old mid around name same within more h = absurd h
declare_told fault.NoText old mid around name same within more h = absurd h
declare_told fault.Memory old mid around name same within more h = tt

-- of a name in the scope that declares it
pub name_told : (f : ScopeFault) (scopes : List NameScope) (k : ℕ) (name : NameText) (names : DeclaredNames) → names_at scopes k ≡ names → IsNameFault f names name → IsDeclareFault f scopes k name
name_told fault.NoScope scopes k name names is h = absurd h
name_told fault.DeclaredTwice scopes k name names is h = subst (λ ns. IsSome (meaning ns name)) (sym is) h
name_told fault.Deep scopes k name names is h = absurd h
name_told fault.ManyScopes scopes k name names is h = absurd h
name_told fault.NoText scopes k name names is h = absurd h
name_told fault.Memory scopes k name names is h = tt

pub names_told : {T : Type 0} (r : Result T ScopeFault) (scopes : List NameScope) (k : ℕ) (name : NameText) (names : DeclaredNames) → names_at scopes k ≡ names → IfErr r (λ f. IsNameFault f names name) → IfErr r (λ f. IsDeclareFault f scopes k name)
names_told (Ok x) scopes k name names is h = tt
names_told (Err f) scopes k name names is h = name_told f scopes k name names is h

-- a fault that came back is the answer
pub came_back : {T : Type 0} (r : Result T ScopeFault) (Q R : ScopeFault → Type 0) → IsErrAnd r R → ((f : ScopeFault) → R f → Q f) → IfErr r Q
came_back (Ok x) Q R never f = absurd never
came_back (Err e) Q R is f = f e is
