-- Why a machine doesn't take an entry.
use Rattle.std.proofs.Common.{◌≡◌, sym, subst}
use Rattle.std.specs.Prelude.{Result, Ok, Err, IfErr}
use Rattle.std.specs.Result.{IsErrAnd}
use Rattle.model.specs.declared.entry.Entry.{Entry}
use Rattle.regions.specs.declared.machine.TakeFault.{TakeFault}
use Rattle.regions.specs.declared.machine.TakeFault.TheVariants as fault
use Rattle.regions.specs.Machine.{MachineView, state_at, IsStop, IsNotTaken}

not_taken : (p : MachineView) (entry : Entry) (f : TakeFault) → IsStop p.code (state_at p) entry f → IsNotTaken p entry f
not_taken p entry (fault.Refused r) h = h
not_taken p entry fault.TooLong h = h
not_taken p entry fault.TooMany h = absurd h
not_taken p entry fault.ApplyMemory h = h
not_taken p entry fault.Memory h = h

-- a step that stopped is told
pub stopped : {X : Type 0} (result : Result X TakeFault) (p q : MachineView) (entry : Entry) → p ≡ q → IfErr result (IsStop p.code (state_at p) entry)
    → IfErr result (IsNotTaken q entry)
stopped (Ok x) p q entry same h = tt
stopped (Err f) p q entry same h = subst (λ (o : MachineView). IsNotTaken o entry f) same (not_taken p entry f h)

-- and so is a turn that stopped
pub stopped_before : {X : Type 0} (result : Result X TakeFault) (f : TakeFault) (p q : MachineView) (entry : Entry) → p ≡ q → IsErrAnd result (λ e. e ≡ f)
    → IsStop p.code (state_at p) entry f → IfErr result (IsNotTaken q entry)
stopped_before (Ok x) f p q entry same is h = tt
stopped_before (Err e) f p q entry same is h =
    subst (λ (o : MachineView). IsNotTaken o entry e) same (not_taken p entry e (subst (λ x. IsStop p.code (state_at p) entry x) (sym is) h))
