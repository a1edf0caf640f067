-- What is made for a call.
use Rattle.std.proofs.Common.{◌≡◌, Result, Ok, OnOk, subst}
use Rattle.design_scopes.specs.declared.faults.DesignFault.{DesignFault}

-- what holds where it is made holds
pub made_holds : {A : Type 0} (r : Result A DesignFault) (value : A) (P : Type 0) → r ≡ Ok value → OnOk r P → P
made_holds {A} r value P is h = subst (λ (q : Result A DesignFault). OnOk q P) is h
