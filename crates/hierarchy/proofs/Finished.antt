-- What holds of a design where it is handed out.
use Rattle.std.proofs.Common.{◌≡◌, Result, Ok, Err, sym, subst}
use Rattle.std.specs.Prelude.{IfOk, OnOk}

pub finished_as : {D T E : Type 0} (made : Result T E) (r : Result D E) (none : T) (d : D) (P : D → Type 0) → OnOk made (P d) → IfOk r (λ x. (made ≡ Ok none) × (x ≡ d)) → IfOk r P
finished_as made (Ok x) none d P h f = subst P (sym f.1) (subst (λ m. OnOk m (P d)) f.0 h)
finished_as made (Err e) none d P h f = tt
