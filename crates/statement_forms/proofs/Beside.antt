-- What is made beside something that is kept.
use Rattle.std.proofs.Common.{◌≡◌, Result, Ok, subst}
use Rattle.std.specs.Prelude.{IfOk}

pub made_so : {T E : Type 0} (P : T → Type 0) (r : Result T E) (x : T) → r ≡ Ok x → IfOk r P → P x
made_so P r x e h = subst (λ s. IfOk s P) e h

pub same_so : {T E X : Type 0} (f : T → X) (r : Result T E) (x y : X) → x ≡ y → IfOk r (λ made. f made ≡ x) → IfOk r (λ made. f made ≡ y)
same_so f r x y e h = subst (λ z. IfOk r (λ made. f made ≡ z)) e h
