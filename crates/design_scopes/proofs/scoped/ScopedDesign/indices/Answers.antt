use Rattle.std.proofs.Common.{◌≡◌, Option, subst, ℤ}
use Rattle.std.specs.Prelude.{IfSome}
use Rattle.std.specs.declared.vec.Vec.{Vec}
use Rattle.std.specs.declared.alloc.Global.{Global}
use Rattle.design_scopes.specs.Values.{indices_of}
use Rattle.design_scopes.proofs.scoped.ScopedDesign.indices.Goals as goal

pub returns-in-Some : goal.returns-in-Some
returns-in-Some c =
    (c.in_ok-range.range, c.in_ok-range.ensures, subst (λ (r : Option (Vec ℤ Global)). IfSome r (λ numbers. numbers.items ≡ indices_of c.in_ok-range.range)) c.in-Some.is c.in_ok-found.ensures)
