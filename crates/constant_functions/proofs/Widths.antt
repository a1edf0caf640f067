-- How wide what is assigned is.
use Rattle.std.proofs.Common.{◌≡◌, ℕ, zero, suc, [], ◌∷◌, length, refl, ap, ◌∙◌}
use Rattle.logic4.specs.Vector.{Vector, resize}
use Rattle.shaped_trees.specs.declared.shape.Shape.{Shape}
use Rattle.shaped_trees.specs.declared.constants.Constant.{Constant}
use Rattle.sizing.specs.Meanings.{Meaning}
use Rattle.sizing.specs.Results.{IsAssigned}

length_resized : (w : ℕ) (v : Vector) → length (resize w v) ≡ w
length_resized zero v = refl
length_resized (suc w) [] = ap suc (length_resized w [])
length_resized (suc w) (d ∷ v) = ap suc (length_resized w v)

-- what is assigned has the width of what it is assigned to
pub assigned_width : (m : Meaning) (s : Shape) (c : Constant) → IsAssigned m s c → length c.digits ≡ s.width
assigned_width m s c h =
    let (v, _, e) = h.digits in
    ap length e ∙ length_resized s.width v
