-- Trees at the size and the sign of what stands around them.
use Rattle.std.proofs.Common.{◌≡◌, ℕ, max, Bool, true, false, ◌&&◌, Option, Some, None, unwrap_or, refl, ap, subst, ◌∙◌, arith}
use Rattle.model.specs.Syntax as core
use Rattle.model.specs.Syntax.{Text}
use Rattle.shaped_trees.specs.declared.shape.Shape.{Shape}
use Rattle.sizing.specs.Names.{Names}
use Rattle.sizing.specs.Meanings.{Meaning, own_shape}
use Rattle.sizing.specs.Typing.{IsTyped, IsLowered, joined_shape, shape_within, assigned_shape}

twice : (b : Bool) → (b && b) ≡ b
twice true = refl
twice false = refl

-- an expression's own shape is that of its tree
own_is : (m : Meaning) (s : Shape) → s.width ≡ m.size → s.signed ≡ m.signed → s ≡ own_shape m
own_is m s width sign = λ i. record { width = width i; signed = sign i }

joined_self : (s : Shape) → joined_shape s s ≡ s
joined_self s =
    let same : max s.width s.width ≡ s.width = omega arith in
    λ i. record { width = same i; signed = twice s.signed i }

shape_is : (m : Meaning) (around : Option Shape) (s t : Shape) → s ≡ own_shape m → t ≡ unwrap_or around s → joined_shape s t ≡ shape_within m around
shape_is m None s t own is = ap (joined_shape s) is ∙ joined_self s ∙ own
shape_is m (Some a) s t own is = λ i. joined_shape (own i) (is i)

pub lowered_within : (n : Names) (m : Meaning) (around : Option Shape) (s t : Shape) (tree made : core.Expression Text) → IsTyped n m s tree → t ≡ unwrap_or around s
    → IsLowered n m (joined_shape s t) made → IsLowered n m (shape_within m around) made
lowered_within n m around s t tree made h is l =
    subst (λ (a : Shape). IsLowered n m a made) (shape_is m around s t (own_is m s h.size h.sign) is) l

assigned_at : (m : Meaning) (s : Shape) (width : ℕ) → s.width ≡ m.size → s.signed ≡ m.signed → joined_shape s (record { width = width; signed = s.signed }) ≡ assigned_shape m width
assigned_at m s width size sign = λ i. record { width = max (size i) width; signed = (twice s.signed ∙ sign) i }

pub lowered_assigned : (n : Names) (m : Meaning) (s t : Shape) (width : ℕ) (tree made : core.Expression Text) → IsTyped n m s tree → t.width ≡ width → t.signed ≡ s.signed
    → IsLowered n m (joined_shape s t) made → IsLowered n m (assigned_shape m width) made
lowered_assigned n m s t width tree made h wide sign l =
    let same : t ≡ record { width = width; signed = s.signed } = λ i. record { width = wide i; signed = sign i } in
    subst (λ (a : Shape). IsLowered n m a made) (ap (joined_shape s) same ∙ assigned_at m s width h.size h.sign) l
