-- What trees of constants are worth is what expressions mean.
use Rattle.std.proofs.Common.{◌≡◌, max, [], sym, ap, subst, ◌∙◌}
use Rattle.logic4.specs.Vector.{Vector, resize}
use Rattle.model.specs.Syntax as core
use Rattle.model.specs.Syntax.{Text}
use Rattle.shaped_trees.specs.declared.shape.Shape.{Shape}
use Rattle.shaped_trees.specs.declared.constants.Constant.{Constant}
use Rattle.sizing.specs.Names.{Names}
use Rattle.sizing.specs.Meanings.{Meaning, own_shape}
use Rattle.shaped_trees.specs.Trees.{Registers, values_of, tree_value, AllNamed, AllNamedIn, widened}
use Rattle.sizing.specs.Typing.{HasObjectWidths, IsWide, IsTyped, assigned_shape}
use Rattle.shaped_trees.specs.Constants.{IsConstantTree, AreConstantTrees, HasValue}
use Rattle.sizing.specs.Results.{IsWorth, IsConstantOf, IsAssigned}
use Rattle.shaped_trees.proofs.Widened.{fits-widened}

mutual
  -- where no name is, anything holds of each
  closed-all : (P : Text → Type 0) (tree : core.Expression Text) → IsConstantTree tree → AllNamed P tree
  closed-all P (core.Register name) h = absurd h
  closed-all P (core.Select name i) h = absurd h
  closed-all P (core.Literal v) h = tt
  closed-all P (core.Concat parts) h = closed-all_in P parts h
  closed-all P (core.Unary op e) h = closed-all P e h
  closed-all P (core.Binary op e f) h = (closed-all P e h.0, closed-all P f h.1)
  closed-all P (core.Conditional c e f) h = (closed-all P c h.0, (closed-all P e h.1.0, closed-all P f h.1.1))
  closed-all P (core.Extend by size e) h = closed-all P e h

  closed-all_in : (P : Text → Type 0) (trees : core.Expressions Text) → AreConstantTrees trees → AllNamedIn P trees
  closed-all_in P core.Nothing h = tt
  closed-all_in P (core.Also e es) h = (closed-all P e h.0, closed-all_in P es h.1)

-- no register at all
none : Registers
none = record { declared = []; widths = []; store = [] }

module _ (n : Names) (m : Meaning) (shape : Shape) (t made : core.Expression Text) (s : Shape) (h : IsTyped n m shape t) (e : made ≡ widened s t) (closed : IsConstantTree made) where
  fits_in : (r : Registers) → HasObjectWidths n r t
  fits_in r = fits-widened (IsWide n r) s.signed s.width t (closed-all (IsWide n r) (widened s t) (subst IsConstantTree e closed))

  worth_in : (v : Vector) → HasValue made s.width v → (r : Registers) → m.value (values_of r) s ≡ v
  worth_in v value r = sym (h.value r (fits_in r) s) ∙ ap (tree_value r s.width) (sym e) ∙ value r

  pub worth_is : (v : Vector) → HasValue made s.width v → IsWorth m s v
  unfolding none
  worth_is v value = record { digits = sym (worth_in v value none); fixed = worth_in v value }

pub constant_is : (n : Names) (m : Meaning) (shape : Shape) (t : core.Expression Text) (c : Constant) → IsTyped n m shape t → IsWorth m shape c.digits → c.signed ≡ shape.signed
    → IsConstantOf m c
constant_is n m shape t c h digits sign =
    let same : shape ≡ own_shape m = λ i. record { width = h.size i; signed = h.sign i } in
    record { digits = subst (λ (s : Shape). IsWorth m s c.digits) same digits; sign = sign ∙ h.sign }

pub assigned_is : (n : Names) (m : Meaning) (own at s : Shape) (t : core.Expression Text) (c : Constant) (digits : Vector) → IsTyped n m own t
    → at.width ≡ max own.width s.width → at.signed ≡ own.signed → IsWorth m at digits → c.digits ≡ resize s.width digits → c.signed ≡ s.signed
    → IsAssigned m s c
assigned_is n m own at s t c digits h width signed is cut sign =
    let same : at ≡ assigned_shape m s.width = λ i. record { width = (width ∙ ap (λ k. max k s.width) h.size) i; signed = (signed ∙ h.sign) i } in
    record { digits = (digits, subst (λ (a : Shape). IsWorth m a digits) same is, cut); sign = sign }
