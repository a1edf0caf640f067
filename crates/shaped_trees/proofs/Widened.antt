-- Widened trees: their sizes, and the names in them.
use Rattle.std.proofs.Common.{◌≡◌, ℕ, ◌≤◌, max, Bool, true, false, ◌||◌, refl, sym, ap, ◌∙◌, arith}
use Rattle.logic4.specs.declared.digit.Extension.{Extension}
use Rattle.logic4.specs.declared.digit.Extension.TheVariants.{Zeros, Sign}
use Rattle.model.specs.declared.tree.UnaryOperator.TheVariants.{Not, LogicalNot, ReduceAnd, ReduceOr, ReduceXor}
use Rattle.model.specs.declared.tree.BinaryOperator.{BinaryOperator}
use Rattle.model.specs.Syntax as core
use Rattle.model.specs.Syntax.{Text}
use Rattle.model.specs.Expressions.{Sizing, BothAsked, LeftAsked, Greatest, EachOwn, sizing_of, result_size}
use Rattle.shaped_trees.specs.Trees.{Registers, size_in, AllNamed, adapted_binary, adapted, filled_extension, filled, operand_at, widened_by, is_filling_extension, fills_binary, fills}

-- ---- sizes of widened trees

-- a size at which a tree is made is between the tree's own and the one that is asked
abbrev pub IsBetween : Registers → ℕ → core.Expression Text → core.Expression Text → Type 0
IsBetween r w tree made = (size_in r tree ≤ size_in r made) × (size_in r made ≤ w)

module _ (r : Registers) (w : ℕ) (change : core.Expression Text → core.Expression Text) (between : (t : core.Expression Text) → size_in r t ≤ w → IsBetween r w t (change t)) where
  size-adapted_binary : (op : BinaryOperator) (e f left right : core.Expression Text) (s : Sizing) → sizing_of op ≡ s
      → (size_in r e ≤ w → IsBetween r w e left) → (size_in r f ≤ w → IsBetween r w f right)
      → size_in r (core.Binary op e f) ≤ w → IsBetween r w (core.Binary op e f) (adapted_binary change s op e f left right)
  size-adapted_binary op e f left right BothAsked h p q fit =
      let before : size_in r (core.Binary op e f) ≡ max (size_in r e) (size_in r f) = ap (λ t. result_size t (size_in r e) (size_in r f)) h in
      let behind : size_in r (core.Binary op left right) ≡ max (size_in r left) (size_in r right) = ap (λ t. result_size t (size_in r left) (size_in r right)) h in
      let first : IsBetween r w e left = p (omega (arith, before, fit)) in
      let second : IsBetween r w f right = q (omega (arith, before, fit)) in
      (omega (arith, before, behind, first.0, second.0), omega (arith, behind, first.1, second.1))
  size-adapted_binary op e f left right LeftAsked h p q fit =
      let before : size_in r (core.Binary op e f) ≡ size_in r e = ap (λ t. result_size t (size_in r e) (size_in r f)) h in
      let behind : size_in r (core.Binary op left f) ≡ size_in r left = ap (λ t. result_size t (size_in r left) (size_in r f)) h in
      let first : IsBetween r w e left = p (omega (arith, before, fit)) in
      (omega (arith, before, behind, first.0), omega (arith, behind, first.1))
  size-adapted_binary op e f left right Greatest h p q fit = between (core.Binary op e f) fit
  size-adapted_binary op e f left right EachOwn h p q fit = between (core.Binary op e f) fit

  size-adapted : (tree : core.Expression Text) → size_in r tree ≤ w → IsBetween r w tree (adapted change tree)
  size-adapted (core.Register name) fit = between (core.Register name) fit
  size-adapted (core.Select name i) fit = between (core.Select name i) fit
  size-adapted (core.Literal v) fit = between (core.Literal v) fit
  size-adapted (core.Concat parts) fit = between (core.Concat parts) fit
  size-adapted (core.Extend by size e) fit = between (core.Extend by size e) fit
  size-adapted (core.Unary Not e) fit = size-adapted e fit
  size-adapted (core.Unary LogicalNot e) fit = between (core.Unary LogicalNot e) fit
  size-adapted (core.Unary ReduceAnd e) fit = between (core.Unary ReduceAnd e) fit
  size-adapted (core.Unary ReduceOr e) fit = between (core.Unary ReduceOr e) fit
  size-adapted (core.Unary ReduceXor e) fit = between (core.Unary ReduceXor e) fit
  size-adapted (core.Binary op e f) fit =
      size-adapted_binary op e f (adapted change e) (adapted change f) (sizing_of op) refl (size-adapted e) (size-adapted f) fit
  size-adapted (core.Conditional c e f) fit =
      let first : IsBetween r w e (adapted change e) = size-adapted e (omega (arith, fit)) in
      let second : IsBetween r w f (adapted change f) = size-adapted f (omega (arith, fit)) in
      (omega (arith, first.0, second.0), omega (arith, first.1, second.1))

within : (a w : ℕ) → a ≤ w → (a ≤ a) × (a ≤ w)
within a w h = (omega arith, h)

size-filled_extension : (r : Registers) (w size : ℕ) (by : Extension) (e : core.Expression Text) → size ≤ w → IsBetween r w (core.Extend by size e) (filled_extension w by size e)
size-filled_extension r w size Zeros e h = within size w h
size-filled_extension r w size Sign (core.Register name) h = within size w h
size-filled_extension r w size Sign (core.Select name i) h = within size w h
size-filled_extension r w size Sign (core.Literal v) h = (h, omega arith)
size-filled_extension r w size Sign (core.Concat parts) h = within size w h
size-filled_extension r w size Sign (core.Extend by k e) h = within size w h
size-filled_extension r w size Sign (core.Unary op e) h = within size w h
size-filled_extension r w size Sign (core.Binary op e f) h = within size w h
size-filled_extension r w size Sign (core.Conditional c e f) h = within size w h

size-filled : (r : Registers) (w : ℕ) (tree : core.Expression Text) → size_in r tree ≤ w → IsBetween r w tree (filled w tree)
size-filled r w (core.Register name) h = within (size_in r (core.Register name)) w h
size-filled r w (core.Select name i) h = within 1 w h
size-filled r w (core.Literal v) h = within (size_in r (core.Literal v)) w h
size-filled r w (core.Concat parts) h = within (size_in r (core.Concat parts)) w h
size-filled r w (core.Extend by size e) h = size-filled_extension r w size by e h
size-filled r w (core.Unary op e) h = within (size_in r (core.Unary op e)) w h
size-filled r w (core.Binary op e f) h = within (size_in r (core.Binary op e f)) w h
size-filled r w (core.Conditional c e f) h = within (size_in r (core.Conditional c e f)) w h

size-operand_at : (r : Registers) (b : Bool) (w : ℕ) (tree : core.Expression Text) → size_in r tree ≤ w → IsBetween r w tree (operand_at b w tree)
size-operand_at r true w tree h = (h, omega arith)
size-operand_at r false w tree h = size-filled r w tree h

pub size-widened : (r : Registers) (b : Bool) (w : ℕ) (tree : core.Expression Text) → size_in r tree ≤ w → IsBetween r w tree (widened_by b w tree)
size-widened r b w tree h = size-adapted r w (operand_at b w) (size-operand_at r b w) tree h

-- ---- what fits

module _ (P : Text → Type 0) (change : core.Expression Text → core.Expression Text) (all : (t : core.Expression Text) → AllNamed P (change t) → AllNamed P t) where
  fits-adapted_binary : (op : BinaryOperator) (e f left right : core.Expression Text) (s : Sizing)
      → (AllNamed P left → AllNamed P e) → (AllNamed P right → AllNamed P f)
      → AllNamed P (adapted_binary change s op e f left right) → AllNamed P e × AllNamed P f
  fits-adapted_binary op e f left right BothAsked p q h = (p h.0, q h.1)
  fits-adapted_binary op e f left right LeftAsked p q h = (p h.0, h.1)
  fits-adapted_binary op e f left right Greatest p q h = all (core.Binary op e f) h
  fits-adapted_binary op e f left right EachOwn p q h = all (core.Binary op e f) h

  fits-adapted : (tree : core.Expression Text) → AllNamed P (adapted change tree) → AllNamed P tree
  fits-adapted (core.Register name) h = all (core.Register name) h
  fits-adapted (core.Select name i) h = all (core.Select name i) h
  fits-adapted (core.Literal v) h = all (core.Literal v) h
  fits-adapted (core.Concat parts) h = all (core.Concat parts) h
  fits-adapted (core.Extend by size e) h = all (core.Extend by size e) h
  fits-adapted (core.Unary Not e) h = fits-adapted e h
  fits-adapted (core.Unary LogicalNot e) h = all (core.Unary LogicalNot e) h
  fits-adapted (core.Unary ReduceAnd e) h = all (core.Unary ReduceAnd e) h
  fits-adapted (core.Unary ReduceOr e) h = all (core.Unary ReduceOr e) h
  fits-adapted (core.Unary ReduceXor e) h = all (core.Unary ReduceXor e) h
  fits-adapted (core.Binary op e f) h =
      fits-adapted_binary op e f (adapted change e) (adapted change f) (sizing_of op) (fits-adapted e) (fits-adapted f) h
  fits-adapted (core.Conditional c e f) h = (h.0, (fits-adapted e h.1.0, fits-adapted f h.1.1))

fits-filled_extension : (P : Text → Type 0) (w size : ℕ) (by : Extension) (e : core.Expression Text) → AllNamed P (filled_extension w by size e) → AllNamed P e
fits-filled_extension P w size Zeros e h = h
fits-filled_extension P w size Sign (core.Register name) h = h
fits-filled_extension P w size Sign (core.Select name i) h = h
fits-filled_extension P w size Sign (core.Literal v) h = h
fits-filled_extension P w size Sign (core.Concat parts) h = h
fits-filled_extension P w size Sign (core.Extend by k e) h = h
fits-filled_extension P w size Sign (core.Unary op e) h = h
fits-filled_extension P w size Sign (core.Binary op e f) h = h
fits-filled_extension P w size Sign (core.Conditional c e f) h = h

fits-operand_at : (P : Text → Type 0) (b : Bool) (w : ℕ) (tree : core.Expression Text) → AllNamed P (operand_at b w tree) → AllNamed P tree
fits-operand_at P true w tree h = h
fits-operand_at P false w (core.Register name) h = h
fits-operand_at P false w (core.Select name i) h = h
fits-operand_at P false w (core.Literal v) h = h
fits-operand_at P false w (core.Concat parts) h = h
fits-operand_at P false w (core.Extend by size e) h = fits-filled_extension P w size by e h
fits-operand_at P false w (core.Unary op e) h = h
fits-operand_at P false w (core.Binary op e f) h = h
fits-operand_at P false w (core.Conditional c e f) h = h

-- a widened tree names what the tree names
pub fits-widened : (P : Text → Type 0) (signed : Bool) (w : ℕ) (tree : core.Expression Text) → AllNamed P (widened_by signed w tree) → AllNamed P tree
fits-widened P signed w tree h = fits-adapted P (operand_at signed w) (fits-operand_at P signed w) tree h

-- ---- trees without numbers that are filled

same_extension : (w size : ℕ) (by : Extension) (e : core.Expression Text) → is_filling_extension by e ≡ false → filled_extension w by size e ≡ core.Extend by size e
same_extension w size Zeros e h = refl
same_extension w size Sign (core.Register name) h = refl
same_extension w size Sign (core.Select name i) h = refl
same_extension w size Sign (core.Literal v) h = absurd (cc)
same_extension w size Sign (core.Concat parts) h = refl
same_extension w size Sign (core.Extend by k e) h = refl
same_extension w size Sign (core.Unary op e) h = refl
same_extension w size Sign (core.Binary op e f) h = refl
same_extension w size Sign (core.Conditional c e f) h = refl

neither : (a b : Bool) → (a || b) ≡ false → (a ≡ false) × (b ≡ false)
neither false b h = (refl, h)
neither true b h = absurd (cc)

same_binary : (w : ℕ) (op : BinaryOperator) (e f left right : core.Expression Text) (s : Sizing) (a b : Bool) → (a ≡ false → left ≡ e) → (b ≡ false → right ≡ f)
    → fills_binary s a b ≡ false → adapted_binary (filled w) s op e f left right ≡ core.Binary op e f
same_binary w op e f left right BothAsked a b p q h = let both = neither a b h in λ i. core.Binary op (p both.0 i) (q both.1 i)
same_binary w op e f left right LeftAsked a b p q h = ap (λ t. core.Binary op t f) (p h)
same_binary w op e f left right Greatest a b p q h = refl
same_binary w op e f left right EachOwn a b p q h = refl

same_filled : (w : ℕ) (tree : core.Expression Text) → fills tree ≡ false → widened_by false w tree ≡ tree
same_filled w (core.Register name) h = refl
same_filled w (core.Select name i) h = refl
same_filled w (core.Literal v) h = refl
same_filled w (core.Concat parts) h = refl
same_filled w (core.Extend by size e) h = same_extension w size by e h
same_filled w (core.Unary Not e) h = ap (core.Unary Not) (same_filled w e h)
same_filled w (core.Unary LogicalNot e) h = refl
same_filled w (core.Unary ReduceAnd e) h = refl
same_filled w (core.Unary ReduceOr e) h = refl
same_filled w (core.Unary ReduceXor e) h = refl
same_filled w (core.Binary op e f) h =
    same_binary w op e f (widened_by false w e) (widened_by false w f) (sizing_of op) (fills e) (fills f) (same_filled w e) (same_filled w f) h
same_filled w (core.Conditional c e f) h =
    let both = neither (fills e) (fills f) h in λ i. core.Conditional c (same_filled w e both.0 i) (same_filled w f both.1 i)

pub same_widened : (signed : Bool) (w : ℕ) (tree : core.Expression Text) → signed ≡ false → fills tree ≡ false → tree ≡ widened_by signed w tree
same_widened signed w tree s h = sym (same_filled w tree h) ∙ ap (λ b. widened_by b w tree) (sym s)
