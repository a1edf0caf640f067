-- Shapes at which a `case` compares.
use Rattle.std.proofs.Common.{◌≡◌, ℕ, ◌+◌, ◌<◌, ◌≤◌, Bool, true, false, ◌&&◌, max, List, [], ◌∷◌, ◌++◌, zero, suc, map, length, get_or, take, drop, refl, sym, ap, ◌∙◌, subst, arith}
use Rattle.std.proofs.lemmas.List.{at_drop_more, at_drop_all, take_more, take_all, map-append}
use Rattle.model.specs.Syntax as core
use Rattle.model.specs.declared.tree.SourceExpression as program_core
use Rattle.model.specs.SourceTrees.{source_expression_of}
use Rattle.shaped_trees.specs.declared.shape.Shape.{Shape}
use Rattle.syntax_tree.specs.declared.expressions.VerilogExpression as program
use Rattle.syntax_tree.specs.declared.statements.CaseItem as program_item
use Rattle.syntax_tree.specs.declared.statements.CaseItem.{out-CaseItem}
use Rattle.syntax_tree.specs.Expressions.{Expression, plain_expression_of}
use Rattle.sizing.specs.Names.{Names}
use Rattle.sizing.specs.Meanings.{Meaning, meaning, own_shape}
use Rattle.sizing.specs.Typing.{IsTyped, IsLowered, joined_shape}
use Rattle.statement_parts.specs.Statements as plain
use Rattle.statement_parts.specs.Statements.{SourceText, PlainItems, plain_item_of, plain_items_of}
use Rattle.statement_parts.proofs.Nodes.{viewed_item}
use Rattle.lowering.specs.Lowering.{labels_shape, items_shape, case_shape, TakesIn, TakesAllIn, TakesItemsIn, AreLowered, none_lowered, one_lowered}

-- a shape by its width and its sign
pub shape_of : (s : Shape) (width : ℕ) (signed : Bool) → s.width ≡ width → s.signed ≡ signed → s ≡ record { width = width; signed = signed }
shape_of s width signed e f =
    ap (λ (w : ℕ). record { width = w; signed = s.signed }) e ∙ ap (λ (b : Bool). record { width = width; signed = b }) f

-- a tree that stands for a meaning has its shape
pub typed_shape : (n : Names) (m : Meaning) (s : Shape) (tree : core.Expression SourceText) → IsTyped n m s tree → s ≡ own_shape m
typed_shape n m s tree is = shape_of s m.size m.signed is.size is.sign

max_assoc : (a b c : ℕ) → max a (max b c) ≡ max (max a b) c
max_assoc a b c = omega arith

both_assoc : (a b c : Bool) → (a && (b && c)) ≡ ((a && b) && c)
both_assoc true b c = refl
both_assoc false b c = refl

max_again : (a b : ℕ) → max a (max b a) ≡ max b a
max_again a b = omega arith

both_again : (a b : Bool) → (a && (b && a)) ≡ (b && a)
both_again true true = refl
both_again true false = refl
both_again false true = refl
both_again false false = refl

joined_assoc : (o s t : Shape) → joined_shape o (joined_shape s t) ≡ joined_shape (joined_shape o s) t
joined_assoc o s t = shape_of (joined_shape o (joined_shape s t)) (max (max o.width s.width) t.width) ((o.signed && s.signed) && t.signed) (max_assoc o.width s.width t.width) (both_assoc o.signed s.signed t.signed)

joined_again : (o s : Shape) → joined_shape o (joined_shape s o) ≡ joined_shape s o
joined_again o s = shape_of (joined_shape o (joined_shape s o)) (max s.width o.width) (s.signed && o.signed) (max_again o.width s.width) (both_again o.signed s.signed)

-- what is taken in stays so
joined_more : (o s t : Shape) → joined_shape o s ≡ s → joined_shape o (joined_shape s t) ≡ joined_shape s t
joined_more o s t h = joined_assoc o s t ∙ ap (λ (x : Shape). joined_shape x t) h

labels_keep : (n : Names) (o s : Shape) (es : List Expression) → joined_shape o s ≡ s → joined_shape o (labels_shape n s es) ≡ labels_shape n s es
labels_keep n o s [] h = h
labels_keep n o s (e ∷ es) h = labels_keep n o (joined_shape s (own_shape (meaning n e))) es (joined_more o s (own_shape (meaning n e)) h)

items_keep : (n : Names) (o s : Shape) (items : PlainItems) → joined_shape o s ≡ s → joined_shape o (items_shape n s items) ≡ items_shape n s items
items_keep n o s plain.NoItem h = h
items_keep n o s (plain.Item at labels body others) h = items_keep n o (labels_shape n s labels) others (labels_keep n o s labels h)

all_keep : (n : Names) (s : Shape) (es : List Expression) (items : PlainItems) → TakesAllIn n s es → TakesAllIn n (items_shape n s items) es
all_keep n s [] items h = tt
all_keep n s (e ∷ es) items h = (items_keep n (own_shape (meaning n e)) s items h.0, all_keep n s es items h.1)

labels_in : (n : Names) (s : Shape) (es : List Expression) → TakesAllIn n (labels_shape n s es) es
labels_in n s [] = tt
labels_in n s (e ∷ es) =
    let own = own_shape (meaning n e) in
    (labels_keep n own (joined_shape s own) es (joined_again own s), labels_in n (joined_shape s own) es)

items_in : (n : Names) (s : Shape) (items : PlainItems) → TakesItemsIn n (items_shape n s items) items
items_in n s plain.NoItem = tt
items_in n s (plain.Item at labels body others) =
    (all_keep n (labels_shape n s labels) labels others (labels_in n s labels), items_in n (labels_shape n s labels) others)

both_same : (b : Bool) → (b && b) ≡ b
both_same true = refl
both_same false = refl

joined_same : (o : Shape) → joined_shape o o ≡ o
joined_same o = shape_of (joined_shape o o) o.width o.signed (max_same o.width) (both_same o.signed)
  where
    max_same : (a : ℕ) → max a a ≡ a
    max_same a = omega arith

-- what is lowered at its own shape
pub own_lowered : (n : Names) (m : Meaning) (s : Shape) (made : core.Expression SourceText) → s ≡ own_shape m → IsLowered n m (joined_shape s s) made → IsLowered n m (own_shape m) made
own_lowered n m s made e h = subst (λ (x : Shape). IsLowered n m x made) (joined_same s ∙ e) h

-- the shape of a `case` takes its selector in, and its labels
pub selector_in : (n : Names) (selector : Expression) (items : PlainItems) (s : Shape) → s ≡ case_shape n selector items → TakesIn n s selector
selector_in n selector items s e =
    let own = own_shape (meaning n selector) in subst (λ (x : Shape). TakesIn n x selector) (sym e) (items_keep n own own items (joined_same own))

pub case_items_in : (n : Names) (selector : Expression) (items : PlainItems) (s : Shape) → s ≡ case_shape n selector items → TakesItemsIn n s items
case_items_in n selector items s e = subst (λ (x : Shape). TakesItemsIn n x items) (sym e) (items_in n (own_shape (meaning n selector)) items)

-- a label more
pub label_more : (n : Names) (found new own : Shape) (xs : List program.VerilogExpression) (i : ℕ) (x : program.VerilogExpression) → i < length xs → x ≡ get_or xs i x → own ≡ own_shape (meaning n (plain_expression_of x))
    → new.width ≡ max found.width own.width → new.signed ≡ (found.signed && own.signed)
    → labels_shape n new (map plain_expression_of (drop (i + 1) xs)) ≡ labels_shape n found (map plain_expression_of (drop i xs))
label_more n found new own xs i x h is e w b =
    let rest = map plain_expression_of (drop (i + 1) xs) in
    ap (λ (s : Shape). labels_shape n s rest) (shape_of new (max found.width own.width) (found.signed && own.signed) w b ∙ ap (joined_shape found) e)
    ∙ ap (λ (y : program.VerilogExpression). labels_shape n found (plain_expression_of y ∷ rest)) is
    ∙ sym (at_drop_more (λ ys. labels_shape n found (map plain_expression_of ys)) xs i x h)

-- labels that are lowered, and one more
pub lowered_push : (n : Names) (s : Shape) (es : List Expression) (made : List (core.Expression SourceText)) (e : Expression) (t : core.Expression SourceText) → AreLowered n s es made → IsLowered n (meaning n e) s t
    → AreLowered n s (es ++ e ∷ []) (made ++ t ∷ [])
lowered_push n s [] _ e t none_lowered h = one_lowered e t [] [] h none_lowered
lowered_push n s (x ∷ es) _ e t (one_lowered _ u _ others one rest) h = one_lowered x u _ _ one (lowered_push n s es others e t rest h)

-- one of the labels that a shape takes in
pub taken_at : (n : Names) (s : Shape) (xs : List program.VerilogExpression) (i : ℕ) (x : program.VerilogExpression) → i < length xs → x ≡ get_or xs i x → TakesAllIn n s (map plain_expression_of xs) → TakesIn n s (plain_expression_of x)
taken_at n s [] i x h is all = absurd (omega arith)
taken_at n s (y ∷ xs) zero x h is all = subst (λ (z : program.VerilogExpression). TakesIn n s (plain_expression_of z)) (sym is) all.0
taken_at n s (y ∷ xs) (suc i) x h is all = taken_at n s xs i x (omega arith) is all.1

-- the labels of one of the items that a shape takes in
pub item_taken_at : (n : Names) (s : Shape) (xs : List program_item.CaseItem) (i : ℕ) (x : program_item.CaseItem) → i < length xs → x ≡ get_or xs i x → TakesItemsIn n s (plain_items_of xs) → TakesAllIn n s (plain_item_of x).labels
item_taken_at n s [] i x h is all = absurd (omega arith)
item_taken_at n s (y ∷ xs) zero x h is all = subst (λ (z : program_item.CaseItem). TakesAllIn n s (plain_item_of z).labels) (sym is) all.0
item_taken_at n s (y ∷ xs) (suc i) x h is all = item_taken_at n s xs i x (omega arith) is all.1

-- the items behind the first so many: the shape of one more
pub item_more : (n : Names) (found new : Shape) (xs : List program_item.CaseItem) (i : ℕ) (x : program_item.CaseItem) → i < length xs → x ≡ get_or xs i x → new ≡ labels_shape n found (plain_item_of x).labels
    → items_shape n new (plain_items_of (drop (i + 1) xs)) ≡ items_shape n found (plain_items_of (drop i xs))
item_more n found new xs i x h is e =
    let rest = plain_items_of (drop (i + 1) xs) in
    ap (λ (s : Shape). items_shape n s rest) e
    ∙ ap (λ (y : program_item.CaseItem). items_shape n (labels_shape n found (plain_item_of y).labels) rest) is
    ∙ sym (at_drop_more (λ ys. items_shape n found (plain_items_of ys)) xs i x h)

-- the shape of the labels of an item
pub item_labels_shape : (n : Names) (found new : Shape) (x : program_item.CaseItem) (xs : List program.VerilogExpression) → xs ≡ (out-CaseItem x).labels.items → new ≡ labels_shape n found (map plain_expression_of xs) → new ≡ labels_shape n found (plain_item_of x).labels
item_labels_shape n found new x xs is e = e ∙ ap (labels_shape n found) (ap (map plain_expression_of) is ∙ sym (ap (λ p. p.labels) (viewed_item x)))

-- a label that a shape takes in, and what it is lowered to
pub label_taken : (n : Names) (s : Shape) (e : Expression) (made : core.Expression SourceText) → TakesIn n s e → IsLowered n (meaning n e) (joined_shape (own_shape (meaning n e)) s) made → IsLowered n (meaning n e) s made
label_taken n s e made takes h = subst (λ (x : Shape). IsLowered n (meaning n e) x made) takes h

-- labels so far, and one more
pub labels_more : (n : Names) (s : Shape) (xs : List program.VerilogExpression) (i : ℕ) (x : program.VerilogExpression) (ts us : List program_core.SourceExpression) (t : program_core.SourceExpression) → i < length xs → x ≡ get_or xs i x → TakesAllIn n s (map plain_expression_of xs)
    → AreLowered n s (map plain_expression_of (take i xs)) (map source_expression_of ts) → IsLowered n (meaning n (plain_expression_of x)) (joined_shape (own_shape (meaning n (plain_expression_of x))) s) (source_expression_of t) → us ≡ ts ++ t ∷ []
    → AreLowered n s (map plain_expression_of (take (i + 1) xs)) (map source_expression_of us)
labels_more n s xs i x ts us t h is all so one pushed =
    let taken : map plain_expression_of (take (i + 1) xs) ≡ map plain_expression_of (take i xs) ++ plain_expression_of x ∷ [] =
    ap (map plain_expression_of) (take_more xs i x h ∙ ap (λ (y : program.VerilogExpression). take i xs ++ y ∷ []) (sym is)) ∙ map-append plain_expression_of (take i xs) (x ∷ []) in
    let made : map source_expression_of us ≡ map source_expression_of ts ++ source_expression_of t ∷ [] = ap (map source_expression_of) pushed ∙ map-append source_expression_of ts (t ∷ []) in
    subst (λ (ys : List (core.Expression SourceText)). AreLowered n s (map plain_expression_of (take (i + 1) xs)) ys) (sym made)
    (subst (λ (es : List Expression). AreLowered n s es (map source_expression_of ts ++ source_expression_of t ∷ [])) (sym taken)
    (lowered_push n s (map plain_expression_of (take i xs)) (map source_expression_of ts) (plain_expression_of x) (source_expression_of t) so
    (label_taken n s (plain_expression_of x) (source_expression_of t) (taken_at n s xs i x h is all) one)))

-- no label yet, and all of them
pub labels_start : (n : Names) (s : Shape) (made : List program_core.SourceExpression) → made ≡ [] → AreLowered n s [] (map source_expression_of made)
labels_start n s made e = subst (λ (ts : List program_core.SourceExpression). AreLowered n s [] (map source_expression_of ts)) (sym e) none_lowered

pub labels_end : (n : Names) (s : Shape) (xs : List program.VerilogExpression) (i : ℕ) (made : List (core.Expression SourceText)) → length xs ≤ i → AreLowered n s (map plain_expression_of (take i xs)) made → AreLowered n s (map plain_expression_of xs) made
labels_end n s xs i made h so = subst (λ (ys : List program.VerilogExpression). AreLowered n s (map plain_expression_of ys) made) (take_all i xs h) so

pub shape_end : (n : Names) (found whole : Shape) (xs : List program.VerilogExpression) (i : ℕ) → length xs ≤ i → labels_shape n found (map plain_expression_of (drop i xs)) ≡ whole → found ≡ whole
shape_end n found whole xs i h so = sym (at_drop_all (λ ys. labels_shape n found (map plain_expression_of ys)) xs i h) ∙ so

pub items_shape_end : (n : Names) (found whole : Shape) (xs : List program_item.CaseItem) (i : ℕ) → length xs ≤ i → items_shape n found (plain_items_of (drop i xs)) ≡ whole → found ≡ whole
items_shape_end n found whole xs i h so = sym (at_drop_all (λ ys. items_shape n found (plain_items_of ys)) xs i h) ∙ so
