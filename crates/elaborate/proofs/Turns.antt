-- What one turn of a loop does.
use Rattle.std.proofs.Common.{◌≡◌, ℕ, suc, ◌+◌, ◌<◌, ◌≤◌, List, [], ◌∷◌, ◌++◌, map, length, get_or, drop, sym, ap, subst, ◌∙◌, add-one, append-nil, append_assoc, Option, Some, None, string_bytes, drop-cons, refl, arith}
use Rattle.std.specs.declared.vec.IntoIter.{IntoIter}
use Rattle.std.specs.Vec.Iter.{into_iter_items, into_iter_len}
use Rattle.std.proofs.lemmas.List.{drop_all, map-append}
use Rattle.model.specs.Design.{Statements}
use Rattle.model.specs.Syntax.{Text}
use Rattle.model.specs.declared.limits.ModuleLimits.{ModuleLimits}
use Rattle.model.specs.Elaboration as model
use Rattle.model.specs.Elaboration.{Declared, Fault, all_resolved, block_of, followed_by, resolved}
use Rattle.model.specs.declared.tree.SourceStatement as statement
use Rattle.model.specs.declared.tree.SourceExpression as expression
use Rattle.model.specs.declared.tree.Declaration as declaration
use Rattle.model.specs.SourceTrees as source
use Rattle.model.specs.SourceTrees.{source_statement_of, source_statements, source_expression_of, declaration_of}
use Rattle.design.specs.declared.tree.Expression as made
use Rattle.design.specs.DesignTrees as tree
use Rattle.elaborate.specs.declared.fault.ElabFault.{ElabFault}
use Rattle.elaborate.specs.Registers.{all_declared, of_range}
use Rattle.elaborate.specs.FirstFindings.{or_fault, found_name, found_names, IsFirstOf}
use Rattle.elaborate.specs.Small.{AreSmallStatements}
use Rattle.elaborate.proofs.Found.{found_names_append}
use Rattle.elaborate.proofs.Bodies.{followed_by_assoc, followed_by_end, resolved_are}

-- the element at a place, and those behind it
pub next_of : {A : Type 0} (xs : List A) (i : ℕ) (x : A) → i < length xs → x ≡ get_or xs i x → drop i xs ≡ x ∷ drop (i + 1) xs
next_of xs i x h e = rw add-one (drop-cons xs i x h ∙ ap (λ y. y ∷ drop (suc i) xs) (sym e))

-- one more element is made
pub pushed : {A B : Type 0} (f : A → B) (made next : List A) (x : A) (y : B) → next ≡ made ++ x ∷ [] → f x ≡ y → map f next ≡ map f made ++ y ∷ []
pushed f made next x y n e = ap (map f) n ∙ map-append f made (x ∷ []) ∙ ap (λ z. map f made ++ z ∷ []) e

-- what is made of the first of those that are left is behind what was made, and the others are left
pub one_made : {A B : Type 0} (f : A → B) (made next : List B) (x : A) (left rest : List A) → left ≡ x ∷ rest → next ≡ made ++ f x ∷ []
    → next ++ map f rest ≡ made ++ map f left
one_made f made next x left rest e n =
    ap (λ ys. ys ++ map f rest) n ∙ append_assoc made (f x ∷ []) (map f rest) ∙ ap (λ xs. made ++ map f xs) (sym e)

-- where none is left, all are made
pub all_made : {A B : Type 0} (f : A → B) (made whole : List B) (left : List A) → left ≡ [] → made ++ map f left ≡ whole → made ≡ whole
all_made f made whole left e inv = sym (append-nil made) ∙ ap (λ xs. made ++ map f xs) (sym e) ∙ inv

-- the same with the default that reading there has
pub next_at : {A : Type 0} (xs : List A) (i : ℕ) (d : A) → i < length xs → drop i xs ≡ get_or xs i d ∷ drop (i + 1) xs
next_at xs i d h = rw add-one (drop-cons xs i d h)

module _ (ds : List Declared) (whole into : Statements) where
  -- one statement of those that are left, and the others
  pub one_left : (s : statement.SourceStatement) (next : Statements) (left rest : List statement.SourceStatement) → left ≡ s ∷ rest
      → next ≡ followed_by into (model.statements_of ds (source_statement_of s))
      → followed_by into (block_of ds (source_statements (map source_statement_of left))) ≡ whole
      → followed_by next (block_of ds (source_statements (map source_statement_of rest))) ≡ whole
  one_left s next left rest e n inv =
      ap (λ a. followed_by a (block_of ds (source_statements (map source_statement_of rest)))) n
      ∙ followed_by_assoc into (model.statements_of ds (source_statement_of s)) (block_of ds (source_statements (map source_statement_of rest)))
      ∙ ap (λ xs. followed_by into (block_of ds (source_statements (map source_statement_of xs)))) (sym e)
      ∙ inv

  pub none_left : (left : List statement.SourceStatement) → left ≡ [] → followed_by into (block_of ds (source_statements (map source_statement_of left))) ≡ whole → into ≡ whole
  none_left left e inv =
      sym (followed_by_end into) ∙ ap (λ xs. followed_by into (block_of ds (source_statements (map source_statement_of xs)))) (sym e) ∙ inv

module _ (ds : List Declared) (body : List statement.SourceStatement) (i : ℕ) (whole into : Statements) where
  pub one_statement : (s : statement.SourceStatement) (next : Statements) → i < length body → s ≡ get_or body i s
      → next ≡ followed_by into (model.statements_of ds (source_statement_of s))
      → followed_by into (block_of ds (source_statements (map source_statement_of (drop i body)))) ≡ whole
      → followed_by next (block_of ds (source_statements (map source_statement_of (drop (i + 1) body)))) ≡ whole
  one_statement s next h e n inv = one_left ds whole into s next (drop i body) (drop (i + 1) body) (next_of body i s h e) n inv

  pub last_statement : length body ≤ i → followed_by into (block_of ds (source_statements (map source_statement_of (drop i body)))) ≡ whole → into ≡ whole
  last_statement h inv = none_left ds whole into (drop i body) (drop_all i body h) inv

-- an iterator of no length has nothing left
pub no_items : {X Z : Type 0} (it : IntoIter X Z) → into_iter_len it ≡ 0 → into_iter_items it ≡ []
no_items it e = nothing (into_iter_items it) (omega (arith, e, it.rest.ok.0))
  where
    nothing : {Y : Type 0} (xs : List Y) → length xs ≡ 0 → xs ≡ []
    nothing [] h = refl
    nothing (x ∷ xs) h = absurd (omega (arith, h))

-- what holds of statements from a place on holds of the first and of the others
pub others_small : (body : List statement.SourceStatement) (i : ℕ) (s : statement.SourceStatement) → i < length body → s ≡ get_or body i s
    → AreSmallStatements (source_statements (map source_statement_of (drop i body))) → AreSmallStatements (source_statements (map source_statement_of (drop (i + 1) body)))
others_small body i s h e small = (subst (λ xs. AreSmallStatements (source_statements (map source_statement_of xs))) (next_of body i s h e) small).1

-- the parts of an expression
pub all_parts : (ds : List Declared) (es : List made.Expression) (parts : List expression.SourceExpression) (i : ℕ) → length parts ≤ i
    → map tree.expression_of es ++ map (resolved ds) (map source_expression_of (drop i parts)) ≡ map (resolved ds) (map source_expression_of parts)
    → tree.expressions (map tree.expression_of es) ≡ all_resolved ds (source.source_expressions (map source_expression_of parts))
all_parts ds es parts i h inv =
    ap tree.expressions (sym (append-nil (map tree.expression_of es)) ∙ ap (λ xs. map tree.expression_of es ++ map (resolved ds) (map source_expression_of xs)) (sym (drop_all i parts h)) ∙ inv)
    ∙ sym (resolved_are ds (map source_expression_of parts))

-- what is told of the first part is told of both
pub first_part : (f : ElabFault) (a b : Option Fault) → IsFirstOf f a → IsFirstOf f (or_fault a b)
first_part f (Some x) b is = is
first_part f None None is = is
first_part f None (Some x) is = rw is tt

module _ (limits : ModuleLimits) (names : List Declared) (ds : List declaration.Declaration) (d : declaration.Declaration) (i : ℕ) (h : i < length ds) (e : d ≡ get_or ds i d) where
  abbrev mine : List Declared
  mine = of_range d.range (map string_bytes d.names.items)

  abbrev behind : List Declared
  behind = all_declared (map declaration_of (drop (i + 1) ds))

  pub split_declared : all_declared (map declaration_of (drop i ds)) ≡ of_range d.range (map string_bytes d.names.items) ++ all_declared (map declaration_of (drop (i + 1) ds))
  split_declared = ap (λ xs. all_declared (map declaration_of xs)) (next_of ds i d h e)

  pub one_declaration : (next : List Declared) → next ≡ names ++ of_range d.range (map string_bytes d.names.items)
      → names ++ all_declared (map declaration_of (drop i ds)) ≡ next ++ all_declared (map declaration_of (drop (i + 1) ds))
  one_declaration next n = ap (λ xs. names ++ xs) split_declared ∙ sym (append_assoc names mine behind) ∙ ap (λ xs. xs ++ behind) (sym n)

  pub found_behind : (next : List Declared) → next ≡ names ++ of_range d.range (map string_bytes d.names.items)
      → found_names limits names (of_range d.range (map string_bytes d.names.items)) ≡ None
      → found_names limits names (all_declared (map declaration_of (drop i ds))) ≡ found_names limits next (all_declared (map declaration_of (drop (i + 1) ds)))
  found_behind next n none =
      ap (found_names limits names) split_declared ∙ found_names_append limits names mine behind ∙ ap (λ o. or_fault o (found_names limits (names ++ mine) behind)) none
      ∙ ap (λ xs. found_names limits xs behind) (sym n)

  pub fault_in : (f : ElabFault) → IsFirstOf f (found_names limits names (of_range d.range (map string_bytes d.names.items))) → IsFirstOf f (found_names limits names (all_declared (map declaration_of (drop i ds))))
  fault_in f is = subst (IsFirstOf f) (sym (ap (found_names limits names) split_declared ∙ found_names_append limits names mine behind)) (first_part f (found_names limits names mine) (found_names limits (names ++ mine) behind) is)

-- one name of a declaration
module _ {K : Type 0} (bytes : K → Text) (limits : ModuleLimits) (range : Option (ℕ × ℕ)) (names : List Declared) (more : List K) (i : ℕ) (name : K) (h : i < length more) (e : name ≡ get_or more i name) where
  abbrev others : List Declared
  others = of_range range (map bytes (drop (i + 1) more))

  split_names : of_range range (map bytes (drop i more)) ≡ (bytes name, range) ∷ of_range range (map bytes (drop (i + 1) more))
  split_names = ap (λ xs. of_range range (map bytes xs)) (next_of more i name h e)

  pub one_name : (next : List Declared) → next ≡ names ++ (bytes name, range) ∷ []
      → next ++ of_range range (map bytes (drop (i + 1) more)) ≡ names ++ of_range range (map bytes (drop i more))
  one_name next n = ap (λ xs. xs ++ others) n ∙ append_assoc names ((bytes name, range) ∷ []) others ∙ ap (λ xs. names ++ xs) (sym split_names)

  pub found_after : (next : List Declared) → next ≡ names ++ (bytes name, range) ∷ [] → found_name limits names (bytes name, range) ≡ None
      → found_names limits names (of_range range (map bytes (drop i more))) ≡ found_names limits next (of_range range (map bytes (drop (i + 1) more)))
  found_after next n none =
      ap (found_names limits names) split_names ∙ ap (λ o. or_fault o (found_names limits (names ++ (bytes name, range) ∷ []) others)) none
      ∙ ap (λ xs. found_names limits xs others) (sym n)

  pub fault_at : (f : ElabFault) → IsFirstOf f (found_name limits names (bytes name, range)) → IsFirstOf f (found_names limits names (of_range range (map bytes (drop i more))))
  fault_at f is =
      subst (IsFirstOf f) (sym (ap (found_names limits names) split_names))
      (first_part f (found_name limits names (bytes name, range)) (found_names limits (names ++ (bytes name, range) ∷ []) others) is)
