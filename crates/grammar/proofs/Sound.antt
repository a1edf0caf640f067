-- What the parser of expressions reads is spelled.
use Rattle.std.proofs.Common.{◌≡◌, ℕ, zero, suc, ◌+◌, ◌-◌, ◌<◌, ◌≤◌, List, [], ◌∷◌, ◌++◌, append_assoc, append-nil, Bool, true, ◌&&◌, nat_lt, nat_le, inl, inr, Option, Some, None, refl, sym, ap, subst, ◌∙◌, add-one, arith}
use Rattle.std.proofs.lemmas.Bool.Decides.{nat_tests}
use Rattle.tokens.specs.declared.token.Kind.{Kind}
use Rattle.tokens.specs.declared.token.Kind.TheVariants as k
use Rattle.model.specs.declared.tree.UnaryOperator.{UnaryOperator}
use Rattle.model.specs.declared.tree.BinaryOperator.{BinaryOperator}
use Rattle.grammar.specs.Cursor.{kind, sees, parse_and_then, take, expect}
use Rattle.tokens.specs.Tokens.{PlainToken, PlainTokens}
use Rattle.logic4.specs.Vector.{Vector}
use Rattle.model.specs.Syntax.{Text, Expression}
use Rattle.model.specs.SourceTrees.{source_expressions}
use Rattle.model.specs.Syntax as tree
use Rattle.grammar.specs.Grammar.{operator, prefix, IsExpression, plain, chosen, IsBinary, operand, tighter, joined, IsUnary, bare, prefixed, IsPrimary, named, selected, sized, concatenated, nested, IsParts, last_part, next_part}
use Rattle.grammar.specs.Reading as spec
use Rattle.grammar.specs.Reading.{Parser, if_level, literal_by, parse_list, primary_by, unary_by, operators_by, continues, parse_operators, parse_level, parse_primary, conditional_at, parse_expression}
use Rattle.grammar.proofs.Steps.{and_then-cases, some-pair, take-some, expect-some, if-is, same_kind-true}

-- an expression of that level, a whole one at level 0
abbrev pub IsAt : ℕ → Expression Text → PlainTokens → PlainTokens → Type 0
IsAt zero e ts rest = IsExpression e ts rest
IsAt (suc level) e ts rest = IsBinary (suc level) e ts rest

-- each level is part of the looser ones
loosened : (n level : ℕ) (e : Expression Text) (ts rest : PlainTokens) → IsBinary (n + level) e ts rest → IsBinary level e ts rest
loosened zero level e ts rest d = let q : 0 + level ≡ level = omega arith in subst (λ x. IsBinary x e ts rest) q d
loosened (suc n) level e ts rest d =
    let q : suc n + level ≡ suc (n + level) = omega arith in
    loosened n level e ts rest (tighter (subst (λ x. IsBinary x e ts rest) q d))

pub looser : (a b : ℕ) (e : Expression Text) (ts rest : PlainTokens) → a ≤ b → IsBinary b e ts rest → IsBinary a e ts rest
looser a b e ts rest h d = let q : b ≡ (b - a) + a = omega arith in loosened (b - a) a e ts rest (subst (λ x. IsBinary x e ts rest) q d)

-- ---- the table of operators

is_within : Option (ℕ × BinaryOperator) → Bool
is_within None = true
is_within (Some p) = nat_lt 0 p.0 && nat_le p.0 9

all_within : (kind : Kind) → is_within (operator kind) ≡ true
unfolding is_within
all_within k.OrOr = refl
all_within k.AndAnd = refl
all_within k.Bar = refl
all_within k.Caret = refl
all_within k.Ampersand = refl
all_within k.Equal = refl
all_within k.NotEqual = refl
all_within k.Same = refl
all_within k.NotSame = refl
all_within k.Less = refl
all_within k.AtMost = refl
all_within k.Greater = refl
all_within k.AtLeast = refl
all_within k.ShiftLeft = refl
all_within k.ShiftRight = refl
all_within k.Plus = refl
all_within k.Minus = refl
all_within _ = refl

pub operator-within : (kind : Kind) (level : ℕ) (op : BinaryOperator) → operator kind ≡ Some (level, op) → (0 < level) × (level ≤ 9)
unfolding is_within
operator-within kind level op h = let q : is_within (Some (level, op)) ≡ true = ap is_within (sym h) ∙ all_within kind in (grind (arith, nat_tests), grind (arith, nat_tests))

pub continues-some : (level : ℕ) (kind : Kind) (found : ℕ) (op : BinaryOperator) → continues level kind ≡ Some (found, op) → (operator kind ≡ Some (found, op)) × (level ≤ found)
unfolding continues
continues-some level kind found op h = by (operator kind) h where
  by : (o : Option (ℕ × BinaryOperator)) → if_level level o ≡ Some (found, op) → (o ≡ Some (found, op)) × (level ≤ found)
  by None e = absurd (cc)
  by (Some p) e = elim (if-is (nat_lt p.0 level) None (Some p) (Some (found, op)) e) [
    | inl q ↦ absurd (let r = q.1 in cc)
    | inr q ↦ (let w = some-pair p.0 found p.1 op q.1 in (q.1, grind (arith, nat_tests)))
  ]

pub continues-stops : (level : ℕ) (at : Kind) (found : ℕ) (op : BinaryOperator) → continues level at ≡ None → operator at ≡ Some (found, op) → found < level
unfolding continues
continues-stops level at found op h o =
    let p : ℕ × BinaryOperator = (found, op) in
    elim (if-is (nat_lt found level) None (Some p) None (sym (ap (if_level level) o) ∙ h)) [ inl q ↦ grind (arith, nat_tests) | inr q ↦ absurd (let r = q.1 in cc) ]

-- nothing is tighter than the tightest level
pub continues-none : (level : ℕ) (kind : Kind) → 9 < level → continues level kind ≡ None
continues-none level kind h = by (continues level kind) refl where
  by : (o : Option (ℕ × BinaryOperator)) → continues level kind ≡ o → o ≡ None
  by None e = refl
  by (Some p) e = absurd (let q = continues-some level kind p.0 p.1 e in let w = operator-within kind p.0 p.1 q.0 in omega arith)

-- no operator is of level 0
whole_binary : (level : ℕ) (e : Expression Text) (ts rest : PlainTokens) → level ≡ 0 → IsBinary level e ts rest → IsBinary 1 e ts rest
whole_binary level e ts rest z (operand d) = absurd (omega arith)
whole_binary level e ts rest z (tighter d) = let q : suc level ≡ 1 = omega arith in subst (λ x. IsBinary x e ts rest) q d
whole_binary level e ts rest z (joined {op = op} {t = t} dl o dr) = absurd (let w = operator-within t.kind level op o in omega arith)

next_level : (level : ℕ) (e : Expression Text) (ts rest : PlainTokens) → IsAt (level + 1) e ts rest → IsBinary (suc level) e ts rest
next_level level e ts rest d = let q : level + 1 ≡ suc level = add-one level in subst (λ x. IsAt x e ts rest) q d

sound-select : (t : PlainToken) (e : Expression Text) (us rest : PlainTokens) → t.kind ≡ k.Name → sees k.OpenSquare us ≡ true → spec.parse_select t.text us ≡ Some (e, rest) → IsPrimary e (t ∷ us) rest
unfolding spec.parse_select
sound-select t e us rest p o h =
    and_then-cases (take us) _ _ h (λ u vs took h1.
    and_then-cases (expect k.Decimal vs) _ _ h1 (λ v ws is_index h2.
    and_then-cases (expect k.CloseSquare ws) _ _ h2 (λ w xs closed h3.
    let same = some-pair (tree.Select t.text v.value) e xs rest h3 in
    let is = take-some us u vs took in
    let q : u.kind ≡ k.OpenSquare = sym (ap kind is) ∙ same_kind-true _ _ o in
    let i = expect-some k.Decimal vs v ws is_index in
    let end = expect-some k.CloseSquare ws w xs closed in
    rw (is, i.0, end.0, sym same.0, sym same.1) (selected p q i.1 end.1))))

sound-named : (e : Expression Text) (ts rest : PlainTokens) → kind ts ≡ k.Name → spec.parse_name ts ≡ Some (e, rest) → IsPrimary e ts rest
unfolding spec.parse_name
sound-named e ts rest p h =
    and_then-cases (take ts) _ _ h (λ t us took h1.
    let is = take-some ts t us took in
    let q : t.kind ≡ k.Name = sym (ap kind is) ∙ p in
    elim (if-is (sees k.OpenSquare us) _ _ (Some (e, rest)) h1) [
      | inl r ↦ rw is (sound-select t e us rest q r.0 r.1)
      | inr r ↦ (let same = some-pair (tree.Register t.text) e us rest r.1 in rw (is, sym same.0, sym same.1) (named q))
    ])

sound-literal : (o : Option Vector) (t : PlainToken) (e : Expression Text) (us rest : PlainTokens) → t.bits ≡ o → t.kind ≡ k.Sized → literal_by o us ≡ Some (e, rest) → IsPrimary e (t ∷ us) rest
sound-literal None t e us rest is q h = absurd (cc)
sound-literal (Some d) t e us rest is q h = let same = some-pair (tree.Literal d) e us rest h in rw (sym same.0, sym same.1) (sized q is)

sound-sized : (e : Expression Text) (ts rest : PlainTokens) → kind ts ≡ k.Sized → spec.parse_literal ts ≡ Some (e, rest) → IsPrimary e ts rest
unfolding spec.parse_literal
sound-sized e ts rest p h =
    and_then-cases (take ts) _ _ h (λ t us took h1.
    let is = take-some ts t us took in
    let q : t.kind ≡ k.Sized = sym (ap kind is) ∙ p in
    rw is (sound-literal t.bits t e us rest refl q h1))

-- the parts behind the first, and the closing bracket
pub record IsPartsRest (first : Expression Text) (found all : List (Expression Text)) (ts rest : PlainTokens) : Type 0 where
  pub more : List (Expression Text)
  pub is_all : all ≡ found ++ more
  pub spells : IsParts (tree.Also first (source_expressions more)) ts rest

module _ (inner : ℕ → Parser (Expression Text))
    (sound : (level : ℕ) (e : Expression Text) (ts rest : PlainTokens) → level ≤ 10 → inner level ts ≡ Some (e, rest) → IsAt level e ts rest × (continues level (kind rest) ≡ None)) where
  sound-nested : (e : Expression Text) (ts rest : PlainTokens) → spec.parse_parenthesized inner ts ≡ Some (e, rest) → IsPrimary e ts rest
  unfolding spec.parse_parenthesized
  sound-nested e ts rest h =
      and_then-cases (expect k.Open ts) _ _ h (λ t us opened h1.
      and_then-cases (inner 0 us) _ _ h1 (λ a vs read h2.
      and_then-cases (expect k.Close vs) _ _ h2 (λ u ws closed h3.
      let same = some-pair a e ws rest h3 in
      let start = expect-some k.Open ts t us opened in
      let end = expect-some k.Close vs u ws closed in
      let d : IsExpression a us vs = (sound 0 a us vs (omega arith) read).0 in
      rw (start.0, sym same.0, sym same.1) (nested start.1 (rw end.0 at d) end.1))))

  sound-parts : (m : ℕ) (first : Expression Text) (found all : List (Expression Text)) (ts us rest : PlainTokens) → IsExpression first ts us → parse_list inner k.CloseCurly m found us ≡ Some (all, rest)
      → IsPartsRest first found all ts rest
  unfolding parse_list
  sound-parts zero first found all ts us rest d h = absurd (cc)
  sound-parts (suc m) first found all ts us rest d h = elim (if-is (sees k.Comma us) _ _ (Some (all, rest)) h) [
    | inl p ↦ and_then-cases (take us) _ _ p.1 (λ u vs took h1.
        and_then-cases (inner 0 vs) _ _ h1 (λ e ws read h2.
        let is = take-some us u vs took in
        let q : u.kind ≡ k.Comma = sym (ap kind is) ∙ same_kind-true _ _ p.0 in
        let next : IsExpression e vs ws = (sound 0 e vs ws (omega arith) read).0 in
        let r = sound-parts m e (found ++ e ∷ []) all vs ws rest next h2 in
        record { more = e ∷ r.more; is_all = r.is_all ∙ append_assoc found (e ∷ []) r.more; spells = next_part (rw is at d) q r.spells }))
    | inr p ↦ and_then-cases (expect k.CloseCurly us) _ _ p.1 (λ u vs ended h1.
        let end = expect-some k.CloseCurly us u vs ended in
        let same = some-pair found all vs rest h1 in
        rw (sym same.0, sym same.1) (record { more = []; is_all = sym (append-nil found); spells = last_part (rw end.0 at d) end.1 }))
  ]

  sound-concat : (budget : ℕ) (e : Expression Text) (ts rest : PlainTokens) → kind ts ≡ k.OpenCurly → spec.parse_concat inner budget ts ≡ Some (e, rest) → IsPrimary e ts rest
  unfolding spec.parse_concat
  sound-concat budget e ts rest o h =
      and_then-cases (take ts) _ _ h (λ t us took h1.
      and_then-cases (inner 0 us) _ _ h1 (λ a vs read h2.
      and_then-cases (parse_list inner k.CloseCurly budget [] vs) _ _ h2 (λ es ws others h3.
      let same = some-pair (tree.Concat (tree.Also a (source_expressions es))) e ws rest h3 in
      let is = take-some ts t us took in
      let q : t.kind ≡ k.OpenCurly = sym (ap kind is) ∙ o in
      let r = sound-parts budget a [] es us vs ws (sound 0 a us vs (omega arith) read).0 others in
      let d : IsParts (tree.Also a (source_expressions es)) us ws = rw r.is_all r.spells in
      rw (is, sym same.0, sym same.1) (concatenated q d))))

  sound-primary : (budget : ℕ) (e : Expression Text) (ts rest : PlainTokens) → parse_primary inner budget ts ≡ Some (e, rest) → IsPrimary e ts rest
  unfolding parse_primary
  sound-primary budget e ts rest h = by (kind ts) refl h where
    by : (at : Kind) → kind ts ≡ at → primary_by inner budget at ts ≡ Some (e, rest) → IsPrimary e ts rest
    by k.Name q h = sound-named e ts rest q h
    by k.Sized q h = sound-sized e ts rest q h
    by k.OpenCurly q h = sound-concat budget e ts rest q h
    by k.Open q h = sound-nested e ts rest h
    by _ q h = absurd (cc)

  sound-operand : (budget : ℕ) (e : Expression Text) (ts rest : PlainTokens) → spec.parse_operand inner budget ts ≡ Some (e, rest) → IsUnary e ts rest
  unfolding spec.parse_operand
  sound-operand budget e ts rest h = by (prefix (kind ts)) refl h where
    by : (o : Option UnaryOperator) → prefix (kind ts) ≡ o → unary_by inner budget o ts ≡ Some (e, rest) → IsUnary e ts rest
    by None is h = bare (sound-primary budget e ts rest h)
    by (Some op) found h =
        and_then-cases (take ts) _ _ h (λ t us took h1.
        and_then-cases (parse_primary inner budget us) _ _ h1 (λ a vs read h2.
        let same = some-pair (tree.Unary op a) e vs rest h2 in
        let is = take-some ts t us took in
        let q : prefix t.kind ≡ Some op = sym (ap (λ x. prefix (kind x)) is) ∙ found in
        rw (is, sym same.0, sym same.1) (prefixed q (sound-primary budget a us vs read))))

  -- One turn of the loop: what stands left is of level j, and no tighter operator comes next.
  sound-turn : (m level j : ℕ) (left e : Expression Text) (ts us rest : PlainTokens) → level ≤ j → IsBinary j left ts us → continues (j + 1) (kind us) ≡ None
      → ((s : ℕ) (more : Expression Text) (vs : PlainTokens) → level ≤ s → IsBinary s more ts vs → continues (s + 1) (kind vs) ≡ None
      → parse_operators inner m level more vs ≡ Some (e, rest) → IsBinary level e ts rest × (continues level (kind rest) ≡ None))
      → (o : Option (ℕ × BinaryOperator)) → continues level (kind us) ≡ o → operators_by inner (parse_operators inner m level) left o us ≡ Some (e, rest)
      → IsBinary level e ts rest × (continues level (kind rest) ≡ None)
  sound-turn m level j left e ts us rest w d stop again None none h =
      let same = some-pair left e us rest h in
      let d' : IsBinary level left ts us = looser level j left ts us w d in
      (rw (sym same.0, sym same.1) d', rw (sym same.1) none)
  sound-turn m level j left e ts us rest w d stop again (Some p) found h =
      and_then-cases (take us) _ _ h (λ t vs took h1.
      and_then-cases (inner (p.0 + 1) vs) _ _ h1 (λ r ws read h2.
      let c = continues-some level (kind us) p.0 p.1 found in
      let in_table = operator-within (kind us) p.0 p.1 c.0 in
      let below = continues-stops (j + 1) (kind us) p.0 p.1 stop c.0 in
      let is = take-some us t vs took in
      let s = sound (p.0 + 1) r vs ws (omega arith) read in
      let dl : IsBinary p.0 left ts us = looser p.0 j left ts us (omega arith) d in
      let q : operator t.kind ≡ Some (p.0, p.1) = sym (ap (λ x. operator (kind x)) is) ∙ c.0 in
      again p.0 (tree.Binary p.1 left r) ws c.1 (joined (rw is at dl) q (next_level p.0 r vs ws s.0)) s.1 h2))

  sound-climb : (m level j : ℕ) (left e : Expression Text) (ts us rest : PlainTokens) → level ≤ j → IsBinary j left ts us → continues (j + 1) (kind us) ≡ None
      → parse_operators inner m level left us ≡ Some (e, rest) → IsBinary level e ts rest × (continues level (kind rest) ≡ None)
  unfolding parse_operators
  sound-climb zero level j left e ts us rest w d stop h = absurd (cc)
  sound-climb (suc m) level j left e ts us rest w d stop h =
      sound-turn m level j left e ts us rest w d stop (λ s more vs. sound-climb m level s more e ts vs rest) (continues level (kind us)) refl h

  sound-chosen : (c e : Expression Text) (ts us rest : PlainTokens) → IsBinary 1 c ts us → sees k.Question us ≡ true → spec.parse_conditional inner c us ≡ Some (e, rest)
      → IsExpression e ts rest × (continues 0 (kind rest) ≡ None)
  unfolding spec.parse_conditional
  sound-chosen c e ts us rest d o h =
      and_then-cases (take us) _ _ h (λ t vs took h1.
      and_then-cases (inner 0 vs) _ _ h1 (λ a ws read h2.
      and_then-cases (expect k.Colon ws) _ _ h2 (λ u xs parted h3.
      and_then-cases (inner 0 xs) _ _ h3 (λ b ys read2 h4.
      let same = some-pair (tree.Conditional c a b) e ys rest h4 in
      let is = take-some us t vs took in
      let q : t.kind ≡ k.Question = sym (ap kind is) ∙ same_kind-true _ _ o in
      let colon = expect-some k.Colon ws u xs parted in
      let da = sound 0 a vs ws (omega arith) read in
      let db = sound 0 b xs ys (omega arith) read2 in
      (rw (sym same.0, sym same.1) (chosen (rw is at d) q (rw colon.0 at da.0) colon.1 db.0), rw (sym same.1) db.1)))))

  sound-whole : (budget level : ℕ) (e : Expression Text) (ts rest : PlainTokens) → level ≤ 10 → parse_level inner budget level ts ≡ Some (e, rest)
      → IsAt level e ts rest × (continues level (kind rest) ≡ None)
  unfolding parse_level
  sound-whole budget level e ts rest w h =
      and_then-cases (parse_and_then (spec.parse_operand inner budget ts) (parse_operators inner budget level)) _ _ h (λ left vs h1 h2.
      and_then-cases (spec.parse_operand inner budget ts) _ _ h1 (λ first us h3 h4.
      let d = sound-climb budget level 10 first left ts us vs w (operand (sound-operand budget first ts us h3)) (continues-none 11 (kind us) (omega arith)) h4 in
      at_level level left vs d h2)) where
        at_level : (level : ℕ) (left : Expression Text) (vs : PlainTokens) → IsBinary level left ts vs × (continues level (kind vs) ≡ None) → conditional_at inner level left vs ≡ Some (e, rest)
            → IsAt level e ts rest × (continues level (kind rest) ≡ None)
        at_level zero left vs d h2 =
            let dw : IsBinary 1 left ts vs = whole_binary 0 left ts vs refl d.0 in
            elim (if-is (sees k.Question vs) _ _ (Some (e, rest)) h2) [
              | inl p ↦ sound-chosen left e ts vs rest dw p.0 p.1
              | inr p ↦ (let same = some-pair left e vs rest p.1 in (rw (sym same.0, sym same.1) (plain dw), rw (sym same.1) d.1))
            ]
        at_level (suc level) left vs d h2 = let same = some-pair left e vs rest h2 in (rw (sym same.0, sym same.1) d.0, rw (sym same.1) d.1)

pub sound-expression : (budget level : ℕ) (e : Expression Text) (ts rest : PlainTokens) → level ≤ 10 → parse_expression budget level ts ≡ Some (e, rest)
    → IsAt level e ts rest × (continues level (kind rest) ≡ None)
sound-expression zero level e ts rest w h = absurd (cc)
sound-expression (suc budget) level e ts rest w h = sound-whole (parse_expression budget) (sound-expression budget) budget level e ts rest w h
