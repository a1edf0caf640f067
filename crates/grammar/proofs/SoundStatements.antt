-- What the parsers of statements and modules read is spelled.
use Rattle.std.proofs.Common.{◌≡◌, ℕ, zero, suc, List, [], ◌∷◌, ◌++◌, Bool, true, inl, inr, Option, Some, None, refl, sym, ap, subst, ◌∙◌, append_assoc, append-nil, arith}
use Rattle.tokens.specs.declared.token.Kind.{Kind}
use Rattle.tokens.specs.declared.token.Kind.TheVariants as k
use Rattle.tokens.specs.Tokens.{PlainToken, PlainTokens}
use Rattle.tokens.specs.Lexing.{string_text}
use Rattle.model.specs.declared.tree.Task.{Task}
use Rattle.model.specs.declared.tree.Change.{Change}
use Rattle.model.specs.declared.tree.Change.TheVariants.{Any}
use Rattle.grammar.specs.Cursor.{kind, sees, done, take, expect}
use Rattle.model.specs.Syntax.{Text, Expression, SourceStatement, Declaration, SourceProcess, Module}
use Rattle.model.specs.SourceTrees.{source_expressions, source_statements}
use Rattle.grammar.specs.Nodes.{SourceTrigger}
use Rattle.model.specs.Syntax as tree
use Rattle.grammar.specs.Grammar.{IsExpression, IsDelay, no_delay, some_delay, change_of, IsTrigger, any, edge, separates, IsTriggers, last_trigger, next_trigger, IsArguments, no_argument, one_argument, IsStatement, emptied, grouped, assigned, assigned_later, delayed, awaited, branched, branched_else, looped, printed, task_kind, finished, IsBeginEnd, begun, IsStatements, no_more, one_more, IsRange, no_range, some_range, IsNames, last_name, next_name, repeats_of, IsItems, no_items, regs, proc, IsModule, spelled}
use Rattle.grammar.specs.Reading as spec
use Rattle.grammar.specs.Reading.{Parser, event_by, parse_events, parse_list, parse_statements, form_by, parse_statement, parse_names, item_by, parse_items, parse_source}
use Rattle.grammar.proofs.Steps.{and_then-cases, some-pair, take-some, expect-some, if-is, same_kind-true}
use Rattle.grammar.proofs.Sound.{sound-expression}

sound-delay : (d : Option ℕ) (ts rest : PlainTokens) → spec.parse_delay ts ≡ Some (d, rest) → IsDelay d ts rest
unfolding spec.parse_delay
sound-delay d ts rest h = elim (if-is (sees k.Hash ts) _ _ (Some (d, rest)) h) [
  | inl p ↦ and_then-cases (take ts) _ _ p.1 (λ t us took h1.
      and_then-cases (expect k.Decimal us) _ _ h1 (λ u vs number h2.
      let same = some-pair (Some u.value) d vs rest h2 in
      let is = take-some ts t us took in
      let q : t.kind ≡ k.Hash = sym (ap kind is) ∙ same_kind-true _ _ p.0 in
      let n = expect-some k.Decimal us u vs number in
      rw (is, n.0, sym same.0, sym same.1) (some_delay q n.1)))
  | inr p ↦ (let same = some-pair None d ts rest p.1 in rw (sym same.0, sym same.1) no_delay)
]

-- what stands right of the sign of an assignment
pub record IsValue (p : Option ℕ × Expression Text) (ts rest : PlainTokens) : Type 0 where
  pub between : PlainTokens
  pub end : PlainToken
  pub waits : IsDelay p.0 ts between
  pub spells : IsExpression p.1 between (end ∷ rest)
  pub ends : end.kind ≡ k.Semicolon

sound-value : (budget : ℕ) (p : Option ℕ × Expression Text) (ts rest : PlainTokens) → spec.parse_value budget ts ≡ Some (p, rest) → IsValue p ts rest
unfolding spec.parse_value
sound-value budget p ts rest h =
    and_then-cases (spec.parse_delay ts) _ _ h (λ d us waits h1.
    and_then-cases (spec.parse_expression budget 0 us) _ _ h1 (λ e vs read h2.
    and_then-cases (expect k.Semicolon vs) _ _ h2 (λ v ws ended h3.
    let made : Option ℕ × Expression Text = (d, e) in
    let same = some-pair made p ws rest h3 in
    let end = expect-some k.Semicolon vs v ws ended in
    let x : IsExpression e us vs = (sound-expression budget 0 e us vs (omega arith) read).0 in
    rw (sym same.0, sym same.1) (record { between = us; end = v; waits = sound-delay d ts us waits; spells = rw end.0 at x; ends = end.1 }))))

sound-assign : (budget : ℕ) (s : SourceStatement) (ts rest : PlainTokens) → kind ts ≡ k.Name → spec.parse_assign budget ts ≡ Some (s, rest) → IsStatement s ts rest
unfolding spec.parse_assign
sound-assign budget s ts rest q h =
    and_then-cases (take ts) _ _ h (λ t us took h1.
    let is = take-some ts t us took in
    let p : t.kind ≡ k.Name = sym (ap kind is) ∙ q in
    elim (if-is (sees k.AtMost us) _ _ (Some (s, rest)) h1) [
      | inl c ↦ and_then-cases (take us) _ _ c.1 (λ u vs took2 h2.
          and_then-cases (spec.parse_value budget vs) _ _ h2 (λ x ws read h3.
          let same = some-pair (tree.AssignLater t.text x.0 x.1) s ws rest h3 in
          let at = take-some us u vs took2 in
          let sign : u.kind ≡ k.AtMost = sym (ap kind at) ∙ same_kind-true _ _ c.0 in
          let d = sound-value budget x vs ws read in
          rw (is, at, sym same.0, sym same.1) (assigned_later p sign d.waits d.spells d.ends)))
      | inr c ↦ and_then-cases (expect k.Assign us) _ _ c.1 (λ u vs signed h2.
          and_then-cases (spec.parse_value budget vs) _ _ h2 (λ x ws read h3.
          let same = some-pair (tree.Assign t.text x.0 x.1) s ws rest h3 in
          let sign = expect-some k.Assign us u vs signed in
          let d = sound-value budget x vs ws read in
          rw (is, sign.0, sym same.0, sym same.1) (assigned p sign.1 d.waits d.spells d.ends)))
    ])

sound-trigger : (e : SourceTrigger) (ts rest : PlainTokens) → spec.parse_event ts ≡ Some (e, rest) → IsTrigger e ts rest
unfolding spec.parse_event
sound-trigger e ts rest h = by (change_of (kind ts)) refl h where
  by : (o : Option Change) → change_of (kind ts) ≡ o → event_by o ts ≡ Some (e, rest) → IsTrigger e ts rest
  by None q h =
      and_then-cases (expect k.Name ts) _ _ h (λ t us named h1.
      let made : SourceTrigger = (Any, t.text) in
      let same = some-pair made e us rest h1 in
      let n = expect-some k.Name ts t us named in
      rw (n.0, sym same.0, sym same.1) (any n.1))
  by (Some c) q h =
      and_then-cases (take ts) _ _ h (λ t us took h1.
      and_then-cases (expect k.Name us) _ _ h1 (λ u vs named h2.
      let made : SourceTrigger = (c, u.text) in
      let same = some-pair made e vs rest h2 in
      let is = take-some ts t us took in
      let p : change_of t.kind ≡ Some c = sym (ap (λ x. change_of (kind x)) is) ∙ q in
      let n = expect-some k.Name us u vs named in
      rw (is, n.0, sym same.0, sym same.1) (edge p n.1)))

pub record IsTriggersRest (found all : List SourceTrigger) (ts rest : PlainTokens) : Type 0 where
  pub more : List SourceTrigger
  pub is_all : all ≡ found ++ more
  pub spells : IsTriggers more ts rest

sound-triggers : (m : ℕ) (found all : List SourceTrigger) (ts rest : PlainTokens) → parse_events m found ts ≡ Some (all, rest) → IsTriggersRest found all ts rest
unfolding parse_events
sound-triggers zero found all ts rest h = absurd (cc)
sound-triggers (suc m) found all ts rest h =
    and_then-cases (spec.parse_event ts) _ _ h (λ e us read h1.
    let d = sound-trigger e ts us read in
    elim (if-is (separates (kind us)) _ _ (Some (all, rest)) h1) [
      | inl p ↦ and_then-cases (take us) _ _ p.1 (λ u vs took h2.
          let is = take-some us u vs took in
          let q : separates u.kind ≡ true = sym (ap (λ x. separates (kind x)) is) ∙ p.0 in
          let r = sound-triggers m (found ++ e ∷ []) all vs rest h2 in
          record { more = e ∷ r.more; is_all = r.is_all ∙ append_assoc found (e ∷ []) r.more; spells = next_trigger (rw is at d) q r.spells })
      | inr p ↦ and_then-cases (expect k.Close us) _ _ p.1 (λ u vs ended h2.
          let end = expect-some k.Close us u vs ended in
          let same = some-pair (found ++ e ∷ []) all vs rest h2 in
          rw (sym same.1) (record { more = e ∷ []; is_all = sym same.0; spells = last_trigger (rw end.0 at d) end.1 }))
    ])

pub record IsArgumentsRest (found all : List (Expression Text)) (ts rest : PlainTokens) : Type 0 where
  pub more : List (Expression Text)
  pub is_all : all ≡ found ++ more
  pub spells : IsArguments (source_expressions more) ts rest

sound-arguments : (budget m : ℕ) (found all : List (Expression Text)) (ts rest : PlainTokens) → parse_list (spec.parse_expression budget) k.Close m found ts ≡ Some (all, rest) → IsArgumentsRest found all ts rest
unfolding parse_list
sound-arguments budget zero found all ts rest h = absurd (cc)
sound-arguments budget (suc m) found all ts rest h = elim (if-is (sees k.Comma ts) _ _ (Some (all, rest)) h) [
  | inl p ↦ and_then-cases (take ts) _ _ p.1 (λ t us took h1.
      and_then-cases (spec.parse_expression budget 0 us) _ _ h1 (λ e vs read h2.
      let is = take-some ts t us took in
      let q : t.kind ≡ k.Comma = sym (ap kind is) ∙ same_kind-true _ _ p.0 in
      let d : IsExpression e us vs = (sound-expression budget 0 e us vs (omega arith) read).0 in
      let r = sound-arguments budget m (found ++ e ∷ []) all vs rest h2 in
      rw is (record { more = e ∷ r.more; is_all = r.is_all ∙ append_assoc found (e ∷ []) r.more; spells = one_argument q d r.spells })))
  | inr p ↦ and_then-cases (expect k.Close ts) _ _ p.1 (λ t us ended h1.
      let end = expect-some k.Close ts t us ended in
      let same = some-pair found all us rest h1 in
      rw (end.0, sym same.0, sym same.1) (record { more = []; is_all = sym (append-nil found); spells = no_argument end.1 }))
]

sound-print : (task : Task) (budget : ℕ) (s : SourceStatement) (ts rest : PlainTokens) → task_kind task ≡ Some (kind ts) → spec.parse_print task budget ts ≡ Some (s, rest) → IsStatement s ts rest
unfolding spec.parse_print
sound-print task budget s ts rest q h =
    and_then-cases (take ts) _ _ h (λ t us took h1.
    and_then-cases (expect k.Open us) _ _ h1 (λ u vs opened h2.
    and_then-cases (expect k.Text vs) _ _ h2 (λ v ws format h3.
    and_then-cases (parse_list (spec.parse_expression budget) k.Close budget [] ws) _ _ h3 (λ es xs read h4.
    and_then-cases (expect k.Semicolon xs) _ _ h4 (λ x ys ended h5.
    let same = some-pair (tree.Print task (string_text v.text) (source_expressions es)) s ys rest h5 in
    let is = take-some ts t us took in
    let p : task_kind task ≡ Some t.kind = q ∙ ap (λ x. Some (kind x)) is in
    let start = expect-some k.Open us u vs opened in
    let f = expect-some k.Text vs v ws format in
    let end = expect-some k.Semicolon xs x ys ended in
    let r = sound-arguments budget budget [] es ws xs read in
    let d : IsArguments (source_expressions es) ws xs = rw r.is_all r.spells in
    rw (is, start.0, f.0, sym same.0, sym same.1) (printed p start.1 f.1 (rw end.0 at d) end.1))))))

sound-finish : (s : SourceStatement) (ts rest : PlainTokens) → kind ts ≡ k.Finish → spec.parse_finish ts ≡ Some (s, rest) → IsStatement s ts rest
unfolding spec.parse_finish
sound-finish s ts rest q h =
    and_then-cases (take ts) _ _ h (λ t us took h1.
    and_then-cases (expect k.Semicolon us) _ _ h1 (λ u vs ended h2.
    let same = some-pair tree.Finish s vs rest h2 in
    let is = take-some ts t us took in
    let p : t.kind ≡ k.Finish = sym (ap kind is) ∙ q in
    let end = expect-some k.Semicolon us u vs ended in
    rw (is, end.0, sym same.0, sym same.1) (finished p end.1)))

-- an expression in parentheses
pub record IsCondition (e : Expression Text) (ts rest : PlainTokens) : Type 0 where
  pub start : PlainToken
  pub close : PlainToken
  pub inside : PlainTokens
  pub is_start : ts ≡ start ∷ inside
  pub opens : start.kind ≡ k.Open
  pub spells : IsExpression e inside (close ∷ rest)
  pub closes : close.kind ≡ k.Close

sound-condition : (budget : ℕ) (e : Expression Text) (ts rest : PlainTokens) → spec.parse_parenthesized (spec.parse_expression budget) ts ≡ Some (e, rest) → IsCondition e ts rest
unfolding spec.parse_parenthesized
sound-condition budget e ts rest h =
    and_then-cases (expect k.Open ts) _ _ h (λ t us opened h1.
    and_then-cases (spec.parse_expression budget 0 us) _ _ h1 (λ a vs read h2.
    and_then-cases (expect k.Close vs) _ _ h2 (λ u ws closed h3.
    let same = some-pair a e ws rest h3 in
    let start = expect-some k.Open ts t us opened in
    let end = expect-some k.Close vs u ws closed in
    let d : IsExpression a us vs = (sound-expression budget 0 a us vs (omega arith) read).0 in
    rw (sym same.0, sym same.1) (record { start = t; close = u; inside = us; is_start = start.0; opens = start.1; spells = rw end.0 at d; closes = end.1 }))))

-- an expression in parentheses and a block, behind a word
pub record IsGuarded (p : Expression Text × List SourceStatement) (ts rest : PlainTokens) : Type 0 where
  pub word : PlainToken
  pub inside : PlainTokens
  pub between : PlainTokens
  pub is_word : ts ≡ word ∷ inside
  pub test : IsCondition p.0 inside between
  pub block : IsBeginEnd (source_statements p.1) between rest

-- statements, and the end of the block
pub record IsRest (found all : List SourceStatement) (ts rest : PlainTokens) : Type 0 where
  pub more : List SourceStatement
  pub is_all : all ≡ found ++ more
  pub end : PlainToken
  pub spells : IsStatements (source_statements more) ts (end ∷ rest)
  pub ends : end.kind ≡ k.EndBlock

module _ (inner : Parser SourceStatement) (sound : (s : SourceStatement) (ts rest : PlainTokens) → inner ts ≡ Some (s, rest) → IsStatement s ts rest) where
  sound-statements : (m : ℕ) (found all : List SourceStatement) (ts rest : PlainTokens) → parse_statements inner m found ts ≡ Some (all, rest) → IsRest found all ts rest
  unfolding parse_statements
  sound-statements zero found all ts rest h = absurd (cc)
  sound-statements (suc m) found all ts rest h = elim (if-is (sees k.EndBlock ts) _ _ (Some (all, rest)) h) [
    | inl p ↦ and_then-cases (take ts) _ _ p.1 (λ t us took h1.
        let same = some-pair found all us rest h1 in
        let is = take-some ts t us took in
        let q : t.kind ≡ k.EndBlock = sym (ap kind is) ∙ same_kind-true _ _ p.0 in
        rw (is, sym same.0, sym same.1) (record { more = []; is_all = sym (append-nil found); end = t; spells = no_more; ends = q }))
    | inr p ↦ and_then-cases (inner ts) _ _ p.1 (λ s us read h1.
        let d = sound s ts us read in
        let r = sound-statements m (found ++ s ∷ []) all us rest h1 in
        record { more = s ∷ r.more; is_all = r.is_all ∙ append_assoc found (s ∷ []) r.more; end = r.end; spells = one_more d r.spells; ends = r.ends })
  ]

  sound-block : (budget : ℕ) (body : List SourceStatement) (ts rest : PlainTokens) → spec.parse_block inner budget ts ≡ Some (body, rest) → IsBeginEnd (source_statements body) ts rest
  unfolding spec.parse_block
  sound-block budget body ts rest h =
      and_then-cases (expect k.Begin ts) _ _ h (λ t us begun_by h1.
      let start = expect-some k.Begin ts t us begun_by in
      let r = sound-statements budget [] body us rest h1 in
      rw (start.0, r.is_all) (begun start.1 r.spells r.ends))

  sound-guarded : (budget : ℕ) (p : Expression Text × List SourceStatement) (ts rest : PlainTokens) → spec.parse_guarded inner budget ts ≡ Some (p, rest) → IsGuarded p ts rest
  unfolding spec.parse_guarded
  sound-guarded budget p ts rest h =
      and_then-cases (take ts) _ _ h (λ t us took h1.
      and_then-cases (spec.parse_parenthesized (spec.parse_expression budget) us) _ _ h1 (λ e vs read h2.
      and_then-cases (spec.parse_block inner budget vs) _ _ h2 (λ body ws read_body h3.
      let made : Expression Text × List SourceStatement = (e, body) in
      let same = some-pair made p ws rest h3 in
      let is = take-some ts t us took in
      let c = sound-condition budget e us vs read in
      let b = sound-block budget body vs ws read_body in
      rw (sym same.0, sym same.1) (record { word = t; inside = us; between = vs; is_word = is; test = c; block = b }))))

  sound-branch : (budget : ℕ) (s : SourceStatement) (ts rest : PlainTokens) → kind ts ≡ k.If → spec.parse_if inner budget ts ≡ Some (s, rest) → IsStatement s ts rest
  unfolding spec.parse_if spec.parse_else
  sound-branch budget s ts rest q h =
      and_then-cases (spec.parse_guarded inner budget ts) _ _ h (λ p ws read h1.
      let g = sound-guarded budget p ts ws read in
      let c = g.test in
      let word : g.word.kind ≡ k.If = sym (ap kind g.is_word) ∙ q in
      elim (if-is (sees k.Else ws) _ _ (Some (s, rest)) h1) [
        | inl e1 ↦ and_then-cases (take ws) _ _ e1.1 (λ w xs took_else h2.
            and_then-cases (spec.parse_block inner budget xs) _ _ h2 (λ other ys read_other h3.
            let same = some-pair (tree.IfElse p.0 (source_statements p.1) (source_statements other)) s ys rest h3 in
            let at = take-some ws w xs took_else in
            let o = sound-block budget other xs ys read_other in
            let q_else : w.kind ≡ k.Else = sym (ap kind at) ∙ same_kind-true _ _ e1.0 in
            rw (g.is_word, c.is_start, sym same.0, sym same.1) (branched_else word c.opens c.spells c.closes (subst (λ x. IsBeginEnd (source_statements p.1) g.between x) at g.block) q_else o)))
        | inr e1 ↦ (
            let same = some-pair (tree.If p.0 (source_statements p.1)) s ws rest e1.1 in
            rw (g.is_word, c.is_start, sym same.0, sym same.1) (branched word c.opens c.spells c.closes g.block))
      ])

  sound-loop : (budget : ℕ) (s : SourceStatement) (ts rest : PlainTokens) → kind ts ≡ k.While → spec.parse_while inner budget ts ≡ Some (s, rest) → IsStatement s ts rest
  unfolding spec.parse_while
  sound-loop budget s ts rest q h =
      and_then-cases (spec.parse_guarded inner budget ts) _ _ h (λ p ws read h1.
      let g = sound-guarded budget p ts ws read in
      let c = g.test in
      let word : g.word.kind ≡ k.While = sym (ap kind g.is_word) ∙ q in
      let same = some-pair (tree.While p.0 (source_statements p.1)) s ws rest h1 in
      rw (g.is_word, c.is_start, sym same.0, sym same.1) (looped word c.opens c.spells c.closes g.block))

  sound-delayed : (s : SourceStatement) (ts rest : PlainTokens) → kind ts ≡ k.Hash → spec.parse_delayed inner ts ≡ Some (s, rest) → IsStatement s ts rest
  unfolding spec.parse_delayed
  sound-delayed s ts rest q h =
      and_then-cases (take ts) _ _ h (λ t us took h1.
      and_then-cases (expect k.Decimal us) _ _ h1 (λ u vs number h2.
      and_then-cases (inner vs) _ _ h2 (λ x ws read h3.
      let same = some-pair (tree.Delay u.value x) s ws rest h3 in
      let is = take-some ts t us took in
      let p : t.kind ≡ k.Hash = sym (ap kind is) ∙ q in
      let n = expect-some k.Decimal us u vs number in
      let d = sound x vs ws read in
      rw (is, n.0, sym same.0, sym same.1) (delayed p n.1 d))))

  sound-awaited : (budget : ℕ) (s : SourceStatement) (ts rest : PlainTokens) → kind ts ≡ k.At → spec.parse_awaited inner budget ts ≡ Some (s, rest) → IsStatement s ts rest
  unfolding spec.parse_awaited spec.parse_event_control
  sound-awaited budget s ts rest q h =
      and_then-cases (spec.parse_event_control budget ts) _ _ h (λ es vs read h1.
      and_then-cases (inner vs) _ _ h1 (λ x ws read_body h2.
      and_then-cases (take ts) _ _ read (λ t us took h3.
      and_then-cases (expect k.Open us) _ _ h3 (λ u xs opened h4.
      let same = some-pair (tree.Await es x) s ws rest h2 in
      let is = take-some ts t us took in
      let p : t.kind ≡ k.At = sym (ap kind is) ∙ q in
      let start = expect-some k.Open us u xs opened in
      let r = sound-triggers budget [] es xs vs h4 in
      let d : IsTriggers es xs vs = rw r.is_all r.spells in
      let b = sound x vs ws read_body in
      rw (is, start.0, sym same.0, sym same.1) (awaited p start.1 d b)))))

  sound-form : (budget : ℕ) (s : SourceStatement) (ts rest : PlainTokens) → spec.parse_form inner budget ts ≡ Some (s, rest) → IsStatement s ts rest
  unfolding spec.parse_form
  sound-form budget s ts rest h = by (kind ts) refl h where
    by : (at : Kind) → kind ts ≡ at → form_by inner budget at ts ≡ Some (s, rest) → IsStatement s ts rest
    by k.Semicolon q h =
        and_then-cases (take ts) _ _ h (λ t us took h1.
        let same = some-pair tree.Empty s us rest h1 in
        let is = take-some ts t us took in
        let p : t.kind ≡ k.Semicolon = sym (ap kind is) ∙ q in
        rw (is, sym same.0, sym same.1) (emptied p))
    by k.Begin q h =
        and_then-cases (spec.parse_block inner budget ts) _ _ h (λ body us read h1.
        let same = some-pair (tree.Block (source_statements body)) s us rest h1 in
        let b = sound-block budget body ts us read in
        rw (sym same.0, sym same.1) (grouped b))
    by k.Name q h = sound-assign budget s ts rest q h
    by k.If q h = sound-branch budget s ts rest q h
    by k.While q h = sound-loop budget s ts rest q h
    by k.Hash q h = sound-delayed s ts rest q h
    by k.At q h = sound-awaited budget s ts rest q h
    by k.Display q h = sound-print Task.Display budget s ts rest (ap (λ x. Some x) (sym q)) h
    by k.Strobe q h = sound-print Task.Strobe budget s ts rest (ap (λ x. Some x) (sym q)) h
    by k.Finish q h = sound-finish s ts rest q h
    by _ q h = absurd (cc)

pub sound-statement : (budget : ℕ) (s : SourceStatement) (ts rest : PlainTokens) → parse_statement budget ts ≡ Some (s, rest) → IsStatement s ts rest
sound-statement zero s ts rest h = absurd (cc)
sound-statement (suc budget) s ts rest h = sound-form (parse_statement budget) (sound-statement budget) budget s ts rest h

-- ---- modules

pub record IsNamed (found all : List Text) (ts rest : PlainTokens) : Type 0 where
  pub more : List Text
  pub is_all : all ≡ found ++ more
  pub spells : IsNames more ts rest

sound-names : (m : ℕ) (found all : List Text) (ts rest : PlainTokens) → parse_names m found ts ≡ Some (all, rest) → IsNamed found all ts rest
unfolding parse_names
sound-names zero found all ts rest h = absurd (cc)
sound-names (suc m) found all ts rest h =
    and_then-cases (expect k.Name ts) _ _ h (λ t us named h1.
    let start = expect-some k.Name ts t us named in
    elim (if-is (sees k.Comma us) _ _ (Some (all, rest)) h1) [
      | inl p ↦ and_then-cases (take us) _ _ p.1 (λ u vs took h2.
          let is = take-some us u vs took in
          let q : u.kind ≡ k.Comma = sym (ap kind is) ∙ same_kind-true _ _ p.0 in
          let r = sound-names m (found ++ t.text ∷ []) all vs rest h2 in
          rw (start.0, is) (record { more = t.text ∷ r.more; is_all = r.is_all ∙ append_assoc found (t.text ∷ []) r.more; spells = next_name start.1 q r.spells }))
      | inr p ↦ and_then-cases (expect k.Semicolon us) _ _ p.1 (λ u vs ended h2.
          let end = expect-some k.Semicolon us u vs ended in
          let same = some-pair (found ++ t.text ∷ []) all vs rest h2 in
          rw (start.0, end.0, sym same.1) (record { more = t.text ∷ []; is_all = sym same.0; spells = last_name start.1 end.1 }))
    ])

sound-range : (r : Option (ℕ × ℕ)) (ts rest : PlainTokens) → spec.parse_range ts ≡ Some (r, rest) → IsRange r ts rest
unfolding spec.parse_range spec.parse_bounds
sound-range r ts rest h = elim (if-is (sees k.OpenSquare ts) _ _ (Some (r, rest)) h) [
  | inl p ↦ and_then-cases (spec.parse_bounds ts) _ _ p.1 (λ b ys read h1.
      and_then-cases (take ts) _ _ read (λ t us took h2.
      and_then-cases (expect k.Decimal us) _ _ h2 (λ u vs first h3.
      and_then-cases (expect k.Colon vs) _ _ h3 (λ v ws colon h4.
      and_then-cases (expect k.Decimal ws) _ _ h4 (λ w xs last h5.
      and_then-cases (expect k.CloseSquare xs) _ _ h5 (λ x zs closed h6.
      let same = some-pair (Some b) r ys rest h1 in
      let pair : ℕ × ℕ = (u.value, w.value) in
      let made = some-pair pair b zs ys h6 in
      let is = take-some ts t us took in
      let q : t.kind ≡ k.OpenSquare = sym (ap kind is) ∙ same_kind-true _ _ p.0 in
      let c1 = expect-some k.Decimal us u vs first in
      let c2 = expect-some k.Colon vs v ws colon in
      let c3 = expect-some k.Decimal ws w xs last in
      let c4 = expect-some k.CloseSquare xs x zs closed in
      rw (is, c1.0, c2.0, c3.0, c4.0, sym same.0, sym same.1, sym made.0, sym made.1) (some_range q c1.1 c2.1 c3.1 c4.1)))))))
  | inr p ↦ (let same = some-pair None r ts rest p.1 in rw (sym same.0, sym same.1) no_range)
]

-- a declaration, before further items
sound-declaration : (budget : ℕ) (d : Declaration) (ds : List Declaration) (ps : List SourceProcess) (ts us rest : PlainTokens) → sees k.Reg ts ≡ true → spec.parse_declaration budget ts ≡ Some (d, us) → IsItems ds ps us rest
    → IsItems (d ∷ ds) ps ts rest
unfolding spec.parse_declaration
sound-declaration budget d ds ps ts us rest o h more =
    and_then-cases (take ts) _ _ h (λ t vs took h1.
    and_then-cases (spec.parse_range vs) _ _ h1 (λ r ws read h2.
    and_then-cases (parse_names budget [] ws) _ _ h2 (λ ns xs read_names h3.
    let made : Declaration = record { range = r; names = ns } in
    let same = some-pair made d xs us h3 in
    let is = take-some ts t vs took in
    let q : t.kind ≡ k.Reg = sym (ap kind is) ∙ same_kind-true _ _ o in
    let n = sound-names budget [] ns ws xs read_names in
    let names : IsNames ns ws us = rw (sym same.1, n.is_all) n.spells in
    rw (is, sym same.0) (regs q (sound-range r vs ws read) names more))))

sound-process : (budget : ℕ) (b : Bool) (p : SourceProcess) (ds : List Declaration) (ps : List SourceProcess) (ts us rest : PlainTokens) → repeats_of (kind ts) ≡ Some b → spec.parse_process budget b ts ≡ Some (p, us)
    → IsItems ds ps us rest → IsItems ds (p ∷ ps) ts rest
unfolding spec.parse_process
sound-process budget b p ds ps ts us rest o h more =
    and_then-cases (take ts) _ _ h (λ t vs took h1.
    and_then-cases (parse_statement budget vs) _ _ h1 (λ s ws read h2.
    let made : SourceProcess = record { repeats = b; body = s } in
    let same = some-pair made p ws us h2 in
    let is = take-some ts t vs took in
    let q : repeats_of t.kind ≡ Some b = sym (ap (λ x. repeats_of (kind x)) is) ∙ o in
    let d : IsStatement s vs us = rw (sym same.1) (sound-statement budget s vs ws read) in
    rw (is, sym same.0) (proc q d more)))

same_module : (a b : Text) (c d : List Declaration) (e f : List SourceProcess) → a ≡ b → c ≡ d → e ≡ f
    → ◌≡◌ {A = Module} (record { name = a; declarations = c; processes = e }) (record { name = b; declarations = d; processes = f })
same_module a b c d e f p q r = rw (p, q, r)

-- items, and the end of the module
pub record IsModuleRest (m all : Module) (ts rest : PlainTokens) : Type 0 where
  pub declarations : List Declaration
  pub processes : List SourceProcess
  pub is_all : all ≡ record { name = m.name; declarations = m.declarations ++ declarations; processes = m.processes ++ processes }
  pub end : PlainToken
  pub spells : IsItems declarations processes ts (end ∷ rest)
  pub ends : end.kind ≡ k.EndModule

-- an item, before further items
sound-item : (budget : ℕ) (m n all : Module) (ts us rest : PlainTokens) → spec.parse_item budget m ts ≡ Some (n, us) → IsModuleRest n all us rest → IsModuleRest m all ts rest
unfolding spec.parse_item
sound-item budget m n all ts us rest h r = by (repeats_of (kind ts)) refl h where
  by : (o : Option Bool) → repeats_of (kind ts) ≡ o → item_by budget m o ts ≡ Some (n, us) → IsModuleRest m all ts rest
  by None q h = elim (if-is (sees k.Reg ts) _ _ (Some (n, us)) h) [
    | inl p ↦ and_then-cases (spec.parse_declaration budget ts) _ _ p.1 (λ d ws read h2.
        let same = some-pair (record m { declarations = m.declarations ++ d ∷ [] }) n ws us h2 in
        let name_is : n.name ≡ m.name = sym (ap (λ x. x.name) same.0) in
        let regs_is : n.declarations ++ r.declarations ≡ m.declarations ++ (d ∷ r.declarations) = ap (λ x. x ++ r.declarations) (sym (ap (λ x. x.declarations) same.0)) ∙ append_assoc m.declarations (d ∷ []) r.declarations in
        let procs_is : n.processes ++ r.processes ≡ m.processes ++ r.processes = ap (λ x. x.processes ++ r.processes) (sym same.0) in
        record {
          declarations = d ∷ r.declarations;
          processes = r.processes;
          is_all = r.is_all ∙ same_module _ _ _ _ _ _ name_is regs_is procs_is;
          end = r.end;
          spells = sound-declaration budget d r.declarations r.processes ts us (r.end ∷ rest) p.0 (rw same.1 at read) r.spells;
          ends = r.ends;
        })
    | inr p ↦ absurd (let e = p.1 in cc)
  ]
  by (Some b) q h =
      and_then-cases (spec.parse_process budget b ts) _ _ h (λ p ws read h2.
      let same = some-pair (record m { processes = m.processes ++ p ∷ [] }) n ws us h2 in
      let name_is : n.name ≡ m.name = sym (ap (λ x. x.name) same.0) in
      let regs_is : n.declarations ++ r.declarations ≡ m.declarations ++ r.declarations = ap (λ x. x.declarations ++ r.declarations) (sym same.0) in
      let procs_is : n.processes ++ r.processes ≡ m.processes ++ (p ∷ r.processes) = ap (λ x. x ++ r.processes) (sym (ap (λ x. x.processes) same.0)) ∙ append_assoc m.processes (p ∷ []) r.processes in
      record {
        declarations = r.declarations;
        processes = p ∷ r.processes;
        is_all = r.is_all ∙ same_module _ _ _ _ _ _ name_is regs_is procs_is;
        end = r.end;
        spells = sound-process budget b p r.declarations r.processes ts us (r.end ∷ rest) q (rw same.1 at read) r.spells;
        ends = r.ends;
      })

sound-items : (budget n : ℕ) (m all : Module) (ts rest : PlainTokens) → parse_items budget n m ts ≡ Some (all, rest) → IsModuleRest m all ts rest
unfolding parse_items
sound-items budget zero m all ts rest h = absurd (cc)
sound-items budget (suc n) m all ts rest h = elim (if-is (sees k.EndModule ts) _ _ (Some (all, rest)) h) [
  | inl p ↦ and_then-cases (take ts) _ _ p.1 (λ t us took h1.
      let same = some-pair m all us rest h1 in
      let is = take-some ts t us took in
      let q : t.kind ≡ k.EndModule = sym (ap kind is) ∙ same_kind-true _ _ p.0 in
      let one : all ≡ record { name = m.name; declarations = m.declarations ++ []; processes = m.processes ++ [] } = sym same.0 ∙ rw (append-nil m.declarations, append-nil m.processes) in
      rw (is, sym same.1) (record { declarations = []; processes = []; is_all = one; end = t; spells = no_items; ends = q }))
  | inr p ↦ and_then-cases (spec.parse_item budget m ts) _ _ p.1 (λ found us read h1. sound-item budget m found all ts us rest read (sound-items budget n found all us rest h1))
]

no_tokens : (ts : PlainTokens) → done ts ≡ true → ts ≡ []
no_tokens [] h = refl
no_tokens (t ∷ ts) h = absurd (cc)

pub sound-source : (budget : ℕ) (m : Module) (ts rest : PlainTokens) → parse_source budget ts ≡ Some (m, rest) → IsModule m ts
unfolding parse_source
sound-source budget m ts rest h =
    and_then-cases (expect k.Module ts) _ _ h (λ t us h_module h1.
    and_then-cases (expect k.Name us) _ _ h1 (λ u vs h_name h2.
    and_then-cases (expect k.Semicolon vs) _ _ h2 (λ v ws h_semicolon h3.
    let begun : Module = record { name = u.text; declarations = []; processes = [] } in
    and_then-cases (parse_items budget budget begun ws) _ _ h3 (λ all xs read h4.
    elim (if-is (done xs) _ _ (Some (m, rest)) h4) [
      | inl p ↦ (
          let same = some-pair all m xs rest p.1 in
          let a = expect-some k.Module ts t us h_module in
          let b = expect-some k.Name us u vs h_name in
          let c = expect-some k.Semicolon vs v ws h_semicolon in
          let end : xs ≡ [] = no_tokens xs p.0 in
          let r = sound-items budget budget begun all ws [] (rw end at read) in
          let whole : m ≡ record { name = u.text; declarations = r.declarations; processes = r.processes } = sym same.0 ∙ r.is_all in
          rw (a.0, b.0, c.0, whole) (spelled a.1 b.1 c.1 r.spells r.ends))
      | inr p ↦ absurd (let q = p.1 in cc)
    ]))))
