-- What the steps of a parser say: how each is taken apart where it succeeds, and what it computes.
use Rattle.std.proofs.Common.{◌≡◌, [], ◌∷◌, Bool, true, false, if◌then◌else◌, ◌⊎◌, inl, inr, Option, Some, None, refl, sym, ap, ◌∙◌, rules}
use denote.Enum.Bare.{same_true, true_same}
use Rattle.tokens.specs.declared.token.Kind.{Kind}
use Rattle.tokens.specs.contracts.token.Kind.{the_type}
use Rattle.grammar.specs.Cursor.{sees, ParseOutcome, parse_and_then, take, expect}
use Rattle.tokens.specs.Tokens.{PlainToken, PlainTokens, same_kind}

-- where two steps succeed, so does the first, and then the second
pub and_then-cases : {A B P : Type 0} (o : ParseOutcome A) (f : A → PlainTokens → ParseOutcome B) (x : B × PlainTokens) → parse_and_then o f ≡ Some x
    → ((a : A) (us : PlainTokens) → o ≡ Some (a, us) → f a us ≡ Some x → P) → P
and_then-cases None f x h go = absurd (cc)
and_then-cases (Some p) f x h go = go p.0 p.1 refl h

pub some-pair : {A B : Type 0} (a c : A) (b d : B) → ◌≡◌ {A = Option (A × B)} (Some (a, b)) (Some (c, d)) → (a ≡ c) × (b ≡ d)
some-pair {A} {B} a c b d h =
    let p : A × B = (a, b) in
    let q : A × B = (c, d) in
    let e : p ≡ q = cc in (ap (λ r. r.0) e, ap (λ r. r.1) e)

pub take-some : (ts : PlainTokens) (t : PlainToken) (us : PlainTokens) → take ts ≡ Some (t, us) → ts ≡ t ∷ us
take-some [] t us h = cc
take-some (x ∷ xs) t us h = let e = some-pair x t xs us h in cc

pub if-is : {A : Type 0} (b : Bool) (x y z : A) → (if b then x else y) ≡ z → ((b ≡ true) × (x ≡ z)) ⊎ ((b ≡ false) × (y ≡ z))
if-is true x y z h = inl (refl, h)
if-is false x y z h = inr (refl, h)

pub same_kind-true : (a b : Kind) → same_kind a b ≡ true → a ≡ b
unfolding same_kind
same_kind-true a b h = same_true the_type (search rules) a b h

pub same_kind-is : (a b : Kind) → a ≡ b → same_kind a b ≡ true
unfolding same_kind
same_kind-is a b h = true_same the_type a b h

pub expect-some : (k : Kind) (ts : PlainTokens) (t : PlainToken) (us : PlainTokens) → expect k ts ≡ Some (t, us) → (ts ≡ t ∷ us) × (t.kind ≡ k)
unfolding expect
expect-some k [] t us h = elim (if-is (sees k []) None None (Some (t, us)) h) [ inl p ↦ absurd (let q = p.1 in cc) | inr p ↦ absurd (let q = p.1 in cc) ]
expect-some k (x ∷ xs) t us h = elim (if-is (same_kind x.kind k) (Some (x, xs)) None (Some (t, us)) h) [
  | inl p ↦ (let e = some-pair x t xs us p.1 in let s = same_kind-true x.kind k p.0 in (let a = e.0 in let b = e.1 in cc, sym (ap (λ y. y.kind) e.0) ∙ s))
  | inr p ↦ absurd (let q = p.1 in cc)
]

pub expect-is : (k : Kind) (t : PlainToken) (us : PlainTokens) → t.kind ≡ k → expect k (t ∷ us) ≡ Some (t, us)
unfolding expect
expect-is k t us h = rw (same_kind-is t.kind k h)

-- a token of a kind that is seen is the next one
pub expect_seen : (k : Kind) (ts : PlainTokens) → sees k ts ≡ true → expect k ts ≡ take ts
unfolding expect
expect_seen k ts h = rw h
