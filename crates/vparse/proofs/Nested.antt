-- The token at which the tokens nest too deep first, by how many are left there.
use Rattle.std.proofs.Common.{◌≡◌, ℕ, zero, suc, ◌+◌, ◌<◌, ◌≤◌, [], ◌∷◌, length, take, true, false, ◌||◌, nat_lt, inl, inr, Option, Some, Err, sym, refl, ap, ◌∙◌, arith}
use Rattle.tokens.specs.Tokens.{PlainTokens}
use Rattle.grammar.specs.declared.fault.GrammarFault.{GrammarFault}
use Rattle.grammar.specs.declared.fault.GrammarFault.TheVariants.{Syntax, Unsized, Deep, Memory}
use Rattle.grammar.specs.Cursor.{Reads}
use Rattle.vparse.specs.Nesting.{limit, open_after, signs_after, passes, deep_left, IsDeepAt}
use Rattle.model.specs.SourceTrees.{module_of}
use Rattle.grammar.specs.Reading.{parse_source}
use Rattle.grammar.proofs.Steps.{if-is}

some_is : (a b : ℕ) → ◌≡◌ {A = Option ℕ} (Some a) (Some b) → a ≡ b
some_is a b h = cc

within : (height signs left : ℕ) (ts : PlainTokens) → deep_left height signs ts ≡ Some left → (0 < left) × (left ≤ length ts)
within height signs left [] h = absurd (cc)
within height signs left (t ∷ ts) h = elim (if-is (nat_lt limit (open_after t.kind height) || nat_lt limit (signs_after t.kind signs)) (Some (suc (length ts))) _ (Some left) h) [
  | inl p ↦ (let e = some_is _ _ p.1 in (omega arith, omega arith))
  | inr p ↦ (let r = within (open_after t.kind height) (signs_after t.kind signs) left ts p.1 in (r.0, omega (arith, r.1)))
]

-- the tokens pass up to this number of them, and not up to fewer
pub record IsFirst (height signs n : ℕ) (ts : PlainTokens) : Type 0 where
  pub there : passes height signs (take n ts) ≡ true
  pub not_before : (k : ℕ) → k < n → passes height signs (take k ts) ≡ false

first : (height signs n left : ℕ) (ts : PlainTokens) → deep_left height signs ts ≡ Some left → n + left ≡ suc (length ts) → IsFirst height signs n ts
first height signs n left [] h sum = absurd (cc)
first height signs zero left (t ∷ ts) h sum = absurd (let r = within height signs left (t ∷ ts) h in omega (arith, r.1))
first height signs (suc n) left (t ∷ ts) h sum = elim (if-is (nat_lt limit (open_after t.kind height) || nat_lt limit (signs_after t.kind signs)) (Some (suc (length ts))) _ (Some left) h) [
  | inl p ↦ (
      let e = some_is _ _ p.1 in
      let none : n ≡ 0 = omega arith in
      let b = p.0 in
      record { there = rw (none, b); not_before = λ k w. before k (omega arith) })
  | inr p ↦ (
      let r = first (open_after t.kind height) (signs_after t.kind signs) n left ts p.1 (omega arith) in
      let b = p.0 in
      record { there = rw b r.there; not_before = λ k w. later r.not_before b k w })
]
  where
    before : (k : ℕ) → k ≡ 0 → passes height signs (take k (t ∷ ts)) ≡ false
    before k e = rw e

    later : ((k : ℕ) → k < n → passes (open_after t.kind height) (signs_after t.kind signs) (take k ts) ≡ false)
        → (nat_lt limit (open_after t.kind height) || nat_lt limit (signs_after t.kind signs)) ≡ false
        → (k : ℕ) → k < suc n → passes height signs (take k (t ∷ ts)) ≡ false
    later more b zero w = refl
    later more b (suc k) w = rw b (more k (omega arith))

pub deep_at : (stop : Option ℕ) (ts : PlainTokens) (left all token : ℕ) → stop ≡ deep_left 0 0 ts → stop ≡ Some left → length ts ≡ all
    → (1 ≤ left → left ≤ all → token + left ≡ all + 1) → IsDeepAt ts token
deep_at stop ts left all token is some same count =
    let e : deep_left 0 0 ts ≡ Some left = sym is ∙ some in
    let w = within 0 0 left ts e in
    let sum : token + left ≡ all + 1 = count (omega (arith, w.0)) (omega (arith, w.1)) in
    let r = first 0 0 token left ts e (omega arith) in
    (r.there, λ k below deep. let no_deep = r.not_before k below in cc)

pub refused_at : (stop : Option ℕ) (budget : ℕ) (fault : GrammarFault) (ts us new : PlainTokens) (left all token : ℕ) → stop ≡ deep_left 0 0 ts → left ≡ length new → length ts ≡ all
    → (1 ≤ left → left ≤ all → token + left ≡ all + 1) → Reads module_of stop (parse_source budget us) (Err fault) new → fault ≡ Deep → IsDeepAt ts token
refused_at stop budget Syntax ts us new left all token is len same count read h = absurd (cc)
refused_at stop budget Unsized ts us new left all token is len same count read h = absurd (cc)
refused_at stop budget Deep ts us new left all token is len same count read h =
    let some : stop ≡ Some left = read ∙ sym (ap Some len) in deep_at stop ts left all token is some same count
refused_at stop budget Memory ts us new left all token is len same count read h = absurd (cc)
