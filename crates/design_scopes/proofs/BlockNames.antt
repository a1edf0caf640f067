-- The names of generate blocks without one, with more and more zeros.
use Rattle.std.proofs.Common.{◌≡◌, ℕ, suc, ◌+◌, ◌<◌, Bool, true, false, List, [], ◌∷◌, ◌++◌, Option, None, Some, refl, sym, ap, subst, ◌∙◌, arith, below_more}
use Rattle.std.specs.Prelude.{IsSome, is_some, not}
use Rattle.scopes.specs.declared.scope.Entity.{Entity}
use Rattle.scopes.specs.declared.scope.NameScope.{NameScope}
use Rattle.scopes.specs.Scopes.{NameText, declared_in}
use Rattle.design_scopes.specs.Blocks.{leading_zeros, numbered_block, IsFreeName}

pub zero_more : (k : ℕ) (old new : NameText) → old ≡ leading_zeros k → new ≡ old ++ 48 ∷ [] → new ≡ leading_zeros (k + 1)
zero_more k old new is more =
    let next : suc k ≡ k + 1 = omega arith in
    subst (λ (n : ℕ). new ≡ leading_zeros n) next (more ∙ ap (λ (t : NameText). t ++ 48 ∷ []) is)

nothing_is : (d : Option Entity) → is_some d ≡ false → d ≡ None
nothing_is None h = refl
nothing_is (Some e) h = absurd (cc)

-- the name with so many zeros, as it is looked up
named : (count number : ℕ) (zeros text found : NameText) → zeros ≡ leading_zeros count → text ≡ numbered_block zeros number → found ≡ text → found ≡ numbered_block (leading_zeros count) number
named count number zeros text found is made same = same ∙ made ∙ ap (λ (z : NameText). numbered_block z number) is

-- the first name that isn't declared
pub free_told : (scopes : List NameScope) (scope number count : ℕ) (zeros text found made : NameText) (d : Option Entity) (b : Bool) → zeros ≡ leading_zeros count → text ≡ numbered_block zeros number → found ≡ text
    → d ≡ declared_in scopes scope found → is_some d ≡ not b → b ≡ true → made ≡ text → ((k : ℕ) → k < count → IsSome (declared_in scopes scope (numbered_block (leading_zeros k) number))) → IsFreeName scopes scope number made
free_told scopes scope number count zeros text found made d b is text_is same looked test so copied taken =
    record {
      count = count;
      name = named count number zeros text made is text_is copied;
      free = ap (declared_in scopes scope) (copied ∙ sym same) ∙ sym looked ∙ nothing_is d (test ∙ ap not so);
      fewest = taken;
    }

-- one more that is declared
pub taken_more : (scopes : List NameScope) (scope number count : ℕ) (zeros text found : NameText) (d : Option Entity) (b : Bool) → zeros ≡ leading_zeros count → text ≡ numbered_block zeros number → found ≡ text
    → d ≡ declared_in scopes scope found → is_some d ≡ not b → b ≡ false → ((k : ℕ) → k < count → IsSome (declared_in scopes scope (numbered_block (leading_zeros k) number)))
    → (k : ℕ) → k < count + 1 → IsSome (declared_in scopes scope (numbered_block (leading_zeros k) number))
taken_more scopes scope number count zeros text found d b is text_is same looked test so taken =
    below_more (λ (k : ℕ). IsSome (declared_in scopes scope (numbered_block (leading_zeros k) number))) count taken
    (ap is_some (sym (ap (declared_in scopes scope) (named count number zeros text found is text_is same)) ∙ sym looked) ∙ test ∙ ap not so)
