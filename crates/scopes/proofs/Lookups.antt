-- What names stand for, by what is looked up on the way.
use Rattle.std.proofs.Common.{◌≡◌, ℕ, ℤ, zero, suc, ◌<◌, ◌≤◌, Bool, true, false, if◌then◌else◌, List, [], ◌∷◌, Option, Some, None, slice_get, refl, sym, ap, subst, ◌∙◌, arith}
use Rattle.std.specs.Prelude.{is_some, option_map}
use Rattle.std.specs.declared.vec.Vec.{Vec}
use Rattle.std.specs.declared.alloc.Global.{Global}
use Rattle.scopes.specs.declared.scope.Entity.{Entity}
use Rattle.scopes.specs.declared.scope.NameScope.{NameScope}
use Rattle.scopes.specs.declared.scope.Reach.{Reach}
use Rattle.scopes.specs.declared.scope.Reach.TheVariants as reach
use Rattle.scopes.specs.Scopes.{NameText, Head, head_of_some, head_at, declared_in}
use Rattle.scopes.specs.declared.scope.Entity.TheVariants as entity
use Rattle.scopes.specs.Names.{outwards, further, outwards_within, scopes_outwards, or_else, first_among, found, is_instance_of, first_here, element, scope_of}

-- each scope has a greater number than the one in which a name is looked for behind it
abbrev pub IsOrdered : List NameScope → Reach → Type 0
IsOrdered scopes asked = (k outer : ℕ) → outwards asked (head_at scopes k) ≡ Some outer → outer < k

if_some : (b : Bool) (r : Option ℕ) (outer : ℕ) → (if b then None else r) ≡ Some outer → r ≡ Some outer
if_some true r outer q = absurd (cc)
if_some false r outer q = q

pub around_is : (asked : Reach) (head : Head) (outer : ℕ) → outwards asked head ≡ Some outer → head.around ≡ Some outer
around_is reach.Design head outer q = q
around_is reach.Instance head outer q = if_some (is_some head.instance_of) head.around outer q

-- so it is where each has a greater number than the one around it
pub ordered : (scopes : List NameScope) (asked : Reach) → ((k outer : ℕ) → (head_at scopes k).around ≡ Some outer → outer < k) → IsOrdered scopes asked
ordered scopes asked h k outer q = h k outer (around_is asked (head_at scopes k) outer q)

module _ (scopes : List NameScope) (asked : Reach) where
  -- more room makes no difference
  pub enough : (n m k : ℕ) → IsOrdered scopes asked → k ≤ n → k ≤ m → outwards_within n scopes asked k ≡ outwards_within m scopes asked k
  enough zero zero k o a b = refl
  enough zero (suc m) k o a b = by (outwards asked (head_at scopes k)) refl
    where
      by : (r : Option ℕ) → outwards asked (head_at scopes k) ≡ r → k ∷ [] ≡ k ∷ further (outwards_within m scopes asked) r
      by None q = refl
      by (Some outer) q = absurd (let h = o k outer q in omega arith)
  enough (suc n) zero k o a b = by (outwards asked (head_at scopes k)) refl
    where
      by : (r : Option ℕ) → outwards asked (head_at scopes k) ≡ r → k ∷ further (outwards_within n scopes asked) r ≡ k ∷ []
      by None q = refl
      by (Some outer) q = absurd (let h = o k outer q in omega arith)
  enough (suc n) (suc m) k o a b = by (λ j c d. enough n m j o c d) (outwards asked (head_at scopes k)) refl
    where
      by : ((j : ℕ) → j ≤ n → j ≤ m → outwards_within n scopes asked j ≡ outwards_within m scopes asked j) → (r : Option ℕ) → outwards asked (head_at scopes k) ≡ r
          → k ∷ further (outwards_within n scopes asked) r ≡ k ∷ further (outwards_within m scopes asked) r
      by rest None q = refl
      by rest (Some outer) q = let h = o k outer q in ap (λ ks. k ∷ ks) (rest outer (omega arith) (omega arith))

  -- a scope, and then those behind it
  pub outwards_from : (k : ℕ) → IsOrdered scopes asked → scopes_outwards scopes asked k ≡ k ∷ further (scopes_outwards scopes asked) (outwards asked (head_at scopes k))
  outwards_from k o = enough k (suc k) k o (omega arith) (omega arith) ∙ by (outwards asked (head_at scopes k)) refl
    where
      by : (r : Option ℕ) → outwards asked (head_at scopes k) ≡ r → k ∷ further (outwards_within k scopes asked) r ≡ k ∷ further (scopes_outwards scopes asked) r
      by None q = refl
      by (Some outer) q = let h = o k outer q in ap (λ ks. k ∷ ks) (enough k outer outer o (omega arith) (omega arith))

  module _ (here : ℕ → Option Entity) (k : ℕ) (o : IsOrdered scopes asked) where
    from_here : first_among here (scopes_outwards scopes asked k) ≡ or_else (here k) (first_among here (further (scopes_outwards scopes asked) (outwards asked (head_at scopes k))))
    from_here = ap (first_among here) (outwards_from k o)

    -- the name stands for something in the scope
    found_here : (e : Entity) → here k ≡ Some e → first_among here (scopes_outwards scopes asked k) ≡ Some e
    found_here e d = from_here ∙ ap (λ r. or_else r (first_among here (further (scopes_outwards scopes asked) (outwards asked (head_at scopes k))))) d

    behind : here k ≡ None → first_among here (scopes_outwards scopes asked k) ≡ first_among here (further (scopes_outwards scopes asked) (outwards asked (head_at scopes k)))
    behind d = from_here ∙ ap (λ r. or_else r (first_among here (further (scopes_outwards scopes asked) (outwards asked (head_at scopes k))))) d

    -- it is looked for no further
    found_nowhere : here k ≡ None → outwards asked (head_at scopes k) ≡ None → first_among here (scopes_outwards scopes asked k) ≡ None
    found_nowhere d q = behind d ∙ ap (λ r. first_among here (further (scopes_outwards scopes asked) r)) q

    -- it is looked for in the scope around
    found_further : (outer : ℕ) → here k ≡ None → outwards asked (head_at scopes k) ≡ Some outer → first_among here (scopes_outwards scopes asked k) ≡ first_among here (scopes_outwards scopes asked outer)
    found_further outer d q = behind d ∙ ap (λ r. first_among here (further (scopes_outwards scopes asked) r)) q

-- the same, of scopes of which each has a greater number than the one around it
module _ (scopes : List NameScope) (asked : Reach) (here : ℕ → Option Entity) (k : ℕ) (outer_first : (j outer : ℕ) → (head_at scopes j).around ≡ Some outer → outer < j) where
  pub first_is_here : (e : Entity) → Some e ≡ here k → Some e ≡ first_among here (scopes_outwards scopes asked k)
  first_is_here e d = sym (found_here scopes asked here k (ordered scopes asked outer_first) e (sym d))

  pub first_nowhere : None ≡ here k → None ≡ outwards asked (head_at scopes k) → None ≡ first_among here (scopes_outwards scopes asked k)
  first_nowhere d o = sym (found_nowhere scopes asked here k (ordered scopes asked outer_first) (sym d) (sym o))

  pub first_further : (outer : ℕ) (r : Option Entity) → None ≡ here k → Some outer ≡ outwards asked (head_at scopes k) → r ≡ first_among here (scopes_outwards scopes asked outer)
      → r ≡ first_among here (scopes_outwards scopes asked k)
  first_further outer r d o e = e ∙ sym (found_further scopes asked here k (ordered scopes asked outer_first) outer (sym d) (sym o))

-- the same, of what scopes declare under a name
module _ (scopes : List NameScope) (asked : Reach) (k : ℕ) (name : NameText) (outer_first : (j outer : ℕ) → (head_at scopes j).around ≡ Some outer → outer < j) where
  pub here_is : (e : Entity) → Some e ≡ declared_in scopes k name → Some e ≡ found scopes asked k name
  here_is e d = first_is_here scopes asked (λ j. declared_in scopes j name) k outer_first e d

  pub nowhere_is : None ≡ declared_in scopes k name → None ≡ outwards asked (head_at scopes k) → None ≡ found scopes asked k name
  nowhere_is d o = first_nowhere scopes asked (λ j. declared_in scopes j name) k outer_first d o

  pub further_is : (outer : ℕ) (r : Option Entity) → None ≡ declared_in scopes k name → Some outer ≡ outwards asked (head_at scopes k) → r ≡ found scopes asked outer name → r ≡ found scopes asked k name
  further_is outer r d o e = first_further scopes asked (λ j. declared_in scopes j name) k outer_first outer r d o e

-- what the first part of a hierarchical name stands for in a scope, by what the scope declares, and by whether it is an instance of a module of
-- the name
pub declared_here : (scopes : List NameScope) (name : NameText) (k : ℕ) (e : Entity) → Some e ≡ declared_in scopes k name → Some e ≡ first_here scopes name k
declared_here scopes name k e d = ap (λ r. or_else r (if is_instance_of name (head_at scopes k) then Some (entity.Scope k) else None)) d

pub instance_here : (scopes : List NameScope) (name : NameText) (k : ℕ) (b : Bool) → None ≡ declared_in scopes k name → b ≡ is_instance_of name (head_at scopes k) → b ≡ true
    → Some (entity.Scope k) ≡ first_here scopes name k
instance_here scopes name k b d is so =
    ap (λ c. if c then Some (entity.Scope k) else None) (sym so ∙ is) ∙ ap (λ r. or_else r (if is_instance_of name (head_at scopes k) then Some (entity.Scope k) else None)) d

pub nothing_here : (scopes : List NameScope) (name : NameText) (k : ℕ) (b : Bool) → None ≡ declared_in scopes k name → b ≡ is_instance_of name (head_at scopes k) → b ≡ false → None ≡ first_here scopes name k
nothing_here scopes name k b d is so =
    ap (λ c. if c then Some (entity.Scope k) else None) (sym so ∙ is) ∙ ap (λ r. or_else r (if is_instance_of name (head_at scopes k) then Some (entity.Scope k) else None)) d

-- variables aren't looked for beyond the instance of a module
instance_stops : (o : Option (Vec ℕ Global)) (outer : Option ℕ) → is_some o ≡ true → None ≡ (if is_some (option_map (λ (name : Vec ℕ Global). name.items) o) then None else outer)
instance_stops None outer h = absurd (cc)
instance_stops (Some name) outer h = refl

inner_passes : (o : Option (Vec ℕ Global)) (outer : Option ℕ) → is_some o ≡ false → outer ≡ (if is_some (option_map (λ (name : Vec ℕ Global). name.items) o) then None else outer)
inner_passes None outer h = refl
inner_passes (Some name) outer h = absurd (cc)

module _ (scopes : List NameScope) (k : ℕ) (asked : Reach) (s : NameScope) (b : Bool) (there : Some s ≡ slice_get scopes k) (is : asked ≡ reach.Instance) (test : b ≡ is_some s.instance_of) where
  pub stops_here : b ≡ true → None ≡ outwards asked (head_at scopes k)
  stops_here so =
      subst (λ (r : Reach). None ≡ outwards r (head_at scopes k)) (sym is)
      (subst (λ (o : Option NameScope). None ≡ outwards reach.Instance (head_of_some o)) there (instance_stops s.instance_of s.around (sym test ∙ so)))

  pub passes_here : b ≡ false → s.around ≡ outwards asked (head_at scopes k)
  passes_here so =
      subst (λ (r : Reach). s.around ≡ outwards r (head_at scopes k)) (sym is)
      (subst (λ (o : Option NameScope). s.around ≡ outwards reach.Instance (head_of_some o)) there (inner_passes s.instance_of s.around (sym test ∙ so)))

-- what stands for several scopes, with an index
pub several_is : (scopes : List NameScope) (r : Option Entity) (index : Option ℤ) (e : Entity) (first count : ℕ) → r ≡ Some e → e ≡ entity.Scopes first count → element scopes first count index ≡ scope_of scopes r index
several_is scopes r index e first count found is = sym (ap (λ x. scope_of scopes x index) (found ∙ ap (λ x. Some x) is))
