-- Scopes grow where one declares a name, or some are opened.
use Rattle.std.proofs.Common.{◌≡◌, ◌≢◌, ℕ, ℤ, ◌+◌, List, [], ◌∷◌, ◌++◌, map, length, Bool, true, false, cond, Option, Some, Result, Ok, Err, OnOk, refl, sym, ap, ◌∙◌, inl, inr, arith}
use Rattle.std.specs.Map.{lookup}
use Rattle.std.specs.Str.{bytes_eq}
use Rattle.std.proofs.lemmas.Bool.{cases_eq}
use Rattle.std.proofs.Common.{length-append}
use Rattle.std.proofs.lemmas.List.{length-map}
use Rattle.scopes.specs.declared.scope.Entity.{Entity}
use Rattle.scopes.specs.declared.scope.NameScope.{NameScope}
use Rattle.scopes.specs.Scopes.{NameText, DeclaredNames, Head, meaning, scope_head, names_at, declared_in}
use Rattle.scopes.specs.Trees.{Declares, OpensAll, ScopesGrow}
use Rattle.scopes.proofs.Adding.{head_at-same, head_at-front}

pub grows_refl : (s : List NameScope) → ScopesGrow s s
grows_refl s = record { more = omega arith; heads = λ k h. refl; names = λ k name found d. d }

pub grows_trans : (r s t : List NameScope) → ScopesGrow r s → ScopesGrow s t → ScopesGrow r t
grows_trans r s t g h =
    record {
      more = omega (arith, g.more, h.more);
      heads = λ k l. h.heads k (omega (arith, g.more, l)) ∙ g.heads k l;
      names = λ k name found d. h.names k name found (g.names k name found d);
    }

-- what is found among names is found among more of them
found_before : (name : NameText) (xs ys : DeclaredNames) (found : Entity) → meaning xs name ≡ Some found → meaning (xs ++ ys) name ≡ Some found
found_before name [] ys found h = absurd (cc)
found_before name (x ∷ xs) ys found h = by (λ q. found_before name xs ys found q) (bytes_eq name x.0) refl
  where
    by : (lookup (bytes_eq name) xs ≡ Some found → lookup (bytes_eq name) (xs ++ ys) ≡ Some found) → (b : Bool) → bytes_eq name x.0 ≡ b → cond (bytes_eq name x.0) (Some x.1) (lookup (bytes_eq name) (xs ++ ys)) ≡ Some found
    by rest true q = rw q (let e = rw q at h in e)
    by rest false q = rw q (let e = rw q at h in rest e)

-- a name more in one scope
names_grow : (old new : List NameScope) (scope : ℕ) (more : DeclaredNames) → names_at new scope ≡ names_at old scope ++ more → ((k : ℕ) → k ≢ scope → names_at new k ≡ names_at old k)
    → (k : ℕ) (name : NameText) (found : Entity) → declared_in old k name ≡ Some found → declared_in new k name ≡ Some found
names_grow old new scope more here others k name found d =
    elim (cases_eq k scope) [
      | inl e ↦
          let one : declared_in old scope name ≡ Some found = ap (λ j. declared_in old j name) (sym e) ∙ d in
          ap (λ j. declared_in new j name) e ∙ ap (λ ns. meaning ns name) here ∙ found_before name (names_at old scope) more found one
      | inr n ↦ ap (λ ns. meaning ns name) (others k n) ∙ d
    ]

pub declares_grows : (old new : List NameScope) (scope : ℕ) (name : NameText) (found : Entity) → Declares old new scope name found → ScopesGrow old new
declares_grows old new scope name found d =
    record {
      more = omega (arith, sym (length-map new scope_head) ∙ ap length d.heads ∙ length-map old scope_head);
      heads = λ k h. head_at-same new old d.heads k;
      names = names_grow old new scope ((name, found) ∷ []) d.here d.others;
    }

pub grows_told : {T E : Type 0} (r : Result T E) (old new : List NameScope) (scope : ℕ) (name : NameText) (found : Entity) → OnOk r (Declares old new scope name found) → OnOk r (ScopesGrow old new)
grows_told (Ok x) old new scope name found d = declares_grows old new scope name found d
grows_told (Err x) old new scope name found d = tt

-- scopes more without names
pub adds_grows : (old new : List NameScope) (hs : List Head) → map scope_head new ≡ map scope_head old ++ hs → ((k : ℕ) → names_at new k ≡ names_at old k) → ScopesGrow old new
adds_grows old new hs heads same =
    record {
      more = omega (arith, sym (length-map new scope_head) ∙ ap length heads ∙ length-append (map scope_head old) hs, length-map old scope_head);
      heads = λ k h. head_at-front old new hs heads k h;
      names = λ k name found d. ap (λ ns. meaning ns name) (same k) ∙ d;
    }

pub opens_grows : (old new : List NameScope) (around : ℕ) (name : NameText) (instance_of : Option NameText) (indices : List (Option ℤ)) (found : Entity) → OpensAll old new around name instance_of indices found → ScopesGrow old new
opens_grows old new around name instance_of indices found d =
    record {
      more = omega (arith, sym (length-map new scope_head) ∙ ap length d.heads ∙ length-append (map scope_head old) _, length-map old scope_head);
      heads = λ k h. head_at-front old new _ d.heads k h;
      names = names_grow old new around ((name, found) ∷ []) d.here d.others;
    }
