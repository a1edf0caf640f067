-- Scopes behind which one stands more, or of which one declares a name more.
use Rattle.std.proofs.Common.{◌≡◌, ◌≢◌, ℕ, ℤ, zero, suc, ◌+◌, ◌<◌, ◌≤◌, List, [], ◌∷◌, ◌++◌, map, length, set, get_or, slice_get, Bool, true, false, cond, Option, Some, None, Result, Ok, Err, OnOk, is_ok, if◌then◌else◌, append_assoc, refl, sym, ap, ◌∙◌, arith}
use Rattle.std.proofs.lemmas.List.{map-append}
use Rattle.std.specs.Map.{lookup}
use Rattle.std.specs.Str.{bytes_eq}
use Rattle.std.specs.Borrow.{Bor}
use Rattle.std.specs.List.{HoldsAt}
use Rattle.std.specs.Option.{MatchOption, IfSome, option_copied}
use Rattle.std.proofs.lemmas.Option.{slice_get_past, slice_get_read}
use Rattle.std.specs.declared.vec.Vec.{Vec}
use Rattle.std.specs.declared.alloc.Global.{Global}
use Rattle.indexmap.specs.IndexMap.{insert_entry}
use Rattle.scopes.specs.declared.scope.Entity.{Entity}
use Rattle.scopes.specs.declared.scope.NameScope.{NameScope}
use Rattle.scopes.specs.Scopes.{NameText, Head, named_entity, scope_names, meaning, scope_head, head_at, names_at}
use Rattle.scopes.specs.Trees.{Declares, opened, OpensAll}

-- ---- a scope more

pub names_at-push : (xs : List NameScope) (s : NameScope) → scope_names s ≡ [] → (k : ℕ) → names_at (xs ++ s ∷ []) k ≡ names_at xs k
names_at-push [] s h zero = h
names_at-push [] s h (suc k) = refl
names_at-push (x ∷ xs) s h zero = refl
names_at-push (x ∷ xs) s h (suc k) = names_at-push xs s h k

pub head_at-push : (xs : List NameScope) (s : NameScope) (k : ℕ) → k < length xs → head_at (xs ++ s ∷ []) k ≡ head_at xs k
head_at-push [] s k h = absurd (omega arith)
head_at-push (x ∷ xs) s zero h = refl
head_at-push (x ∷ xs) s (suc k) h = head_at-push xs s k (omega arith)

-- what stands behind the scope that is new
around_last : (xs : List NameScope) (s : NameScope) (base k outer : ℕ) → ((j o : ℕ) → (head_at xs j).around ≡ Some o → o < base + j) → ((o : ℕ) → (scope_head s).around ≡ Some o → o < base + length xs)
    → (head_at (xs ++ s ∷ []) k).around ≡ Some outer → outer < base + k
around_last [] s base zero outer old new h = new outer h
around_last [] s base (suc k) outer old new h = absurd (cc)
around_last (x ∷ xs) s base zero outer old new h = old 0 outer h
around_last (x ∷ xs) s base (suc k) outer old new h =
    let r = around_last xs s (base + 1) k outer (λ j o q. let w = old (suc j) o q in omega arith) (λ o q. let w = new o q in omega arith) h in omega arith

-- each scope still stands behind the one around it
pub outer_push : (xs : List NameScope) (s : NameScope) → ((j o : ℕ) → (head_at xs j).around ≡ Some o → o < j) → ((o : ℕ) → (scope_head s).around ≡ Some o → o < length xs)
    → (k outer : ℕ) → (head_at (xs ++ s ∷ []) k).around ≡ Some outer → outer < k
outer_push xs s old new k outer h =
    let r = around_last xs s 0 k outer (λ j o q. let w = old j o q in omega arith) (λ o q. let w = new o q in omega arith) h in omega arith

-- so it is where the scope that is new stands in one of the others
pub outer_pushed : (old new : List NameScope) (made : NameScope) (around : ℕ) → new ≡ old ++ made ∷ [] → around < length old → (scope_head made).around ≡ Some around
    → ((j o : ℕ) → (head_at old j).around ≡ Some o → o < j) → (k outer : ℕ) → (head_at new k).around ≡ Some outer → outer < k
outer_pushed old new made around e within is order k outer h =
    outer_push old made order (λ o q. let same : o ≡ around = (let p = sym q ∙ is in cc) in omega (arith, same, within)) k outer (ap (λ xs. (head_at xs k).around) (sym e) ∙ h)

-- and where it may not be added
pub outer_may : {T E : Type 0} (r : Result T E) (old new : List NameScope) (made : NameScope) (around : ℕ) → new ≡ (if is_ok r then old ++ made ∷ [] else old) → around < length old → (scope_head made).around ≡ Some around
    → ((j o : ℕ) → (head_at old j).around ≡ Some o → o < j) → (k outer : ℕ) → (head_at new k).around ≡ Some outer → outer < k
outer_may (Ok x) old new made around e within is order k outer h = outer_pushed old new made around e within is order k outer h
outer_may (Err x) old new made around e within is order k outer h = order k outer (ap (λ xs. (head_at xs k).around) (sym e) ∙ h)

-- ---- a name more

pub names_at-set_same : (xs : List NameScope) (k : ℕ) (s : NameScope) → k < length xs → names_at (set xs k s) k ≡ scope_names s
names_at-set_same [] k s h = absurd (omega arith)
names_at-set_same (x ∷ xs) zero s h = refl
names_at-set_same (x ∷ xs) (suc k) s h = names_at-set_same xs k s (omega arith)

pub names_at-set_other : (xs : List NameScope) (k : ℕ) (s : NameScope) (j : ℕ) → j ≢ k → names_at (set xs k s) j ≡ names_at xs j
names_at-set_other [] k s j h = refl
names_at-set_other (x ∷ xs) zero s zero h = absurd (h refl)
names_at-set_other (x ∷ xs) zero s (suc j) h = refl
names_at-set_other (x ∷ xs) (suc k) s zero h = refl
names_at-set_other (x ∷ xs) (suc k) s (suc j) h = names_at-set_other xs k s j (λ e. h (ap suc e))

pub names_at-get : (xs : List NameScope) (k : ℕ) (s : NameScope) → k < length xs → s ≡ get_or xs k s → names_at xs k ≡ scope_names s
names_at-get [] k s h e = absurd (omega arith)
names_at-get (x ∷ xs) zero s h e = ap scope_names (sym e)
names_at-get (x ∷ xs) (suc k) s h e = names_at-get xs k s (omega arith) e

pub head_at-get : (xs : List NameScope) (k : ℕ) (s : NameScope) → k < length xs → s ≡ get_or xs k s → head_at xs k ≡ scope_head s
head_at-get [] k s h e = absurd (omega arith)
head_at-get (x ∷ xs) zero s h e = ap scope_head (sym e)
head_at-get (x ∷ xs) (suc k) s h e = head_at-get xs k s (omega arith) e

pub heads-set : (xs : List NameScope) (k : ℕ) (s t : NameScope) → k < length xs → s ≡ get_or xs k s → scope_head t ≡ scope_head s → map scope_head (set xs k t) ≡ map scope_head xs
heads-set [] k s t h e q = refl
heads-set (x ∷ xs) zero s t h e q = ap (λ y. y ∷ map scope_head xs) (q ∙ ap scope_head e)
heads-set (x ∷ xs) (suc k) s t h e q = ap (λ ys. scope_head x ∷ ys) (heads-set xs k s t (omega arith) e q)

-- scopes with the same heads
pub head_at-same : (xs ys : List NameScope) → map scope_head xs ≡ map scope_head ys → (k : ℕ) → head_at xs k ≡ head_at ys k
head_at-same [] [] e k = refl
head_at-same [] (y ∷ ys) e k = absurd (cc)
head_at-same (x ∷ xs) [] e k = absurd (cc)
head_at-same (x ∷ xs) (y ∷ ys) e zero = cc
head_at-same (x ∷ xs) (y ∷ ys) e (suc k) = head_at-same xs ys (let q : map scope_head xs ≡ map scope_head ys = cc in q) k

-- each scope still stands behind the one around it, where one has another list of names
pub outer_set : (xs : List NameScope) (k : ℕ) (s t : NameScope) → k < length xs → s ≡ get_or xs k s → scope_head t ≡ scope_head s → ((j o : ℕ) → (head_at xs j).around ≡ Some o → o < j)
    → (j outer : ℕ) → (head_at (set xs k t) j).around ≡ Some outer → outer < j
outer_set xs k s t h is head order j outer q =
    order j outer (ap (λ (x : Head). x.around) (sym (head_at-same (set xs k t) xs (heads-set xs k s t h is head) j)) ∙ q)

-- scopes with these heads, and more behind them
pub head_at-front : (xs ys : List NameScope) (hs : List Head) → map scope_head ys ≡ map scope_head xs ++ hs → (k : ℕ) → k < length xs → head_at ys k ≡ head_at xs k
head_at-front [] ys hs e k h = absurd (omega arith)
head_at-front (x ∷ xs) [] hs e k h = absurd (cc)
head_at-front (x ∷ xs) (y ∷ ys) hs e zero h = cc
head_at-front (x ∷ xs) (y ∷ ys) hs e (suc k) h = head_at-front xs ys hs (let q : map scope_head ys ≡ map scope_head xs ++ hs = cc in q) k (omega arith)

pub declares_set : (xs : List NameScope) (k : ℕ) (s t : NameScope) (name : NameText) (e : Entity) → k < length xs → s ≡ get_or xs k s → scope_head t ≡ scope_head s
    → scope_names t ≡ scope_names s ++ (name, e) ∷ [] → meaning (scope_names s) name ≡ None → Declares xs (set xs k t) k name e
declares_set xs k s t name e h is head names new =
    record {
      fresh = ap (λ n. meaning n name) (names_at-get xs k s h is) ∙ new;
      heads = heads-set xs k s t h is head;
      here = names_at-set_same xs k t h ∙ names ∙ ap (λ n. n ++ (name, e) ∷ []) (sym (names_at-get xs k s h is));
      others = λ j q. names_at-set_other xs k t j q;
    }

-- so where a scope may refuse a name
pub declares_told : {T E : Type 0} (r : Result T E) (xs : List NameScope) (k : ℕ) (s t : NameScope) (name : NameText) (e : Entity) → k < length xs → s ≡ get_or xs k s → scope_head t ≡ scope_head s
    → OnOk r (scope_names t ≡ scope_names s ++ (name, e) ∷ []) → OnOk r (meaning (scope_names s) name ≡ None) → OnOk r (Declares xs (set xs k t) k name e)
declares_told (Ok x) xs k s t name e h is head names new = declares_set xs k s t name e h is head names new
declares_told (Err x) xs k s t name e h is head names new = tt

-- ---- both

-- scopes more without names, and then a name more
pub opens_all : (old mid new : List NameScope) (around : ℕ) (name : NameText) (instance_of : Option NameText) (indices : List (Option ℤ)) (found : Entity)
    → map scope_head mid ≡ map scope_head old ++ map (opened (head_at old around) around name instance_of) indices → ((k : ℕ) → names_at mid k ≡ names_at old k)
    → Declares mid new around name found → OpensAll old new around name instance_of indices found
opens_all old mid new around name instance_of indices found heads same d =
    record {
      fresh = ap (λ n. meaning n name) (sym (same around)) ∙ d.fresh;
      heads = d.heads ∙ heads;
      here = d.here ∙ ap (λ n. n ++ (name, found) ∷ []) (same around);
      others = λ k q. d.others k q ∙ same k;
    }

-- one of them
pub one_more : (old mid : List NameScope) (made : NameScope) (head : Head) → mid ≡ old ++ made ∷ [] → scope_head made ≡ head → map scope_head mid ≡ map scope_head old ++ head ∷ []
one_more old mid made head e h = ap (map scope_head) e ∙ map-append scope_head old (made ∷ []) ∙ ap (λ x. map scope_head old ++ x ∷ []) h

-- one behind those of some indices
pub heads_more : (front : List Head) (of_index : Option ℤ → Head) (indices more : List ℤ) (x : ℤ) (hs new : List Head) → hs ≡ front ++ map of_index (map Some indices) → new ≡ hs ++ of_index (Some x) ∷ [] → more ≡ indices ++ x ∷ []
    → new ≡ front ++ map of_index (map Some more)
heads_more front of_index indices more x hs new before added is =
    added ∙ ap (λ ys. ys ++ of_index (Some x) ∷ []) before ∙ append_assoc front (map of_index (map Some indices)) (of_index (Some x) ∷ [])
    ∙ ap (λ ys. front ++ ys) (sym (ap (λ zs. map of_index (map Some zs)) is ∙ ap (map of_index) (map-append Some indices (x ∷ [])) ∙ map-append of_index (map Some indices) (Some x ∷ [])))

pub same_names : (old mid : List NameScope) (made : NameScope) → mid ≡ old ++ made ∷ [] → scope_names made ≡ [] → (k : ℕ) → names_at mid k ≡ names_at old k
same_names old mid made e none k = ap (λ xs. names_at xs k) e ∙ names_at-push old made none k

-- ---- what a name stands for among those of a scope

pub lookup_named : {K : Type 0} (bytes : K → NameText) (test : NameText → Bool) (es : List (K × Entity)) → lookup test (map (λ e. (bytes e.0, e.1)) es) ≡ lookup (λ k. test (bytes k)) es
lookup_named bytes test [] = refl
lookup_named bytes test (e ∷ es) = ap (λ r. cond (test (bytes e.0)) (Some e.1) r) (lookup_named bytes test es)

-- a key that is new goes last
inserted : (es : List (Vec ℕ Global × Entity)) (key : Vec ℕ Global) (e : Entity) → lookup (λ k. bytes_eq key.items k.items) es ≡ None
    → insert_entry (λ x y. bytes_eq x.items y.items) es key e ≡ es ++ (key, e) ∷ []
inserted [] key e h = refl
inserted (x ∷ es) key e h = by (λ none. inserted es key e none) (bytes_eq key.items x.0.items) refl
  where
    by : (lookup (λ k. bytes_eq key.items k.items) es ≡ None → insert_entry (λ y z. bytes_eq y.items z.items) es key e ≡ es ++ (key, e) ∷ [])
        → (b : Bool) → bytes_eq key.items x.0.items ≡ b → cond (bytes_eq key.items x.0.items) ((x.0, e) ∷ es) (x ∷ insert_entry (λ y z. bytes_eq y.items z.items) es key e) ≡ x ∷ (es ++ (key, e) ∷ [])
    by rest true q = absurd (let r = rw q at h in cc)
    by rest false q = rw q (ap (λ t. x ∷ t) (rest (let r = rw q at h in r)))

pub declared_more : (es new : List (Vec ℕ Global × Entity)) (key : Vec ℕ Global) (name : NameText) (e : Entity) → key.items ≡ name → meaning (map named_entity es) name ≡ None
    → new ≡ insert_entry (λ x y. bytes_eq x.items y.items) es key e → map named_entity new ≡ map named_entity es ++ (name, e) ∷ []
declared_more es new key name e is none entries =
    let absent : lookup (λ k. bytes_eq key.items k.items) es ≡ None =
    ap (λ n. lookup (λ (k : Vec ℕ Global). bytes_eq n k.items) es) is ∙ sym (lookup_named (λ (k : Vec ℕ Global). k.items) (bytes_eq name) es) ∙ none in
    ap (map named_entity) (entries ∙ inserted es key e absent) ∙ map-append named_entity es ((key, e) ∷ []) ∙ ap (λ n. map named_entity es ++ (n, e) ∷ []) is

-- ---- the scope with a number

pub got_is : (xs : List NameScope) (i : ℕ) (r : Option (Bor NameScope)) → MatchOption r (length xs ≤ i) (λ x. (i < length xs) × HoldsAt (λ y. x.now ≡ y) xs i) → IfSome r (λ x. x.now ≡ get_or xs i x.now)
    → option_copied r ≡ slice_get xs i
got_is xs i None h at = sym (slice_get_past xs i h)
got_is xs i (Some x) h at = sym (slice_get_read xs (length xs) i x.now refl h.0 at)

-- ---- what a scope declares, as the program looks it up

pub meaning_is : (s : NameScope) (name : NameText) → meaning (scope_names s) name ≡ lookup (λ (k : Vec ℕ Global). bytes_eq name k.items) s.names.entries
meaning_is s name = lookup_named (λ (k : Vec ℕ Global). k.items) (bytes_eq name) s.names.entries
