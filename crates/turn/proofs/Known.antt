-- A look at a register keeps what is known and what was read together.
use Rattle.std.proofs.Common.{◌≡◌, ◌≢◌, ℕ, ◌<◌, Bool, true, false, ◌||◌, ◌⊎◌, inl, inr, ⊎_elim, ◌==◌, if◌then◌else◌, List, [], ◌∷◌, ◌++◌, length, Option, Some, None, is_some, refl, sym, ap, ◌∙◌, subst, get_or-set_other, get_or-set_same, eqb-true, eq-eqb}
use Rattle.std.specs.Prelude.{slice_set, slice_index_or, nat_eq}
use Rattle.std.proofs.lemmas.List.{map-append, length-set}
use Rattle.std.proofs.lemmas.List.Folds.{list_any-append}
use Rattle.logic4.specs.Vector.{Vector}
use Rattle.model.specs.Expressions.{Store, value_of}
use Rattle.model.specs.Turns.{contains, with_uses}
use Rattle.indexmap.specs.IndexMap.{insert_entry}
use Rattle.turn.specs.declared.memory.Seen.{Seen}
use Rattle.turn.specs.Reads.{registers, AreDeclared, Agrees, GaveAll}
use Rattle.std.proofs.lemmas.List.Elements.{All-push}
use Rattle.turn.specs.Memory.{LooksUp, LooksUpAt}
use Rattle.turn.specs.Evaluate.{Holds, written, written_in, Knows, Continues}

-- ---- numbers and truth values

-- the test of two numbers, as cases
pub same_or_not : (q r : ℕ) → ((q ≡ r) × ((q == r) ≡ true)) ⊎ ((q == r) ≡ false)
same_or_not q r = cases (q == r) refl where
  cases : (b : Bool) → (q == r) ≡ b → ((q ≡ r) × ((q == r) ≡ true)) ⊎ ((q == r) ≡ false)
  cases true e = inl (eqb-true q r e, e)
  cases false e = inr e

pub ne_of : (q r : ℕ) → (q == r) ≡ false → r ≢ q
ne_of q r e same = let t : (q == r) ≡ true = eq-eqb q r (sym same) in cc

pub or_true : (b : Bool) → (b || true) ≡ true
or_true true = refl
or_true false = refl

pub or_false : (b : Bool) → (b || false) ≡ b
or_false true = refl
or_false false = refl

or_assoc : (a b c : Bool) → (a || (b || c)) ≡ ((a || b) || c)
or_assoc true b c = refl
or_assoc false b c = refl

neither : (a b : Bool) → false ≡ (a || b) → (a ≡ false) × (b ≡ false)
neither true b e = cc
neither false b e = (refl, sym e)

contains_one : (q r : ℕ) → contains (q ∷ []) r ≡ (q == r)
contains_one q r = or_false (q == r)

contains-append : (rs : List ℕ) (q r : ℕ) → contains (rs ++ q ∷ []) r ≡ (contains rs r || (q == r))
contains-append rs q r = list_any-append (λ q. q == r) rs (q ∷ []) ∙ ap (λ b. contains rs r || b) (contains_one q r)

-- a register among the reads or the writes, after one more write
pub there : (reads : List (ℕ × Seen)) (writes : List (ℕ × Vector)) (r : ℕ) (v : Vector) (q : ℕ) → (contains (registers reads) q || contains (written_in (writes ++ (r, v) ∷ [])) q) ≡ ((contains (registers reads) q || contains (written_in writes) q) || (r == q))
there reads writes r v q =
    ap (λ rs. contains (registers reads) q || contains rs q) (map-append (λ w. w.0) writes ((r, v) ∷ []))
    ∙ ap (λ b. contains (registers reads) q || b) (contains-append (written_in writes) r q)
    ∙ or_assoc (contains (registers reads) q) (contains (written_in writes) q) (r == q)

-- ---- what is known

-- the one that is set
pub known_same : (known : List (Option Vector)) (r : ℕ) (v : Vector) → r < length known → slice_index_or (slice_set known r (Some v)) r None ≡ Some v
known_same known r v lt = get_or-set_same known r (Some v) None lt

-- and the others
pub known_other : (known : List (Option Vector)) (r : ℕ) (v : Vector) (q : ℕ) → (r == q) ≡ false → slice_index_or (slice_set known r (Some v)) q None ≡ slice_index_or known q None
known_other known r v q e = get_or-set_other known r q (Some v) None (ne_of r q e)

-- ---- stores after writes

-- a register that wasn't written has the store's value
pub unwritten : (writes : List (ℕ × Vector)) (store : Store) (r : ℕ) → contains (written_in writes) r ≡ false → value_of (written store writes) r ≡ value_of store r
unwritten [] store r e = refl
unwritten (w ∷ writes) store r e =
    let both : (contains (w.0 ∷ []) r ≡ false) × (contains (written_in writes) r ≡ false) = neither _ _ (sym e ∙ list_any-append (λ q. q == r) (w.0 ∷ []) (written_in writes)) in
    unwritten writes (slice_set store w.0 w.1) r both.1 ∙ get_or-set_other store w.0 r w.1 [] (ne_of w.0 r (sym (contains_one w.0 r) ∙ both.0))

-- one more write
pub written-append : (writes : List (ℕ × Vector)) (store : Store) (r : ℕ) (v : Vector) → written store (writes ++ (r, v) ∷ []) ≡ slice_set (written store writes) r v
written-append [] store r v = refl
written-append (w ∷ writes) store r v = written-append writes (slice_set store w.0 w.1) r v

pub length-written : (writes : List (ℕ × Vector)) (store : Store) → length (written store writes) ≡ length store
length-written [] store = refl
length-written (w ∷ writes) store = length-written writes (slice_set store w.0 w.1) ∙ length-set store w.0 w.1

-- ---- reads

pub agrees_before : (reads : List (ℕ × Seen)) (r : ℕ) (s : Seen) (store : Store) → Agrees (reads ++ (r, s) ∷ []) store → Agrees reads store × (value_of store r ≡ s.value)
agrees_before [] r s store h = (tt, h.0)
agrees_before (t ∷ reads) r s store h = let m : Agrees reads store × (value_of store r ≡ s.value) = agrees_before reads r s store h.1 in ((h.0, m.0), m.1)

-- a register that wasn't read is recorded behind the others
recorded : (reads : List (ℕ × Seen)) (r : ℕ) (s : Seen) → contains (registers reads) r ≡ false → insert_entry nat_eq reads r s ≡ reads ++ (r, s) ∷ []
recorded [] r s e = refl
recorded (t ∷ reads) r s e =
    let both : (contains (t.0 ∷ []) r ≡ false) × (contains (registers reads) r ≡ false) = neither _ _ (sym e ∙ list_any-append (λ q. q == r) (t.0 ∷ []) (registers reads)) in
    ⊎_elim
    (λ same. let no : (t.0 == r) ≡ true = eq-eqb t.0 r (sym same.0) in let yes' : (t.0 == r) ≡ false = sym (contains_one t.0 r) ∙ both.0 in cc)
    (λ other. ap (λ b. if b then (t.0, s) ∷ reads else t ∷ insert_entry nat_eq reads r s) other ∙ ap (λ l. t ∷ l) (recorded reads r s both.1))
    (same_or_not r t.0)

-- what a reader gave, with one more pair
pub gave_more : (gave gave' : ℕ → Seen → Type 0) (reads : List (ℕ × Seen)) (r : ℕ) (s : Seen) → ((q : ℕ) (t : Seen) → gave q t → gave' q t) → gave' r s → GaveAll gave reads → GaveAll gave' (insert_entry nat_eq reads r s)
gave_more gave gave' [] r s keeps adds h = (adds, tt)
gave_more gave gave' (t ∷ reads) r s keeps adds h =
    ⊎_elim
    (λ same. subst (λ b. GaveAll gave' (if b then (t.0, s) ∷ reads else t ∷ insert_entry nat_eq reads r s)) (sym same.1) (subst (λ q. gave' q s) same.0 adds, gave_all reads h.1))
    (λ other. subst (λ b. GaveAll gave' (if b then (t.0, s) ∷ reads else t ∷ insert_entry nat_eq reads r s)) (sym other) (keeps t.0 t.1 h.0, gave_more gave gave' reads r s keeps adds h.1))
    (same_or_not r t.0)
  where
    gave_all : (reads : List (ℕ × Seen)) → GaveAll gave reads → GaveAll gave' reads
    gave_all [] h = tt
    gave_all (t ∷ reads) h = (keeps t.0 t.1 h.0, gave_all reads h.1)

-- ---- a look

-- what a look at a declared register does
pub record Looked (r : ℕ) (v : Vector) (known : List (Option Vector)) (reads : List (ℕ × Seen)) (known' : List (Option Vector)) (reads' : List (ℕ × Seen)) : Type 0 where
  pub size : length known' ≡ length known
  pub value : (values : Store) → Holds known' values → value_of values r ≡ v
  pub holds : (values : Store) → Holds known' values → Holds known values
  pub continues : (writes : List (ℕ × Vector)) → Knows writes reads known → Continues writes (r ∷ []) reads reads' known'

uses_taken : (W us : List ℕ) (r : ℕ) (b : Bool) → (contains us r || contains W r) ≡ b → b ≡ true → us ≡ with_uses W us (r ∷ [])
uses_taken W us r true e f = rw e refl
uses_taken W us r false e f = cc

uses_new : (W us : List ℕ) (r : ℕ) → (contains us r || contains W r) ≡ false → us ++ r ∷ [] ≡ with_uses W us (r ∷ [])
uses_new W us r e = rw e refl

looked_known : (r : ℕ) (v w : Vector) (known : List (Option Vector)) (reads : List (ℕ × Seen)) → r < length known → slice_index_or known r None ≡ Some w → v ≡ w → Looked r v known reads known reads
looked_known r v w known reads lt is e = record {
  size = refl;
  value = λ values h. h r w is ∙ sym e;
  holds = λ values h. h;
  continues = λ writes k. record {
    knows = k;
    agrees = λ store h. h;
    uses = uses_taken _ _ r (is_some (slice_index_or known r None)) (sym (k.marks r lt)) (ap is_some is);
  };
}

none_some : (o : Option Vector) (w : Vector) (C : Type 0) → o ≡ None → o ≡ Some w → C
none_some None w C e f = cc
none_some (Some v) w C e f = cc

-- the reads with one more, of a register that is neither read nor written
knows_read : (r : ℕ) (s : Seen) (writes : List (ℕ × Vector)) (known : List (Option Vector)) (reads : List (ℕ × Seen)) → r < length known → (contains (registers reads) r || contains (written_in writes) r) ≡ false → Knows writes reads known → Knows writes (reads ++ (r, s) ∷ []) (slice_set known r (Some s.value))
knows_read r s writes known reads lt fresh k =
    let v = s.value in
    record {
      holds = λ store len agree q w e.
          let before = agrees_before reads r s store agree in
          ⊎_elim
          (λ same.
          let found : Some v ≡ Some w = sym (known_same known r v lt) ∙ ap (λ q. slice_index_or (slice_set known r (Some v)) q None) same.0 ∙ e in
          let vw : v ≡ w = cc in
          ap (value_of (written store writes)) (sym same.0) ∙ unwritten writes store r (neither _ _ (sym fresh)).1 ∙ before.1 ∙ vw)
          (λ other. k.holds store (len ∙ length-set known r (Some v)) before.0 q w (sym (known_other known r v q other) ∙ e))
          (same_or_not r q);
      declared = subst (λ n. AreDeclared n (reads ++ (r, s) ∷ [])) (sym (length-set known r (Some v))) (All-push (λ t. t.0 < length known) reads (r, s) k.declared lt);
      marks = λ q within.
          let regs_more : registers (reads ++ (r, s) ∷ []) ≡ registers reads ++ r ∷ [] = map-append (λ t. t.0) reads ((r, s) ∷ []) in
          let there : contains (registers (reads ++ (r, s) ∷ [])) q ≡ (contains (registers reads) q || (r == q)) = ap (λ rs. contains rs q) regs_more ∙ contains-append (registers reads) r q in
          ⊎_elim
          (λ same. ap is_some (ap (λ q. slice_index_or (slice_set known r (Some v)) q None) (sym same.0) ∙ known_same known r v lt) ∙ sym (ap (λ b. b || contains (written_in writes) q) (there ∙ ap (λ b. contains (registers reads) q || b) same.1 ∙ or_true _)))
          (λ other. ap is_some (known_other known r v q other) ∙ k.marks q (subst (λ n. q < n) (length-set known r (Some v)) within) ∙ sym (ap (λ b. b || contains (written_in writes) q) (there ∙ ap (λ b. contains (registers reads) q || b) other ∙ or_false _)))
          (same_or_not r q);
    }

looked_new : (r : ℕ) (s : Seen) (known : List (Option Vector)) (reads : List (ℕ × Seen)) → r < length known → slice_index_or known r None ≡ None → Looked r s.value known reads (slice_set known r (Some s.value)) (insert_entry nat_eq reads r s)
looked_new r s known reads lt is =
    let v = s.value in
    record {
      size = length-set known r (Some v);
      value = λ values h. h r v (known_same known r v lt);
      holds = λ values h q w e. ⊎_elim (λ same. let n : slice_index_or known r None ≡ Some w = ap (λ q. slice_index_or known q None) same.0 ∙ e in none_some _ w (value_of values q ≡ w) is n) (λ other. h q w (known_other known r v q other ∙ e)) (same_or_not r q);
      continues = λ writes k.
          let fresh : (contains (registers reads) r || contains (written_in writes) r) ≡ false = sym (k.marks r lt) ∙ ap is_some is in
          let behind : insert_entry nat_eq reads r s ≡ reads ++ (r, s) ∷ [] = recorded reads r s (neither _ _ (sym fresh)).0 in
          subst (λ l. Continues writes (r ∷ []) reads l (slice_set known r (Some v))) (sym behind) (record {
            knows = knows_read r s writes known reads lt fresh k;
            agrees = λ store h. (agrees_before reads r s store h).0;
            uses = map-append (λ t. t.0) reads ((r, s) ∷ []) ∙ uses_new _ _ r fresh;
          });
    }

looked_at : (o : Option Vector) (r : ℕ) (v : Vector) (known : List (Option Vector)) (reads : List (ℕ × Seen)) (known' : List (Option Vector)) (reads' : List (ℕ × Seen)) → r < length known → slice_index_or known r None ≡ o → LooksUpAt o known reads r v known' reads' → Looked r v known reads known' reads'
looked_at (Some w) r v known reads known' reads' lt is (e, k, s) = rw (k, s) (looked_known r v w known reads lt is e)
looked_at None r v known reads known' reads' lt is (s, (e, k, t)) =
    let l = looked_new r s known reads lt is in
    let k' : known' ≡ slice_set known r (Some s.value) = k ∙ ap (λ v. slice_set known r (Some v)) e in
    rw (k', t, e) l

pub looked : (r : ℕ) (v : Vector) (known : List (Option Vector)) (reads : List (ℕ × Seen)) (known' : List (Option Vector)) (reads' : List (ℕ × Seen)) → r < length known → LooksUp known reads r v known' reads' → Looked r v known reads known' reads'
looked r v known reads known' reads' lt l = looked_at (slice_index_or known r None) r v known reads known' reads' lt refl l
