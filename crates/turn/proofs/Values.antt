-- Expressions and lines on every store that agrees with what was read.
use Rattle.std.proofs.Common.{◌≡◌, ℕ, zero, suc, ◌<◌, ◌≤◌, arith, get_or, Bool, true, false, ◌&&◌, ◌||◌, nat_le, if◌then◌else◌, List, [], ◌∷◌, ◌++◌, map, length, drop, Option, Some, None, refl, sym, ap, ◌∙◌, subst, ⊎_elim, append_assoc, get_or-set_same, get_or-set_other}
use Rattle.std.specs.Prelude.{slice_range, slice_index_or, slice_set, is_some}
use Rattle.std.specs.List.{All}
use Rattle.std.proofs.lemmas.List.{length-set}
use Rattle.std.proofs.lemmas.List.Elements.{All-nil, All-take, All-drop}
use Rattle.logic4.specs.Vector.{Vector}
use Rattle.logic4.specs.Display.{shown}
use Rattle.logic4.proofs.Lengths.{length-resize}
use Rattle.model.specs.Syntax.{Expression, Expressions, Nothing, Also, registers_of, all_registers_of}
use Rattle.model.specs.Syntax.{Piece, Byte, Argument}
use Rattle.model.specs.Expressions.{Store, value_of, own_value, assigned_value}
use Rattle.model.specs.Turns.{contains, format_text, own_values}
use Rattle.design.specs.declared.code.Op.{Op}
use Rattle.design.specs.declared.code.Op.TheVariants.{Load, Pick, Constant, Unary, Binary, BinaryConstant, BinaryRegister, Join, Resize, Extend, Choose}
use Rattle.design.specs.declared.code.Span.{Span}
use Rattle.design.specs.declared.code.LinePiece.{LinePiece}
use Rattle.design.specs.declared.code.LinePiece.TheVariants as pieces
use Rattle.design.specs.ExpressionSteps.{topmost, Computes, IsOpOf, span_of}
use Rattle.design.specs.Compiled.{Compiled}
use Rattle.design.specs.Meaning.{IsLine, IsCompiled}
use Rattle.turn.specs.declared.memory.Seen.{Seen}
use Rattle.turn.specs.Reads.{registers, AreDeclared, Agrees}
use Rattle.turn.specs.Evaluate.{NamesDeclared, Holds, Knows, Continues, written, written_in}
use Rattle.turn.specs.RunningTurn.{Status, printing, Valued, PrintsPieces}
use Rattle.turn.proofs.Known.{known_same, known_other, same_or_not, written-append, length-written, there, or_true, or_false, ne_of}
use Rattle.turn.proofs.Runs.{continues_none, continues_both}

-- each of the elements of a part is one of the list
pub all_piece : {A : Type 0} (P : A → Type 0) (xs : List A) (span : Span) → All P xs → All P (span_of xs span)
all_piece P xs span h = cases (nat_le span.from span.to && nat_le span.to (length xs)) where
  cases : (b : Bool) → All P (if b then slice_range xs span.from span.to else [])
  cases true = All-take P _ (drop span.from xs) (All-drop P span.from xs h)
  cases false = All-nil P

op_within : (n m : ℕ) (op : Op) → n ≤ m → IsOpOf n op → IsOpOf m op
op_within n m (Load r size) le lt = omega (arith, le, lt)
op_within n m (Pick r i size) le lt = omega (arith, le, lt)
op_within n m (Constant v) le h = tt
op_within n m (Unary op asked) le h = tt
op_within n m (Binary op size asked) le h = tt
op_within n m (BinaryConstant op size asked v) le h = tt
op_within n m (BinaryRegister op size asked r other) le lt = omega (arith, le, lt)
op_within n m Join le h = tt
op_within n m (Resize size) le h = tt
op_within n m (Extend by size asked) le h = tt
op_within n m (Choose size) le h = tt

-- the code of a design reads declared registers alone, also where more are
pub code_declared : (code : Compiled) (n : ℕ) → IsCompiled code → length code.widths ≤ n → NamesDeclared n code.ops
code_declared code n is le = λ i op lt. op_within (length code.widths) n (get_or code.ops i op) le (is.ops i op lt)

-- a vector, or none where it isn't known
abbrev value_or_none : Option Vector → Vector
value_or_none None = []
value_or_none (Some v) = v

values_get : (known : List (Option Vector)) (r : ℕ) → slice_index_or (map value_or_none known) r [] ≡ value_or_none (slice_index_or known r None)
values_get [] r = refl
values_get (o ∷ known) zero = refl
values_get (o ∷ known) (suc r) = values_get known r

-- some store has what is known
some_store : (known : List (Option Vector)) → Holds known (map value_or_none known)
some_store known r v e = values_get known r ∙ ap value_or_none e

-- a value, on each store that agrees
pub record Gets (s : Status) (v : Vector) (m : Status) (f : Store → Vector) (reads : List ℕ) : Type 0 where
  pub size : length m.known ≡ length s.known
  pub continues : Continues s.writes reads s.reads m.reads m.known
  pub value : (store : Store) → length store ≡ length s.known → Agrees m.reads store → f (written store s.writes) ≡ v
  pub some : (values : Store) × (f values ≡ v)
  pub same : m ≡ record s { known = m.known; reads = m.reads }

pub gets : (ops : List Op) (s : Status) (v : Vector) (m : Status) (value : Store → Vector) (reads : List ℕ) → All (IsOpOf (length s.known)) ops → Knows s.writes s.reads s.known → Computes ops value reads → Valued ops s v m → Gets s v m value reads
gets ops s v m value reads all k c (evaluates, same) =
    let (st, (st', (ev, ran))) = evaluates all in
    let continues = ran.continues s.writes k in
    let given : (values : Store) → Holds m.known values → value values ≡ v = λ values holds. sym (c.gives values st) ∙ ap topmost (ran.stack values holds) ∙ sym ev in
    record {
      size = ran.size;
      continues = subst (λ rs. Continues s.writes rs s.reads m.reads m.known) c.uses continues;
      value = λ store len agree. given (written store s.writes) (continues.knows.holds store (len ∙ sym ran.size) agree);
      some = (map value_or_none m.known, given (map value_or_none m.known) (some_store m.known));
      same = same;
    }

-- an assigned value has its register's width
pub length-assigned : (widths : List ℕ) (q : ℕ) (e : Expression ℕ) (v : Vector) → (values : Store) × (assigned_value widths values q e ≡ v) → length v ≡ slice_index_or widths q 0
length-assigned widths q e v (values, is) = ap length (sym is) ∙ length-resize _ _

-- a write keeps what is known
pub knows_write : (writes : List (ℕ × Vector)) (reads : List (ℕ × Seen)) (known : List (Option Vector)) (r : ℕ) (v : Vector) → r < length known → Knows writes reads known → Knows (writes ++ (r, v) ∷ []) reads (slice_set known r (Some v))
knows_write writes reads known r v lt k = record {
  holds = λ store len agree q w e.
      let values = written store writes in
      let len' : length store ≡ length known = len ∙ length-set known r (Some v) in
      let within : r < length values = rw (length-written writes store, len') lt in
      ⊎_elim
      (λ same.
      let found : Some v ≡ Some w = sym (known_same known r v lt) ∙ ap (λ q. slice_index_or (slice_set known r (Some v)) q None) same.0 ∙ e in
      let vw : v ≡ w = cc in
      ap (value_of (written store (writes ++ (r, v) ∷ []))) (sym same.0)
      ∙ ap (λ vs. value_of vs r) (written-append writes store r v)
      ∙ get_or-set_same values r v [] within
      ∙ vw)
      (λ other.
      ap (λ vs. value_of vs q) (written-append writes store r v)
      ∙ get_or-set_other values r q v [] (ne_of r q other)
      ∙ k.holds store len' agree q w (sym (known_other known r v q other) ∙ e))
      (same_or_not r q);
  declared = subst (λ n. AreDeclared n reads) (sym (length-set known r (Some v))) k.declared;
  marks = λ q within. ⊎_elim
      (λ same. ap is_some (ap (λ q. slice_index_or (slice_set known r (Some v)) q None) (sym same.0) ∙ known_same known r v lt) ∙ sym (there reads writes r v q ∙ ap (λ b. (contains (registers reads) q || contains (written_in writes) q) || b) same.1 ∙ or_true _))
      (λ other. ap is_some (known_other known r v q other) ∙ k.marks q (subst (λ n. q < n) (length-set known r (Some v)) within) ∙ sym (there reads writes r v q ∙ ap (λ b. (contains (registers reads) q || contains (written_in writes) q) || b) other ∙ or_false _))
      (same_or_not r q);
}

-- the text of a format, on each store that agrees, with anything behind it
pub record Lined (widths : List ℕ) (s s' : Status) (format : List Piece) (arguments : Expressions ℕ) : Type 0 where
  pub size : length s'.known ≡ length s.known
  pub continues : Continues s.writes (all_registers_of arguments) s.reads s'.reads s'.known
  pub lines : (behind : List ℕ) (store : Store) → length store ≡ length s.known → Agrees s'.reads store → s'.lines ++ behind ≡ s.lines ++ format_text behind format (own_values widths (written store s.writes) arguments)
  pub same : s' ≡ record s { known = s'.known; reads = s'.reads; lines = s'.lines }

lined_byte : (widths : List ℕ) (s s' : Status) (b : ℕ) (format : List Piece) (arguments : Expressions ℕ) → Lined widths (printing s (b ∷ [])) s' format arguments → Lined widths s s' (Byte b ∷ format) arguments
lined_byte widths s s' b format arguments l = record {
  size = l.size;
  continues = l.continues;
  lines = λ behind store len agree. l.lines behind store len agree ∙ append_assoc s.lines (b ∷ []) _;
  same = l.same;
}

lined_value : (widths : List ℕ) (s m s' : Status) (v : Vector) (conversion : _) (e : Expression ℕ) (format : List Piece) (arguments : Expressions ℕ) → Gets s v m (λ values. own_value widths values e) (registers_of e) → Lined widths (record s { known = m.known; reads = m.reads; lines = s.lines ++ shown conversion v }) s' format arguments → Lined widths s s' (Argument conversion ∷ format) (Also e arguments)
lined_value widths s m s' v conversion e format arguments got l = record {
  size = l.size ∙ got.size;
  continues = continues_both s.writes (registers_of e) (all_registers_of arguments) s.reads m.reads s'.reads m.known s'.known got.continues l.continues;
  lines = λ behind store len agree.
      let values = written store s.writes in
      let value : own_value widths values e ≡ v = got.value store len (l.continues.agrees store agree) in
      l.lines behind store (len ∙ sym got.size) agree
      ∙ append_assoc s.lines (shown conversion v) _
      ∙ ap (λ w. s.lines ++ (shown conversion w ++ format_text behind format (own_values widths values arguments))) (sym value);
  same = l.same;
}

-- pieces that are those of a format print its text
pub lined : (widths : List ℕ) (ops : List Op) (ps : List LinePiece) (s s' : Status) (format : List Piece) (arguments : Expressions ℕ) → All (IsOpOf (length s.known)) ops → Knows s.writes s.reads s.known → IsLine widths ops ps format arguments → PrintsPieces ops ps s s' → Lined widths s s' format arguments
lined widths ops [] s s' [] Nothing all k is e = record {
  size = ap (λ (t : Status). length t.known) e;
  continues = subst (λ (t : Status). Continues s.writes [] s.reads t.reads t.known) (sym e) (continues_none s.writes s.reads s.known k);
  lines = λ behind store len agree. ap (λ (t : Status). t.lines ++ behind) e;
  same = rw e refl;
}
lined widths ops [] s s' [] (Also e es) all k is h = absurd is
lined widths ops [] s s' (p ∷ format) arguments all k is h = absurd is
lined widths ops (pieces.Byte b ∷ ps) s s' [] arguments all k is h = absurd is
lined widths ops (pieces.Byte b ∷ ps) s s' (Argument c ∷ format) arguments all k is h = absurd is
lined widths ops (pieces.Byte b ∷ ps) s s' (Byte c ∷ format) arguments all k (same, is) (m, (e, h)) =
    subst (λ c. Lined widths s s' (Byte c ∷ format) arguments) same
    (lined_byte widths s s' b format arguments
    (lined widths ops ps (printing s (b ∷ [])) s' format arguments all k is (subst (λ t. PrintsPieces ops ps t s') e h)))
lined widths ops (pieces.Value conversion span ∷ ps) s s' [] arguments all k is h = absurd is
lined widths ops (pieces.Value conversion span ∷ ps) s s' (Byte c ∷ format) arguments all k is h = absurd is
lined widths ops (pieces.Value conversion span ∷ ps) s s' (Argument c ∷ format) Nothing all k is h = absurd is
lined widths ops (pieces.Value conversion span ∷ ps) s s' (Argument c ∷ format) (Also e arguments) all k (same, computes, is) (n, ((v, (m, (valued, en))), h)) =
    let got = gets (span_of ops span) s v m (λ values. own_value widths values e) (registers_of e) (all_piece (IsOpOf (length s.known)) ops span all) k computes valued in
    let en' : n ≡ record s { known = m.known; reads = m.reads; lines = s.lines ++ shown conversion v } = en ∙ ap (λ t. printing t (shown conversion v)) got.same in
    subst (λ c. Lined widths s s' (Argument c ∷ format) (Also e arguments)) same
    (lined_value widths s m s' v conversion e format arguments got
    (lined widths ops ps (record s { known = m.known; reads = m.reads; lines = s.lines ++ shown conversion v }) s' format arguments
    (subst (λ n. All (IsOpOf n) ops) (sym got.size) all) got.continues.knows is (subst (λ t. PrintsPieces ops ps t s') en' h)))
