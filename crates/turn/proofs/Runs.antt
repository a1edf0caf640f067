-- The steps of an expression, one after another.
use Rattle.std.proofs.Common.{◌≡◌, ℕ, ◌+◌, ◌<◌, ◌||◌, if◌then◌else◌, List, [], ◌∷◌, ◌++◌, length, take, Option, get_or, refl, sym, ap, subst, suc, arith, ◌∙◌, append_assoc, take-suc, add-one}
use Rattle.std.specs.List.{All}
use Rattle.logic4.specs.Vector.{Vector, resize}
use Rattle.logic4.specs.Operators.{select_digit}
use Rattle.model.specs.Expressions.{Store, value_of, one_digit}
use Rattle.model.specs.Turns.{contains, with_uses}
use Rattle.design.specs.declared.code.Op.{Op}
use Rattle.design.specs.declared.code.Op.TheVariants.{Load, Pick, Constant, Unary, Binary, BinaryConstant, BinaryRegister, Join, Resize, Extend, Choose}
use Rattle.design.specs.Operate.{combined}
use Rattle.design.specs.ExpressionSteps.{topmost, below, act, run_ops, reads_of, all_reads, IsOpOf}
use Rattle.turn.specs.declared.memory.Seen.{Seen}
use Rattle.turn.specs.Reads.{registers}
use Rattle.turn.specs.Evaluate.{Acts, RunsSteps, Knows, Continues, written_in}
use Rattle.turn.proofs.Known.{Looked, looked}

run_ops-append : (values : Store) (xs ys : List Op) (st : List Vector) → run_ops values (xs ++ ys) st ≡ run_ops values ys (run_ops values xs st)
run_ops-append values [] ys st = refl
run_ops-append values (x ∷ xs) ys st = run_ops-append values xs ys (act values x st)

all_reads-append : (xs ys : List Op) → all_reads (xs ++ ys) ≡ all_reads xs ++ all_reads ys
all_reads-append [] ys = refl
all_reads-append (x ∷ xs) ys = ap (λ rs. reads_of x ++ rs) (all_reads-append xs ys) ∙ sym (append_assoc (reads_of x) (all_reads xs) (all_reads ys))

pub uses_append : (W rs us qs : List ℕ) → with_uses W us (rs ++ qs) ≡ with_uses W (with_uses W us rs) qs
uses_append W [] us qs = refl
uses_append W (r ∷ rs) us qs = uses_append W rs (if contains us r || contains W r then us else us ++ r ∷ []) qs

-- ---- what was looked at, one list after another

pub continues_none : (writes : List (ℕ × Vector)) (reads : List (ℕ × Seen)) (known : List (Option Vector)) → Knows writes reads known → Continues writes [] reads reads known
continues_none writes reads known k = record { knows = k; agrees = λ store h. h; uses = refl }

pub continues_both : (writes : List (ℕ × Vector)) (rs qs : List ℕ) (s s1 s2 : List (ℕ × Seen)) (k1 k2 : List (Option Vector)) → Continues writes rs s s1 k1 → Continues writes qs s1 s2 k2 → Continues writes (rs ++ qs) s s2 k2
continues_both writes rs qs s s1 s2 k1 k2 a b = record {
  knows = b.knows;
  agrees = λ store h. a.agrees store (b.agrees store h);
  uses = b.uses ∙ ap (λ us. with_uses (written_in writes) us qs) a.uses ∙ sym (uses_append (written_in writes) rs (registers s) qs);
}

-- ---- runs

pub ran_none : (k : List (Option Vector)) (s : List (ℕ × Seen)) (st : List Vector) → RunsSteps [] k s st k s st
ran_none k s st = record {
  size = refl;
  holds = λ values h. h;
  stack = λ values h. refl;
  continues = λ writes h. continues_none writes s k h;
}

pub ran_empty : (ops : List Op) (k : List (Option Vector)) (s : List (ℕ × Seen)) (st : List Vector) → length ops ≡ 0 → RunsSteps ops k s st k s st
ran_empty [] k s st e = ran_none k s st
ran_empty (op ∷ ops) k s st e = absurd (omega (arith, e))

-- one step as a run
ran_look : (op : Op) (r : ℕ) (v : Vector) (k : List (Option Vector)) (s : List (ℕ × Seen)) (st : List Vector) (k' : List (Option Vector)) (s' : List (ℕ × Seen)) (st' : List Vector) → reads_of op ≡ r ∷ [] → ((values : Store) → value_of values r ≡ v → act values op st ≡ st') → Looked r v k s k' s' → RunsSteps (op ∷ []) k s st k' s' st'
ran_look op r v k s st k' s' st' reads acts l = record {
  size = l.size;
  holds = l.holds;
  stack = λ values h. acts values (l.value values h);
  continues = λ writes h. subst (λ rs. Continues writes (rs ++ []) s s' k') (sym reads) (l.continues writes h);
}

ran_plain : (op : Op) (k : List (Option Vector)) (s : List (ℕ × Seen)) (st : List Vector) (k' : List (Option Vector)) (s' : List (ℕ × Seen)) (st' : List Vector) → reads_of op ≡ [] → ((values : Store) → act values op st ≡ act [] op st) → (k' ≡ k) × (s' ≡ s) × (st' ≡ act [] op st) → RunsSteps (op ∷ []) k s st k' s' st'
ran_plain op k s st k' s' st' reads same (ek, es, est) =
    rw (ek, es, est) (record {
      size = refl;
      holds = λ values h. h;
      stack = λ values h. same values;
      continues = λ writes h. subst (λ rs. Continues writes (rs ++ []) s s k) (sym reads) (continues_none writes s k h);
    })

ran_one : (op : Op) (k : List (Option Vector)) (s : List (ℕ × Seen)) (st : List Vector) (k' : List (Option Vector)) (s' : List (ℕ × Seen)) (st' : List Vector) → IsOpOf (length k) op → Acts op k s st k' s' st' → RunsSteps (op ∷ []) k s st k' s' st'
ran_one (Load r size) k s st k' s' st' lt (v, (l, e)) =
    ran_look (Load r size) r v k s st k' s' st' refl (λ values h. ap (λ w. resize size w ∷ st) h ∙ sym e) (looked r v k s k' s' lt l)
ran_one (Pick r i size) k s st k' s' st' lt (v, (l, e)) =
    ran_look (Pick r i size) r v k s st k' s' st' refl (λ values h. ap (λ w. one_digit size (select_digit w i) ∷ st) h ∙ sym e) (looked r v k s k' s' lt l)
ran_one (Constant v) k s st k' s' st' lt h = ran_plain (Constant v) k s st k' s' st' refl (λ values. refl) h
ran_one (Unary op asked) k s st k' s' st' lt h = ran_plain (Unary op asked) k s st k' s' st' refl (λ values. refl) h
ran_one (Binary op size asked) k s st k' s' st' lt h = ran_plain (Binary op size asked) k s st k' s' st' refl (λ values. refl) h
ran_one (BinaryConstant op size asked v) k s st k' s' st' lt h = ran_plain (BinaryConstant op size asked v) k s st k' s' st' refl (λ values. refl) h
ran_one (BinaryRegister op size asked r other) k s st k' s' st' lt (v, (l, e)) =
    ran_look (BinaryRegister op size asked r other) r v k s st k' s' st' refl (λ values h. ap (λ w. combined op size asked (topmost st) (resize other w) ∷ below st) h ∙ sym e) (looked r v k s k' s' lt l)
ran_one Join k s st k' s' st' lt h = ran_plain Join k s st k' s' st' refl (λ values. refl) h
ran_one (Resize size) k s st k' s' st' lt h = ran_plain (Resize size) k s st k' s' st' refl (λ values. refl) h
ran_one (Extend by size asked) k s st k' s' st' lt h = ran_plain (Extend by size asked) k s st k' s' st' refl (λ values. refl) h
ran_one (Choose size) k s st k' s' st' lt h = ran_plain (Choose size) k s st k' s' st' refl (λ values. refl) h

-- runs compose
ran_both : (xs ys : List Op) (k : List (Option Vector)) (s : List (ℕ × Seen)) (st : List Vector) (k1 : List (Option Vector)) (s1 : List (ℕ × Seen)) (st1 : List Vector) (k2 : List (Option Vector)) (s2 : List (ℕ × Seen)) (st2 : List Vector) → RunsSteps xs k s st k1 s1 st1 → RunsSteps ys k1 s1 st1 k2 s2 st2 → RunsSteps (xs ++ ys) k s st k2 s2 st2
ran_both xs ys k s st k1 s1 st1 k2 s2 st2 a b = record {
  size = b.size ∙ a.size;
  holds = λ values h. a.holds values (b.holds values h);
  stack = λ values h. run_ops-append values xs ys st ∙ ap (run_ops values ys) (a.stack values (b.holds values h)) ∙ b.stack values h;
  continues = λ writes h.
      let first = a.continues writes h in
      subst (λ rs. Continues writes rs s s2 k2) (sym (all_reads-append xs ys)) (continues_both writes (all_reads xs) (all_reads ys) s s1 s2 k1 k2 first (b.continues writes first.knows));
}

-- one more step
pub ran_more : (ops : List Op) (i : ℕ) (op : Op) (k : List (Option Vector)) (s : List (ℕ × Seen)) (st : List Vector) (k1 : List (Option Vector)) (s1 : List (ℕ × Seen)) (st1 : List Vector) (k2 : List (Option Vector)) (s2 : List (ℕ × Seen)) (st2 : List Vector) → i < length ops → op ≡ get_or ops i op → All (IsOpOf (length k)) ops → RunsSteps (take i ops) k s st k1 s1 st1 → Acts op k1 s1 st1 k2 s2 st2 → RunsSteps (take (i + 1) ops) k s st k2 s2 st2
ran_more ops i op k s st k1 s1 st1 k2 s2 st2 lt is all a acts =
    let fits : IsOpOf (length k) op = subst (IsOpOf (length k)) (sym is) (all i op lt) in
    let fits' : IsOpOf (length k1) op = subst (λ n. IsOpOf n op) (sym a.size) fits in
    let both : RunsSteps (take i ops ++ op ∷ []) k s st k2 s2 st2 = ran_both (take i ops) (op ∷ []) k s st k1 s1 st1 k2 s2 st2 a (ran_one op k1 s1 st1 k2 s2 st2 fits' acts) in
    let more : take (i + 1) ops ≡ take i ops ++ op ∷ [] = ap (λ n. take n ops) (add-one i) ∙ take-suc ops i op lt ∙ ap (λ o. take i ops ++ o ∷ []) (sym is) in
    rw more both

-- a first step, and others
pub ran_first : (ops : List Op) (op : Op) (others : List Op) (k : List (Option Vector)) (s : List (ℕ × Seen)) (st : List Vector) (k1 : List (Option Vector)) (s1 : List (ℕ × Seen)) (st1 : List Vector) (k2 : List (Option Vector)) (s2 : List (ℕ × Seen)) (st2 : List Vector) → ops ≡ op ∷ others → All (IsOpOf (length k)) ops → Acts op k s st k1 s1 st1 → (All (IsOpOf (length k1)) others → RunsSteps others k1 s1 st1 k2 s2 st2) → RunsSteps ops k s st k2 s2 st2
ran_first ops op others k s st k1 s1 st1 k2 s2 st2 is all acts ran =
    let all' : All (IsOpOf (length k)) (op ∷ others) = subst (All (IsOpOf (length k))) is all in
    let one : RunsSteps (op ∷ []) k s st k1 s1 st1 = ran_one op k s st k1 s1 st1 (all' 0 op (omega arith)) acts in
    let left : All (IsOpOf (length k1)) others = subst (λ n. All (IsOpOf n) others) (sym one.size) (λ i o lt. all' (suc i) o (omega (arith, lt))) in
    rw is (ran_both (op ∷ []) others k s st k1 s1 st1 k2 s2 st2 one (ran left))
