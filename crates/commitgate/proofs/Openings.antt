-- What the lock and the gate keep once a gate is opened.
use Rattle.std.proofs.Common.{◌≡◌, ℕ, zero, suc, ◌-◌, List, [], ◌∷◌, ◌++◌, replicate, refl, sym, ap, ◌∙◌, arith}
use Rattle.crossbeam_utils.specs.Seq.{cell_view}
use Rattle.crossbeam_utils.specs.declared.atomic.seq_cell.Doing.{Doing}
use Rattle.atomic_table.specs.declared.shared.Seat.{Seat}
use Rattle.regcells.specs.CellSeats as regs
use Rattle.runstate.specs.declared.mark.MarkView.{MarkView}
use Rattle.runstate.specs.declared.run_state.RunState.{RunState}
use Rattle.commitgate.specs.Named.{Named}
use Rattle.runstate.specs.Ledger.{Ledger}
use Rattle.runstate.specs.RunState.{gate_state_of}
use Rattle.runstate.specs.Marked.{keeper}
use Rattle.commitgate.specs.StateInvariant.{GateStands}
use Rattle.commitgate.specs.Blanks.{IsBlank}
use Rattle.commitgate.proofs.Standings.{guarded_same, kept_start}

abbrev pub MarkPass : Type 0
MarkPass = Seat (List ℕ) (Doing (List ℕ) MarkView)

-- The lock keeps what it is to keep, once the seats are made.
pub stands_first : (n : Named) (room : ℕ) (committed : List ℕ) (seats : List regs.Fresh) (p : RunState) (whole : MarkPass) → IsBlank n room committed seats p
    → whole.table_id ≡ n.mark → cell_view whole ≡ keeper (cell_view whole).made []
    → GateStands n p.design.now p.limits p.holder whole.table_id (cell_view whole) (gate_state_of (record p { whole = whole }))
stands_first n room committed seats p whole b mark keeps =
    let seen : (cell_view {V = MarkView} whole).seen ≡ [] = ap (λ (v : MarkView). v.seen) keeps in
    record {
      code_is = b.code_is;
      limits_is = b.limits_is;
      cells_are = ap (λ (f : regs.Fresh). f.cells) b.holder_is;
      widths_are = b.widths_are;
      mark_is = mark;
      keeps = keeps ∙ ap (λ (l : Ledger). keeper (cell_view {V = MarkView} whole).made l) (sym seen);
      guarded = guarded_same n.code n.limits (gate_state_of p) p.holder.seen (cell_view {V = MarkView} whole).seen b.guarded;
      kept = kept_start n (gate_state_of (record p { whole = whole })) b.journal_is b.end_is seen (ap (λ (f : regs.Fresh). f.seen) b.holder_is) refl refl;
    }

-- the last of a list of like values is that value, and one fewer is left
pub last_out : {A : Type 0} (n : ℕ) (x y : A) (ys : List A) → replicate n x ≡ ys ++ y ∷ [] → y ≡ x
last_out zero x y [] e = absurd (cc)
last_out zero x y (z ∷ ys) e = absurd (cc)
last_out (suc n) x y [] e = cc
last_out (suc n) x y (z ∷ ys) e = last_out n x y ys (cc)

pub last_left : {A : Type 0} (n : ℕ) (x y : A) (ys : List A) → replicate n x ≡ ys ++ y ∷ [] → ys ≡ replicate (n - 1) x
last_left zero x y [] e = absurd (cc)
last_left zero x y (z ∷ ys) e = absurd (cc)
last_left (suc zero) x y [] e = refl
last_left {A = A} (suc zero) x y (z ∷ ys) e = absurd (nothing ys (cc))
  where
    nothing : (zs : List A) → [] ≡ zs ++ y ∷ [] → ⊥
    nothing [] h = cc
    nothing (w ∷ ws) h = cc
last_left (suc (suc n)) x y [] e = absurd (cc)
last_left (suc (suc n)) x y (z ∷ ys) e =
    let same : z ≡ x = cc in
    let rest : ys ≡ replicate (suc n - 1) x = last_left (suc n) x y ys (cc) in
    let fewer : suc n - 1 ≡ n = omega arith in
    let all : suc n ≡ suc (suc n) - 1 = omega arith in
    (λ i. same i ∷ rest i) ∙ ap (λ (m : ℕ). x ∷ replicate m x) fewer ∙ ap (λ (m : ℕ). replicate m x) all
