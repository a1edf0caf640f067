-- Unseen differences.
use Rattle.std.proofs.Common.{◌≡◌, ◌∙◌, ap, sym, subst, ◌<◌, List, ℕ, length}
use Rattle.std.specs.Prelude.{IfOk, IfSome, IsTrue, Option, Some, None, Result, Ok, Err}
use Rattle.model.specs.declared.entry.Entry.{Entry}
use Rattle.model.specs.declared.end.Limits.{Limits}
use Rattle.design.specs.Compiled.{Compiled, design_of}
use Rattle.runs.specs.declared.run.RunRecord.{RunRecord}
use Rattle.runs.specs.RunRecords.{IsRun}
use Rattle.runs.specs.Compared.{AreLike}
use Rattle.accesses.specs.declared.pair.Pair.{Pair}
use Rattle.races.specs.declared.unseen.UnseenDifference.{UnseenDifference}
use Rattle.races.specs.Unseen.{ComeInBothOrders, DifferByPair, DifferWhenPassing, IsUnseen, PassesIn, is_at_rest}

-- the same registers differ when the same time passes, whichever entries are told
pub differ_so : (code : Compiled) (one other : List Entry) (d e : UnseenDifference) → e.time ≡ d.time → e.registers ≡ d.registers → DifferWhenPassing code one other d → DifferWhenPassing code one other e
differ_so code one other d e time registers h =
    let items : e.registers.items ≡ d.registers.items = ap (λ rs. rs.items) registers in
    record {
      first = h.first;
      passes_first = subst (λ (n : ℕ). PassesIn (design_of code) one n h.first) (sym time) h.passes_first;
      second = h.second;
      passes_second = subst (λ (n : ℕ). PassesIn (design_of code) other n h.second) (sym time) h.passes_second;
      some = subst (λ (rs : List ℕ). 0 < length rs) (sym items) h.some;
      registers_are = items ∙ h.registers_are;
    }

-- and with two entries
pub differ_by : (code : Compiled) (original exchanged : RunRecord) (d e : UnseenDifference) (pair : Option Pair) → e.time ≡ d.time → e.registers ≡ d.registers → e.pair ≡ pair → ComeInBothOrders code original exchanged pair
    → DifferWhenPassing code original.journal.items exchanged.journal.items d → DifferByPair code original exchanged e
differ_by code original exchanged d e pair time registers is orders h = record {
  differ = differ_so code original.journal.items exchanged.journal.items d e time registers h;
  orders = subst (λ (p : Option Pair). ComeInBothOrders code original exchanged p) (sym is) orders;
}

difference_unseen : (o : Option UnseenDifference) (code : Compiled) (limits : Limits) (original exchanged : RunRecord) → IsRun code limits exchanged → AreLike original exchanged → IsTrue (is_at_rest exchanged.end)
    → IfSome o (DifferByPair code original exchanged) → IfSome o (IsUnseen code limits original)
difference_unseen (Some d) code limits original exchanged run alike rests differ = record { exchanged = exchanged; run = run; alike = alike; rests = rests; differ = differ }
difference_unseen None code limits original exchanged run alike rests differ = tt

-- a difference of a run that prints the same and ends alike, at rest, is unseen
pub differ_unseen : {E : Type 0} (r : Result (Option UnseenDifference) E) (code : Compiled) (limits : Limits) (original exchanged : RunRecord) → IsRun code limits exchanged → AreLike original exchanged → IsTrue (is_at_rest exchanged.end)
    → IfOk r (λ found. IfSome found (DifferByPair code original exchanged)) → IfOk r (λ found. IfSome found (IsUnseen code limits original))
differ_unseen (Ok o) code limits original exchanged run alike rests differ = difference_unseen o code limits original exchanged run alike rests differ
differ_unseen (Err e) code limits original exchanged run alike rests differ = tt
