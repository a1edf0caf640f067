-- The seats of the registers are alike, so each worker gets one of them.
use Rattle.std.proofs.Common.{◌≡◌, ◌∙◌, ◌+◌, ◌-◌, ◌++◌, ◌∷◌, [], ℕ, None, replicate, ap, sym, arith}
use Rattle.std.proofs.lemmas.List.FromFn.{map-range_with_len_more}
use Rattle.regcells.specs.CellSeats as regs
use Rattle.commitgate.specs.Blanks.{first_fresh}
use Rattle.runstate.specs.Marked.{keeper}
use Rattle.commitgate.specs.Seats.{new_seat}
use Rattle.commitgate.proofs.Openings.{last_left, last_out}
use Rattle.commitgate.proofs.blank.seat_all.Goals as goal

pub loop-worker-preserved : goal.loop-worker-preserved
loop-worker-preserved g c =
    let n = g.K.Naming.named in
    let i = c.loop-worker.invariant in
    let next = c.next_seat-pass.ensures in
    let own : c.in-Some.own ≡ first_fresh n = last_out (n.workers - c.loop-worker.worker) (first_fresh n) c.in-Some.own c.pop.new.self.items (sym i.left ∙ c.in-Some.ensures.items) in
    let left : c.pop.new.self.items ≡ replicate (n.workers - c.loop-worker.worker - 1) (first_fresh n) = last_left (n.workers - c.loop-worker.worker) (first_fresh n) c.in-Some.own c.pop.new.self.items (sym i.left ∙ c.in-Some.ensures.items) in
    let fewer : n.workers - c.loop-worker.worker - 1 ≡ n.workers - (c.loop-worker.worker + 1) = omega arith in
    let place : 0 + c.loop-worker.worker ≡ c.loop-worker.worker = omega arith in
    let seat : c.new.result ≡ new_seat n.code c.loop-worker.worker =
    c.new.ensures ∙ ap (λ (f : regs.Fresh). record { worker = c.loop-worker.worker; seen = []; positions = []; stored = None; fresh = f.seen }) own in
    record {
      table = next.cell.0 ∙ i.table;
      keeps = next.whole ∙ ap (λ (m : ℕ). keeper (m + 1) []) (ap (λ v. v.made) i.keeps);
      left = left ∙ ap (λ (m : ℕ). replicate m (first_fresh n)) fewer;
      made =
          c.in_ok-push.ensures.items
          ∙ ((λ j. i.made j ++ seat j ∷ [])
          ∙ sym (map-range_with_len_more (new_seat n.code) 0 c.loop-worker.worker c.loop-worker.worker place));
    }
