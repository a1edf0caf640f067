use Rattle.std.proofs.Common.{ℕ, List, refl, ap, sym, subst}
use Rattle.std.proofs.lemmas.Result.{on_ok_weaker}
use Rattle.turn.specs.declared.memory.Seen.{Seen}
use Rattle.turn.specs.Reads.{GaveAll}
use Rattle.turn.specs.RunningTurn.{Status, turn_status_of}
use Rattle.turn.proofs.running_turn.RunningTurn.print_piece.Goals as goal

pub returns-in_ok-print_value-in-Value-clause-prints : goal.returns-in_ok-print_value-in-Value-clause-prints
returns-in_ok-print_value-in-Value-clause-prints g c =
    rw c.in-Value.is (c.compute.new.self.stack.top, (turn_status_of c.compute.new.self, (c.in_ok-compute-in-Value.ensures.value, c.in_ok-print_value-in-Value.ensures)))

pub returns-in_ok-print_value-in-Value-clause-reads : goal.returns-in_ok-print_value-in-Value-clause-reads
returns-in_ok-print_value-in-Value-clause-reads g c =
    let given = g.R.RegReader.gave c.compute.new.reader in
    let computed = c.in_ok-compute-in-Value.ensures.reads in
    record {
      gave = λ had. subst (λ (rs : List (ℕ × Seen)). GaveAll given rs) (sym (ap (λ (s : Status). s.reads) c.in_ok-print_value-in-Value.ensures)) (computed.gave had);
      keeps = computed.keeps;
      lasting = computed.lasting;
    }

pub returns-in-Byte-clause-prints : goal.returns-in-Byte-clause-prints
returns-in-Byte-clause-prints g c = rw c.in-Byte.is c.print_byte.ensures

pub returns-in-Byte-clause-reads : goal.returns-in-Byte-clause-reads
returns-in-Byte-clause-reads g c =
    let given = g.R.RegReader.gave c.args.reader.now in
    record {
      gave = on_ok_weaker c.print_byte.result (λ h had. subst (λ (rs : List (ℕ × Seen)). GaveAll given rs) (sym (ap (λ (s : Status). s.reads) h)) had) c.print_byte.ensures;
      keeps = λ r s h. h;
      lasting = refl;
    }
