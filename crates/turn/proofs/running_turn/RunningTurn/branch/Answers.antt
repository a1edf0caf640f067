use Rattle.std.proofs.Common.{ℕ, List, ap, sym, subst}
use Rattle.turn.specs.declared.memory.Seen.{Seen}
use Rattle.turn.specs.Reads.{GaveAll}
use Rattle.turn.specs.RunningTurn.{Status, turn_status_of}
use Rattle.turn.proofs.running_turn.RunningTurn.branch.Goals as goal

pub returns-clause-takes : goal.returns-clause-takes
returns-clause-takes g c =
    (c.compute.new.self.stack.top, (turn_status_of c.compute.new.self, (c.in_ok-compute.ensures.value, cc (c.go.ensures, c.choose_place.ensures, c.truth-truth.ensures))))

pub returns-clause-reads : goal.returns-clause-reads
returns-clause-reads g c =
    let given = g.R.RegReader.gave c.compute.new.reader in
    let computed = c.in_ok-compute.ensures.reads in
    record {
      gave = λ had. subst (λ (rs : List (ℕ × Seen)). GaveAll given rs) (sym (ap (λ (s : Status). s.reads) c.go.ensures)) (computed.gave had);
      keeps = computed.keeps;
      lasting = computed.lasting;
    }
