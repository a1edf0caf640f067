use Rattle.std.proofs.Common.{ℕ, List, ap, sym, subst}
use Rattle.turn.specs.declared.memory.Seen.{Seen}
use Rattle.turn.specs.Reads.{GaveAll}
use Rattle.turn.specs.RunningTurn.{Status}
use Rattle.turn.proofs.running_turn.RunningTurn.display.Goals as goal

pub returns-clause-reads : goal.returns-clause-reads
returns-clause-reads g c =
    let given = g.R.RegReader.gave c.print_pieces.new.reader in
    let printed = c.in_ok-print_pieces.ensures.reads in
    record {
      gave = λ had. subst (λ (rs : List (ℕ × Seen)). GaveAll given rs) (sym (ap (λ (s : Status). s.reads) c.go.ensures)) (printed.gave had);
      keeps = printed.keeps;
      lasting = printed.lasting;
    }
