-- What the machine came to.
use mathlib.Core.Bool.{beq}
use Rattle.std.proofs.Common.{◌≡◌, ℕ, Bool, true, false, not, refl, sym, ap, ◌∙◌}
use Rattle.std.specs.Global.{Vec}
use Rattle.looseparts.proofs.repeats.gone_with.Goals as goal

same_test : (x y : Bool) → not (beq x y) ≡ false → x ≡ y
same_test true true h = refl
same_test true false h = cc
same_test false true h = cc
same_test false false h = refl

pub returns-clause-comes : goal.returns-clause-comes
returns-clause-comes c =
    let finished : c.go.new.machine.core.finished ≡ c.args.over = sym c.is_finished.ensures ∙ same_test c.is_finished.result c.args.over c.if-is_finished-over.false in
    record {
      end = c.go.new.machine;
      gone = c.in_ok-go.ensures.gone c.if-not-branch.false;
      finished = finished;
      same_code = c.go.ensures.code;
      told = sym (ap (λ (v : Vec ℕ). v.items) c.into_bytes-lines.ensures.value ∙ c.take_lines.ensures.lines);
      controls = c.stands.ensures.controls;
      keyed = λ is. c.in_ok-key.ensures (finished ∙ is);
    }
