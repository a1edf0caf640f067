-- Its values, and the processes of its evaluations.
use Rattle.std.proofs.Common.{◌∙◌, List, ap, sym, arith, length}
use Rattle.std.proofs.lemmas.List.{length-map}
use Rattle.model.specs.Turns.{contains}
use Rattle.settling.proofs.Since.{active_there}
use Rattle.settling.proofs.Tested.{inside_told}
use Rattle.settling.proofs.begin.Begin.of.Goals as goal

pub returns : goal.returns
returns c =
    let m = c.args.machine.now in
    let es = c.active.result.1.now.items in
    let same = c.in_ok-values.ensures ∙ c.store.ensures in
    record {
      values = same;
      count = ap length same ∙ sym (length-map m.values length) ∙ ap length c.stands.ensures.store;
      active = λ p there.
          omega (arith, active_there es p (ap (λ (l : List _). contains l p) (sym c.in_ok-pending.ensures) ∙ there), inside_told m.core c.state.result.now c.active.result.0.now.items es p c.active.ensures c.state.ensures);
    }
