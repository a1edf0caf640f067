-- The next node's number is kept, where it is, and how often it does so is added.
use Rattle.std.proofs.Common.{◌≡◌, ◌∙◌, refl, ap, sym, subst, ℕ, ◌+◌, ◌^◌, ◌-◌, ◌<◌, min, List, length, get_or, Some, arith}
use Rattle.std.specs.Prelude.{slice_get}
use Rattle.std.specs.List.{All}
use Rattle.std.proofs.lemmas.Option.{slice_get_read}
use Rattle.design.specs.declared.code.Node.{Node}
use Rattle.executed.specs.Deeds.{times_done}
use Rattle.executed.specs.RunNumbers.{IsNumberBetween, times_between}
use Rattle.executed.proofs.Numbers.{kept_numbers, one_more}
use Rattle.executed.proofs.statements.numbered_between.Goals as goal

pub loop-place-preserved : goal.loop-place-preserved
loop-place-preserved c =
    let code = c.args.wanted.design.now in
    let deed = c.args.deed in
    let first = c.args.first in
    let place = c.loop-place.place in
    let times = c.times_done-times.result in
    let within : place < length code.nodes = omega (arith, c.requires.within, c.loop-place-test.true) in
    let node : Node = c.index-nodes-place.result in
    let there : node ≡ get_or code.nodes place node = c.index-nodes-place.is ∙ ap (λ (ns : List Node). get_or ns place node) c.nodes-nodes.ensures in
    let is_at : slice_get code.nodes place ≡ Some node = slice_get_read code.nodes (length code.nodes) place node refl within there in
    let times_is : times ≡ times_done code deed node = c.times_done-times.ensures in
    let so_far = c.loop-place.invariant in
    record {
      total_is = c.saturating_add-total.ensures
          ∙ (ap (λ (n : ℕ). min (n + times) (2 ^ 64 - 1)) so_far.total_is
          ∙ (ap (λ (n : ℕ). min (times_between code deed first place + n) (2 ^ 64 - 1)) times_is ∙ sym (one_more code deed first place node c.loop-place.auto.place within is_at)));
      numbers_are = kept_numbers code deed first place node times c.loop-place.total c.loop-place.numbers.items c.keep_number.new.numbers.items c.loop-place.auto.place is_at times_is so_far.total_is
          c.in_ok-keep_number.ensures so_far.numbers_are;
    }

pub returns : goal.returns
returns c =
    let code = c.args.wanted.design.now in
    let deed = c.args.deed in
    let first = c.args.first in
    let so_far = c.loop-place.invariant in
    let at_end : c.loop-place.place ≡ c.args.end = omega (arith, c.loop-place.auto.place-end c.requires.some, c.loop-place-test.false) in
    record {
      first = first;
      end = c.args.end;
      begins = c.requires.begins;
      within = c.requires.within;
      numbers_are = subst (λ (e : ℕ). All (IsNumberBetween code deed first e) c.loop-place.numbers.items) at_end so_far.numbers_are;
      total_is = so_far.total_is ∙ ap (times_between code deed first) at_end;
    }
