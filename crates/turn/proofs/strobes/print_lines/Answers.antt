use Rattle.std.proofs.Common.{rules, ◌≡◌, ◌∙◌, [], length, take, get_or, refl, ap, sym, subst}
use Rattle.std.proofs.lemmas.List.{take_all}
use Rattle.turn.specs.RunningTurn.{turn_status_of, fresh}
use Rattle.turn.specs.Reads.{GaveAll}
use Rattle.turn.specs.Evaluate.{NamesDeclared}
use Rattle.turn.proofs.Values.{code_declared}
use Rattle.turn.proofs.Strobed.{Strobed, strobed_none, strobed_next, strobed_all, printed}
use Rattle.turn.proofs.strobes.print_lines.Goals as goal

pub strobe_line-requires : goal.strobe_line-requires
strobe_line-requires g c =
    let n = g.R.RegReader.registers in
    subst (NamesDeclared n) (sym c.ops-ops.ensures) (code_declared c.args.design.now n c.registers.ensures.compiled c.requires.registers)

pub loop-place-init : goal.loop-place-init
loop-place-init g c =
    let design = c.args.design.now in
    let begins : turn_status_of c.begin.new.self ≡ fresh _ (length design.widths) = c.in_ok-begin.ensures ∙ ap (λ n. fresh _ n) c.registers.ensures.value in
    record {
      strobed = subst (Strobed design []) (sym begins) (strobed_none design _);
      gave = subst (GaveAll _) (sym (ap (λ s. s.reads) begins)) tt;
      keeps = search rules;
      lasting = refl;
    }

pub loop-place-preserved : goal.loop-place-preserved
loop-place-preserved g c =
    let code = c.args.design.now in
    let places = c.args.places.now in
    let i = c.loop-place.place-index in
    let s = turn_status_of c.loop-place.running in
    let t = turn_status_of c.strobe_line.new.self in
    let prints = printed code c.nodes-nodes.result.now c.ops-ops.result.now c.shown-shown.result.now (get_or places i 0) s t c.nodes-nodes.ensures c.ops-ops.ensures c.shown-shown.ensures c.in_ok-strobe_line.ensures.prints in
    record {
      strobed = strobed_next code places i s t c.loop-place-test.true c.registers.ensures.compiled c.loop-place.invariant.strobed prints;
      gave = c.in_ok-strobe_line.ensures.reads.gave c.loop-place.invariant.gave;
      keeps = λ r s h. c.in_ok-strobe_line.ensures.reads.keeps r s (c.loop-place.invariant.keeps r s h);
      lasting = c.in_ok-strobe_line.ensures.reads.lasting ∙ c.loop-place.invariant.lasting;
    }

pub returns-clause-lines : goal.returns-clause-lines
returns-clause-lines g c =
    let places = c.args.places.now in
    let i = c.loop-place.place-index in
    let all : take i places ≡ places = take_all i places c.loop-place-test.false in
    strobed_all c.args.design.now places (turn_status_of c.loop-place.running) _ _
    (subst (λ ps. Strobed c.args.design.now ps (turn_status_of c.loop-place.running)) all c.loop-place.invariant.strobed) refl refl
