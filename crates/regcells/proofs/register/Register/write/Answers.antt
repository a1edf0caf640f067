use Rattle.std.proofs.Common.{◌≡◌, ◌+◌, List, length, sym, ap, ◌∙◌, arith}
use Rattle.crossbeam_utils.specs.Seq.{cell_view}
use Rattle.logic4.specs.Vector.{Vector}
use Rattle.turn.specs.TurnChanges.{altered}
use Rattle.regcells.specs.RegisterRule.{holder}
use Rattle.regcells.specs.Values.{register_width, last_value, values_after}
use Rattle.regcells.specs.Passes.{seen_by}
use Rattle.regcells.proofs.Lasts.{last_at, none_given, turn_change_last, last_given, length-given, width_given, turn_change_width, given_holding}
use Rattle.regcells.proofs.register.Register.write.Goals as goal

pub returns-then-more-eq0-clause-given : goal.returns-then-more-eq0-clause-given
returns-then-more-eq0-clause-given g c =
    let k = c.check-last.ensures in
    let values = seen_by c.args.pass.now in
    let given = g.X.Giving.given in
    let last : c.check-last.result.value ≡ last_value values = last_at values c.check-last.result.version c.check-last.result.value k.entry k.version in
    let seen : seen_by c.check-last.new.pass ≡ values = ap (λ v. v.seen) k.same in
    let more = c.changes_after-more.ensures.value given c.requires.turn_change in
    seen ∙ sym (none_given values given (ap (λ (v : Vector). length (altered v given)) (sym last) ∙ sym more ∙ c.if-more-eq0.true))

pub put-requires-clause-last : goal.put-requires-clause-last
put-requires-clause-last g c =
    let values = seen_by c.check-last.new.pass in
    sym (last_given values g.X.Giving.given ∙ turn_change_last g.X.Giving.given c.args.turn_change (last_value values) c.requires.turn_change)

pub put-requires-clause-version : goal.put-requires-clause-version
put-requires-clause-version g c =
    let k = c.check-last.ensures in
    let values = seen_by c.args.pass.now in
    let given = g.X.Giving.given in
    let last : c.check-last.result.value ≡ last_value values = last_at values c.check-last.result.version c.check-last.result.value k.entry k.version in
    let seen : seen_by c.check-last.new.pass ≡ values = ap (λ v. v.seen) k.same in
    let more : c.changes_after-more.result ≡ length (altered (last_value values) given) = c.changes_after-more.ensures.value given c.requires.turn_change ∙ ap (λ (v : Vector). length (altered v given)) last in
    let longer : length (values_after (seen_by c.check-last.new.pass) given) ≡ length values + length (altered (last_value values) given) = ap (λ (l : List Vector). length (values_after l given)) seen ∙ length-given values given in
    omega (arith, longer, more, k.version)

pub put-requires-clause-width : goal.put-requires-clause-width
put-requires-clause-width g c =
    let values = seen_by c.args.pass.now in
    let given = g.X.Giving.given in
    let seen : seen_by c.check-last.new.pass ≡ values = ap (λ v. v.seen) c.check-last.ensures.same in
    let wide : register_width values ≡ c.args.self.now.width = ap (λ n. n.width) c.requires.register in
    ap (λ (l : List Vector). register_width (values_after l given)) seen
    ∙ width_given values given c.requires.holding.begun
    ∙ wide
    ∙ sym (turn_change_width given c.args.turn_change c.args.self.now.width c.requires.turn_change c.requires.widths)

pub returns-clause-holding : goal.returns-clause-holding
returns-clause-holding g c =
    let given = g.X.Giving.given in
    let seen : seen_by c.check-last.new.pass ≡ seen_by c.args.pass.now = ap (λ v. v.seen) c.check-last.ensures.same in
    let wide : register_width (seen_by c.args.pass.now) ≡ c.args.self.now.width = ap (λ n. n.width) c.requires.register in
    let more : cell_view c.put.new.pass ≡ holder (values_after (seen_by c.args.pass.now) given) = c.put.ensures.given ∙ ap (λ (l : List Vector). holder (values_after l given)) seen in
    given_holding c.args.pass.now c.put.new.pass given c.args.turn_change c.args.self.now.width c.requires.holding more c.requires.turn_change c.requires.widths (sym wide)
