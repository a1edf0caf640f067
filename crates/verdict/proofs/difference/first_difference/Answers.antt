-- Line by line.
use Rattle.std.proofs.Common.{◌≡◌, ◌+◌, ◌≤◌, List, [], ℕ, length, take, drop, refl, sym, ◌∙◌, ap, subst, arith}
use Rattle.verdict.specs.VerdictLines.{first_line, behind_line, line_length, AgreeBefore}
use Rattle.verdict.proofs.LineLaws.{agree_more, line_left, not_over}
use Rattle.verdict.proofs.difference.first_difference.Goals.{then-is_empty, else-is_empty}
use Rattle.verdict.proofs.difference.first_difference.Goals as goal

pub loop-ones-init : goal.loop-ones-init
loop-ones-init c = record {
  agree = record { lines = []; of_one = refl; of_other = refl; count = refl };
  bound = omega arith;
}

pub loop-ones-preserved : goal.loop-ones-preserved
loop-ones-preserved c =
    let ones = c.loop-ones.ones.now in
    let others = c.loop-ones.others.now in
    let agree = c.loop-ones.invariant.agree in
    let left : length ones ≡ 0 → length others ≡ 0 → ⊥ = λ p q.
    elim c.if-is_empty.branch [ then-is_empty w ↦ not_over _ (length others) (sym w.value-is ∙ c.if-not-is_empty.true) w.is_empty-then-is_empty.ensures q | else-is_empty w ↦ not_over _ (length ones) w.if-is_empty.false c.is_empty.ensures p ] in
    let size : c.line_length.result ≡ line_length ones = c.line_length.ensures.value in
    let other_size : c.line_length-in-loop-ones.result ≡ line_length others = c.line_length-in-loop-ones.ensures.value in
    let one : c.split_at.result.0.now ≡ first_line ones = c.split_at.ensures.front ∙ ap (λ (n : ℕ). take n ones) size in
    let other : c.split_at-in-loop-ones.result.0.now ≡ first_line others = c.split_at-in-loop-ones.ensures.front ∙ ap (λ (n : ℕ). take n others) other_size in
    let same : c.split_at.result.0.now ≡ c.split_at-in-loop-ones.result.0.now = c.is_same.ensures.0 c.if-not-is_same.false in
    let behind : behind_line ones ≡ c.split_at.result.1.now = sym (c.split_at.ensures.back ∙ ap (λ (n : ℕ). drop n ones) size) in
    let other_behind : behind_line others ≡ c.split_at-in-loop-ones.result.1.now = sym (c.split_at-in-loop-ones.ensures.back ∙ ap (λ (n : ℕ). drop n others) other_size) in
    let more : AgreeBefore (c.loop-ones.line + 1) c.args.first.now c.args.second.now (behind_line ones) (behind_line others) =
    agree_more c.loop-ones.line c.args.first.now c.args.second.now ones others agree (sym one ∙ same ∙ other) in
    let same_size : line_length ones ≡ line_length others =
    sym size ∙ (sym c.split_at.ensures.front_len ∙ (ap (λ (l : List ℕ). length l) same ∙ (c.split_at-in-loop-ones.ensures.front_len ∙ other_size))) in
    let one_more : 1 ≤ line_length ones = line_left ones others left same_size in
    let shorter : length c.split_at.result.1.now + c.line_length.result ≡ length ones = c.split_at.ensures.back_len in
    record {
      agree =
          subst (λ (l : List ℕ). AgreeBefore (c.loop-ones.line + 1) c.args.first.now c.args.second.now l c.split_at-in-loop-ones.result.1.now) behind
          (subst (λ (l : List ℕ). AgreeBefore (c.loop-ones.line + 1) c.args.first.now c.args.second.now (behind_line ones) l) other_behind more);
      bound = omega (arith, c.loop-ones.invariant.bound, size, one_more, shorter);
    }
