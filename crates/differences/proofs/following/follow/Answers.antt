-- One time more, and all of them.
use Rattle.std.proofs.Common.{◌≡◌, ◌∙◌, ap, refl, ℕ, List, length, take, arith}
use Rattle.std.specs.Prelude.{flat_map}
use Rattle.std.proofs.Math.Seq.{take-length}
use Rattle.design.specs.Compiled.{design_of}
use Rattle.differences.specs.ComparedValues.{rows_at}
use Rattle.differences.proofs.Follow.{given_there, rows_next, since_next}
use Rattle.differences.proofs.following.follow.Goals as goal

pub loop-place-init : goal.loop-place-init
loop-place-init c = record {
  one_code = refl;
  other_code = c.requires.code;
  one = c.requires.one;
  other = c.requires.other;
  rows = c.new-rows.ensures.items;
}

pub loop-place-preserved : goal.loop-place-preserved
loop-place-preserved c =
    let before = c.loop-place.invariant in
    let passed = c.in-Ok.ensures in
    record {
      one_code = passed.one.code ∙ before.one_code;
      other_code = passed.other.code ∙ before.other_code;
      one = since_next c.args.runs.first.now c.args.runs.times.now c.loop-place.place _ c.loop-place.one c.compare_at.new.one (omega arith) c.requires.rising before.one passed.one;
      other = since_next c.args.runs.second.now c.args.runs.times.now c.loop-place.place _ c.loop-place.other c.compare_at.new.other (omega arith) c.requires.rising before.other passed.other;
      rows = rows_next (design_of c.args.one.now.explainer.position.code) c.args.runs.first.now c.args.runs.second.now c.args.runs.times.now c.loop-place.place _ c.loop-place.rows.items c.compare_at.new.rows.items _ _
          (omega arith) before.rows passed.rows
          (given_there c.args.runs.first.now c.args.runs.times.now c.loop-place.place _ c.loop-place.one c.compare_at.new.one (omega arith) c.requires.rising before.one passed.one
          c.args.one.now.explainer.position.code (passed.one.code ∙ before.one_code) passed.one_registers)
          (given_there c.args.runs.second.now c.args.runs.times.now c.loop-place.place _ c.loop-place.other c.compare_at.new.other (omega arith) c.requires.rising before.other passed.other
          c.args.one.now.explainer.position.code (passed.other.code ∙ before.other_code) passed.other_registers);
    }

pub returns-clause-rows : goal.returns-clause-rows
returns-clause-rows c =
    let ended : c.loop-place.place ≡ length c.args.runs.times.now = omega arith in
    c.loop-place.invariant.rows
    ∙ ap (λ (l : List ℕ). flat_map (rows_at (design_of c.args.one.now.explainer.position.code) c.args.runs.first.now c.args.runs.second.now) l)
    (ap (λ (n : ℕ). take n c.args.runs.times.now) ended ∙ take-length c.args.runs.times.now)
