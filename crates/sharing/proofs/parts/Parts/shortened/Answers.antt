-- A level more, at which there are fewer numbers.
use Rattle.std.proofs.Common.{◌≡◌, ap, ◌∙◌, arith, length, ◌*◌, ◌<◌}
use Rattle.sharing.specs.Parts.{chunks}
use Rattle.sharing.proofs.Telling.{Extends-through, told-up, AreTold-up}
use Rattle.sharing.proofs.parts.Parts.shortened.Goals as goal

-- there are fewer numbers
fewer : (c : goal.Else-not-branch-2) → length c.cut-in-levels.new.numbers.items < length c.levels.self.numbers.items
fewer c =
    let long : length c.encode.new.code.items ≡ 4 * length c.levels.self.numbers.items = c.in_ok-encode.ensures.length ∙ ap (λ l. 4 * length l) c.deref.ensures.value in
    let few = c.in_ok-cut-2.ensures.few c.if-not-branch-2.false in
    omega (arith, long, few, ap length c.deref-in-levels.ensures.value, c.len.ensures, c.levels-test.true)

pub levels-smaller : goal.levels-smaller
levels-smaller c = fewer c

pub levels-preserved : goal.levels-preserved
levels-preserved c =
    let joins = c.in_ok-cut-2.ensures.joined c.if-not-branch-2.false ∙ c.deref-in-levels.ensures.value in
    let there = c.in_ok-cut-2.ensures.there c.if-not-branch-2.false in
    let more = c.in_ok-cut-2.ensures.grows in
    let tells = c.in_ok-encode.ensures.told ∙ c.deref.ensures.value in
    record {
      whole = c.in_ok-cut-2.ensures.whole;
      grows = Extends-through _ _ _ c.levels.invariant.grows more;
      same = λ missed. c.in_ok-cut-2.ensures.same missed ∙ c.levels.invariant.same missed;
      told = told-up (chunks c.levels.self.chunks) (chunks c.cut-in-levels.new.held) c.levels.levels c.levels.self.numbers.items c.cut-in-levels.new.numbers.items c.encode.new.code.items more c.levels.invariant.held tells joins ∙ c.levels.invariant.told;
      held = AreTold-up (chunks c.levels.self.chunks) (chunks c.cut-in-levels.new.held) c.levels.levels c.levels.self.numbers.items c.cut-in-levels.new.numbers.items c.encode.new.code.items more c.levels.invariant.held tells joins there;
      some = c.in_ok-cut-2.ensures.some c.if-not-branch-2.false;
      fewer = omega (arith, fewer c, c.levels.invariant.fewer);
    }
