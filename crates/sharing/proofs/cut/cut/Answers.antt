-- A chunk more behind those so far.
use Rattle.std.proofs.Common.{◌≡◌, ◌≢◌, ◌+◌, ◌∷◌, ◌++◌, [], ap, sym, ◌∙◌, arith, length, length-append, List, ℕ, Some, subst}
use Rattle.std.specs.Prelude.{slice_get, IfSome}
use Rattle.sharing.specs.Parts.{chunks, joined_chunks, AreThere}
use Rattle.sharing.proofs.Telling.{Extends-through, AreThere-push, joined-push, joined_all}
use Rattle.sharing.proofs.cut.cut.Goals as goal

pub returns-then-is_empty-clause-joined : goal.returns-then-is_empty-clause-joined
returns-then-is_empty-clause-joined c _ =
    let found : slice_get (chunks c.number.new.self) c.in-Some.number ≡ Some c.split_at.result.0.now =
    subst (λ o. IfSome o (λ n. slice_get (chunks c.number.new.self) n ≡ Some c.split_at.result.0.now)) c.in-Some.is c.in_ok-number.ensures.number in
    let items = c.in_ok-push-in-Some.ensures.items in
    let none : length c.split_at.result.1.now ≡ 0 = grind (arith, c.is_empty.ensures, c.if-is_empty.true) in
    ap (λ (l : List ℕ). joined_chunks (chunks c.number.new.self) l) items
    ∙ joined_all _ c.split_at.result.1.now c.args.bytes.now none
    (joined-push (chunks c.chunks.held) (chunks c.number.new.self) c.chunks.numbers.items c.in-Some.number c.first_length.result c.split_at.result.0.now c.split_at.result.1.now c.chunks.rest.now c.args.bytes.now c.in_ok-number.ensures.grows c.chunks.invariant.there found c.chunks.invariant.joined c.split_at.ensures.front c.split_at.ensures.back)

pub chunks-preserved : goal.chunks-preserved
chunks-preserved c =
    let found : slice_get (chunks c.number.new.self) c.in-Some.number ≡ Some c.split_at.result.0.now =
    subst (λ o. IfSome o (λ n. slice_get (chunks c.number.new.self) n ≡ Some c.split_at.result.0.now)) c.in-Some.is c.in_ok-number.ensures.number in
    let more = c.in_ok-number.ensures.grows in
    let items = c.in_ok-push-in-Some.ensures.items in
    let some : length c.split_at.result.1.now ≢ 0 = grind (arith, c.is_empty.ensures, c.if-is_empty.false) in
    let long : length c.push.new.self.items ≡ length c.chunks.numbers.items + 1 = ap length items ∙ length-append c.chunks.numbers.items (c.in-Some.number ∷ []) in
    record {
      whole = c.in_ok-number.ensures.whole;
      grows = Extends-through _ _ _ c.chunks.invariant.grows more;
      same = λ missed. c.in_ok-number.ensures.same missed ∙ c.chunks.invariant.same missed;
      there = subst (λ (l : List ℕ). AreThere (chunks c.number.new.self) l) (sym items) (AreThere-push (chunks c.chunks.held) (chunks c.number.new.self) c.chunks.numbers.items c.in-Some.number c.split_at.result.0.now more c.chunks.invariant.there found);
      joined = ap (λ (l : List ℕ). joined_chunks (chunks c.number.new.self) l ++ c.split_at.result.1.now) items
          ∙ joined-push (chunks c.chunks.held) (chunks c.number.new.self) c.chunks.numbers.items c.in-Some.number c.first_length.result c.split_at.result.0.now c.split_at.result.1.now c.chunks.rest.now c.args.bytes.now more c.chunks.invariant.there found c.chunks.invariant.joined c.split_at.ensures.front c.split_at.ensures.back;
      few = omega (arith, some, long, c.split_at.ensures.back_len, c.first_length.ensures.least, c.chunks.invariant.few);
    }
