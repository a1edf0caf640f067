-- Each turn takes the lexeme at the front.
use Rattle.std.proofs.Common.{◌≡◌, [], length, append-nil, arith}
use Rattle.std.proofs.lemmas.Bool.Decides.{nat_tests}
use Rattle.diagnosis.proofs.Lexed.{lexeme_more, lexemes_start, no_lexeme}
use Rattle.diagnosis.proofs.lexemes.lexemes.Goals as goal

pub loop-left-init : goal.loop-left-init
loop-left-init c =
    let b = c.behind_skipped-left.ensures in
    record {
      within = b.within;
      at_token = b.at_token;
      lexemes = λ ls d. lexemes_start c.args.source.now c.behind_skipped-left.result.now c.new-found.result.items ls c.new-found.ensures.items b.skips d;
    }

pub loop-left-preserved : goal.loop-left-preserved
loop-left-preserved c =
    let i = c.loop-left.invariant in
    let n = c.lexeme_len.ensures in
    let b = c.behind_skipped-left-in-loop-left.ensures in
    record {
      within = omega (arith, b.within, c.split_at.ensures.back_len, i.within);
      at_token = b.at_token;
      lexemes = lexeme_more c.args.source.now c.loop-left.left.now c.split_at.result.0.now c.split_at.result.1.now c.behind_skipped-left-in-loop-left.result.now c.lexeme_len.result _ _ i.at_token n.value n.some n.within c.split_at.ensures.front c.split_at.ensures.back i.within b.skips c.in_ok-add.ensures i.lexemes;
    }

pub returns : goal.returns
returns c =
    let i = c.loop-left.invariant in
    let none : length c.loop-left.left.now ≡ 0 = grind (arith, nat_tests) in
    rw append-nil at (i.lexemes [] (no_lexeme c.loop-left.left.now _ none))
