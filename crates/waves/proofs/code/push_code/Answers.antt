-- One character more, and the last one.
use Rattle.std.proofs.Common.{◌+◌, ◌-◌, ◌/◌, ◌%◌, ℕ, List, [], ◌∷◌, ◌++◌, sym, ◌∙◌, ap, arith}
use Rattle.waves.specs.IdentifierCodes.{code}
use Rattle.waves.proofs.CodeLaws.{code_short, code_long}
use Rattle.waves.proofs.Pieces.{moved}
use Rattle.waves.proofs.code.push_code.Goals as goal

pub loop-rest-preserved : goal.loop-rest-preserved
loop-rest-preserved c =
    let n = c.loop-rest.rest in
    let text = c.loop-rest.text.items in
    moved (c.args.text.now.items ++ code c.args.register) c.push.new.self.items text ((33 + n % 94) ∷ []) (code (n / 94 - 1)) c.in_ok-push.ensures.items
    (ap (λ (t : List ℕ). text ++ t) (sym (code_long n (omega arith))) ∙ c.loop-rest.invariant)

pub returns : goal.returns
returns c =
    let n = c.loop-rest.rest in
    let text = c.loop-rest.text.items in
    c.in_ok-push-2.ensures.items ∙ (ap (λ (t : List ℕ). text ++ t) (sym (code_short n (omega arith))) ∙ c.loop-rest.invariant)
