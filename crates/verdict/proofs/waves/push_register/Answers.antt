use Rattle.std.proofs.Common.{◌≡◌, ◌++◌, ℕ, List, codes, subst, OnOk}
use Rattle.verdict.proofs.waves.push_register.Goals as goal

pub returns : goal.returns
returns c =
    let begun : List ℕ = codes " parts from wave 1 in register " in
    let when : List ℕ = codes " when time " in
    let ended : List ℕ = codes " passes\n" in
    subst (λ (name : List ℕ). OnOk c.push_parts.result (c.push_parts.new.text.items ≡ c.args.text.now.items ++ (begun ++ name ++ when ++ c.args.time.now ++ ended)))
    c.as_bytes.ensures.value c.push_parts.ensures
