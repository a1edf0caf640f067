-- What was appended, as the state and the store have it.
use Rattle.std.proofs.Common.{◌≡◌, ℕ, Bool, List, ◌++◌, ◌∙◌, ap}
use Rattle.std.proofs.lemmas.Result.{on_ok_weaker}
use Rattle.logic4.specs.Vector.{Vector}
use Rattle.statekeys.specs.KeyCodes.{nat_code, bool_code, list_code, vector_code}
use Rattle.statekeys.proofs.keys.begin_key.Goals as goal

pub returns : goal.returns
returns c =
    let s1 = c.in_ok-encode.ensures ∙ ap (λ bs. bs ++ nat_code c.time.result) (c.reserve.ensures.items ∙ c.clear.ensures.items) in
    let s2 = c.in_ok-encode-2.ensures ∙ ap (λ bs. bs ++ bool_code c.is_finished.result) s1 in
    let before : List ℕ = nat_code c.time.result ++ bool_code c.is_finished.result in
    let told =
    ap (λ (vs : List Vector). before ++ list_code vector_code vs) c.values.ensures
    ∙ (ap (λ (t : ℕ). nat_code t ++ bool_code c.is_finished.result ++ list_code vector_code c.args.store.now) c.time.ensures
    ∙ ap (λ (f : Bool). nat_code c.args.state.now.time ++ bool_code f ++ list_code vector_code c.args.store.now) c.is_finished.ensures) in
    on_ok_weaker c.put_slice.result (λ e. e ∙ (ap (λ bs. bs ++ list_code vector_code c.values.result.now) s2 ∙ told)) c.put_slice.ensures
