-- Codes that are put bit by bit.
use Rattle.std.proofs.Common.{◌≡◌, ◌∙◌, ap, sym, subst, ℕ, zero, suc, ◌-◌, ◌<◌, ◌≤◌, List, [], ◌∷◌, ◌++◌, length, append_assoc, Option, None, MatchOption, Result, Ok, Err, OnOk, is_ok, arith}
use Rattle.std.specs.Prelude.{if◌then◌else◌}
use Rattle.regions.specs.Machine.{MachineView}
use Rattle.statekeys.specs.ClassKeys.{IsClassKey}
use Rattle.wavetexts.specs.Reading.{ReadText}
use Rattle.lawful.specs.ArrangedNodes.{IsTailKey, bytes_code, number_code, tail_at, tail_code}
use Rattle.lawful.specs.declared.node.LooseNode.{LooseNode}

one_less : (n : ℕ) → suc n - 1 ≡ n
one_less n = omega arith

-- one of a number more
pub number_more : (bytes more whole : List ℕ) (n : ℕ) → 0 < n → more ≡ bytes ++ 1 ∷ [] → bytes ++ number_code n ≡ whole → more ++ number_code (n - 1) ≡ whole
number_more bytes more whole zero some longer before = absurd (omega (arith, some))
number_more bytes more whole (suc n) some longer before =
    ap (λ k. more ++ number_code k) (one_less n) ∙ (ap (λ l. l ++ number_code n) longer ∙ (append_assoc bytes (1 ∷ []) (number_code n) ∙ before))

-- and its end
pub number_done : (bytes last whole : List ℕ) (n : ℕ) → n ≤ 0 → last ≡ bytes ++ 0 ∷ [] → bytes ++ number_code n ≡ whole → last ≡ whole
number_done bytes last whole zero none longer before = longer ∙ before
number_done bytes last whole (suc n) none longer before = absurd (omega (arith, none))

-- one byte more
pub bytes_more : (bytes more whole rest : List ℕ) (b : ℕ) (text : List ℕ) → text ≡ b ∷ rest → more ≡ bytes ++ 1 ∷ b ∷ [] → bytes ++ bytes_code text ≡ whole → more ++ bytes_code rest ≡ whole
bytes_more bytes more whole rest b text is longer before =
    ap (λ l. l ++ bytes_code rest) longer ∙ (append_assoc bytes (1 ∷ b ∷ []) (bytes_code rest) ∙ (sym (ap (λ l. bytes ++ bytes_code l) is) ∙ before))

-- what is so where there is none
pub if_none : {A : Type 0} (o : Option A) (P : Type 0) (Q : A → Type 0) → MatchOption o P Q → o ≡ None → P
if_none o P Q h is = subst (λ x. MatchOption x P Q) is h

-- and their end
pub bytes_done : (bytes last whole text : List ℕ) → length text ≡ 0 → last ≡ bytes ++ 0 ∷ [] → bytes ++ bytes_code text ≡ whole → last ≡ whole
bytes_done bytes last whole [] none longer before = longer ∙ before
bytes_done bytes last whole (b ∷ text) none longer before = absurd (omega (arith, none))

-- three codes, one behind the other
pub tail_put : {E : Type 0} (r : Result (Unit {0}) E) (begun one two last held part given rest : List ℕ) (left : ℕ) → one ≡ begun ++ number_code left → two ≡ one ++ bytes_code given → given ≡ held → rest ≡ part → OnOk r (last ≡ two ++ bytes_code rest)
    → OnOk r (last ≡ begun ++ (number_code left ++ (bytes_code held ++ bytes_code part)))
tail_put (Ok u) begun one two last held part given rest left first second is_held is_part third =
    third
    ∙ (ap (λ l. two ++ bytes_code l) is_part
    ∙ (ap (λ l. l ++ bytes_code part) (second ∙ (ap (λ l. one ++ bytes_code l) is_held ∙ ap (λ l. l ++ bytes_code held) first))
    ∙ (append_assoc (begun ++ number_code left) (bytes_code held) (bytes_code part) ∙ append_assoc begun (number_code left) (bytes_code held ++ bytes_code part))))
tail_put (Err e) begun one two last held part given rest left first second is_held is_part third = tt

-- the code of what a node has of a text, and a class key behind it
pub tail_key_is : {E : Type 0} (class : ℕ → ℕ) (node : LooseNode) (m : MachineView) (r : Result (Unit {0}) E) (begun one last rest given : List ℕ) (t : ReadText) → m ≡ node.machine.value → IsClassKey class m.core m.values rest → t ≡ tail_at node → begun ≡ [] → one ≡ begun ++ tail_code t → given ≡ rest
    → last ≡ (if is_ok r then one ++ given else one) → OnOk r (IsTailKey class node last)
tail_key_is class node m (Ok u) begun one last rest given t same keyed tail none put is behind =
    let coded : one ≡ tail_code (tail_at node) = put ∙ (ap (λ l. l ++ tail_code t) none ∙ ap tail_code tail) in (
      rest,
      subst (λ (p : MachineView). IsClassKey class p.core p.values rest) same keyed,
      behind ∙ (ap (λ l. one ++ l) is ∙ ap (λ l. l ++ rest) coded),
    )
tail_key_is class node m (Err e) begun one last rest given t same keyed tail none put is behind = tt
