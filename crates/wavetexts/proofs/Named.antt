-- The registers of a list of names, one name after another.
use Rattle.std.proofs.Common.{◌≡◌, ◌∙◌, ap, refl, sym, subst, ℕ, zero, suc, ◌+◌, ◌-◌, ◌<◌, List, [], ◌∷◌, ◌++◌, append_assoc, Some, arith}
use Rattle.std.specs.Prelude.{slice_get}
use Rattle.wavetexts.specs.Names.{IsNoName, NamesRegisters, NamesUnknown, alone, here, last, later, more, registers_from}

-- with the registers of what is left, whichever they are, all are named
abbrev pub NamesOn : List (List ℕ) → List ℕ → List ℕ → List ℕ → Type 0
NamesOn names text rest found = (registers : List ℕ) → NamesRegisters names rest registers → NamesRegisters names text (found ++ registers)

-- a name of what is left that no register has is the first one
abbrev pub UnknownOn : List (List ℕ) → List ℕ → List ℕ → Type 0
UnknownOn names text rest = (unknown : List ℕ) → NamesUnknown names unknown rest → NamesUnknown names unknown text

pub named_on : (names : List (List ℕ)) (text rest found name behind : List ℕ) (register : ℕ) → NamesOn names text rest found → rest ≡ name ++ 44 ∷ behind → slice_get names register ≡ Some name → NamesOn names text behind (found ++ register ∷ [])
named_on names text rest found name behind register on split is registers named =
    subst (NamesRegisters names text) (sym (append_assoc found (register ∷ []) registers))
    (on (register ∷ registers) (subst (λ (t : List ℕ). NamesRegisters names t (register ∷ registers)) (sym split) (more name behind register registers is named)))

pub unknown_on : (names : List (List ℕ)) (text rest name behind : List ℕ) (register : ℕ) → UnknownOn names text rest → rest ≡ name ++ 44 ∷ behind → slice_get names register ≡ Some name → UnknownOn names text behind
unknown_on names text rest name behind register on split is unknown h =
    on unknown (subst (NamesUnknown names unknown) (sym split) (later name behind register is h))

pub unknown_here : (names : List (List ℕ)) (text rest name behind : List ℕ) → UnknownOn names text rest → rest ≡ name ++ 44 ∷ behind → IsNoName names name → NamesUnknown names name text
unknown_here names text rest name behind on split none = on name (subst (NamesUnknown names name) (sym split) (here behind none))

-- one register more of all
pub from_more : (first count : ℕ) → 0 < count → registers_from first count ≡ first ∷ registers_from (first + 1) (count - 1)
from_more first zero some = absurd (omega (arith, some))
from_more first (suc count) some =
    let less : suc count - 1 ≡ count = omega arith in
    ap (λ (n : ℕ). first ∷ registers_from (first + 1) n) (sym less)

pub from_on : (i n : ℕ) (before after all : List ℕ) → i < n → after ≡ before ++ i ∷ [] → before ++ registers_from i (n - i) ≡ all → after ++ registers_from (i + 1) (n - (i + 1)) ≡ all
from_on i n before after all lt pushed is =
    let rest = registers_from (i + 1) (n - (i + 1)) in
    let count : n - i - 1 ≡ n - (i + 1) = omega arith in
    let one : registers_from i (n - i) ≡ i ∷ rest = from_more i (n - i) (omega (arith, lt)) ∙ ap (λ (k : ℕ). i ∷ registers_from (i + 1) k) count in
    ap (λ (l : List ℕ). l ++ rest) pushed ∙ (append_assoc before (i ∷ []) rest ∙ (ap (λ (l : List ℕ). before ++ l) (sym one) ∙ is))
