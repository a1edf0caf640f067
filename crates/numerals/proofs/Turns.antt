-- One byte more of a literal.
use Rattle.std.proofs.Common.{◌≡◌, ℕ, suc, ◌-◌, ◌≤◌, List, [], ◌∷◌, ◌++◌, length, take, Bool, true, false, Option, Some, None, option_map, option_and_then, refl, sym, ap, ◌∙◌, arith}
use Rattle.std.proofs.Math.ListN.{get_or}
use Rattle.std.proofs.Math.Seq.{take-suc, take-length}
use Rattle.logic4.specs.Vector.{Vector}
use Rattle.tokens.specs.Literals.{all_digits, AddsDigits}

map-none : (v : Option Vector) → option_map (λ high. high) v ≡ v
map-none None = refl
map-none (Some v) = refl

digits_some : (f : ℕ → Option Vector) (bs : List ℕ) (b : ℕ) (below v : Vector) → f b ≡ Some v → all_digits f (bs ++ b ∷ []) below ≡ all_digits f bs (below ++ v)
digits_some f [] b below v h = rw h
digits_some f (c ∷ bs) b below v h = ap (option_and_then (λ low. option_map (λ high. low ++ high) (f c))) (digits_some f bs b below v h)

digits_none : (f : ℕ → Option Vector) (bs : List ℕ) (b : ℕ) (below : Vector) → f b ≡ None → all_digits f (bs ++ b ∷ []) below ≡ None
digits_none f [] b below h = rw h
digits_none f (c ∷ bs) b below h = ap (option_and_then (λ low. option_map (λ high. low ++ high) (f c))) (digits_none f bs b below h)

last_apart : (left : List ℕ) (d : ℕ) → 1 ≤ length left → left ≡ take (length left - 1) left ++ get_or left (length left - 1) d ∷ []
last_apart left d some =
    let e : suc (length left - 1) ≡ length left = omega arith in
    sym (take-length left) ∙ ap (λ n. take n left) (sym e) ∙ take-suc left (length left - 1) d (omega arith)

by_added : (f : ℕ → Option Vector) (o : Option Vector) (rest : List ℕ) (b : ℕ) (old new : Vector) (added : Bool) → f b ≡ o → added ≡ true → AddsDigits o old added new
    → all_digits f (rest ++ b ∷ []) old ≡ all_digits f rest new
by_added f (Some v) rest b old new true is h a = digits_some f rest b old v is ∙ ap (all_digits f rest) (sym a)
by_added f (Some v) rest b old new false is h a = absurd (cc)
by_added f None rest b old new true is h a = absurd a
by_added f None rest b old new false is h a = absurd (cc)

pub digits_turn : (f : ℕ → Option Vector) (all : Option Vector) (left : List ℕ) (d : ℕ) (old new : Vector) (added : Bool) → 1 ≤ length left → added ≡ true
    → AddsDigits (f (get_or left (length left - 1) d)) old added new
    → all ≡ all_digits f left old → all ≡ all_digits f (take (length left - 1) left) new
digits_turn f all left d old new added some is a h =
    h ∙ ap (λ x. all_digits f x old) (last_apart left d some)
    ∙ by_added f _ (take (length left - 1) left) (get_or left (length left - 1) d) old new added refl is a

by_none : (f : ℕ → Option Vector) (o : Option Vector) (rest : List ℕ) (b : ℕ) (old new : Vector) (added : Bool) → f b ≡ o → added ≡ false → AddsDigits o old added new
    → all_digits f (rest ++ b ∷ []) old ≡ None
by_none f (Some v) rest b old new true is h a = absurd (cc)
by_none f (Some v) rest b old new false is h a = absurd a
by_none f None rest b old new added is h a = digits_none f rest b old is

pub digits_stop : (f : ℕ → Option Vector) (all : Option Vector) (left : List ℕ) (d : ℕ) (old new : Vector) (added : Bool) → 1 ≤ length left → added ≡ false
    → AddsDigits (f (get_or left (length left - 1) d)) old added new
    → all ≡ all_digits f left old → None ≡ all
digits_stop f all left d old new added some is a h = sym (
    h ∙ ap (λ x. all_digits f x old) (last_apart left d some)
    ∙ by_none f _ (take (length left - 1) left) (get_or left (length left - 1) d) old new added refl is a)
