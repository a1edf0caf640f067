-- Full names, byte by byte.
use Rattle.std.proofs.Common.{◌≡◌, ◌∙◌, ℕ, suc, ◌+◌, ◌-◌, List, [], ◌∷◌, ◌++◌, length, take, Bool, true, false, if◌then◌else◌, Option, Some, None, refl, ap, length-append, arith}
use Rattle.std.proofs.lemmas.Bool.{eqb-true}
use Rattle.std.proofs.lemmas.List.{take_at}
use Rattle.model.specs.Syntax.{Text}
use Rattle.waves.specs.FullNames.{escaped_behind, is_parting_dot, parted_first, parted_here, parted, before_dot, behind_dot, scope_of_name, name_in_scope}

-- what stands behind the last dot that parts names, from a place on; and where there is none, what stood behind the one before
abbrev pub own_from : Bool → Bool → List ℕ → List ℕ → List ℕ
own_from escaped begins own [] = own
own_from escaped begins own (b ∷ bs) = own_from (escaped_behind escaped begins b) (is_parting_dot escaped b) (if is_parting_dot escaped b then bs else own) bs

own_first : (parts : Bool) (bs own : List ℕ) → (if parts then bs else own) ≡ behind_dot own (parted_first parts bs)
own_first true bs own = refl
own_first false bs own = refl

own_here : (parts : Bool) (b : ℕ) (bs own : List ℕ) (last : Option (Text × Text)) → behind_dot (if parts then bs else own) last ≡ behind_dot own (parted_here parts b bs last)
own_here parts b bs own (Some last) = refl
own_here parts b bs own None = own_first parts bs own

pub own_is : (escaped begins : Bool) (own left : List ℕ) → own_from escaped begins own left ≡ behind_dot own (parted escaped begins left)
own_is escaped begins own [] = refl
own_is escaped begins own (b ∷ bs) =
    let parts = is_parting_dot escaped b in
    let behind = escaped_behind escaped begins b in
    own_is behind parts (if parts then bs else own) bs ∙ own_here parts b bs own (parted behind parts bs)

-- what stands before and behind a dot is the whole name, with the dot
abbrev IsWhole : List ℕ → Option (Text × Text) → Type 0
IsWhole name (Some last) = name ≡ last.0 ++ 46 ∷ last.1
IsWhole name None = Unit {0}

dot_is : (escaped : Bool) (b : ℕ) → is_parting_dot escaped b ≡ true → b ≡ 46
dot_is true b h = absurd (cc)
dot_is false b h = eqb-true b 46 h

whole_first : (escaped : Bool) (b : ℕ) (bs : List ℕ) (parts : Bool) → is_parting_dot escaped b ≡ parts → IsWhole (b ∷ bs) (parted_first parts bs)
whole_first escaped b bs true e = ap (λ (n : ℕ). n ∷ bs) (dot_is escaped b e)
whole_first escaped b bs false e = tt

whole_here : (escaped : Bool) (b : ℕ) (bs : List ℕ) (last : Option (Text × Text)) → IsWhole bs last → IsWhole (b ∷ bs) (parted_here (is_parting_dot escaped b) b bs last)
whole_here escaped b bs (Some last) h = ap (λ (rest : List ℕ). b ∷ rest) h
whole_here escaped b bs None h = whole_first escaped b bs (is_parting_dot escaped b) refl

parted_whole : (escaped begins : Bool) (name : List ℕ) → IsWhole name (parted escaped begins name)
parted_whole escaped begins [] = tt
parted_whole escaped begins (b ∷ bs) =
    let parts = is_parting_dot escaped b in
    let behind = escaped_behind escaped begins b in
    whole_here escaped b bs (parted behind parts bs) (parted_whole behind parts bs)

scope_at : (name : List ℕ) (last : Option (Text × Text)) → IsWhole name last → take (length name - length (behind_dot name last) - 1) name ≡ before_dot last
scope_at name (Some last) h =
    let long : length name ≡ length last.0 + suc (length last.1) = ap length h ∙ length-append last.0 (46 ∷ last.1) in
    let count : length name - length last.1 - 1 ≡ length last.0 = omega (arith, long) in
    ap (λ (n : ℕ). take n name) count ∙ (ap (λ (whole : List ℕ). take (length last.0) whole) h ∙ take_at last.0 (46 ∷ last.1) (length last.0) refl)
scope_at name None h =
    let none : length name - length name - 1 ≡ 0 = omega arith in
    ap (λ (n : ℕ). take n name) none

-- what stands before the name in the scope and a dot is the scope's name
pub scope_is : (name own : List ℕ) → own ≡ name_in_scope name → take (length name - length own - 1) name ≡ scope_of_name name
scope_is name own e = ap (λ (o : List ℕ). take (length name - length o - 1) name) e ∙ scope_at name (parted false true name) (parted_whole false true name)
