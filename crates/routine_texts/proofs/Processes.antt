-- Processes that are added to those found so far.
use Rattle.std.proofs.Common.{◌≡◌, ℕ, ◌<◌, ◌≤◌, List, [], ◌∷◌, ◌++◌, length, get_or, slice_get, Contains, Bor, Option, Some, None, IfSome, MatchOption, HoldsAt, option_map, refl, Result, Ok, Err, OnOk, inl, inr, sym, subst, arith}
use Rattle.std.proofs.lemmas.List.Elements.{Contains-push_cases}
use Rattle.std.proofs.lemmas.Option.{slice_get_within, get_or_from_slice_get, slice_get_past, slice_get_read}
use Rattle.syntax_tree.specs.declared.modules.ModuleDeclaration.{ModuleDeclaration}
use Rattle.syntax_tree.specs.declared.modules.ProcessConstruct.{ProcessConstruct}
use Rattle.routine_texts.specs.Processes.{StandsInText, AddsOnly}

-- an element at an index is one of a list
pub element_at : {X : Type 0} (xs : List X) (i : ℕ) (x : X) → i < length xs → x ≡ get_or xs i x → Contains xs x
element_at xs i x h is = (i, h, sym is)

-- and so of one that is the same
pub element_of : {X : Type 0} (xs ys : List X) (i : ℕ) (x : X) → xs ≡ ys → i < length xs → x ≡ get_or xs i x → Contains ys x
element_of {X} xs ys i x same h is = subst (λ (zs : List X). Contains zs x) same (element_at xs i x h is)

-- what is got of a list
pub got_is : {X : Type 0} (xs : List X) (i : ℕ) (r : Option (Bor X)) → MatchOption r (length xs ≤ i) (λ x. (i < length xs) × HoldsAt (λ y. x.now ≡ y) xs i) → IfSome r (λ x. x.now ≡ get_or xs i x.now)
    → option_map (λ (x : Bor X). x.now) r ≡ slice_get xs i
got_is xs i None h at = sym (slice_get_past xs i h)
got_is xs i (Some x) h at = sym (slice_get_read xs (length xs) i x.now refl h.0 at)

-- what stands at a number of a list is one of it
pub got_one : {X : Type 0} (xs : List X) (i : ℕ) (x : X) → Some x ≡ slice_get xs i → Contains xs x
got_one xs i x e = (i, slice_get_within xs i x (sym e), get_or_from_slice_get xs i x x (sym e))

-- one of some, if it stands at a token
pub found_among : (xs : List (Bor ProcessConstruct)) (i token : ℕ) (p : Bor ProcessConstruct) (r : Option (Bor ProcessConstruct)) → Some p ≡ slice_get xs i → IfSome r (λ f. (f.now.token ≡ token) × (f ≡ p))
    → IfSome r (λ f. (f.now.token ≡ token) × Contains xs f)
found_among xs i token p None got h = tt
found_among xs i token p (Some f) got h = (h.0, subst (λ (q : Bor ProcessConstruct). Contains xs q) (sym h.1) (got_one xs i p got))

-- none is added
pub adds_none : (xs : List (Bor ProcessConstruct)) (P : ProcessConstruct → Type 0) → AddsOnly xs xs P
adds_none xs P = λ p among. inl among

-- one is
pub adds_one : (old new : List (Bor ProcessConstruct)) (x : Bor ProcessConstruct) (P : ProcessConstruct → Type 0) → new ≡ old ++ x ∷ [] → P x.now → AddsOnly old new P
adds_one old new x P pushed h = λ p among.
    elim (Contains-push_cases old x p (subst (λ (xs : List (Bor ProcessConstruct)). Contains xs p) pushed among)) [ inl was ↦ inl was | inr same ↦ inr (subst (λ (q : Bor ProcessConstruct). P q.now) same h) ]

-- some are, and then others
pub adds_both : (old mid new : List (Bor ProcessConstruct)) (P Q : ProcessConstruct → Type 0) → ((p : ProcessConstruct) → Q p → P p) → AddsOnly old mid P → AddsOnly mid new Q → AddsOnly old new P
adds_both old mid new P Q f front back = λ p among. elim (back p among) [ inl was ↦ front p was | inr q ↦ inr (f p.now q) ]

-- some are, if a call adds them
pub adds_ok : {A E : Type 0} → (r : Result A E) (old mid new : List (Bor ProcessConstruct)) (P Q : ProcessConstruct → Type 0) → ((p : ProcessConstruct) → Q p → P p) → AddsOnly old mid P → OnOk r (AddsOnly mid new Q) → OnOk r (AddsOnly old new P)
adds_ok (Ok x) old mid new P Q f front h = adds_both old mid new P Q f front h
adds_ok (Err e) old mid new P Q f front h = tt

-- those that are added to none
elsewhere : (p : Bor ProcessConstruct) → Contains [] p → ⊥
elsewhere p among = absurd (omega (arith, among.1))

pub all_stand : (modules : List ModuleDeclaration) (found : List (Bor ProcessConstruct)) (p : Bor ProcessConstruct) → AddsOnly [] found (λ q. StandsInText modules q) → Contains found p → StandsInText modules p.now
all_stand modules found p adds among = elim (adds p among) [ inl nowhere ↦ absurd (elsewhere p nowhere) | inr stands ↦ stands ]
