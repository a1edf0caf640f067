-- Transitions that are added where they aren't there yet.
use Rattle.std.proofs.Common.{◌≡◌, ◌≢◌, inl, inr, ℕ, List, [], ◌∷◌, ◌++◌, map, get_or, refl, sym, ap, subst, arith}
use Rattle.std.specs.List.{Contains}
use Rattle.std.proofs.lemmas.List.Elements.{Contains-get_or, Contains-append_left, Contains-append_right, Contains-append_cases}
use Rattle.std.proofs.lemmas.List.Quantifiers.{all_pairs_push}
use Rattle.loose.specs.declared.transition.LooseTransition.{LooseTransition}
use Rattle.loosesteps.specs.Choices.{AreGathered}

pub no_member : (t : LooseTransition) → Contains [] t → ⊥
no_member t (k, below, is) = omega (arith, below)

pub one_member : (t u : LooseTransition) → Contains (t ∷ []) u → t ≡ u
one_member t u (k, below, is) =
    let first : k ≡ 0 = omega (arith, below) in
    subst (λ (n : ℕ). get_or (t ∷ []) n u ≡ u) first is

-- nothing is added
pub gathered_none : (old : List LooseTransition) → AreGathered old [] old
gathered_none old =
    record {
      members = λ t. (λ has. inl has, λ has. elim has [ inl is ↦ is | inr is ↦ absurd (no_member t is) ]);
      once = λ once. once;
    }

-- one that is there is added
pub gathered_again : (old : List LooseTransition) (t : LooseTransition) → Contains old t → AreGathered old (t ∷ []) old
gathered_again old t there =
    record {
      members = λ u. (λ has. inl has, λ has. elim has [ inl is ↦ is | inr is ↦ subst (λ (v : LooseTransition). Contains old v) (one_member t u is) there ]);
      once = λ once. once;
    }

-- one that isn't is appended
pub gathered_new : (old : List LooseTransition) (t : LooseTransition) → (Contains old t → ⊥) → AreGathered old (t ∷ []) (old ++ t ∷ [])
gathered_new old t absent =
    record {
      members = λ u. (
        λ has. Contains-append_cases old (t ∷ []) u has,
        λ has. elim has [ inl is ↦ Contains-append_left old (t ∷ []) u is | inr is ↦ Contains-append_right old (t ∷ []) u is ],
      );
      once = λ once. all_pairs_push ◌≢◌ old t once
          (λ k d below same. absent (subst (λ (v : LooseTransition). Contains old v) same (Contains-get_or old k d below)));
    }

-- some are added, and then others
pub gathered_more : (old added mid more new : List LooseTransition) → AreGathered old added mid → AreGathered mid more new → AreGathered old (added ++ more) new
gathered_more old added mid more new first second =
    record {
      members = λ t. (
        λ has. elim ((second.members t).0 has) [
          | inl is ↦ elim ((first.members t).0 is) [ inl there ↦ inl there | inr there ↦ inr (Contains-append_left added more t there) ]
          | inr is ↦ inr (Contains-append_right added more t is)
        ],
        λ has. elim has [
          | inl is ↦ (second.members t).1 (inl ((first.members t).1 (inl is)))
          | inr is ↦ elim (Contains-append_cases added more t is) [ inl there ↦ (second.members t).1 (inl ((first.members t).1 (inr there))) | inr there ↦ (second.members t).1 (inr there) ]
        ],
      );
      once = λ once. second.once (first.once once);
    }

mapped_more : {A B : Type 0} → (now : A → B) (f : B → LooseTransition) (xs : List A) (x : A) → map f (map now (xs ++ x ∷ [])) ≡ map f (map now xs) ++ f (now x) ∷ []
mapped_more now f [] x = refl
mapped_more now f (y ∷ xs) x = ap (λ ts. f (now y) ∷ ts) (mapped_more now f xs x)

-- one more of those that a loop goes over is added
pub gathered_next : {A B : Type 0} → (now : A → B) (f : B → LooseTransition) (old mid new : List LooseTransition) (xs : List A) (x : A) (t : LooseTransition) → t ≡ f (now x) → AreGathered old (map f (map now xs)) mid → AreGathered mid (t ∷ []) new
    → AreGathered old (map f (map now (xs ++ x ∷ []))) new
gathered_next now f old mid new xs x t is first second =
    let last : AreGathered mid (f (now x) ∷ []) new = subst (λ (u : LooseTransition). AreGathered mid (u ∷ []) new) is second in
    subst (λ (added : List LooseTransition). AreGathered old added new) (sym (mapped_more now f xs x))
    (gathered_more old (map f (map now xs)) mid (f (now x) ∷ []) new first last)
