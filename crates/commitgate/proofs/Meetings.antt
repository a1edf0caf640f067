-- What a seat that met registers has seen of them.
use Rattle.std.proofs.Common.{◌≡◌, ◌≢◌, ℕ, List, [], set, sym, ap, ◌∙◌, subst, ⊎_elim, get_or-set_other}
use mathlib.Core.Logic.{dite}
use native.Mathlib.Decide.{ℕ_discrete}
use mathlib.Core.List.{IsPrefix}
use Rattle.logic4.specs.Vector.{Vector}
use Rattle.regcells.specs.Meetings.{fresh_of, HaveGrown, Met}
use Rattle.runstate.proofs.Beginnings.{prefix_self, prefix_trans}

-- it has seen all that it had seen
pub met_rises : (old all new : List (List Vector)) → Met old all new → HaveGrown old new
met_rises old all new m r = ⊎_elim
    (λ (s : fresh_of new r ≡ fresh_of old r). subst (λ l. IsPrefix (fresh_of old r) l) (sym s) (prefix_self (fresh_of old r)))
    (λ (s : (fresh_of new r ≡ fresh_of all r) × IsPrefix (fresh_of old r) (fresh_of all r)). subst (λ l. IsPrefix (fresh_of old r) l) (sym s.0) s.1)
    (m r)

-- where it has seen all, that begins with what it had seen
pub met_begins : (old all new : List (List Vector)) (r : ℕ) → Met old all new → fresh_of new r ≡ fresh_of all r → IsPrefix (fresh_of old r) (fresh_of all r)
met_begins old all new r m e = ⊎_elim
    (λ (s : fresh_of new r ≡ fresh_of old r). subst (λ l. IsPrefix (fresh_of old r) l) (sym s ∙ e) (prefix_self (fresh_of old r)))
    (λ (s : (fresh_of new r ≡ fresh_of all r) × IsPrefix (fresh_of old r) (fresh_of all r)). s.1)
    (m r)

pub rises_self : (fresh : List (List Vector)) → HaveGrown fresh fresh
rises_self fresh r = prefix_self (fresh_of fresh r)

pub rises_both : (a b c : List (List Vector)) → HaveGrown a b → HaveGrown b c → HaveGrown a c
rises_both a b c f g r = prefix_trans (fresh_of a r) (fresh_of b r) (fresh_of c r) (f r) (g r)

-- one register's list was replaced by a longer one
pub rises_set : (old new : List (List Vector)) (at : ℕ) (p : List Vector) → new ≡ set old at p → fresh_of new at ≡ p → IsPrefix (fresh_of old at) p → HaveGrown old new
rises_set old new at p is here longer r = dite (ℕ_discrete r at)
    (λ (e : r ≡ at). subst (λ (k : ℕ). IsPrefix (fresh_of old k) (fresh_of new k)) (sym e) (subst (λ l. IsPrefix (fresh_of old at) l) (sym here) longer))
    (λ (n : r ≢ at). subst (λ l. IsPrefix (fresh_of old r) l) (sym (ap (λ f. fresh_of f r) is ∙ get_or-set_other old at r p [] n)) (prefix_self (fresh_of old r)))
