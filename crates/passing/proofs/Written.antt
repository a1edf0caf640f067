-- Writes, one after another, whose changes pass.
use Rattle.std.proofs.Common.{◌≡◌, ◌<◌, ◌+◌, ℕ, zero, suc, Bool, true, false, not, ◌||◌, List, [], ◌∷◌, ◌++◌, map, length, take, refl, sym, ap, subst, ◌∙◌, if◌then◌else◌, append_assoc, arith, true≢false, get_or}
use Rattle.std.specs.Prelude.{slice_set}
use Rattle.std.specs.List.{list_any}
use Rattle.std.proofs.lemmas.List.{take_more}
use Rattle.std.proofs.lemmas.List.Elements.{All-nil, All-cons, All-head, All-tail}
use Rattle.logic4.specs.Vector.{Vector}
use Rattle.logic4.specs.Operators.{same_vector}
use Rattle.model.specs.Expressions.{Store, value_of}
use Rattle.orders.specs.Apart.{given, all_given}
use Rattle.orders.proofs.Stores.{append-none, all_given-append}
use Rattle.footprints.specs.Footprints.{RegisterChange, change_made, changes_made}
use Rattle.certificates.specs.declared.changes.NotedChange.{NotedChange}
use Rattle.certificates.specs.Changes.{register_change_of}
use Rattle.heldways.specs.Passing.{Passing, AllPass}

abbrev IsAllowed : Passing → RegisterChange → Type 0
IsAllowed passes c = passes c.register c.before c.after ≡ true

pub pass_both : (passes : Passing) (cs ds : List RegisterChange) → AllPass passes cs → AllPass passes ds → AllPass passes (cs ++ ds)
pass_both passes [] ds all more = more
pass_both passes (c ∷ cs) ds all more =
    All-cons (IsAllowed passes) c (cs ++ ds) (All-head (IsAllowed passes) c cs all) (pass_both passes cs ds (All-tail (IsAllowed passes) c cs all) more)

-- the change that one write makes, if it makes one

pub same_passes : (passes : Passing) (old : Vector) (r : ℕ) (v : Vector) → same_vector old v ≡ true → AllPass passes (change_made old (r, v))
same_passes passes old r v same =
    let none : change_made old (r, v) ≡ [] = ap (λ b. if b then [] else record { register = r; before = old; after = v } ∷ []) same in
    subst (λ (cs : List RegisterChange). AllPass passes cs) (sym none) (All-nil (IsAllowed passes))

change_if : (passes : Passing) (old : Vector) (r : ℕ) (v : Vector) (b : Bool) → passes r old v ≡ true → AllPass passes (if b then [] else record { register = r; before = old; after = v } ∷ [])
change_if passes old r v true h = All-nil (IsAllowed passes)
change_if passes old r v false h = All-cons (IsAllowed passes) (record { register = r; before = old; after = v }) [] h (All-nil (IsAllowed passes))

pub change_passes : (passes : Passing) (old : Vector) (r : ℕ) (v : Vector) → passes r old v ≡ true → AllPass passes (change_made old (r, v))
change_passes passes old r v h = change_if passes old r v (same_vector old v) h

-- and the store behind it

pub same_given : (a : Store) (r : ℕ) (v : Vector) → same_vector (value_of a r) v ≡ true → a ≡ given a (r, v)
same_given a r v same = sym (ap (λ b. if b then a else slice_set a r v) same)

pub other_given : (a : Store) (r : ℕ) (v : Vector) → same_vector (value_of a r) v ≡ false → slice_set a r v ≡ given a (r, v)
other_given a r v differ = sym (ap (λ b. if b then a else slice_set a r v) differ)

-- a register has the value that it was set to
pub set_at : (a : Store) (r : ℕ) (v : Vector) → r < length a → value_of (slice_set a r v) r ≡ v
set_at [] r v lt = absurd (omega (arith, lt))
set_at (x ∷ a) zero v lt = refl
set_at (x ∷ a) (suc r) v lt = set_at a r v (omega (arith, lt))

-- several

changes-append : (a : Store) (ws vs : List (ℕ × Vector)) → changes_made a (ws ++ vs) ≡ changes_made a ws ++ changes_made (all_given a ws) vs
changes-append a [] vs = refl
changes-append a (w ∷ ws) vs =
    ap (λ cs. change_made (value_of a w.0) w ++ cs) (changes-append (given a w) ws vs)
    ∙ sym (append_assoc (change_made (value_of a w.0) w) (changes_made (given a w) ws) (changes_made (all_given (given a w) ws) vs))

one_more : (ws : List (ℕ × Vector)) (i : ℕ) (w : ℕ × Vector) → i < length ws → w ≡ get_or ws i w → take (i + 1) ws ≡ take i ws ++ w ∷ []
one_more ws i w lt is = take_more ws i w lt ∙ ap (λ (v : ℕ × Vector). take i ws ++ v ∷ []) (sym is)

-- one write more is made, and passes
pub written_more : (passes : Passing) (a b : Store) (ws : List (ℕ × Vector)) (i : ℕ) (w : ℕ × Vector) → i < length ws → w ≡ get_or ws i w → b ≡ all_given a (take i ws) → AllPass passes (changes_made a (take i ws))
    → AllPass passes (change_made (value_of b w.0) w) → AllPass passes (changes_made a (take (i + 1) ws))
written_more passes a b ws i w lt is so_far all one =
    let whole : changes_made a (take (i + 1) ws) ≡ changes_made a (take i ws) ++ change_made (value_of b w.0) w =
    ap (changes_made a) (one_more ws i w lt is) ∙ changes-append a (take i ws) (w ∷ []) ∙ ap (λ (x : Store). changes_made a (take i ws) ++ changes_made x (w ∷ [])) (sym so_far)
    ∙ ap (λ cs. changes_made a (take i ws) ++ cs) (append-none (change_made (value_of b w.0) w)) in
    subst (λ (cs : List RegisterChange). AllPass passes cs) (sym whole) (pass_both passes (changes_made a (take i ws)) (change_made (value_of b w.0) w) all one)

pub given_more : (a b c : Store) (ws : List (ℕ × Vector)) (i : ℕ) (w : ℕ × Vector) → i < length ws → w ≡ get_or ws i w → b ≡ all_given a (take i ws) → c ≡ given b w → c ≡ all_given a (take (i + 1) ws)
given_more a b c ws i w lt is so_far one =
    one ∙ ap (λ (x : Store). given x w) so_far ∙ sym (ap (all_given a) (one_more ws i w lt is) ∙ all_given-append a (take i ws) (w ∷ []))

-- changes of which none is barred pass
pub none_barred : (passes : Passing) (cs : List NotedChange) → list_any (λ c. not (passes c.register c.before c.after)) cs ≡ false → AllPass passes (map register_change_of cs)
none_barred passes [] none = All-nil (IsAllowed passes)
none_barred passes (c ∷ cs) none = step (passes c.register c.before c.after) refl none (none_barred passes cs)
  where
    step : (b : Bool) → passes c.register c.before c.after ≡ b → (not b || list_any (λ x. not (passes x.register x.before x.after)) cs) ≡ false
        → (list_any (λ x. not (passes x.register x.before x.after)) cs ≡ false → AllPass passes (map register_change_of cs)) → AllPass passes (register_change_of c ∷ map register_change_of cs)
    step true is h later = All-cons (IsAllowed passes) (register_change_of c) (map register_change_of cs) is (later h)
    step false is h later = absurd (true≢false h)
