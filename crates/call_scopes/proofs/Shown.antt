-- What is left of a format.
use Rattle.std.proofs.Common.{◌≡◌, ℕ, ◌+◌, ◌<◌, ◌≤◌, Bool, true, false, [], ◌∷◌, ◌++◌, length, get_or, drop, append_assoc, refl, ap, sym, ◌∙◌}
use Rattle.std.proofs.lemmas.List.{append-nil, at_drop_more, at_drop_all}
use Rattle.statement_parts.specs.Statements.{SourceText}
use Rattle.call_scopes.specs.Formats.{byte_shown, begins_letter, rest_shown}

rest_more : (path : SourceText) (begun : Bool) (b : ℕ) (bs : SourceText) → rest_shown path begun (b ∷ bs) ≡ byte_shown path begun b ++ rest_shown path (begins_letter begun b) bs
rest_more path false b bs = refl
rest_more path true b bs = refl

-- one byte less is left
pub shown_next : (path format : SourceText) (begun begun' : Bool) (i b : ℕ) (old new all : SourceText) → i < length format → b ≡ get_or format i b → new ≡ old ++ byte_shown path begun b → begun' ≡ begins_letter begun b
    → old ++ rest_shown path begun (drop i format) ≡ all → new ++ rest_shown path begun' (drop (i + 1) format) ≡ all
shown_next path format begun begun' i b old new all less is more next before =
    ap (λ w. w ++ rest_shown path begun' (drop (i + 1) format)) more ∙ ap (λ q. (old ++ byte_shown path begun b) ++ rest_shown path q (drop (i + 1) format)) next
    ∙ append_assoc old (byte_shown path begun b) (rest_shown path (begins_letter begun b) (drop (i + 1) format))
    ∙ ap (λ w. old ++ w) (sym (rest_more path begun b (drop (i + 1) format)) ∙ ap (λ y. rest_shown path begun (y ∷ drop (i + 1) format)) is ∙ sym (at_drop_more (rest_shown path begun) format i b less)) ∙ before

-- nothing is left
shown_all : (path format : SourceText) (begun : Bool) (i : ℕ) (found all : SourceText) → length format ≤ i → found ++ rest_shown path begun (drop i format) ≡ all → found ++ rest_shown path begun [] ≡ all
shown_all path format begun i found all past before = ap (λ w. found ++ w) (sym (at_drop_all (rest_shown path begun) format i past)) ∙ before

pub ends_begun : (path format : SourceText) (begun : Bool) (i : ℕ) (found all : SourceText) → begun ≡ true → length format ≤ i → found ++ rest_shown path begun (drop i format) ≡ all → found ++ 37 ∷ [] ≡ all
ends_begun path format begun i found all h past before = ap (λ q. found ++ rest_shown path q []) (sym h) ∙ shown_all path format begun i found all past before

pub ends_whole : (path format : SourceText) (begun : Bool) (i : ℕ) (found all : SourceText) → begun ≡ false → length format ≤ i → found ++ rest_shown path begun (drop i format) ≡ all → found ≡ all
ends_whole path format begun i found all h past before = sym (append-nil found) ∙ ap (λ q. found ++ rest_shown path q []) (sym h) ∙ shown_all path format begun i found all past before
