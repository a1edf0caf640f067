-- Files that stay, and a file that was made, written and closed.
use Rattle.std.proofs.Common.{◌≡◌, ◌++◌, ◌∙◌, ap, subst, refl, ℕ, List, [], Option, Some, None, unwrap_or}
use Rattle.std.specs.Io.KnownBytes.{Appends}
use Rattle.files.specs.Saved.{AddsFile, ClosesFile, HoldsNothing, KeepsFiles, MadeFile}

pub kept : (files : Option (List MadeFile)) → KeepsFiles files files
kept None = tt
kept (Some fs) = refl

pub kept_on : (a b c : Option (List MadeFile)) → KeepsFiles a b → KeepsFiles b c → KeepsFiles a c
kept_on None b c h k = tt
kept_on (Some fs) b c h k = subst (λ (o : Option (List MadeFile)). KeepsFiles o c) h k

pub added_on : (a b c : Option (List MadeFile)) (file : MadeFile) → KeepsFiles a b → AddsFile b c file → AddsFile a c file
added_on None b c file h k = tt
added_on (Some fs) b c file h k = subst (λ (o : Option (List MadeFile)). AddsFile o c file) h k

known_after : (start end : Option (List ℕ)) (text : List ℕ) → start ≡ Some [] → Appends start end text → end ≡ Some text
known_after None end text e h = cc
known_after (Some xs) None text e h = absurd h
known_after (Some xs) (Some ys) text e h = ap Some (h ∙ ap (λ zs. zs ++ text) (some_is e))
  where
    some_is : Some xs ≡ Some [] → xs ≡ []
    some_is q = ap (λ o. unwrap_or o xs) q

-- a file that was made, written and closed
pub closed_file : (a b c : Option (List MadeFile)) (start end : Option (List ℕ)) (path text : List ℕ) → HoldsNothing a start → KeepsFiles a b
    → Appends start end text → ClosesFile b c path end → AddsFile a c (record { path = path; bytes = text })
closed_file None b c start end path text empty same grown closes = tt
closed_file (Some fs) b c start end path text empty same grown closes =
    let whole = subst (λ (o : Option (List ℕ)). ClosesFile b c path o) (known_after start end text empty grown) closes in
    added_on (Some fs) b c (record { path = path; bytes = text }) same whole
