-- Visits, while parts and visits are added.
use Rattle.std.proofs.Common.{◌≡◌, ℕ, zero, suc, List, [], ◌∷◌, ◌++◌, map, refl, sym, ap, ◌∙◌, subst, Some, Option, Bool, true, false, if◌then◌else◌, ◌&&◌, ◌⊎◌, inl, inr}
use Rattle.std.proofs.lemmas.List.{map-append}
use Rattle.std.proofs.lemmas.Bool.{eqb-true}
use Rattle.std.proofs.lemmas.Option.{slice_get-map}
use Rattle.std.proofs.Math.Dec.{eqb}
use Rattle.std.specs.Prelude.{slice_get, not}
use Rattle.std.specs.Option.{option_map}
use Rattle.sharing.specs.Parts.{unshortened, HoldsWhole, Extends}
use Rattle.sharing.specs.declared.parts.Shortened.{Shortened}
use Rattle.sharing.proofs.Telling.{told-extends, AreTold-extends}
use Rattle.explore.specs.Visited.{visit}
use Rattle.explore.specs.declared.visited.Visit.{Visit}
use Rattle.explore.proofs.TextEdges.{both}
use Rattle.explore.proofs.Growing.{slice_get_push}

-- the parts of each key are there
abbrev pub AreHeld : List (List ℕ) → List Visit → Type 0
AreHeld chunks rows = (k : ℕ) (row : Visit) → slice_get rows k ≡ Some row → HoldsWhole chunks row.key

-- the keys stay the same where parts are added
pub visits-extends : (old new : List (List ℕ)) (rows : List Visit) → Extends old new → AreHeld old rows → map (visit new) rows ≡ map (visit old) rows
visits-extends old new [] more held = refl
visits-extends old new (row ∷ rows) more held =
    ap (λ (key : List ℕ). (row.text, key) ∷ map (visit new) rows) (told-extends old new row.key.levels (row.key.number ∷ []) more (held 0 row refl))
    ∙ ap (λ (vs : List (ℕ × List ℕ)). visit old row ∷ vs) (visits-extends old new rows more (λ k r e. held (suc k) r e))

-- their parts stay there
pub AreHeld-extends : (old new : List (List ℕ)) (rows : List Visit) → Extends old new → AreHeld old rows → AreHeld new rows
AreHeld-extends old new rows more held k row at = AreTold-extends old new row.key.levels (row.key.number ∷ []) more (held k row at)

-- the parts of one key more are there
pub AreHeld-push : (chunks : List (List ℕ)) (rows rows' : List Visit) (row : Visit) → rows' ≡ rows ++ row ∷ [] → AreHeld chunks rows → HoldsWhole chunks row.key → AreHeld chunks rows'
AreHeld-push chunks rows rows' row pushed held one k r at =
    elim (slice_get_push rows row r k (ap (λ (l : List Visit). slice_get l k) (sym pushed) ∙ at)) [
      | inl h ↦ held k r h.1
      | inr h ↦ subst (λ (v : Visit). HoldsWhole chunks v.key) h.1 one
    ]

-- a visit more
pub visits-push : (chunks : List (List ℕ)) (rows rows' : List Visit) (row : Visit) (key : List ℕ) → rows' ≡ rows ++ row ∷ [] → unshortened chunks row.key ≡ key → map (visit chunks) rows' ≡ map (visit chunks) rows ++ (row.text, key) ∷ []
visits-push chunks rows rows' row key pushed told =
    ap (λ (l : List Visit). map (visit chunks) l) pushed
    ∙ (map-append (visit chunks) rows (row ∷ []) ∙ ap (λ (l : List ℕ). map (visit chunks) rows ++ (row.text, l) ∷ []) told)

-- what stands among the rows is a visit
pub visit_at : (chunks : List (List ℕ)) (rows : List Visit) (k : ℕ) (row : Visit) (key : List ℕ) → slice_get rows k ≡ Some row → unshortened chunks row.key ≡ key → slice_get (map (visit chunks) rows) k ≡ Some (row.text, key)
visit_at chunks rows k row key at told =
    slice_get-map (visit chunks) rows k ∙ (ap (λ (o : Option Visit). option_map (visit chunks) o) at ∙ ap (λ (l : List ℕ). Some (row.text, l)) told)

-- a row that wasn't there was added
pub row_added : (there is_new : Bool) (rows rows' : List Visit) (row : Visit) → rows' ≡ (if there then rows else rows ++ row ∷ []) → is_new ≡ not there → is_new ≡ true → rows' ≡ rows ++ row ∷ []
row_added true is_new rows rows' row e one two = cc
row_added false is_new rows rows' row e one two = e

-- one that was there wasn't
pub row_stayed : (there is_new : Bool) (rows rows' : List Visit) (row : Visit) → rows' ≡ (if there then rows else rows ++ row ∷ []) → is_new ≡ not there → is_new ≡ false → rows' ≡ rows
row_stayed true is_new rows rows' row e one two = e
row_stayed false is_new rows rows' row e one two = cc

-- visits that the test takes for one are one
pub same_visit : (a b : Visit) → (eqb a.text b.text && (eqb a.key.number b.key.number && eqb a.key.levels b.key.levels)) ≡ true → a ≡ b
same_visit a b same =
    let first = both (eqb a.text b.text) (eqb a.key.number b.key.number && eqb a.key.levels b.key.levels) same in
    let second = both (eqb a.key.number b.key.number) (eqb a.key.levels b.key.levels) first.1 in
    let by_number : ◌≡◌ {A = Shortened} a.key (record { number = b.key.number; levels = a.key.levels }) = ap (λ (n : ℕ). let k : Shortened = record { number = n; levels = a.key.levels } in k) (eqb-true a.key.number b.key.number second.0) in
    let by_levels : ◌≡◌ {A = Shortened} (record { number = b.key.number; levels = a.key.levels }) b.key = ap (λ (n : ℕ). let k : Shortened = record { number = b.key.number; levels = n } in k) (eqb-true a.key.levels b.key.levels second.1) in
    let by_text : ◌≡◌ {A = Visit} a (record { text = b.text; key = a.key }) = ap (λ (n : ℕ). let v : Visit = record { text = n; key = a.key } in v) (eqb-true a.text b.text first.0) in
    by_text ∙ ap (λ (k : Shortened). let v : Visit = record { text = b.text; key = k } in v) (by_number ∙ by_levels)
