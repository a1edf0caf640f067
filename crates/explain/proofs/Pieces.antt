-- Texts behind which pieces were put.
use Rattle.std.proofs.Common.{◌≡◌, ◌∙◌, ap, sym, refl, ℕ, suc, ◌+◌, ◌<◌, List, [], ◌∷◌, ◌++◌, map, length, drop, append_assoc, arith, Result, Ok, Err, OnOk, codes}
use Rattle.std.specs.Prelude.{slice_index_or}
use Rattle.std.proofs.Math.Seq.{drop-cons}
use Rattle.model.specs.States.{Event}
use Rattle.explain.specs.declared.phrases.SourceNames.{SourceNames}
use Rattle.explain.specs.ExplainedEnd.{due_text, event_text, future_lines, region_lines}

-- a piece and what is left, behind a text that has the piece
pub moved : {A : Type 0} (old new text piece rest : List A) → new ≡ text ++ piece → text ++ (piece ++ rest) ≡ old → new ++ rest ≡ old
moved old new text piece rest put h = ap (λ t. t ++ rest) put ∙ (append_assoc text piece rest ∙ h)

-- where two pieces were put
pub joined : (new old a mid b : List ℕ) → new ≡ mid ++ b → mid ≡ old ++ a → new ≡ old ++ (a ++ b)
joined new old a mid b h k = h ∙ (ap (λ w. w ++ b) k ∙ append_assoc old a b)

-- the element at a place, and what is left behind it
drop_here : {A : Type 0} (l : List A) (i : ℕ) (x : A) → i < length l → x ≡ slice_index_or l i x → drop i l ≡ x ∷ drop (i + 1) l
drop_here l i x inside is =
    let next : suc i ≡ i + 1 = omega arith in
    drop-cons l i x inside ∙ ap (λ y. y ∷ drop (suc i) l) (sym is) ∙ ap (λ n. x ∷ drop n l) next

-- the line of an event of a region
pub region_step : {A : Type 0} (names : SourceNames) (region : List ℕ) (F : A → Event) (items : List A) (i : ℕ) (e : A) (old text one two three bytes : List ℕ) → i < length items
    → e ≡ slice_index_or items i e → bytes ≡ region → one ≡ text ++ bytes → two ≡ one ++ event_text names (F e) → three ≡ two ++ codes "\n"
    → text ++ region_lines names region (map F (drop i items)) ≡ old → three ++ region_lines names region (map F (drop (i + 1) items)) ≡ old
region_step names region F items i e old text one two three bytes inside is same first second third before =
    let rest : List ℕ = region_lines names region (map F (drop (i + 1) items)) in
    let event : List ℕ = event_text names (F e) in
    let whole : text ++ (region ++ (event ++ (codes "\n" ++ rest))) ≡ old = ap (λ l. text ++ region_lines names region (map F l)) (sym (drop_here items i e inside is)) ∙ before in
    moved old three two (codes "\n") rest third
    (moved old two one event (codes "\n" ++ rest) second (moved old one text region (event ++ (codes "\n" ++ rest)) (first ∙ ap (λ (b : List ℕ). text ++ b) same) whole))

-- the line of an event that is due later
pub future_step : {A : Type 0} (names : SourceNames) (F : A → ℕ × Event) (items : List A) (i : ℕ) (e : A) (old text new : List ℕ) → i < length items → e ≡ slice_index_or items i e
    → new ≡ text ++ due_text names (F e) → text ++ future_lines names (map F (drop i items)) ≡ old → new ++ future_lines names (map F (drop (i + 1) items)) ≡ old
future_step names F items i e old text new inside is put before =
    moved old new text (due_text names (F e)) (future_lines names (map F (drop (i + 1) items))) put
    (ap (λ l. text ++ future_lines names (map F l)) (sym (drop_here items i e inside is)) ∙ before)

-- the lines of two lists of events
lines_append : (names : SourceNames) (region : List ℕ) (a b : List Event) → region_lines names region (a ++ b) ≡ region_lines names region a ++ region_lines names region b
lines_append names region [] b = refl
lines_append names region (e ∷ es) b =
    let event : List ℕ = event_text names e in
    let own : List ℕ = region_lines names region es in
    let more : List ℕ = region_lines names region b in
    ap (λ (l : List ℕ). region ++ (event ++ (codes "\n" ++ l))) (lines_append names region es b)
    ∙ sym (append_assoc region (event ++ (codes "\n" ++ own)) more ∙ ap (λ (l : List ℕ). region ++ l) (append_assoc event (codes "\n" ++ own) more))

pub lines_both : {X E : Type 0} (r : Result X E) (names : SourceNames) (region : List ℕ) (a b both : List Event) (text mid new : List ℕ) → a ++ b ≡ both
    → mid ≡ text ++ region_lines names region a → OnOk r (new ≡ mid ++ region_lines names region b) → OnOk r (new ≡ text ++ region_lines names region both)
lines_both (Ok x) names region a b both text mid new is first second =
    joined new text (region_lines names region a) mid (region_lines names region b) second first
    ∙ ap (λ (l : List ℕ). text ++ l) (sym (lines_append names region a b) ∙ ap (region_lines names region) is)
lines_both (Err e) names region a b both text mid new is first second = tt
