-- The texts whose runs stop short, one text after another.
use Rattle.std.proofs.Common.{◌≡◌, ◌∙◌, ap, sym, ℕ, ◌+◌, ◌<◌, List, ◌∷◌, ◌++◌, length, get_or, drop, append_assoc, add-one, drop-cons}
use Rattle.model.specs.declared.entry.Entry.{Entry}
use Rattle.model.specs.declared.end.End.{End}
use Rattle.explore.specs.declared.Shown.{Shown}
use Rattle.verdict.specs.declared.stops.StopDescription.{StopDescription}
use Rattle.program.specs.Findings.{stop_cause, stop_in_text, stops_from}

pub stops_more : (shown : List (Shown Entry End)) (place : ℕ) (d : Shown Entry End) (old new all : List StopDescription) → place < length shown
    → new ≡ old ++ stop_in_text (place + 1) (length (get_or shown place d).moves.items + 1) (stop_cause (get_or shown place d).end) → old ++ stops_from (place + 1) (drop place shown) ≡ all
    → new ++ stops_from (place + 1 + 1) (drop (place + 1) shown) ≡ all
stops_more shown place d old new all lt is before =
    let s = get_or shown place d in
    let one = stop_in_text (place + 1) (length s.moves.items + 1) (stop_cause s.end) in
    let rest : drop place shown ≡ s ∷ drop (place + 1) shown = drop-cons shown place d lt ∙ ap (λ (n : ℕ). s ∷ drop n shown) (sym (add-one place)) in
    let whole : stops_from (place + 1) (drop place shown) ≡ one ++ stops_from (place + 1 + 1) (drop (place + 1) shown) = ap (stops_from (place + 1)) rest in
    ap (λ (l : List StopDescription). l ++ stops_from (place + 1 + 1) (drop (place + 1) shown)) is
    ∙ (append_assoc old one (stops_from (place + 1 + 1) (drop (place + 1) shown)) ∙ (ap (λ (l : List StopDescription). old ++ l) (sym whole) ∙ before))
