-- A note more, behind the first ones.
use Rattle.std.proofs.Common.{◌≡◌, ℕ, ◌+◌, ◌<◌, List, [], ◌∷◌, ◌++◌, length, take, false, sym, ap, subst, ◌∙◌}
use Rattle.std.specs.Prelude.{slice_set}
use Rattle.std.proofs.lemmas.List.{take_more_set}
use Rattle.certificates.specs.Notes.{NoteView}
use Rattle.certificates.specs.Coming.{AreOrdered, ComesOrIsApart}
use Rattle.certificates.proofs.Ordering.{ordered_more, ordered_less}

pub one_added : (xs ys zs : List NoteView) (count : ℕ) (note : NoteView) → count < length ys → take count ys ≡ take count xs → zs ≡ slice_set ys count note → take (count + 1) zs ≡ take count xs ++ note ∷ []
one_added xs ys zs count note less same is =
    ap (λ ns. take (count + 1) ns) is ∙ take_more_set ys count note less ∙ ap (λ ns. ns ++ note ∷ []) same

pub added_ordered : (xs ys zs first : List NoteView) (count : ℕ) (note : NoteView) → count < length ys → take count ys ≡ take count xs → zs ≡ slice_set ys count note → first ≡ take count ys
    → AreOrdered (take count xs) → note.finishes ≡ false → ComesOrIsApart first note → AreOrdered (take (count + 1) zs)
added_ordered xs ys zs first count note less same is front ordered free each =
    subst AreOrdered (sym (one_added xs ys zs count note less same is))
    (ordered_more (take count xs) note ordered free (subst (λ ns. ComesOrIsApart ns note) (front ∙ same) each))

pub ordered_before : (xs ys zs first : List NoteView) (count : ℕ) (note : NoteView) → count < length ys → take count ys ≡ take count xs → zs ≡ slice_set ys count note → first ≡ take count ys
    → AreOrdered (take (count + 1) zs) → AreOrdered (take count xs) × (note.finishes ≡ false) × ComesOrIsApart first note
ordered_before xs ys zs first count note less same is front ordered =
    let (rest, free, each) = ordered_less (take count xs) note (subst AreOrdered (one_added xs ys zs count note less same is) ordered) in
    (rest, free, subst (λ ns. ComesOrIsApart ns note) (sym (front ∙ same)) each)
