-- What is shown, and what is added to it.
use Rattle.std.proofs.Common.{◌≡◌, ℕ, ◌<◌, List, [], ◌∷◌, ◌++◌, get_or, length, length-append, refl, sym, ap, subst, arith}
use Rattle.std.specs.List.{All}
use Rattle.std.proofs.lemmas.List.Elements.{All-cons, All-nil, All-push}
use Rattle.std.proofs.lemmas.List.Quantifiers.{Any-push, all_pairs_push}
use Rattle.sharing.specs.Parts.{Extends}
use Rattle.explore.specs.Search.{AreDistinct, AreShownFurther, AreShownWell, Differs, IsOfRun, IsShown}
use Rattle.explore.specs.SearchedRuns.{Runs}
use Rattle.explore.specs.declared.Shown.{Shown}
use Rattle.explore.proofs.Complete.{Any-extends}
use Rattle.explore.proofs.Growing.{Extends-itself, Extends-through}

-- what is added is shown
pub shown_pushed : {M E : Type 0} (shown : List (Shown M E)) (one : Shown M E) → IsShown (shown ++ one ∷ []) one.text.items one.end
shown_pushed shown one = Any-push (λ s. (s.text.items ≡ one.text.items) × (s.end ≡ one.end)) shown one (refl, refl)

-- one more is shown, which differs from each, where there may be one more
pub shown_further_pushed : {M N E : Type 0} (runs : Runs M N E) (most : ℕ) (shown : List (Shown M E)) (one : Shown M E) → AreShownWell runs most shown → IsOfRun runs one → All (Differs one.text.items one.end) shown → length shown < most → AreShownFurther runs most shown (shown ++ one ∷ [])
shown_further_pushed runs most shown one before holds apart few =
    record {
      well = record {
        sound = All-push (IsOfRun runs) shown one before.sound holds;
        distinct = all_pairs_push AreDistinct shown one before.distinct apart;
        few = omega (arith, few, length-append shown (one ∷ []));
      };
      more = (one ∷ [], refl);
    }

-- what is told of each stays so where more is shown, and one more is
pub there_more : {X M E : Type 0} (text : X → List ℕ) (end : X → E) (did : List X) (one : X) (shown shown' : List (Shown M E)) → Extends shown shown' →
    All (λ s. IsShown shown (text s) (end s)) did → IsShown shown' (text one) (end one) → All (λ s. IsShown shown' (text s) (end s)) (one ∷ did)
there_more {X} {M} {E} text end did one shown shown' more before now =
    All-cons (λ (s : X). IsShown shown' (text s) (end s)) one did now
    (λ k d h. Any-extends (λ (s : Shown M E). (s.text.items ≡ text (get_or did k d)) × (s.end ≡ end (get_or did k d))) shown shown' more (before k d h))

-- what is shown well stays so
pub shown_itself : {M N E : Type 0} (runs : Runs M N E) (most : ℕ) (shown : List (Shown M E)) → AreShownWell runs most shown → AreShownFurther runs most shown shown
shown_itself runs most shown well = record { well = well; more = Extends-itself shown }

-- and where it is shown further, and further from there
pub shown_through : {M N E : Type 0} (runs : Runs M N E) (most : ℕ) (a b c : List (Shown M E)) → AreShownFurther runs most a b → AreShownFurther runs most b c → AreShownFurther runs most a c
shown_through runs most a b c first second = record { well = second.well; more = Extends-through a b c first.more second.more }

-- nothing is shown well
pub none_shown : {M N E : Type 0} (runs : Runs M N E) (most : ℕ) (shown : List (Shown M E)) → shown ≡ [] → AreShownWell runs most shown
none_shown {M} {N} {E} runs most shown none =
    let empty : length shown ≡ 0 = ap length none in
    record {
      sound = subst (λ (l : List (Shown M E)). All (IsOfRun runs) l) (sym none) (All-nil (IsOfRun runs));
      distinct = λ i j d low high. absurd (omega (arith, high, empty));
      few = omega (arith, empty);
    }
