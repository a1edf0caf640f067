-- Waves that are told, one after another.
use Rattle.std.proofs.Common.{◌≡◌, ◌∙◌, ap, sym, subst, ℕ, zero, suc, ◌+◌, ◌<◌, List, [], ◌∷◌, ◌++◌, length, take, get_or, append_assoc, Option, refl, arith, add-one}
use Rattle.std.proofs.lemmas.List.{append-nil}
use Rattle.model.specs.declared.entry.Entry.{Entry}
use Rattle.model.specs.declared.end.End.{End}
use Rattle.explore.specs.declared.Shown.{Shown}
use Rattle.looseruns.specs.ObservedJournals.{SeenEnd}
use Rattle.verdict.specs.declared.waves.WaveDescription.{WaveDescription}
use Rattle.verdict.specs.WaveLines.{wave_text}
use Rattle.wavetexts.specs.ToldWaves.{AreWavesTold, IsWaveTold, TellsOthers, waves_text}
use Rattle.wavetexts.specs.Waves.{AreWavesOf, IsWaveOfText}

-- the lines on one wave more
text_more : (ts : List WaveDescription) (t : WaveDescription) → waves_text (ts ++ t ∷ []) ≡ waves_text ts ++ wave_text t
text_more [] t = append-nil (wave_text t)
text_more (u ∷ us) t = ap (λ l. wave_text u ++ l) (text_more us t) ∙ sym (append_assoc (wave_text u) (waves_text us) (wave_text t))

-- one more is told
told_more : (names : List (List ℕ)) (registers : List ℕ) (prefix : Option (List ℕ)) (first : List ℕ) (n i : ℕ) (ws : List (Shown Entry End)) (d : Shown Entry End) (ts : List WaveDescription) (t : WaveDescription) → i < length ws
    → AreWavesTold names registers prefix first n (take i ws) ts → IsWaveTold names registers prefix first (n + i) (get_or ws i d).text.items t → AreWavesTold names registers prefix first n (take (suc i) ws) (ts ++ t ∷ [])
told_more names registers prefix first n i [] d ts t lt all one = absurd (omega (arith, lt))
told_more names registers prefix first n zero (w ∷ ws) d [] t lt all one = (subst (λ k. IsWaveTold names registers prefix first k w.text.items t) (omega arith) one, tt)
told_more names registers prefix first n zero (w ∷ ws) d (u ∷ us) t lt all one = absurd all
told_more names registers prefix first n (suc i) (w ∷ ws) d [] t lt all one = absurd all
told_more names registers prefix first n (suc i) (w ∷ ws) d (u ∷ us) t lt (head, all) one =
    (head, told_more names registers prefix first (n + 1) i ws d us t (omega (arith, lt)) all (subst (λ k. IsWaveTold names registers prefix first k (get_or ws i d).text.items t) (omega arith) one))

-- with one more, all up to it are told
pub tells_more : (names : List (List ℕ)) (registers : List ℕ) (prefix : Option (List ℕ)) (first : List ℕ) (n i k : ℕ) (ws : List (Shown Entry End)) (d : Shown Entry End) (t : WaveDescription) (old mid new : List ℕ) → i < length ws
    → TellsOthers names registers prefix first n (take i ws) old mid → k ≡ n + i → IsWaveTold names registers prefix first k (get_or ws i d).text.items t → new ≡ mid ++ wave_text t
    → TellsOthers names registers prefix first n (take (i + 1) ws) old new
tells_more names registers prefix first n i k ws d t old mid new lt tells is one at = record {
  told = tells.told ++ t ∷ [];
  are_told = subst (λ j. AreWavesTold names registers prefix first n (take j ws) (tells.told ++ t ∷ [])) (sym (add-one i))
      (told_more names registers prefix first n i ws d tells.told t lt tells.are_told (subst (λ j. IsWaveTold names registers prefix first j (get_or ws i d).text.items t) is one));
  new_is = at ∙ (ap (λ l. l ++ wave_text t) tells.new_is ∙ (append_assoc old (waves_text tells.told) (wave_text t) ∙ ap (λ l. old ++ l) (sym (text_more tells.told t))));
}

-- at the start none is told
pub tells_none : (names : List (List ℕ)) (registers : List ℕ) (prefix : Option (List ℕ)) (first : List ℕ) (n : ℕ) (old : List ℕ) → TellsOthers names registers prefix first n [] old old
tells_none names registers prefix first n old = record { told = []; are_told = tt; new_is = sym (append-nil old) }

-- one wave more of a text
pub waves_more : (ss : List (Shown Entry SeenEnd)) (ws : List (Shown Entry End)) (s : Shown Entry SeenEnd) (w : Shown Entry End) → AreWavesOf ss ws → IsWaveOfText s w → AreWavesOf (ss ++ s ∷ []) (ws ++ w ∷ [])
waves_more [] [] s w are one = (one, tt)
waves_more [] (v ∷ ws) s w are one = absurd are
waves_more (r ∷ ss) [] s w are one = absurd are
waves_more (r ∷ ss) (v ∷ ws) s w (first, are) one = (first, waves_more ss ws s w are one)
