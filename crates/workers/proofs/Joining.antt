-- Workers are started, and joined in order.
use Rattle.std.proofs.Common.{◌≡◌, List, [], ◌∷◌, ◌++◌, length, arith, map, refl, sym, ap, ◌∙◌, subst, append_assoc}
use Rattle.std.specs.Vec.Iter.{into_iter_items, into_iter_len}
use Rattle.std.specs.declared.vec.IntoIter.{IntoIter}
use Rattle.commitgate.specs.Named.{Named}
use Rattle.workers.specs.declared.worker.Worker.{Worker}
use Rattle.workers.specs.WorkerInvariant.{IsDoneWorker, AreDone}

append_none : {X : Type 0} (xs : List X) → xs ++ [] ≡ xs
append_none [] = refl
append_none (x ∷ xs) = ap (λ l. x ∷ l) (append_none xs)

pub done_more : {A : Type 0} (n : Named) (xs ys : List (Worker A)) (x y : Worker A) → AreDone n xs ys → IsDoneWorker n x y → AreDone n (xs ++ x ∷ []) (ys ++ y ∷ [])
done_more n [] [] x y h d = (d, tt)
done_more n [] (v ∷ vs) x y h d = absurd h
done_more n (w ∷ ws) [] x y h d = absurd h
done_more n (w ∷ ws) (v ∷ vs) x y h d = (h.0, done_more n ws vs x y h.1 d)

module _ {A H : Type 0} where
  -- some of the first handles are joined, and what they gave stands behind what was there before
  abbrev pub Joined : List H → List H → List (Worker A) → List (Worker A) → (H → Worker A) → Named → Type 0
  Joined first rest before now value n =
      (done : List (Worker A)) × (given : List (Worker A)) × (done ++ map value rest ≡ map value first) × (now ≡ before ++ given) × AreDone n done given

  pub joined_none : (first : List H) (before : List (Worker A)) (value : H → Worker A) (n : Named) → Joined first first before before value n
  joined_none first before value n = ([], [], refl, sym (append_none before), tt)

  pub joined_more : (first rest rest' : List H) (before now now' : List (Worker A)) (value : H → Worker A) (n : Named) (h : H) (y : Worker A)
      → Joined first rest before now value n → rest ≡ h ∷ rest' → IsDoneWorker n (value h) y → now' ≡ now ++ y ∷ [] → Joined first rest' before now' value n
  joined_more first rest rest' before now now' value n h y j is d next = (
    j.0 ++ value h ∷ [],
    j.1 ++ y ∷ [],
    append_assoc j.0 (value h ∷ []) (map value rest') ∙ ap (λ (l : List H). j.0 ++ map value l) (sym is) ∙ j.2,
    next ∙ ap (λ l. l ++ y ∷ []) j.3 ∙ append_assoc before j.1 (y ∷ []),
    done_more n j.0 j.1 (value h) y j.4 d,
  )

  pub joined_all : (first rest : List H) (before now others : List (Worker A)) (value : H → Worker A) (n : Named) (own own' : Worker A)
      → Joined first rest before now value n → rest ≡ [] → map value first ≡ others → before ≡ own' ∷ [] → IsDoneWorker n own own' → AreDone n (own ∷ others) now
  joined_all first rest before now others value n own own' j none all one d =
      let done : j.0 ≡ others = sym (append_none j.0) ∙ ap (λ (l : List H). j.0 ++ map value l) (sym none) ∙ j.2 ∙ all in
      let given : now ≡ own' ∷ j.1 = j.3 ∙ ap (λ l. l ++ j.1) one in
      subst (λ (l : List (Worker A)). AreDone n (own ∷ others) l) (sym given) (d, subst (λ (l : List (Worker A)). AreDone n l j.1) done j.4)

-- an iterator of no length has nothing left
pub no_items : {X Z : Type 0} (it : IntoIter X Z) → into_iter_len it ≡ 0 → into_iter_items it ≡ []
no_items it e = nothing (into_iter_items it) (omega (arith, e, it.rest.ok.0))
  where
    nothing : {Y : Type 0} (xs : List Y) → length xs ≡ 0 → xs ≡ []
    nothing [] h = refl
    nothing (x ∷ xs) h = absurd (omega (arith, h))

-- every one is started
pub started_all : {A H : Type 0} (handed handles none : List H) (rest first others : List A) (value : H → A)
    → map value handles ++ rest ≡ map value none ++ first → rest ≡ [] → none ≡ [] → first ≡ others → handed ≡ handles → map value handed ≡ others
started_all handed handles none rest first others value started over empty all same =
    ap (map value) same ∙ sym (append_none (map value handles)) ∙ ap (λ l. map value handles ++ l) (sym over) ∙ started ∙ ap (λ l. map value l ++ first) empty ∙ all
