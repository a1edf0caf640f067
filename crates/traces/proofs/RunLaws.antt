-- Runs, put together, taken apart, and from states that are alike.
use Rattle.std.proofs.Common.{List, [], ◌∷◌, ◌++◌, refl, sym, subst}
use Rattle.traces.specs.Traces.{Moves, AreMoves, IsRunOfMoves, NoneEnds}

module _ (S L F : Type 0) (moves : Moves S L F) where
  pub runs_both : (s m t : S) (x y : List (L × F)) → IsRunOfMoves moves s x m → IsRunOfMoves moves m y t → IsRunOfMoves moves s (x ++ y) t
  runs_both s m t [] y is rest = subst (λ z. IsRunOfMoves moves z y t) (sym is) rest
  runs_both s m t (x ∷ xs) y (n, step, later) rest = (n, step, runs_both n m t xs y later rest)

  pub runs_split : (s t : S) (x y : List (L × F)) → IsRunOfMoves moves s (x ++ y) t → (m : S) × IsRunOfMoves moves s x m × IsRunOfMoves moves m y t
  runs_split s t [] y run = (s, refl, run)
  runs_split s t (x ∷ xs) y (n, step, later) =
      let (m, first, second) = runs_split n t xs y later in
      (m, (n, step, first), second)

module _ (S L F : Type 0) (moves : Moves S L F) (laws : AreMoves moves) where
  -- a run goes as well from a state that is alike
  pub alike_runs : (s r t : S) (w : List (L × F)) → moves.Alike s r → IsRunOfMoves moves s w t → (u : S) × IsRunOfMoves moves r w u × moves.Alike t u
  alike_runs s r t [] alike is = (r, refl, subst (λ z. moves.Alike z r) is alike)
  alike_runs s r t (x ∷ w) alike (m, step, later) =
      let (n, step', alike') = laws.steps_alike s r m x.0 x.1 alike step in
      let (u, later', alike'') = alike_runs m n t w alike' later in
      (u, (n, step', later'), alike'')

  -- one run leads to one state, but for likeness
  pub runs_once : (s t u : S) (w : List (L × F)) → IsRunOfMoves moves s w t → IsRunOfMoves moves s w u → moves.Alike t u
  runs_once s t u [] is is' = subst (λ z. moves.Alike z u) is (subst (λ z. moves.Alike s z) is' (laws.itself s))
  runs_once s t u (x ∷ w) (m, step, later) (n, step', later') =
      let (same, alike) = laws.one_step s m n x.0 x.1 x.1 step step' in
      let (v, later'', alike') = alike_runs m n t w alike later in
      laws.through t v u alike' (runs_once n v u w later'' later')

  -- a step that is followed by another hasn't ended the run
  pub followed : (s m t : S) (a : L) (f : F) (y : L × F) (w : List (L × F)) → moves.Steps s a f m → IsRunOfMoves moves m (y ∷ w) t → moves.Ends f → ⊥
  followed s m t a f y w step (n, next, later) ends = laws.last s m n a y.0 f y.1 step ends next

  pub followed_by : (s m t u : S) (a b : L) (f g : F) (w : List (L × F)) → moves.Steps s a f m → IsRunOfMoves moves m w t → moves.Steps t b g u → moves.Ends f → ⊥
  followed_by s m t u a b f g [] step is next ends = laws.last s m u a b f g step ends (subst (λ z. moves.Steps z b g u) (sym is) next)
  followed_by s m t u a b f g (y ∷ w) step later next ends = followed s m t a f y w step later ends

  pub none_ended : (s t u : S) (w : List (L × F)) (a : L) (f : F) → IsRunOfMoves moves s w t → moves.Steps t a f u → NoneEnds moves.Ends w
  none_ended s t u [] a f is step = tt
  none_ended s t u (x ∷ w) a f (m, first, later) step =
      (followed_by s m t u x.0 a x.1 f w first later step, none_ended m t u w a f later step)
