-- The edges of the texts, and the groups of lines.
use Rattle.std.proofs.Common.{◌≡◌, ℕ, suc, ◌+◌, ◌<◌, ◌≤◌, List, [], ◌∷◌, ◌++◌, length, map, get_or, refl, sym, ap, ◌∙◌, subst, append_assoc, arith, reverse, Bool, true, false, if◌then◌else◌, ◌⊎◌, inl, inr, ◌&&◌, Some, Option, Vec, vec_items, nat_eq, option_map, position}
use Rattle.std.proofs.lemmas.List.{map-append, reverse-append, length-map, append-nil}
use Rattle.std.proofs.lemmas.Option.{slice_get-map, slice_get_within, get_or_from_slice_get}
use Rattle.std.proofs.lemmas.Bool.{eqb-true}
use Rattle.std.proofs.lemmas.List.Quantifiers.{position-Some}
use Rattle.std.proofs.Math.Dec.{eqb}
use Rattle.std.specs.Prelude.{slice_get}
use Rattle.std.specs.Cmp.Lexicographic.{pointwise, bytes_decides}
use Rattle.sharing.specs.Parts.{Extends}
use Rattle.explore.specs.Grown.{grown, grown_all}
use Rattle.explore.specs.NumberedTexts.{text_step, joined_groups, AreTextEdges}
use Rattle.explore.specs.declared.text_table.TextEdge.{TextEdge}
use Rattle.explore.proofs.Growing.{Extends-itself, length-extends, length-grown_all, get_or-grown_all, get_or-extends, grown_all-push, grown_all-extends, slice_get_push}

-- the texts of these edges
abbrev pub told : List (List ℕ) → List TextEdge → List (List ℕ)
told groups edges = grown_all ([] ∷ []) (map (text_step groups) edges)

-- what an `if` answers is one of its arms
pub one_arm : {X : Type 0} (b : Bool) (x y : X) → ((if b then x else y) ≡ x) ⊎ ((if b then x else y) ≡ y)
one_arm true x y = inl refl
one_arm false x y = inr refl

-- there is a text more than there are edges
pub length-told : (groups : List (List ℕ)) (edges : List TextEdge) → length (told groups edges) ≡ suc (length edges)
length-told groups edges = omega (arith, length-grown_all ([] ∷ []) (map (text_step groups) edges), length-map edges (text_step groups))

-- the first text is empty
pub told-none : (groups : List (List ℕ)) (edges : List TextEdge) → get_or (told groups edges) 0 [] ≡ []
told-none groups edges = get_or-extends ([] ∷ []) (told groups edges) 0 [] (grown_all-extends ([] ∷ []) (map (text_step groups) edges)) (omega arith)

-- an edge's text is the one before it, and its group
pub told-edge : (groups : List (List ℕ)) (edges : List TextEdge) (k : ℕ) (edge : TextEdge) → AreTextEdges groups edges → slice_get edges k ≡ Some edge → get_or (told groups edges) (k + 1) [] ≡ get_or (told groups edges) edge.before [] ++ get_or groups edge.group []
told-edge groups edges k edge are e =
    let low : edge.before ≤ k = are.after k edge e in
    let at : slice_get (map (text_step groups) edges) k ≡ Some (text_step groups edge) = slice_get-map (text_step groups) edges k ∙ ap (λ (o : Option TextEdge). option_map (text_step groups) o) e in
    ap (λ n. get_or (told groups edges) n []) (omega arith) ∙ get_or-grown_all ([] ∷ []) (map (text_step groups) edges) k (text_step groups edge) at (omega arith)

-- an edge that is added gives a text more
pub told-push : (groups : List (List ℕ)) (edges : List TextEdge) (edge : TextEdge) → told groups (edges ++ edge ∷ []) ≡ grown (told groups edges) edge.before (get_or groups edge.group [])
told-push groups edges edge = ap (grown_all ([] ∷ [])) (map-append (text_step groups) edges (edge ∷ [])) ∙ grown_all-push ([] ∷ []) (map (text_step groups) edges) (text_step groups edge)

-- the texts stay where an edge is added, if it wasn't there
pub told-extends : (groups : List (List ℕ)) (old new : List TextEdge) (edge : TextEdge) (b : Bool) → new ≡ (if b then old else old ++ edge ∷ []) → Extends (told groups old) (told groups new)
told-extends groups old new edge b e = elim (one_arm b old (old ++ edge ∷ [])) [
  | inl same ↦ subst (λ (l : List TextEdge). Extends (told groups old) (told groups l)) (sym (e ∙ same)) (Extends-itself (told groups old))
  | inr more ↦ subst (λ (l : List TextEdge). Extends (told groups old) (told groups l)) (sym (e ∙ more)) ((get_or (told groups old) edge.before [] ++ get_or groups edge.group []) ∷ [], told-push groups old edge)
]

after_pushed : (groups : List (List ℕ)) (old : List TextEdge) (edge l : TextEdge) (k : ℕ) → AreTextEdges groups old → edge.before ≤ length old → slice_get (old ++ edge ∷ []) k ≡ Some l → l.before ≤ k
after_pushed groups old edge l k are low e = elim (slice_get_push old edge l k e) [
  | inl h ↦ are.after k l h.1
  | inr h ↦ omega (arith, h.0, ap (λ (x : TextEdge). x.before) h.1, low)
]

grouped_pushed : (groups : List (List ℕ)) (old : List TextEdge) (edge l : TextEdge) (k : ℕ) → AreTextEdges groups old → edge.group < length groups → slice_get (old ++ edge ∷ []) k ≡ Some l → l.group < length groups
grouped_pushed groups old edge l k are there e = elim (slice_get_push old edge l k e) [
  | inl h ↦ are.grouped k l h.1
  | inr h ↦ subst (λ (x : TextEdge). x.group < length groups) h.1 there
]

-- the edges are good where one is added
pub AreTextEdges-more : (groups : List (List ℕ)) (old new : List TextEdge) (edge : TextEdge) (b : Bool) → new ≡ (if b then old else old ++ edge ∷ []) → AreTextEdges groups old → edge.before < length (told groups old) → edge.group < length groups → AreTextEdges groups new
AreTextEdges-more groups old new edge b e are less there =
    let low : edge.before ≤ length old = omega (arith, less, length-told groups old) in
    elim (one_arm b old (old ++ edge ∷ [])) [
      | inl same ↦ subst (AreTextEdges groups) (sym (e ∙ same)) are
      | inr more ↦ subst (AreTextEdges groups) (sym (e ∙ more)) (record {
        after = λ k l at. after_pushed groups old edge l k are low at;
        grouped = λ k l at. grouped_pushed groups old edge l k are there at;
      })
    ]

-- they are good where groups are added
pub AreTextEdges-groups : (groups groups' : List (List ℕ)) (edges : List TextEdge) → Extends groups groups' → AreTextEdges groups edges → AreTextEdges groups' edges
AreTextEdges-groups groups groups' edges more are =
    let long = length-extends groups groups' more in
    record {
      after = are.after;
      grouped = λ k edge at. let within = are.grouped k edge at in omega (arith, long, within);
    }

steps-groups : (groups groups' : List (List ℕ)) (edges : List TextEdge) → Extends groups groups' → ((k : ℕ) (edge : TextEdge) → slice_get edges k ≡ Some edge → edge.group < length groups) → map (text_step groups') edges ≡ map (text_step groups) edges
steps-groups groups groups' [] more grouped = refl
steps-groups groups groups' (edge ∷ edges) more grouped =
    ap (λ (l : List ℕ). (edge.before, l) ∷ map (text_step groups') edges) (get_or-extends groups groups' edge.group [] more (grouped 0 edge refl))
    ∙ ap (λ (steps : List (ℕ × List ℕ)). text_step groups edge ∷ steps) (steps-groups groups groups' edges more (λ k e at. grouped (suc k) e at))

-- the texts stay where groups are added
pub told-groups : (groups groups' : List (List ℕ)) (edges : List TextEdge) → Extends groups groups' → AreTextEdges groups edges → told groups' edges ≡ told groups edges
told-groups groups groups' edges more are = ap (grown_all ([] ∷ [])) (steps-groups groups groups' edges more are.grouped)

-- two tests pass where both do
pub both : (a b : Bool) → (a && b) ≡ true → (a ≡ true) × (b ≡ true)
both true b h = (refl, h)
both false b h = cc

-- an edge that is there has a number, and one is there that the test calls equal
pub told_within : (groups : List (List ℕ)) (edges : List TextEdge) (k : ℕ) (found : TextEdge) → slice_get edges k ≡ Some found → k + 1 < length (told groups edges)
told_within groups edges k found e = omega (arith, slice_get_within edges k found e, length-told groups edges)

-- the text of an edge that the test calls equal to this one
pub told_equal : (groups : List (List ℕ)) (old new : List TextEdge) (edge found : TextEdge) (k : ℕ) → AreTextEdges groups new → Extends (told groups old) (told groups new) → slice_get new k ≡ Some found → (eqb edge.before found.before && eqb edge.group found.group) ≡ true →
    edge.before < length (told groups old) → get_or (told groups new) (k + 1) [] ≡ get_or (told groups old) edge.before [] ++ get_or groups edge.group []
told_equal groups old new edge found k are more e same less =
    let parts = both (eqb edge.before found.before) (eqb edge.group found.group) same in
    let before = eqb-true edge.before found.before parts.0 in
    let group = eqb-true edge.group found.group parts.1 in
    told-edge groups new k found are e
    ∙ (ap (λ n. get_or (told groups new) n [] ++ get_or groups found.group []) (sym before)
    ∙ (ap (λ n. get_or (told groups new) edge.before [] ++ get_or groups n []) (sym group)
    ∙ ap (λ l. l ++ get_or groups edge.group []) (get_or-extends (told groups old) (told groups new) edge.before [] more less)))

-- a group that the test calls equal to these bytes has them
pub group_found : {Z : Type 0} (groups : List (Vec ℕ Z)) (k : ℕ) (found : Vec ℕ Z) (bytes : List ℕ) → slice_get groups k ≡ Some found → pointwise nat_eq bytes (vec_items found) ≡ true → slice_get (map vec_items groups) k ≡ Some bytes
group_found {Z} groups k found bytes at same =
    slice_get-map vec_items groups k ∙ (ap (λ (o : Option (Vec ℕ Z)). option_map vec_items o) at ∙ ap (λ (l : List ℕ). Some l) (sym ((bytes_decides bytes (vec_items found)).0 same)))

-- the groups stay where one is added, if it wasn't there
pub groups-extends : {Z : Type 0} (old new : List (Vec ℕ Z)) (group : Vec ℕ Z) (b : Bool) → new ≡ (if b then old else old ++ group ∷ []) → Extends (map vec_items old) (map vec_items new)
groups-extends {Z} old new group b e = elim (one_arm b old (old ++ group ∷ [])) [
  | inl same ↦ subst (λ (l : List (Vec ℕ Z)). Extends (map vec_items old) (map vec_items l)) (sym (e ∙ same)) (Extends-itself (map vec_items old))
  | inr more ↦ subst (λ (l : List (Vec ℕ Z)). Extends (map vec_items old) (map vec_items l)) (sym (e ∙ more)) (vec_items group ∷ [], map-append vec_items old (group ∷ []))
]

-- one group of the bytes that are left, behind those so far
pub group_taken : (text so_far so_far' front rest rest' bytes : List ℕ) → text ++ bytes ≡ so_far ++ rest → so_far' ≡ so_far ++ front → rest ≡ front ++ rest' → text ++ bytes ≡ so_far' ++ rest'
group_taken text so_far so_far' front rest rest' bytes h longer split =
    h ∙ (ap (λ l. so_far ++ l) split ∙ (sym (append_assoc so_far front rest') ∙ ap (λ l. l ++ rest') (sym longer)))

-- one edge back in a text, whose group goes before those that were passed
pub edge_back : (groups : List (List ℕ)) (text front front' : List ℕ) (back back' : List ℕ) (group : ℕ) → text ≡ front ++ joined_groups groups (reverse back) → front ≡ front' ++ get_or groups group [] → back' ≡ back ++ group ∷ [] → text ≡ front' ++ joined_groups groups (reverse back')
edge_back groups text front front' back back' group h one b =
    let turned : reverse back' ≡ group ∷ reverse back = ap reverse b ∙ reverse-append back (group ∷ []) in
    h ∙ (ap (λ l. l ++ joined_groups groups (reverse back)) one
    ∙ (append_assoc front' (get_or groups group []) (joined_groups groups (reverse back)) ∙ ap (λ l. front' ++ joined_groups groups l) (sym turned)))

-- one group more of a text, of those that are left the first
pub group_read : (groups : List (List ℕ)) (text front front' : List ℕ) (back back' : List ℕ) (group : ℕ) (bytes : List ℕ) → text ≡ front ++ joined_groups groups (reverse back) → back ≡ back' ++ group ∷ [] → bytes ≡ get_or groups group [] → front' ≡ front ++ bytes → text ≡ front' ++ joined_groups groups (reverse back')
group_read groups text front front' back back' group bytes h b is one =
    let turned : reverse back ≡ group ∷ reverse back' = ap reverse b ∙ reverse-append back' (group ∷ []) in
    h ∙ (ap (λ l. front ++ joined_groups groups l) turned
    ∙ (sym (append_assoc front (get_or groups group []) (joined_groups groups (reverse back'))) ∙ ap (λ l. l ++ joined_groups groups (reverse back')) (ap (λ l. front ++ l) (sym is) ∙ sym one)))

-- a text of which no group is left
pub none_left : (groups : List (List ℕ)) (text back : List ℕ) → length back ≡ 0 → text ++ joined_groups groups (reverse back) ≡ text
none_left groups text [] none = append-nil text
none_left groups text (group ∷ back) none = absurd (omega (arith, none))

-- a text goes on by nothing
pub none_more : (text printed : List ℕ) → length printed ≡ 0 → text ≡ text ++ printed
none_more text [] none = sym (append-nil text)
none_more text (byte ∷ printed) none = absurd (omega (arith, none))

-- a text whose last bytes were taken up again, and what is printed behind them
pub text_taken : (whole text front bytes items taken printed : List ℕ) → whole ≡ front ++ bytes → bytes ≡ items → items ≡ taken ++ printed → text ≡ front ++ taken → whole ≡ text ++ printed
text_taken whole text front bytes items taken printed h is more back =
    h ∙ (ap (λ l. front ++ l) (is ∙ more) ∙ (sym (append_assoc front taken printed) ∙ ap (λ l. l ++ printed) (sym back)))

-- the first group that the test calls equal to these bytes has them
pub group_at : {Z : Type 0} (groups : List (Vec ℕ Z)) (k : ℕ) (found : Vec ℕ Z) (bytes : List ℕ) → slice_get groups k ≡ Some found → Some k ≡ position (λ (group : Vec ℕ Z). pointwise nat_eq bytes (vec_items group)) groups → slice_get (map vec_items groups) k ≡ Some bytes
group_at {Z} groups k found bytes at first =
    let tested = (position-Some (λ (group : Vec ℕ Z). pointwise nat_eq bytes (vec_items group)) groups k found (sym first)).1 in
    group_found groups k found bytes at (ap (λ (group : Vec ℕ Z). pointwise nat_eq bytes (vec_items group)) (sym (get_or_from_slice_get groups k found found at)) ∙ tested)
