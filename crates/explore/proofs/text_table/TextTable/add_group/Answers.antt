-- A text more, or one that was there.
use Rattle.std.proofs.Common.{◌<◌, ◌++◌, [], ℕ, List, length, get_or, ap, sym, subst, ◌∙◌}
use Rattle.std.proofs.lemmas.Option.{slice_get_within, get_or_from_slice_get}
use Rattle.sharing.specs.Parts.{Extends}
use Rattle.explore.specs.NumberedTexts.{line_groups, AreTextEdges}
use Rattle.explore.specs.declared.text_table.TextEdge.{TextEdge}
use Rattle.explore.proofs.TextEdges.{told, told_within, told_equal, told-extends, told-groups, AreTextEdges-more, AreTextEdges-groups}
use Rattle.explore.proofs.text_table.TextTable.add_group.Goals as goal

pub returns : goal.returns
returns c =
    let groups = line_groups c.args.self.now.groups in
    let groups' = line_groups c.number.new.self in
    let edges = c.args.self.now.edges.keys in
    let edges' = c.insert_full.new.self.keys in
    let edge : TextEdge = record { before = c.args.before; group = c.in_ok-group.group } in
    let h = c.in_ok-index.ensures.stored in
    let same = told-groups groups groups' edges c.in_ok-group.ensures.grows c.requires.ok in
    let less : c.args.before < length (told groups' edges) = subst (λ (l : List (List ℕ)). c.args.before < length l) (sym same) c.requires.before in
    let are : AreTextEdges groups' edges' =
    AreTextEdges-more groups' edges edges' edge _ c.in_ok-index.ensures.keys (AreTextEdges-groups groups groups' edges c.in_ok-group.ensures.grows c.requires.ok) less
    (slice_get_within groups' c.in_ok-group.group c.args.group.now c.in_ok-group.ensures.number) in
    let more = told-extends groups' edges edges' edge _ c.in_ok-index.ensures.keys in
    record {
      ok = are;
      grows = subst (λ (l : List (List ℕ)). Extends l (told groups' edges')) same more;
      within = told_within groups' edges' c.in_ok-index.index h.0 h.1;
      text = told_equal groups' edges edges' edge h.0 c.in_ok-index.index are more h.1 h.2 less
          ∙ (ap (λ (l : List (List ℕ)). get_or l c.args.before [] ++ get_or groups' c.in_ok-group.group []) same
          ∙ ap (λ (l : List ℕ). get_or (told groups edges) c.args.before [] ++ l) (get_or_from_slice_get groups' c.in_ok-group.group c.args.group.now [] c.in_ok-group.ensures.number));
    }
