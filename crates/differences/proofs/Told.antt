-- What is told of two journals, put together.
use Rattle.std.proofs.Common.{◌≡◌, ◌∙◌, ap, sym, refl, subst, ℕ, ◌<◌, ◌&&◌, min, not, Bool, nat_lt, List, [], ◌++◌, length, codes, string_bytes, Result, Ok, Err, OnOk, is_ok, if◌then◌else◌}
use Rattle.std.specs.Prelude.{flat_map}
use Rattle.std.proofs.lemmas.Bool.{lt-ltb}
use Rattle.explain.proofs.Pieces.{joined}
use Rattle.model.specs.declared.entry.Entry.{Entry}
use Rattle.model.specs.Runs.{has_any, is_quiet}
use Rattle.design.specs.Compiled.{Compiled, design_of}
use Rattle.explain.specs.declared.phrases.SourceNames.{SourceNames}
use Rattle.explain.specs.EntryText.{PutsEntryLine}
use Rattle.explain.specs.Explained.{IsFaultOfEntries}
use Rattle.explain.specs.declared.failure.ExplainFault.{ExplainFault}
use Rattle.explain.specs.declared.failure.ExplainFault.TheVariants as telling
use Rattle.differences.specs.CompareFaults.{IsRunFaultOf, untold}
use Rattle.differences.specs.declared.comparison.Comparison.{Comparison}
use Rattle.differences.specs.declared.ends.EndsCompared.{EndsCompared}
use Rattle.differences.specs.declared.summary.RunSummary.{RunSummary}
use Rattle.differences.specs.declared.value_difference.ValueDifference.{ValueDifference}
use Rattle.differences.specs.Parting.{PartBehind}
use Rattle.differences.specs.Summaries.{IsSummaryOf}
use Rattle.differences.specs.EndsOfRuns.{HowEndsCompare, HowRunsEnd, are_alike}
use Rattle.differences.specs.ComparedValues.{AreComparedTimes, rows_at}
use Rattle.differences.specs.ComparedLines.{IsLinesText, IsSideText, PutsParting, PutsSide, ends_text, earlier_end_text, parting_title_text, values_text}
use Rattle.differences.specs.Comparisons.{AreRowsUpTo, IsCompared, PutsTold, last_compared}
use Rattle.differences.specs.ToldRows.{told_rows}
use Rattle.differences.proofs.FirstRows.{told_any}

-- why an entry isn't told
pub untold_fault : (code : Compiled) (journal : List Entry) (f : ExplainFault) → IsFaultOfEntries code journal f → IsRunFaultOf code journal (untold f)
untold_fault code journal (telling.Read fault) h = tt
untold_fault code journal (telling.Replay fault) h = h
untold_fault code journal telling.CannotWrite h = tt
untold_fault code journal telling.Memory h = tt

-- there is an entry behind those in common, and its line was put
pub side_put : (names : SourceNames) (journal : List Entry) (count : ℕ) (label old mid new : List ℕ) → count < length journal → mid ≡ old ++ label → PutsEntryLine names journal count mid new
    → PutsSide names journal count label old new
side_put names journal count label old mid new inside labelled line = record {
  text = label ++ line.line;
  is_text = subst (λ (b : Bool). IsSideText names journal count label b (label ++ line.line)) (sym (lt-ltb count (length journal) inside)) (line.line, line.is_line, refl);
  put = joined new old label mid line.line line.put labelled;
}

-- the title, and both sides
pub parting_put : (names : SourceNames) (first second : List Entry) (count : ℕ) (a b : Bool) (old titled one other : List ℕ) → a ≡ nat_lt count (length first) → b ≡ nat_lt count (length second)
    → titled ≡ old ++ parting_title_text count a b → (label_one label_other : List ℕ) → PutsSide names first count label_one titled one → PutsSide names second count label_other one other
    → label_one ≡ codes "  first: " → label_other ≡ codes "  second: " → PutsParting names first second count old other
parting_put names first second count a b old titled one other is_a is_b title label_one label_other left right is_one is_other =
    let head : List ℕ = parting_title_text count (nat_lt count (length first)) (nat_lt count (length second)) in
    let titled_is : titled ≡ old ++ head = title ∙ (ap (λ (x : Bool). old ++ parting_title_text count x b) is_a ∙ ap (λ (x : Bool). old ++ parting_title_text count (nat_lt count (length first)) x) is_b) in
    record {
      text = head ++ left.text ++ right.text;
      is_text = record {
        one = left.text;
        is_one = subst (λ (l : List ℕ). IsSideText names first count l (nat_lt count (length first)) left.text) is_one left.is_text;
        other = right.text;
        is_other = subst (λ (l : List ℕ). IsSideText names second count l (nat_lt count (length second)) right.text) is_other right.is_text;
        text_is = refl;
      };
      put = joined other old (head ++ left.text) one right.text right.put (joined one old head titled left.text left.put titled_is);
    }

-- a piece that a vector has put last
pub last_put : {X E : Type 0} (r : Result X E) (new mid b target : List ℕ) → new ≡ (if is_ok r then mid ++ b else mid) → mid ++ b ≡ target → OnOk r (new ≡ target)
last_put (Ok x) new mid b target put is = put ∙ is
last_put (Err e) new mid b target put is = tt

-- the ends of two runs compare as those of their summaries do
ends_so : (e : EndsCompared) (t t' u u' : ℕ) (f f' g g' q q' r r' : Bool) → t ≡ t' → f ≡ f' → q ≡ q' → u ≡ u' → g ≡ g' → r ≡ r' → HowEndsCompare t f q u g r e → HowEndsCompare t' f' q' u' g' r' e
ends_so e t t' u u' f f' g g' q q' r r' ht hf hq hu hg hr h =
    subst (λ (x : Bool). HowEndsCompare t' f' q' u' g' x e) hr
    (subst (λ (x : Bool). HowEndsCompare t' f' q' u' x r e) hg
    (subst (λ (x : ℕ). HowEndsCompare t' f' q' x g r e) hu
    (subst (λ (x : Bool). HowEndsCompare t' f' x u g r e) hq
    (subst (λ (x : Bool). HowEndsCompare t' x q u g r e) hf (subst (λ (x : ℕ). HowEndsCompare x f q u g r e) ht h)))))

-- the whole
pub compared_by : (names : SourceNames) (code : Compiled) (all : Bool) (first second : List Entry) (one other : RunSummary) (rows kept : List ValueDifference) (last count : ℕ) (parted : List ℕ) (r : Comparison)
    → IsSummaryOf code first one → IsSummaryOf code second other → last ≡ min one.time other.time → AreRowsUpTo (design_of code) first second last rows → kept ≡ told_rows all rows → PartBehind first second count
    → (start : List ℕ) → start ≡ [] → PutsParting names first second count start parted → PutsTold names all one other kept parted r.text.items r.same → IsCompared names all (design_of code) first second r
compared_by names code all first second one other rows kept last count parted r left right is_last found kept_is part start empty parting told =
    let ends_are : HowRunsEnd left.effect.state right.effect.state told.ends =
    ends_so told.ends one.time left.effect.state.time other.time right.effect.state.time one.finished left.effect.state.finished other.finished right.effect.state.finished
    one.quiet (is_quiet left.effect.state) other.quiet (is_quiet right.effect.state) left.time left.finished left.quiet right.time right.finished right.quiet told.ends_are in
    let stop : earlier_end_text one.time other.time ≡ earlier_end_text left.effect.state.time right.effect.state.time =
    ap (λ (n : ℕ). earlier_end_text n other.time) left.time ∙ ap (earlier_end_text left.effect.state.time) right.time in
    let end_one : List ℕ = one.ending.items in
    let end_other : List ℕ = other.ending.items in
    let state = left.effect.state in
    let every : List ValueDifference = flat_map (rows_at (design_of code) first second) found.times in
    let kept_so : kept ≡ told_rows all every = kept_is ∙ ap (told_rows all) found.rows_are in
    let ended : ends_text told.ends one.finished one.quiet one.time end_one end_other ≡ ends_text told.ends state.finished (is_quiet state) state.time end_one end_other =
    ap (λ (b : Bool). ends_text told.ends b one.quiet one.time end_one end_other) left.finished
    ∙ (ap (λ (b : Bool). ends_text told.ends state.finished b one.time end_one end_other) left.quiet
    ∙ ap (λ (n : ℕ). ends_text told.ends state.finished (is_quiet state) n end_one end_other) left.time) in
    let end_is : last ≡ last_compared left.effect.state right.effect.state =
    is_last ∙ (ap (λ (n : ℕ). min n other.time) left.time ∙ ap (min left.effect.state.time) right.time) in
    let parted_is : parted ≡ parting.text = parting.put ∙ ap (λ (l : List ℕ). l ++ parting.text) empty in
    record {
      one = left.effect;
      is_one = left.is_run;
      other = right.effect;
      is_other = right.is_run;
      count = count;
      part = part;
      parting = parting.text;
      is_parting = parting.is_text;
      same_lines = told.same_lines;
      printed = told.printed;
      is_printed = subst (λ (l : List ℕ). IsLinesText left.effect.lines l told.same_lines told.printed) right.lines
          (subst (λ (l : List ℕ). IsLinesText l (string_bytes other.lines) told.same_lines told.printed) left.lines told.is_printed);
      one_end = one.ending.items;
      is_one_end = left.ending;
      other_end = other.ending.items;
      is_other_end = right.ending;
      times = found.times;
      are_times = subst (λ (n : ℕ). AreComparedTimes first second n found.times) end_is found.are_times;
      ends = told.ends;
      ends_are = ends_are;
      text_is = told.put
          ∙ (ap (λ (p : List ℕ). p ++ told.printed ++ ends_text told.ends one.finished one.quiet one.time end_one end_other ++ values_text names all kept ++ earlier_end_text one.time other.time) parted_is
          ∙ (ap (λ (e : List ℕ). parting.text ++ told.printed ++ e ++ values_text names all kept ++ earlier_end_text one.time other.time) ended
          ∙ (ap (λ (l : List ValueDifference). parting.text ++ told.printed ++ ends_text told.ends state.finished (is_quiet state) state.time end_one end_other ++ values_text names all l ++ earlier_end_text one.time other.time) kept_so
          ∙ ap (λ (s : List ℕ). parting.text ++ told.printed ++ ends_text told.ends state.finished (is_quiet state) state.time end_one end_other ++ values_text names all (told_rows all every) ++ s) stop)));
      same_is = told.same_is
          ∙ (ap (λ (l : List ValueDifference). told.same_lines && (are_alike told.ends && not (has_any l))) kept_so
          ∙ ap (λ (b : Bool). told.same_lines && (are_alike told.ends && not b)) (told_any all every));
    }
