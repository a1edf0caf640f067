-- Texts that are known, and texts that are added to them.
use Rattle.std.proofs.Common.{◌≡◌, ◌⊎◌, ◌∙◌, inl, inr, sym, subst, refl, ℕ, ◌+◌, ◌<◌, ltb, Bool, true, false, IsTrue, ◌≤◌, List, [], ◌∷◌, ◌++◌, length, get_or, Option, Some, None, is_some, if◌then◌else◌, arith, string_bytes}
use Rattle.std.specs.List.{All, AllPairs, Contains}
use Rattle.std.proofs.lemmas.Bool.{ltb-true, ltb-false}
use Rattle.std.proofs.lemmas.List.{get_or_default}
use Rattle.std.proofs.lemmas.List.Elements.{All-push, Contains-get_or}
use Rattle.model.specs.declared.entry.Entry.{Entry}
use Rattle.model.specs.declared.end.End.{End}
use Rattle.model.specs.declared.end.Limits.{Limits}
use Rattle.model.specs.Runs.{AreTimely, Ends, run}
use Rattle.design.specs.Compiled.{Compiled, design_of}
use Rattle.explore.specs.declared.Shown.{Shown}
use Rattle.sharing.specs.Parts.{Extends}
use Rattle.explore.specs.Search.{AreDistinct, IsShown}
use Rattle.explore.proofs.Complete.{Any-extends}
use Rattle.explore.proofs.Growing.{Extends-through, length-extends}
use Rattle.runs.specs.RunRecords.{IsRun}
use Rattle.runs.specs.Compared.{IsWhole}
use Rattle.runs.specs.declared.run.RunRecord.{RunRecord}
use Rattle.races.specs.declared.told.Found.{Found}
use Rattle.races.specs.declared.told.Race.{Race}
use Rattle.conflicts.specs.declared.bounds.RaceBounds.{RaceBounds}
use Rattle.arguments.specs.declared.search_options.SearchOptions.{SearchOptions}
use Rattle.conflicts.specs.declared.bounds.Bound.{Bound}
use Rattle.program.specs.declared.known.KnownTexts.{KnownTexts}
use Rattle.program.specs.Findings.{AreFew, AreKnown, AreRaces, AreRacesKnown, HasGrown, IsMemoryRefused, IsKnown, IsLawfulShown, IsShownRun, lacks_memory, limits_in}
use Rattle.program.proofs.Few.{no_longer}

-- the text of a run that came to its end is that of a lawful journal
pub run_lawful : (code : Compiled) (limits : Limits) (r : RunRecord) (s : Shown Entry End) → IsWhole r → IsShownRun r s → IsRun code limits r → IsLawfulShown code limits s
run_lawful code limits r s whole same is =
    let ended : Ends (design_of code) limits s.moves.items s.end =
    subst (λ (e : End). Ends (design_of code) limits s.moves.items e) (sym same.1) (subst (λ (j : List Entry). Ends (design_of code) limits j r.end) (sym same.2) is.ends) in (
      record {
        effect = is.effect;
        lawful = subst (λ (j : List Entry). run (design_of code) j ≡ Some is.effect) (sym same.2) is.lawful;
        timely = subst (λ (j : List Entry). AreTimely limits j) (sym same.2) is.timely;
        prints = same.0 ∙ sym is.prints;
        goes_on = (λ e. whole.0 (sym same.1 ∙ e), λ e. whole.1 (sym same.1 ∙ e));
        ends = λ lt. ended;
        halts = λ h. ended;
      },
      subst (λ (j : List Entry). length j ≤ limits.max_entries) (sym same.2) is.few,
    )

-- texts that are each one of those that were there or another one

-- those that were there, alone
pub each_before : {X : Type 0} (P : X → Type 0) (xs : List X) → All (λ x. Contains xs x ⊎ P x) xs
each_before P xs k d lt = inl (Contains-get_or xs k d lt)

-- and with another one
pub each_pushed : {X : Type 0} (xs : List X) (one : X) → All (λ x. Contains xs x ⊎ (x ≡ one)) (xs ++ one ∷ [])
each_pushed xs one = All-push (λ x. Contains xs x ⊎ (x ≡ one)) xs one (each_before (λ x. x ≡ one) xs) (inr refl)

-- and with one of others, behind some of them
pub each_more : {X : Type 0} (old others now new : List X) (one : X) → All (λ x. Contains old x ⊎ Contains others x) now → Contains others one → All (λ x. Contains now x ⊎ (x ≡ one)) new → All (λ x. Contains old x ⊎ Contains others x) new
each_more {X} old others now new one before is each k d lt = of_one (get_or new k d) (each k d lt)
  where
    of_one : (x : X) → Contains now x ⊎ (x ≡ one) → Contains old x ⊎ Contains others x
    of_one x (inl (i, within, at)) = subst (λ y. Contains old y ⊎ Contains others y) at (before i x within)
    of_one x (inr same) = inr (subst (Contains others) (sym same) is)

-- what holds of those that were there and of the other one holds of all
pub all_with : {X : Type 0} (P : X → Type 0) (old new : List X) (one : X) → All (λ x. Contains old x ⊎ (x ≡ one)) new → P one → All P old → All P new
all_with {X} P old new one each of_one of_old k d lt = by_case (get_or new k d) (each k d lt)
  where
    by_case : (x : X) → Contains old x ⊎ (x ≡ one) → P x
    by_case x (inl (i, within, at)) = subst P at (of_old i x within)
    by_case x (inr same) = subst P (sym same) of_one

-- so it is of others
pub all_of_each : {X : Type 0} (P : X → Type 0) (old others new : List X) → All (λ x. Contains old x ⊎ Contains others x) new → All P others → All P old → All P new
all_of_each {X} P old others new each of_others of_old k d lt = by_case (get_or new k d) (each k d lt)
  where
    by_case : (x : X) → Contains old x ⊎ Contains others x → P x
    by_case x (inl (i, within, at)) = subst P at (of_old i x within)
    by_case x (inr (i, within, at)) = subst P at (of_others i x within)

-- texts that are shown stay so where more is shown
pub there_still : (shown shown' did : List (Shown Entry End)) → Extends shown shown' → All (λ s. IsShown shown s.text.items s.end) did → All (λ s. IsShown shown' s.text.items s.end) did
there_still shown shown' did more all k d lt =
    Any-extends (λ (s : Shown Entry End). (s.text.items ≡ (get_or did k d).text.items) × (s.end ≡ (get_or did k d).end)) shown shown' more (all k d lt)

-- Texts of which no two are the same, and of which each is shown, are no more than those that are shown.
pub few_shown : (others ss : List (Shown Entry End)) → AllPairs AreDistinct others → All (λ s. IsShown ss s.text.items s.end) others → length others ≤ length ss
few_shown others ss distinct there =
    no_longer (λ (o s : Shown Entry End). (s.text.items ≡ o.text.items) × (s.end ≡ o.end)) others ss
    (λ i j d lt within s one other. distinct i j d lt within (sym one.0 ∙ other.0) (sym one.1 ∙ other.1)) there

-- what is known of a run stays so where more is known
pub known_more : (most : ℕ) (shown shown' : List (Shown Entry End)) (r : RunRecord) → Extends shown shown' → length shown' ≤ most → IsKnown most shown r → IsKnown most shown' r
known_more most shown shown' r more few known whole = of_one (known whole)
  where
    of_one : IsShown shown (string_bytes r.lines) r.end ⊎ (length shown ≡ most) → IsShown shown' (string_bytes r.lines) r.end ⊎ (length shown' ≡ most)
    of_one (inl there) = inl (Any-extends (λ (s : Shown Entry End). (s.text.items ≡ string_bytes r.lines) × (s.end ≡ r.end)) shown shown' more there)
    of_one (inr full) = inr (omega (arith, few, full, length-extends shown shown' more))

-- a text that was added is known of its run, or as many are there as may be
pub known_added : (there : Bool) (most : ℕ) (shown : List (Shown Entry End)) (r : RunRecord) (s : Shown Entry End) → IsShownRun r s → (IsTrue there → IsShown shown s.text.items s.end) → (there ≡ false → length shown ≡ most)
    → IsKnown most shown r
known_added true most shown r s same is full whole =
    inl (subst (λ (t : List ℕ). IsShown shown t r.end) same.0 (subst (λ (e : End). IsShown shown s.text.items e) same.1 (is refl)))
known_added false most shown r s same is full whole = inr (full refl)

-- texts that grow from texts that grew
pub grown_through : (a b c : KnownTexts) → HasGrown a b → HasGrown b c → HasGrown a c
grown_through a b c one two = record { most = two.most ∙ one.most; shown = Extends-through a.shown.items b.shown.items c.shown.items one.shown two.shown }

-- what is known of a run stays so where texts have grown
still_known : (old new : KnownTexts) (r : RunRecord) → HasGrown old new → length new.shown.items ≤ new.most → IsKnown old.most old.shown.items r → IsKnown new.most new.shown.items r
still_known old new r grown few known =
    known_more new.most old.shown.items new.shown.items r grown.shown few (subst (λ (n : ℕ). IsKnown n old.shown.items r) (sym grown.most) known)

-- what is known of each race up to one more
pub known_each : (old new : KnownTexts) (races : List Race) (i : ℕ) (item : Race) → HasGrown old new → length new.shown.items ≤ new.most → item ≡ get_or races i item → i < length races
    → ((k : ℕ) (d : Race) → k < i → IsKnown old.most old.shown.items (get_or races k d).exchanged) → IsKnown new.most new.shown.items item.exchanged → (k : ℕ) (d : Race) → k < i + 1 → IsKnown new.most new.shown.items (get_or races k d).exchanged
known_each old new races i item grown few at within before now k d lt = by_place (ltb k i) refl
  where
    by_place : (b : Bool) → ltb k i ≡ b → IsKnown new.most new.shown.items (get_or races k d).exchanged
    by_place true is = still_known old new (get_or races k d).exchanged grown few (before k d (ltb-true k i is))
    by_place false is =
        let same : i ≡ k = omega (arith, lt, ltb-false k i is) in
        subst (λ (n : ℕ). IsKnown new.most new.shown.items (get_or races n d).exchanged) same
        (subst (λ (r : Race). IsKnown new.most new.shown.items r.exchanged) (at ∙ get_or_default races i item d within) now)

-- the second run of each race is one of the design
pub races_run : (code : Compiled) (limits : Limits) (race_bounds : RaceBounds) (found : Found) → AreRaces code limits race_bounds found → All (λ (race : Race). IsRun code limits race.exchanged) found.races.items
races_run code limits race_bounds found races k d lt = (races.races k d lt).exchanged

-- what is known of the runs of races stays so where more is known
pub races_still : (most : ℕ) (found : Found) (shown shown' : List (Shown Entry End)) → Extends shown shown' → length shown' ≤ most → AreRacesKnown most found shown → AreRacesKnown most found shown'
races_still most found shown shown' more few (first, others) =
    (known_more most shown shown' found.original more few first, λ k d lt. known_more most shown shown' (get_or found.races.items k d).exchanged more few (others k d lt))

-- what is known of the first run and of the second runs, and then of others
pub all_known : (code : Compiled) (search_options : SearchOptions) (found : Found) (a b c : KnownTexts) → c.most ≡ search_options.max_texts → All (IsLawfulShown code (limits_in search_options)) c.shown.items → AreFew b → AreFew c
    → HasGrown a b → HasGrown b c → IsKnown a.most a.shown.items found.original → All (λ (race : Race). IsKnown b.most b.shown.items race.exchanged) found.races.items → AreKnown code search_options found c.shown.items
all_known code search_options found a b c most lawful few_b few more more' first others = record {
  lawful = lawful;
  distinct = few.distinct;
  few = subst (λ (n : ℕ). length c.shown.items ≤ n) most few.few;
  races = (
    subst (λ (n : ℕ). IsKnown n c.shown.items found.original) most (still_known b c found.original more' few.few (still_known a b found.original more few_b.few first)),
    λ k d lt. subst (λ (n : ℕ). IsKnown n c.shown.items (get_or found.races.items k d).exchanged) most (still_known b c (get_or found.races.items k d).exchanged more' few.few (others k d lt)),
  );
}

-- memory was refused before a search, or not

-- random orders that take the place of the search aren't none
pub none_before : (samples : Option ℕ) (refused : Bool) → is_some samples ≡ false → (count : ℕ) → samples ≡ Some count → refused ≡ false
none_before None refused none count is = cc
none_before (Some one) refused none count is = cc

-- by what the list of races says, and by whether it was refused to random orders, where such were tried before the search
pub refused_by : (samples : Option ℕ) (cut : Option Bound) (orders refused : Bool) → refused ≡ (if orders then true else lacks_memory cut) → ((count : ℕ) → samples ≡ Some count → orders ≡ false) → IsMemoryRefused samples cut refused
refused_by None cut true refused is alone = λ lacks. is
refused_by None cut false refused is alone = λ lacks. is ∙ lacks
refused_by (Some count) cut true refused is alone =
    let none : ◌≡◌ {A = Bool} true false = alone count refl in
    cc
refused_by (Some count) cut false refused is alone = is
