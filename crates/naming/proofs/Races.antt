-- Races that are told, one after another.
use Rattle.std.proofs.Common.{◌≡◌, ◌∙◌, ap, sym, subst, ℕ, zero, suc, ◌+◌, ◌<◌, ◌≤◌, Bool, true, false, not, List, [], ◌∷◌, ◌++◌, drop, length, map, take, get_or, append_assoc, length-append, Option, Result, Ok, Err, OnOk, refl, arith, add-one}
use Rattle.std.specs.Prelude.{if◌then◌else◌}
use Rattle.std.proofs.lemmas.List.{append-nil, map-append, take_more}
use Rattle.std.proofs.lemmas.List.Elements.{filter-append}
use Rattle.model.specs.declared.entry.Entry.{Entry}
use Rattle.model.specs.declared.end.End.{End}
use Rattle.design.specs.Compiled.{Compiled}
use Rattle.explore.specs.declared.Shown.{Shown}
use Rattle.causes.specs.declared.causes.Causes.{Causes}
use Rattle.causes.specs.declared.parting_race.PartingRace.{PartingRace}
use Rattle.causes.specs.Causes.{is_numbered, numbered_causes}
use Rattle.races.specs.declared.told.Found.{Found}
use Rattle.races.specs.declared.told.Race.{Race}
use Rattle.races.specs.LineOrders.{is_line_order}
use Rattle.runs.specs.declared.run.RunRecord.{RunRecord}
use Rattle.conflicts.specs.declared.bounds.RaceBounds.{RaceBounds}
use Rattle.verdict.specs.declared.race.RaceDescription.{RaceDescription}
use Rattle.verdict.specs.RaceLines.{race_text, unnamed_text}
use Rattle.locations.specs.declared.location.ProcessLocation.{ProcessLocation}
use Rattle.naming.specs.SourcePlaces.{ArePlacesOf}
use Rattle.naming.specs.declared.places.SourcePlaces.{SourcePlaces}
use Rattle.naming.specs.LineOrders.{orders_text}
use Rattle.naming.specs.TextOrders.{order_alone_text}
use Rattle.naming.specs.UnseenRegisters.{unseen_text}
use Rattle.naming.specs.declared.naming.ToldSoFar.{ToldSoFar}
use Rattle.naming.specs.declared.line_orders.LineOrder.{LineOrder}
use Rattle.naming.specs.Naming.{AddsOrder, AreEachTold, AreOrdersOf, IsCauseTold, TellsAlone, TellsBehind, TellsMoreBehind, TellsNumbered, TellsSome, all_races, line_orders, list_end_text, numbered_before, parting_of, races_text, unnamed_lines}

-- the lines on races, and on others behind them
pub texts_append : (ts us : List RaceDescription) → races_text (ts ++ us) ≡ races_text ts ++ races_text us
texts_append [] us = refl
texts_append (t ∷ ts) us = ap (λ l. race_text t ++ l) (texts_append ts us) ∙ sym (append_assoc (race_text t) (races_text ts) (races_text us))

-- some are told, and others behind them
pub told_append : {X : Type 0} (IsTold : ℕ → X → RaceDescription → Type 0) (n : ℕ) (xs ys : List X) (ts us : List RaceDescription) → AreEachTold IsTold n xs ts → AreEachTold IsTold (n + length xs) ys us
    → AreEachTold IsTold n (xs ++ ys) (ts ++ us)
told_append IsTold n [] ys [] us all more = subst (λ k. AreEachTold IsTold k ys us) (omega arith) more
told_append IsTold n [] ys (t ∷ ts) us all more = absurd all
told_append IsTold n (x ∷ xs) ys [] us all more = absurd all
told_append IsTold n (x ∷ xs) ys (t ∷ ts) us all more = (all.0, told_append IsTold (n + 1) xs ys ts us all.1 (subst (λ k. AreEachTold IsTold k ys us) (omega arith) more))

-- some are kept, and others behind them
pub kept_append : (shown : List (Shown Entry End)) (cs ds : List PartingRace) (os ps : List LineOrder) → AreOrdersOf shown cs os → AreOrdersOf shown ds ps → AreOrdersOf shown (cs ++ ds) (os ++ ps)
kept_append shown [] ds [] ps all more = more
kept_append shown [] ds (o ∷ os) ps all more = absurd all
kept_append shown (c ∷ cs) ds [] ps all more = absurd all
kept_append shown (c ∷ cs) ds (o ∷ os) ps all more = (all.0, kept_append shown cs ds os ps all.1 more)

two : (old a b mid new : List ℕ) → mid ≡ old ++ a → new ≡ mid ++ b → new ≡ old ++ (a ++ b)
two old a b mid new one last = last ∙ (ap (λ l. l ++ b) one ∙ append_assoc old a b)

-- races were told, and others behind them
pub tells_both : (places : SourcePlaces) (code : Compiled) (shown : List (Shown Entry End)) (prefix : Option (List ℕ)) (xs ys : List PartingRace) (old mid new : List ℕ) (before between after : ToldSoFar)
    → TellsSome places code shown prefix xs old mid before between → TellsSome places code shown prefix ys mid new between after → TellsSome places code shown prefix (xs ++ ys) old new before after
tells_both places code shown prefix xs ys old mid new before between after one other =
    let IsTold : ℕ → PartingRace → RaceDescription → Type 0 = IsCauseTold places code shown prefix in
    let both : numbered_causes (xs ++ ys) ≡ numbered_causes xs ++ numbered_causes ys = filter-append is_numbered xs ys in
    let orders : line_orders (xs ++ ys) ≡ line_orders xs ++ line_orders ys = filter-append (λ (cause : PartingRace). is_line_order cause.race.site) xs ys in
    let long : length (numbered_causes xs ++ numbered_causes ys) ≡ length (numbered_causes xs) + length (numbered_causes ys) = length-append (numbered_causes xs) (numbered_causes ys) in
    let many : after.number ≡ before.number + length (numbered_causes xs ++ numbered_causes ys) = omega (arith, one.number_is, other.number_is, long) in
    record {
      told = one.told ++ other.told;
      are_told = subst (λ (rs : List PartingRace). AreEachTold IsTold before.number rs (one.told ++ other.told)) (sym both)
          (told_append IsTold before.number (numbered_causes xs) (numbered_causes ys) one.told other.told one.are_told (subst (λ k. AreEachTold IsTold k (numbered_causes ys) other.told) one.number_is other.are_told));
      new_is = two old (races_text one.told) (races_text other.told) mid new one.new_is other.new_is ∙ ap (λ l. old ++ l) (sym (texts_append one.told other.told));
      number_is = subst (λ (rs : List PartingRace). after.number ≡ before.number + length rs) (sym both) many;
      kept = one.kept ++ other.kept;
      are_kept = subst (λ (rs : List PartingRace). AreOrdersOf shown rs (one.kept ++ other.kept)) (sym orders) (kept_append shown (line_orders xs) (line_orders ys) one.kept other.kept one.are_kept other.are_kept);
      orders_is = other.orders_is ∙ (ap (λ (l : List LineOrder). l ++ other.kept) one.orders_is ∙ append_assoc before.orders.items one.kept other.kept);
    }

-- none was told
pub tells_nothing : (places : SourcePlaces) (code : Compiled) (shown : List (Shown Entry End)) (prefix : Option (List ℕ)) (old : List ℕ) (now : ToldSoFar) → TellsSome places code shown prefix [] old old now now
tells_nothing places code shown prefix old now =
    record { told = []; are_told = tt; new_is = sym (append-nil old); number_is = omega arith; kept = []; are_kept = tt; orders_is = sym (append-nil now.orders.items) }

-- a race that has a number was told
tells_numbered : (places : SourcePlaces) (code : Compiled) (shown : List (Shown Entry End)) (prefix : Option (List ℕ)) (original : RunRecord) (race : Race) (old new : List ℕ) (before after : ToldSoFar)
    → is_line_order race.site ≡ false → TellsNumbered places code shown prefix original before.number race old new → after.number ≡ before.number + 1 → after.orders.items ≡ before.orders.items
    → TellsSome places code shown prefix (parting_of original race ∷ []) old new before after
tells_numbered places code shown prefix original race old new before after is tells next same =
    let p : PartingRace = parting_of original race in
    let one : numbered_causes (p ∷ []) ≡ p ∷ [] = ap (λ (b : Bool). if not b then p ∷ [] else []) is in
    let none : line_orders (p ∷ []) ≡ [] = ap (λ (b : Bool). if b then p ∷ [] else []) is in
    record {
      told = tells.told ∷ [];
      are_told = subst (λ (rs : List PartingRace). AreEachTold (IsCauseTold places code shown prefix) before.number rs (tells.told ∷ [])) (sym one) (tells.is_told, tt);
      new_is = tells.new_is ∙ ap (λ l. old ++ l) (sym (append-nil (race_text tells.told)));
      number_is = subst (λ (rs : List PartingRace). after.number ≡ before.number + length rs) (sym one) next;
      kept = [];
      are_kept = subst (λ (rs : List PartingRace). AreOrdersOf shown rs []) (sym none) tt;
      orders_is = same ∙ sym (append-nil before.orders.items);
    }

-- a race for the order of lines was kept
pub tells_order : (places : SourcePlaces) (code : Compiled) (shown : List (Shown Entry End)) (prefix : Option (List ℕ)) (original : RunRecord) (race : Race) (old : List ℕ) (before after : ToldSoFar)
    → is_line_order race.site ≡ true → AddsOrder shown race before after → TellsSome places code shown prefix (parting_of original race ∷ []) old old before after
tells_order places code shown prefix original race old before after is adds =
    let p : PartingRace = parting_of original race in
    let none : numbered_causes (p ∷ []) ≡ [] = ap (λ (b : Bool). if not b then p ∷ [] else []) is in
    let one : line_orders (p ∷ []) ≡ p ∷ [] = ap (λ (b : Bool). if b then p ∷ [] else []) is in
    let still : after.number ≡ before.number + 0 = omega (arith, adds.number_is) in
    record {
      told = [];
      are_told = subst (λ (rs : List PartingRace). AreEachTold (IsCauseTold places code shown prefix) before.number rs []) (sym none) tt;
      new_is = sym (append-nil old);
      number_is = subst (λ (rs : List PartingRace). after.number ≡ before.number + length rs) (sym none) still;
      kept = adds.order ∷ [];
      are_kept = subst (λ (rs : List PartingRace). AreOrdersOf shown rs (adds.order ∷ [])) (sym one) (adds.is_order, tt);
      orders_is = adds.orders_is;
    }

-- so it is, and there is one number more at most, where it was told or kept
pub numbered_tells : (places : SourcePlaces) (code : Compiled) (shown : List (Shown Entry End)) (prefix : Option (List ℕ)) (original : RunRecord) (race : Race) (old new : List ℕ) (before : ToldSoFar)
    → is_line_order race.site ≡ false → TellsNumbered places code shown prefix original before.number race old new
    → TellsSome places code shown prefix (parting_of original race ∷ []) old new before (record before { number = before.number + 1 })
numbered_tells places code shown prefix original race old new before is tells =
    tells_numbered places code shown prefix original race old new before (record before { number = before.number + 1 }) is tells refl refl

pub order_tells : {A E : Type 0} (r : Result A E) (places : SourcePlaces) (code : Compiled) (shown : List (Shown Entry End)) (prefix : Option (List ℕ)) (original : RunRecord) (race : Race) (old : List ℕ) (before after : ToldSoFar)
    → is_line_order race.site ≡ true → OnOk r (AddsOrder shown race before after) → OnOk r (TellsSome places code shown prefix (parting_of original race ∷ []) old old before after)
order_tells (Ok x) places code shown prefix original race old before after is adds = tells_order places code shown prefix original race old before after is adds
order_tells (Err e) places code shown prefix original race old before after is adds = tt

pub order_few : {A E : Type 0} (r : Result A E) (shown : List (Shown Entry End)) (race : Race) (before after : ToldSoFar) → OnOk r (AddsOrder shown race before after) → OnOk r (after.number ≤ before.number + 1)
order_few (Ok x) shown race before after adds = omega (arith, adds.number_is)
order_few (Err e) shown race before after adds = tt

-- those of a first run up to a place, and the one there
pub partings_more : (original : RunRecord) (races : List Race) (i : ℕ) (race : Race) → i < length races → race ≡ get_or races i race
    → map (parting_of original) (take (i + 1) races) ≡ map (parting_of original) (take i races) ++ parting_of original race ∷ []
partings_more original races i race lt is =
    ap (map (parting_of original)) (take_more races i race lt ∙ ap (λ (r : Race). take i races ++ r ∷ []) (sym is)) ∙ map-append (parting_of original) (take i races) (race ∷ [])

-- the lines on one text more for which none was found
pub unnamed_more : (i : ℕ) (ns : List ℕ) (d : ℕ) → i < length ns → unnamed_lines (take (i + 1) ns) ≡ unnamed_lines (take i ns) ++ unnamed_text (get_or ns i d)
unnamed_more i ns d lt = subst (λ j. unnamed_lines (take j ns) ≡ unnamed_lines (take i ns) ++ unnamed_text (get_or ns i d)) (sym (add-one i)) (more i ns lt)
  where
    more : (i : ℕ) (ns : List ℕ) → i < length ns → unnamed_lines (take (suc i) ns) ≡ unnamed_lines (take i ns) ++ unnamed_text (get_or ns i d)
    more i [] lt = absurd (omega (arith, lt))
    more zero (n ∷ ns) lt = append-nil (unnamed_text n)
    more (suc i) (n ∷ ns) lt = ap (λ l. unnamed_text n ++ l) (more i ns (omega (arith, lt))) ∙ sym (append_assoc (unnamed_text n) (unnamed_lines (take i ns)) (unnamed_text (get_or ns i d)))

three : (old a b c mid next new : List ℕ) → mid ≡ old ++ a → next ≡ mid ++ b → new ≡ next ++ c → new ≡ old ++ (a ++ (b ++ c))
three old a b c mid next new one other last =
    last ∙ (ap (λ l. l ++ c) (other ∙ ap (λ l. l ++ b) one) ∙ (append_assoc (old ++ a) b c ∙ append_assoc old a (b ++ c)))

-- the lines on those for the order of lines, which were kept where none was before
orders_told : (places : SourcePlaces) (code : Compiled) (shown : List (Shown Entry End)) (prefix : Option (List ℕ)) (races : List PartingRace) (old mid next : List ℕ) (before after : ToldSoFar)
    → before.orders.items ≡ [] → (some : TellsSome places code shown prefix races old mid before after) → next ≡ mid ++ orders_text places.processes.now prefix after.orders.items → next ≡ mid ++ orders_text places.processes.now prefix some.kept
orders_told places code shown prefix races old mid next before after none some at =
    at ∙ ap (λ (os : List LineOrder). mid ++ orders_text places.processes.now prefix os) (some.orders_is ∙ ap (λ (l : List LineOrder). l ++ some.kept) none)

-- the lines on races that part texts, on each race of a first run, and then by what their list was cut
pub tells_behind : {A E : Type 0} (r : Result A E) (processes : List ProcessLocation) (source : List ℕ) (places : SourcePlaces) (code : Compiled) (shown : List (Shown Entry End)) (prefix : Option (List ℕ)) (race_bounds : RaceBounds) (found : Found) (causes : List PartingRace) (old mid next new : List ℕ) (before after : ToldSoFar)
    → ArePlacesOf processes source places → before.number ≡ 0 + 1 → before.orders.items ≡ [] → TellsSome places code shown prefix (all_races causes found) old mid before after
    → next ≡ mid ++ orders_text places.processes.now prefix after.orders.items → OnOk r (new ≡ next ++ list_end_text race_bounds found.cut) → OnOk r (TellsBehind processes source code shown prefix race_bounds found causes old new)
tells_behind (Ok x) processes source places code shown prefix race_bounds found causes old mid next new before after are first none some orders at = record {
  lines = races_text some.told ++ (orders_text places.processes.now prefix some.kept ++ list_end_text race_bounds found.cut);
  tells = record {
    places = places;
    are_places = are;
    told = some.told;
    are_told = subst (λ n. AreEachTold (IsCauseTold places code shown prefix) n (numbered_causes (all_races causes found)) some.told) first some.are_told;
    kept = some.kept;
    are_kept = some.are_kept;
    lines_is = refl;
  };
  new_is = three old (races_text some.told) (orders_text places.processes.now prefix some.kept) (list_end_text race_bounds found.cut) mid next new some.new_is
      (orders_told places code shown prefix (all_races causes found) old mid next before after none some orders) at;
}
tells_behind (Err x) processes source places code shown prefix race_bounds found causes old mid next new before after are first none some orders at = tt

four : (old a b c d mid next last new : List ℕ) → mid ≡ old ++ a → next ≡ mid ++ b → last ≡ next ++ c → new ≡ last ++ d → new ≡ old ++ (a ++ (b ++ (c ++ d)))
four old a b c d mid next last new one other third end =
    three old a b (c ++ d) mid next new one other (end ∙ (ap (λ l. l ++ d) third ∙ append_assoc next c d))

-- the lines on further races that part texts, on texts for which none was found, by what their list was cut, whether the texts differ only in the order of lines, and on registers that differ
pub tells_more_behind : {A E : Type 0} (r : Result A E) (processes : List ProcessLocation) (source : List ℕ) (places : SourcePlaces) (code : Compiled) (shown : List (Shown Entry End)) (prefix : Option (List ℕ)) (race_bounds : RaceBounds) (found : Found) (early : ℕ) (causes : Causes) (old mid next last end said new : List ℕ) (before after : ToldSoFar)
    → ArePlacesOf processes source places → before.number ≡ numbered_before found early causes.causes.items + 1 → before.orders.items ≡ [] → TellsSome places code shown prefix (drop early causes.causes.items) old mid before after
    → next ≡ mid ++ orders_text places.processes.now prefix after.orders.items → last ≡ next ++ unnamed_lines causes.unnamed.items → end ≡ last ++ list_end_text race_bounds causes.cut
    → TellsAlone code shown end said → OnOk r (new ≡ said ++ unseen_text code places.processes.now (length shown) found.unseen) → OnOk r (TellsMoreBehind processes source code shown prefix race_bounds found early causes old new)
tells_more_behind (Ok x) processes source places code shown prefix race_bounds found early causes old mid next last end said new before after are first none some orders unnamed cut alone seen =
    let ended : List ℕ = list_end_text race_bounds causes.cut in
    let words : List ℕ = order_alone_text alone.alone in
    let names : List ℕ = unseen_text code places.processes.now (length shown) found.unseen in
    record {
      lines = races_text some.told ++ (orders_text places.processes.now prefix some.kept ++ (unnamed_lines causes.unnamed.items ++ (ended ++ (words ++ names))));
      tells = record {
        places = places;
        are_places = are;
        told = some.told;
        are_told = subst (λ n. AreEachTold (IsCauseTold places code shown prefix) n (numbered_causes (drop early causes.causes.items)) some.told) first some.are_told;
        kept = some.kept;
        are_kept = some.are_kept;
        alone = alone.alone;
        is_alone = alone.is_alone;
        lines_is = refl;
      };
      new_is = four old (races_text some.told) (orders_text places.processes.now prefix some.kept) (unnamed_lines causes.unnamed.items) (ended ++ (words ++ names)) mid next last new some.new_is
          (orders_told places code shown prefix (drop early causes.causes.items) old mid next before after none some orders) unnamed
          (three last ended words names end said new cut alone.new_is seen);
    }
tells_more_behind (Err x) processes source places code shown prefix race_bounds found early causes old mid next last end said new before after are first none some orders unnamed cut alone seen = tt
