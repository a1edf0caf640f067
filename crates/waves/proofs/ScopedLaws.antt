-- The text of a dump with scopes, piece by piece.
use Rattle.std.proofs.Common.{◌≡◌, ◌∙◌, ◌&&◌, ◌||◌, ℕ, suc, ◌+◌, ◌-◌, ◌<◌, ◌≤◌, List, [], ◌∷◌, ◌++◌, map, length, get_or, take, drop, Bool, true, false, cond, if◌then◌else◌, Option, Result, Ok, Err, OnOk, Bor, refl, sym, ap, append_assoc, add-one, drop-cons, arith}
use Rattle.std.specs.List.{filter, flat_map, list_any}
use Rattle.std.specs.Str.{bytes_eq}
use Rattle.std.proofs.lemmas.List.{append-nil, at_drop_more, drop_all, flat_map_more, get_or-map, map-append, take_all, take_more}
use Rattle.model.specs.Syntax.{Text}
use Rattle.waves.specs.Dump.{changes_text, new_time, register_line, value_line}
use Rattle.waves.specs.FullNames.{AreHomes, is_shown_name, name_in_scope, scope_of_name}
use Rattle.waves.specs.ScopedDump.{PlainScope, plain_scope, is_scope, stands_in, stands_within, register_within, registers_within, contents_text, scopes_text, unknown_shown, unknown_shown_text, is_change_shown, change_lines}
use Rattle.waves.specs.declared.wave.ValueChange.{ValueChange}
use Rattle.waves.specs.declared.scoped.ShownScope.{ShownScope}

-- one register more has its scope's name
pub home_more : (names : List Text) (r : ℕ) (old new : List (Bor (List ℕ))) (home : Bor (List ℕ)) (name : Text)
    → r < length names → name ≡ get_or names r [] → home.now ≡ scope_of_name name → new ≡ old ++ home ∷ []
    → AreHomes (take r names) old → AreHomes (take (r + 1) names) new
home_more names r old new home name inside named is put before =
    let last : home.now ≡ scope_of_name (get_or names r []) = is ∙ ap scope_of_name named in
    ap (map (λ (h : Bor (List ℕ)). h.now)) put ∙ map-append (λ (h : Bor (List ℕ)). h.now) old (home ∷ [])
    ∙ ap (λ (hs : List Text). hs ++ home.now ∷ []) before
    ∙ ap (λ (h : Text). map scope_of_name (take r names) ++ h ∷ []) last
    ∙ sym (map-append scope_of_name (take r names) (get_or names r [] ∷ []))
    ∙ ap (map scope_of_name) (sym (take_more names r [] inside))

-- whether a scope has the full name, by the plain scopes
pub any_has : (scopes : List ShownScope) (path : Text) → list_any (λ (s : ShownScope). bytes_eq s.path.now path) scopes ≡ is_scope (map plain_scope scopes) path
any_has [] path = refl
any_has (s ∷ ss) path = ap (λ (b : Bool). bytes_eq s.path.now path || b) (any_has ss path)

-- the line of one register, as it is put
pub declared_is : (scopes : List PlainScope) (around : Option Text) (names : List Text) (widths : List ℕ) (homes : List (Bor (List ℕ))) (r : ℕ) (name home own : Text) (declared : Bool) (width : ℕ)
    → r < length names → AreHomes names homes → name ≡ get_or names r [] → home ≡ get_or (map (λ (h : Bor (List ℕ)). h.now) homes) r []
    → declared ≡ (is_shown_name name && stands_in scopes around home) → own ≡ name_in_scope name → width ≡ get_or widths r 0
    → (if declared then register_line r own width else []) ≡ register_within scopes around r (get_or names r []) (get_or widths r 0)
declared_is scopes around names widths homes r name home own declared width inside are named at_home is_declared is_own is_width =
    let home_is : home ≡ scope_of_name name =
    at_home ∙ (ap (λ (hs : List Text). get_or hs r []) are ∙ (get_or-map scope_of_name names r [] [] inside ∙ ap scope_of_name (sym named))) in
    let test : declared ≡ (is_shown_name name && stands_within scopes around name) = is_declared ∙ ap (λ (h : Text). is_shown_name name && stands_in scopes around h) home_is in
    ap (λ (b : Bool). if b then register_line r own width else []) test
    ∙ (ap (λ (o : Text). if is_shown_name name && stands_within scopes around name then register_line r o width else []) is_own
    ∙ (ap (λ (w : ℕ). if is_shown_name name && stands_within scopes around name then register_line r (name_in_scope name) w else []) is_width
    ∙ ap (λ (n : Text). register_within scopes around r n (get_or widths r 0)) named))

-- one register more is declared
pub within_next : (scopes : List PlainScope) (around : Option Text) (r : ℕ) (names : List Text) (widths : List ℕ) → r < length names → r < length widths
    → registers_within scopes around r (drop r names) (drop r widths)
    ≡ register_within scopes around r (get_or names r []) (get_or widths r 0) ++ registers_within scopes around (r + 1) (drop (r + 1) names) (drop (r + 1) widths)
within_next scopes around r names widths inside inside' = rw (drop-cons names r [], drop-cons widths r 0, add-one r) refl

-- one register more is all x
pub unknown_next : (r : ℕ) (names : List Text) (widths : List ℕ) → r < length names → r < length widths
    → unknown_shown_text r (drop r names) (drop r widths) ≡ unknown_shown r (get_or names r []) (get_or widths r 0) ++ unknown_shown_text (r + 1) (drop (r + 1) names) (drop (r + 1) widths)
unknown_next r names widths inside inside' = rw (drop-cons names r [], drop-cons widths r 0, add-one r) refl

-- what stands in a scope, with no room for scopes, and with some
pub contents_bare : (scopes : List PlainScope) (names : List Text) (widths : List ℕ) (around : Option Text) (room : ℕ) → room ≡ 0
    → contents_text room scopes names widths around ≡ registers_within scopes around 0 names widths
unfolding contents_text
contents_bare scopes names widths around room e = ap (λ (n : ℕ). contents_text n scopes names widths around) e

pub contents_more : (scopes : List PlainScope) (names : List Text) (widths : List ℕ) (around : Option Text) (room : ℕ) → 0 < room
    → contents_text room scopes names widths around ≡ registers_within scopes around 0 names widths ++ scopes_text (room - 1) scopes names widths around
unfolding contents_text
contents_more scopes names widths around room some =
    let more : room ≡ suc (room - 1) = omega (arith, some) in
    ap (λ (n : ℕ). contents_text n scopes names widths around) more

-- a call that puts the last piece, behind a text to which the first one was put
pub put_last : {X E : Type 0} (r : Result X E) (new mid old a b whole : List ℕ) → mid ≡ old ++ a → whole ≡ a ++ b → OnOk r (new ≡ mid ++ b) → OnOk r (new ≡ old ++ whole)
put_last (Ok x) new mid old a b whole first is h = h ∙ (ap (λ (t : List ℕ). t ++ b) first ∙ (append_assoc old a b ∙ ap (λ (t : List ℕ). old ++ t) (sym is)))
put_last (Err x) new mid old a b whole first is h = tt

-- the lines of one scope more
pub scopes_more : (f : PlainScope → List ℕ) (scopes : List ShownScope) (i : ℕ) (d : ShownScope) (old text new : List ℕ) → i < length scopes
    → new ≡ text ++ f (plain_scope (get_or scopes i d)) → text ≡ old ++ flat_map f (map plain_scope (take i scopes)) → new ≡ old ++ flat_map f (map plain_scope (take (i + 1) scopes))
scopes_more f scopes i d old text new inside put is =
    let s = plain_scope (get_or scopes i d) in
    let all : map plain_scope (take (i + 1) scopes) ≡ map plain_scope (take i scopes) ++ s ∷ [] = ap (map plain_scope) (take_more scopes i d inside) ∙ map-append plain_scope (take i scopes) (get_or scopes i d ∷ []) in
    put ∙ (ap (λ (t : List ℕ). t ++ f s) is ∙ (flat_map_more f old (map plain_scope (take i scopes)) s ∙ ap (λ (ss : List PlainScope). old ++ flat_map f ss) (sym all)))

pub scopes_end : (f : PlainScope → List ℕ) (scopes : List ShownScope) (i : ℕ) (old text : List ℕ) → length scopes ≤ i
    → text ≡ old ++ flat_map f (map plain_scope (take i scopes)) → text ≡ old ++ flat_map f (map plain_scope scopes)
scopes_end f scopes i old text behind is = is ∙ ap (λ (ss : List ShownScope). old ++ flat_map f (map plain_scope ss)) (take_all i scopes behind)

-- one change more
change_more : (p : ValueChange → Bool) (c : ValueChange) (cs : List ValueChange) (standing end : ℕ) (text : List ℕ) (shown : Bool) → shown ≡ p c
    → (text ++ (if shown then change_lines standing c else [])) ++ changes_text (if shown then c.time else standing) (filter p cs) end
    ≡ text ++ changes_text standing (cond shown (c ∷ filter p cs) (filter p cs)) end
change_more p c cs standing end text true e =
    append_assoc text (change_lines standing c) (changes_text c.time (filter p cs) end)
    ∙ ap (λ (t : List ℕ). text ++ t) (append_assoc (new_time standing c.time) (value_line c.register c.value) (changes_text c.time (filter p cs) end))
change_more p c cs standing end text false e = ap (λ (t : List ℕ). t ++ changes_text standing (filter p cs) end) (append-nil text)

changes_more : (names : List Text) (changes : List ValueChange) (i : ℕ) (d : ValueChange) (standing end time : ℕ) (shown : Bool) (name : Text) (old text new : List ℕ) → i < length changes
    → shown ≡ is_shown_name name → name ≡ get_or names (get_or changes i d).register []
    → time ≡ (if shown then (get_or changes i d).time else standing) → new ≡ text ++ (if shown then change_lines standing (get_or changes i d) else [])
    → text ++ changes_text standing (filter (is_change_shown names) (drop i changes)) end ≡ old
    → new ++ changes_text time (filter (is_change_shown names) (drop (i + 1) changes)) end ≡ old
changes_more names changes i d standing end time shown name old text new inside is_shown named is_time put h =
    let p = is_change_shown names in
    let c = get_or changes i d in
    let cs = drop (i + 1) changes in
    let test : shown ≡ p c = is_shown ∙ ap is_shown_name named in
    let front : filter p (drop i changes) ≡ filter p (c ∷ cs) = at_drop_more (filter p) changes i d inside in
    ap (λ (t : List ℕ). t ++ changes_text time (filter p cs) end) put
    ∙ (ap (λ (n : ℕ). (text ++ (if shown then change_lines standing c else [])) ++ changes_text n (filter p cs) end) is_time
    ∙ (change_more p c cs standing end text shown test
    ∙ (ap (λ (b : Bool). text ++ changes_text standing (cond b (c ∷ filter p cs) (filter p cs)) end) test
    ∙ (ap (λ (found : List ValueChange). text ++ changes_text standing found end) (sym front) ∙ h))))

-- so it is of the change that stands there
pub changes_next : (names : List Text) (changes : List ValueChange) (i : ℕ) (one : ValueChange) (standing end time : ℕ) (shown : Bool) (name : Text) (old text new : List ℕ) → i < length changes
    → one ≡ get_or changes i one → shown ≡ is_shown_name name → name ≡ get_or names one.register []
    → time ≡ (if shown then one.time else standing) → new ≡ text ++ (if shown then change_lines standing one else [])
    → text ++ changes_text standing (filter (is_change_shown names) (drop i changes)) end ≡ old
    → new ++ changes_text time (filter (is_change_shown names) (drop (i + 1) changes)) end ≡ old
changes_next names changes i one standing end time shown name old text new inside is is_shown named is_time put h =
    changes_more names changes i one standing end time shown name old text new inside is_shown (named ∙ ap (λ (x : ValueChange). get_or names x.register []) is)
    (is_time ∙ ap (λ (x : ValueChange). if shown then x.time else standing) is) (put ∙ ap (λ (x : ValueChange). text ++ (if shown then change_lines standing x else [])) is) h

-- behind all changes the end is put
pub changes_end : (names : List Text) (changes : List ValueChange) (i standing end : ℕ) (text old : List ℕ) → length changes ≤ i
    → text ++ changes_text standing (filter (is_change_shown names) (drop i changes)) end ≡ old → text ++ new_time standing end ≡ old
changes_end names changes i standing end text old behind h =
    ap (λ (cs : List ValueChange). text ++ changes_text standing (filter (is_change_shown names) cs) end) (sym (drop_all i changes behind)) ∙ h
