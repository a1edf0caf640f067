-- What a parse gives of a command whose arguments follow a list of rules.
use Rattle.std.proofs.Common.{zero, suc, ◌++◌, ◌||◌, ◌&&◌, ◌≡◌, ◌∙◌, ◌<◌, ap, ℕ, Bool, true, false, not, List, [], ◌∷◌, length, is_some, Option, Some, None, refl, sym, subst, inl, inr, arith}
use Rattle.std.specs.List.{All, slice_index_or}
use Rattle.std.specs.Str.{bytes_eq}
use Rattle.std.specs.Prelude.{slice_get, unwrap_or, codes, IfOk, IfErr, Result, Ok, Err}
use Rattle.std.specs.Borrow.{Bor}
use Rattle.std.proofs.lemmas.Slice.Eq.{bytes_eq-Decides}
use Rattle.std.proofs.lemmas.List.Elements.{All-get_or}
use Rattle.clap.specs.Facts.{args_of, groups_of, Entry, EntryPasses, PassesArg, HasReading, parser_of, parser_of_value}
use Rattle.clap.specs.Built.{IsParsedFrom, IsAuto, AddsArg, SameRules}
use Rattle.clap.specs.Matches.{matched_of, first_value, found_of}
use Rattle.clap.specs.Values.{Accepts, reading_of}
use Rattle.clap.proofs.CallerLemmas.{entry_by_id, same_rules_by_id, required_has_value, added_plain}
use Rattle.clap.specs.Words.{kind_of}
use Rattle.clap.specs.declared.builder.action.ArgAction.TheVariants.{Set}
use Rattle.clap.specs.declared.builder.arg.Arg.{Arg}
use Rattle.clap.specs.declared.builder.command.Command.{Command}
use Rattle.clap.specs.declared.builder.value_parser.ValueParser.{ValueParser}
use Rattle.clap.specs.declared.error.Error.{Error}
use Rattle.clap.specs.declared.error.kind.ErrorKind.{ErrorKind}
use Rattle.clap.specs.declared.parser.matches.ArgMatches.{ArgMatches}
use Rattle.clap.specs.declared.parser.matches.Found.{Found}
use Rattle.clap.specs.declared.parser.matches.MatchedArg.{MatchedArg}
use Rattle.arguments.specs.Arguments.{Rule, FollowsRule, Follow, HasRules, IsGivenArgument}

-- what holds of each answer that is Ok
pub if_ok : {T E : Type 0} (P Q : T → Type 0) (r : Result T E) → ((x : T) → P x → Q x) → IfOk r P → IfOk r Q
if_ok P Q (Ok x) f h = f x h
if_ok P Q (Err e) f h = tt

-- and of each that is Err
pub if_err : {T E : Type 0} (P Q : E → Type 0) (r : Result T E) → ((x : E) → P x → Q x) → IfErr r P → IfErr r Q
if_err P Q (Ok x) f h = tt
if_err P Q (Err e) f h = f e h

-- an error that was made has the kind with which it was
pub made_so : {E : Type 0} (r : Result Error E) (e : Error) (kind : ErrorKind) → r ≡ Ok e → IfOk r (λ x. kind_of x ≡ kind) → kind_of e ≡ kind
made_so {E} r e kind is h = subst (λ (o : Result Error E). IfOk o (λ x. kind_of x ≡ kind)) is h

-- building a command

takes_same : (a b : Arg) (r : Rule) → SameRules a b → FollowsRule a r → FollowsRule b r
takes_same a b r s t = record {
  id = ap (λ x. x.now) s.id ∙ t.id;
  required = s.required ∙ t.required;
  parser = λ q e. s.parser q (t.parser q e);
  action = s.action r.action t.action;
  least = λ set. s.least (t.action ∙ ap Some set) (t.least set);
  whole = s.val_delim ∙ t.whole;
  plain = (s.exclusive ∙ t.plain.0, s.conflicts ∙ t.plain.1, s.overrides ∙ t.plain.2, s.groups ∙ t.plain.3);
  local = s.global ∙ t.local;
}

follow_push : (xs : List Arg) (rs : List Rule) (y : Arg) (r : Rule) → Follow xs rs → FollowsRule y r
    → Follow (xs ++ y ∷ []) (rs ++ r ∷ [])
follow_push [] [] y r f t = (t, f)
follow_push [] (s ∷ rs) y r f t = absurd f
follow_push (x ∷ xs) [] y r f t = absurd f
follow_push (x ∷ xs) (s ∷ rs) y r f t = (f.0, follow_push xs rs y r f.1 t)

-- and with one more
pub one_more : (c d : Command) (a : Arg) (rs : List Rule) (r : Rule) → HasRules c rs → FollowsRule a r → AddsArg c a d
    → HasRules d (rs ++ r ∷ [])
one_more c d a rs r h t added = record {
  args = subst (λ xs. Follow xs (rs ++ r ∷ [])) (sym added.args)
      (follow_push (args_of c) rs added.arg r h.args (takes_same a added.arg r added.rules t));
  plain = added_plain c d a added h.plain t.plain;
  local = added.globals ∙ (ap (λ b. b || a.global) h.local ∙ ap (λ b. false || b) t.local);
  negates = added.negates ∙ h.negates;
}

-- the argument of a rule

and_left : (a b : Bool) → (a && b) ≡ true → a ≡ true
and_left true b h = refl
and_left false b h = h

and_right : (a b : Bool) → (a && b) ≡ true → b ≡ true
and_right true b h = h
and_right false b h = cc

some_arg : (xs : List Arg) (rs : List Rule) (k : ℕ) (r : Rule) → Follow xs rs → slice_get rs k ≡ Some r → Arg
some_arg [] [] k r f e = cc
some_arg [] (s ∷ rs) k r f e = absurd f
some_arg (x ∷ xs) rs k r f e = x

rule_at : (xs : List Arg) (rs : List Rule) (k : ℕ) (r : Rule) (d : Arg) → Follow xs rs → slice_get rs k ≡ Some r
    → (k < length xs) × FollowsRule (slice_index_or xs k d) r
rule_at [] [] k r d f e = cc
rule_at [] (s ∷ rs) k r d f e = absurd f
rule_at (x ∷ xs) [] k r d f e = absurd f
rule_at (x ∷ xs) (s ∷ rs) zero r d f e =
    let same : s ≡ r = ap (λ o. unwrap_or o s) e in
    (omega arith, subst (FollowsRule x) same f.0)
rule_at (x ∷ xs) (s ∷ rs) (suc k) r d f e =
    let got = rule_at xs rs k r d f.1 e in
    (omega (arith, got.0), got.1)

-- no rule has this id
abbrev pub absent : List Rule → List ℕ → Bool
absent [] id = true
absent (r ∷ rs) id = not (bytes_eq r.id id) && absent rs id

-- no other rule than the one at this place has this id
abbrev pub only_at : List Rule → List ℕ → ℕ → Bool
only_at [] id k = true
only_at (r ∷ rs) id zero = absent rs id
only_at (r ∷ rs) id (suc k) = not (bytes_eq r.id id) && only_at rs id k

-- the id is no empty text, and no id of an argument that clap adds
abbrev pub is_own : List ℕ → Bool
is_own id = not (bytes_eq id []) && (not (bytes_eq id (codes "help")) && not (bytes_eq id (codes "version")))

not_true : (b : Bool) → not b ≡ true → b ≡ true → ⊥
not_true true h e = cc
not_true false h e = cc

absent_no : (xs : List Arg) (rs : List Rule) (id : List ℕ) → Follow xs rs → absent rs id ≡ true
    → (j : ℕ) (e : Arg) → j < length xs → bytes_eq (slice_index_or xs j e).id.now id ≡ true → ⊥
absent_no [] rs id f h j e lt same = absurd (omega (arith, lt))
absent_no (x ∷ xs) [] id f h j e lt same = absurd f
absent_no (x ∷ xs) (r ∷ rs) id f h zero e lt same =
    not_true (bytes_eq r.id id) (and_left (not (bytes_eq r.id id)) (absent rs id) h) (subst (λ (t : List ℕ). bytes_eq t id ≡ true) f.0.id same)
absent_no (x ∷ xs) (r ∷ rs) id f h (suc j) e lt same = absent_no xs rs id f.1 (and_right (not (bytes_eq r.id id)) (absent rs id) h) j e (omega (arith, lt)) same

only_there : (xs : List Arg) (rs : List Rule) (id : List ℕ) (k : ℕ) → Follow xs rs → only_at rs id k ≡ true
    → (j : ℕ) (e : Arg) → j < length xs → bytes_eq (slice_index_or xs j e).id.now id ≡ true → j ≡ k
only_there [] rs id k f h j e lt same = absurd (omega (arith, lt))
only_there (x ∷ xs) [] id k f h j e lt same = absurd f
only_there (x ∷ xs) (r ∷ rs) id zero f h zero e lt same = refl
only_there (x ∷ xs) (r ∷ rs) id zero f h (suc j) e lt same =
    absurd (absent_no xs rs id f.1 h j e (omega (arith, lt)) same)
only_there (x ∷ xs) (r ∷ rs) id (suc k) f h zero e lt same =
    absurd (not_true (bytes_eq r.id id) (and_left (not (bytes_eq r.id id)) (only_at rs id k) h) (subst (λ (t : List ℕ). bytes_eq t id ≡ true) f.0.id same))
only_there (x ∷ xs) (r ∷ rs) id (suc k) f h (suc j) e lt same =
    ap suc (only_there xs rs id k f.1 (and_right (not (bytes_eq r.id id)) (only_at rs id k) h) j e (omega (arith, lt)) same)

not_both : (x y z : Bool) → (not x && (not y && not z)) ≡ true → (x ≡ false) × (y ≡ false) × (z ≡ false)
not_both true y z h = cc
not_both false true z h = cc
not_both false false true h = cc
not_both false false false h = (refl, refl, refl)

clash : (b : Bool) → b ≡ false → b ≡ true → ⊥
clash true h e = cc
clash false h e = cc

own_not_auto : (a : Arg) (id : List ℕ) → a.id.now ≡ id → is_own id ≡ true → IsAuto a → ⊥
own_not_auto a id e h (inl help) =
    let all = not_both (bytes_eq id []) (bytes_eq id (codes "help")) (bytes_eq id (codes "version")) h in
    clash (bytes_eq id (codes "help")) all.1 ((bytes_eq-Decides id (codes "help")).1 (sym e ∙ help))
own_not_auto a id e h (inr version) =
    let all = not_both (bytes_eq id []) (bytes_eq id (codes "help")) (bytes_eq id (codes "version")) h in
    clash (bytes_eq id (codes "version")) all.2 ((bytes_eq-Decides id (codes "version")).1 (sym e ∙ version))

own_not_empty : (id : List ℕ) → is_own id ≡ true → id ≡ [] → ⊥
own_not_empty id h e =
    let all = not_both (bytes_eq id []) (bytes_eq id (codes "help")) (bytes_eq id (codes "version")) h in
    clash (bytes_eq id []) all.0 ((bytes_eq-Decides id []).1 e)

-- a required argument of the rules has a text
pub required_text : (cmd : Command) (m : ArgMatches) (rs : List Rule) (k : ℕ) (r : Rule) → IsParsedFrom cmd m → HasRules cmd rs
    → slice_get rs k ≡ Some r → r.required ≡ true → r.action ≡ Set → only_at rs r.id k ≡ true → is_own r.id ≡ true
    → is_some (first_value (found_of m) r.id) ≡ true
required_text cmd m rs k r p h place required set only own =
    let d = some_arg (args_of cmd) rs k r h.args place in
    let got = rule_at (args_of cmd) rs k r d h.args place in
    let t = got.1 in
    let has = required_has_value cmd m p h.plain h.local h.negates k d got.0
    (t.required ∙ required) (t.action ∙ ap Some set) t.whole (t.least set)
    (λ j e lt eq. only_there (args_of cmd) rs r.id k h.args only j e lt
    (subst (λ (w : List ℕ). bytes_eq (slice_index_or (args_of cmd) j e).id.now w ≡ true) t.id eq))
    (λ empty. own_not_empty r.id own (sym t.id ∙ empty))
    (own_not_auto (slice_index_or (args_of cmd) k d) r.id t.id own) in
    subst (λ (w : List ℕ). is_some (first_value (found_of m) w) ≡ true) t.id has

-- what an entry gives, where an argument of the built command with its id keeps the rules of `a`
entry_given : (c : Command) (f : Found) (id : List ℕ) (a : Arg) (q : ValueParser) → groups_of c ≡ [] → (id ≡ [] → ⊥)
    → a.value_parser ≡ Some q
    → ((j : ℕ) (x : Arg) → j < length (args_of c) → slice_index_or (args_of c) j x ≡ x → bytes_eq x.id.now id ≡ true → SameRules a x)
    → (x : MatchedArg) → matched_of f id ≡ Some x → (e : Entry) → e.1 ≡ x → e.0.now ≡ id → EntryPasses c e
    → IsGivenArgument f id q
entry_given c f id a q no_groups named parser keeps x found e same_x key_id pass =
    let no_group : e.1.is_group ≡ true → ⊥ = λ g. elim (pass.3 g) [
      | inl empty ↦ named (sym key_id ∙ empty)
      | inr lots ↦
          let bad : 0 < 0 = rw no_groups at lots in
          absurd (omega arith)
    ] in
    let all : All (λ v. PassesArg c id v.now) x.vals.items = elim pass.0 [
      | inl g ↦ absurd (no_group g)
      | inr vals ↦ subst (λ (w : List ℕ). All (λ v. PassesArg c w v.now) x.vals.items) key_id (rw same_x at vals)
    ] in
    let reading : x.reading ≡ reading_of q = elim pass.4 [
      | inl g ↦ absurd (no_group g)
      | inr h ↦ read_so (subst (λ (w : List ℕ). HasReading c w e.1.reading) key_id h)
    ] in
    values x.vals.items refl all reading
  where
    parser_is : (j : ℕ) (y : Arg) → j < length (args_of c) → slice_index_or (args_of c) j y ≡ y → bytes_eq y.id.now id ≡ true
        → parser_of y ≡ q
    parser_is j y lt at same = ap parser_of_value ((keeps j y lt at same).parser q parser)

    read_so : HasReading c id e.1.reading → x.reading ≡ reading_of q
    read_so any = ap (λ (y : MatchedArg). y.reading) (sym same_x) ∙ (sym any.4.1 ∙ ap reading_of (parser_is any.0 any.1 any.2 any.3 any.4.0))

    values : (vs : List (Bor (List ℕ))) → x.vals.items ≡ vs → All (λ v. PassesArg c id v.now) x.vals.items → x.reading ≡ reading_of q
        → IsGivenArgument f id q
    values [] is all reading = inl (rw (found, is) refl)
    values (v ∷ vs) is all reading =
        let here = All-get_or (λ w. PassesArg c id w.now) (v ∷ vs) 0 v (omega arith) (subst (All (λ w. PassesArg c id w.now)) is all) in
        let is_q = parser_is here.0 here.1 here.2 here.3 here.4.0 in
        inr (
          v.now,
          here.1.ignore_case,
          rw (found, is, reading) refl,
          subst (λ (w : ValueParser). Accepts here.1.ignore_case w v.now) is_q here.4.1,
        )

-- an argument of the rules with a parser has no value, or one that passed it
pub given : (cmd : Command) (m : ArgMatches) (rs : List Rule) (k : ℕ) (r : Rule) (q : ValueParser) → IsParsedFrom cmd m → HasRules cmd rs
    → slice_get rs k ≡ Some r → r.parser ≡ Some q → only_at rs r.id k ≡ true → is_own r.id ≡ true
    → IsGivenArgument (found_of m) r.id q
given cmd m rs k r q p h place parser only own = go (matched_of (found_of m) r.id) refl
  where
    keeps : (d : Arg) → (k < length (args_of cmd)) × FollowsRule (slice_index_or (args_of cmd) k d) r
        → (j : ℕ) (x : Arg) → j < length (args_of p.built) → slice_index_or (args_of p.built) j x ≡ x
        → bytes_eq x.id.now r.id ≡ true → SameRules (slice_index_or (args_of cmd) k d) x
    keeps d got j x lt at eq =
        same_rules_by_id cmd m p k d got.0
        (λ i e low same. only_there (args_of cmd) rs r.id k h.args only i e low
        (subst (λ (w : List ℕ). bytes_eq (slice_index_or (args_of cmd) i e).id.now w ≡ true) got.1.id same))
        (own_not_auto (slice_index_or (args_of cmd) k d) r.id got.1.id own) j x lt at
        (subst (λ (w : List ℕ). bytes_eq x.id.now w ≡ true) (sym got.1.id) eq)

    go : (o : Option MatchedArg) → matched_of (found_of m) r.id ≡ o → IsGivenArgument (found_of m) r.id q
    go None e = inl (rw e refl)
    go (Some x) e =
        let d = some_arg (args_of cmd) rs k r h.args place in
        let got = rule_at (args_of cmd) rs k r d h.args place in
        let parsed = p.parsed (p.from.globals ∙ h.local) in
        let entry = entry_by_id (EntryPasses p.built) (found_of m).entries.items r.id x parsed.values e in
        entry_given p.built (found_of m) r.id (slice_index_or (args_of cmd) k d) q (p.from.plain h.plain).1 (own_not_empty r.id own)
        (got.1.parser q parser) (keeps d got) x e entry.0 entry.1 ((bytes_eq-Decides entry.0.0.now r.id).0 entry.2) entry.3
