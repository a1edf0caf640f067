-- Words that say something of a whole design.
use Rattle.std.proofs.Common.{◌≡◌, ◌≢◌, ◌∙◌, ap, sym, subst, ℕ, zero, suc, ◌+◌, ◌<◌, ◌==◌, Bool, true, false, if◌then◌else◌, List, [], ◌∷◌, ◌++◌, length, get_or, drop, Option, Some, None, Result, Ok, Err, MatchOption, option_map, refl, codes, eq-eqb, eqb-true, ne_eqb, arith}
use Rattle.std.proofs.lemmas.List.{length-map, take_all}
use Rattle.std.specs.Borrow.{Bor}
use Rattle.std.specs.Str.Pattern.{FindsTextPrefix}
use Rattle.std.specs.Prelude.{String, map, take, ◌-◌, ◌≤◌, string_bytes, OnOk, IfErr, IsErrAnd}
use Rattle.clap.specs.Words.{Text}
use Rattle.arguments.specs.CommandWords.{texts_of}
use Rattle.arguments.specs.declared.said_words.Awaited.{Awaited}
use Rattle.arguments.specs.declared.said_words.DesignOption.{DesignOption}
use Rattle.arguments.specs.declared.said_words.SplitFault.{SplitFault}
use Rattle.arguments.specs.declared.said_words.SplitFault.TheVariants as fault
use Rattle.arguments.specs.declared.verilog_words.SplitWords.{SplitWords}
use Rattle.arguments.specs.declared.verilog_words.SplitWords.TheVariants as split
use Rattle.arguments.specs.declared.said_words.Awaited.TheVariants as awaits
use Rattle.arguments.specs.VerilogWords.{at_end, AskWhole, IsFaultIn, IsSplitIn, SplitsWords, asks_whole, words_in, files_among, files_of, journals_behind, line_left, PlainWords, before_more, behind_prefix, ends_options, named_text, settled, then_taken, with_own, with_places, with_said, word_taken, words_taken}

-- what stands behind a beginning of a word is found
prefix_found : (n rest : Text) → behind_prefix n (n ++ rest) ≡ Some rest
unfolding behind_prefix
prefix_found [] rest = refl
prefix_found (a ∷ n) rest = ap (λ b. if b then behind_prefix n (n ++ rest) else None) (eq-eqb a a refl) ∙ prefix_found n rest

if_none : (t : Bool) (inner : Option Text) → (t ≡ true → inner ≡ None) → (if t then inner else None) ≡ None
if_none true inner h = h refl
if_none false inner h = refl

-- and where the word doesn't begin so, nothing is
no_prefix : (n s : Text) → ((rest : Text) → s ≡ n ++ rest → ⊥) → behind_prefix n s ≡ None
unfolding behind_prefix
no_prefix [] s h = absurd (h s refl)
no_prefix (a ∷ n) [] h = refl
no_prefix (a ∷ n) (b ∷ s) h =
    if_none (b == a) (behind_prefix n s) (λ same.
    let e : b ≡ a = eqb-true b a same in
    no_prefix n s (λ rest is. h rest (ap (λ x. x ∷ s) e ∙ ap (λ t. a ∷ t) is)))

-- what `strip_prefix` gives of a word
pub behind_is : (n s : Text) (r : Option (Bor (List ℕ))) → MatchOption r (FindsTextPrefix n s None) (λ x. (k : ℕ) × FindsTextPrefix n s (Some k) × (x.now ≡ drop k s) × (length x.now + k ≡ length s))
    → option_map (λ x. x.now) r ≡ behind_prefix n s
behind_is n s None h = sym (no_prefix n s h)
behind_is n s (Some x) h =
    let found : behind_prefix n s ≡ Some (drop h.0 s) = ap (behind_prefix n) h.1.1 ∙ prefix_found n (drop h.0 s) in
    ap Some h.2 ∙ sym found

if_false : {A : Type 0} (t : Bool) (one other : A) → t ≡ false → (if t then one else other) ≡ other
if_false true one other h = cc
if_false false one other h = refl

-- a name before the first =, and what stands behind that
pub named_at : (name value : Text) → ((i : ℕ) → i < length name → get_or name i 0 ≢ 61) → named_text (name ++ (61 ∷ value)) ≡ (name, Some value)
unfolding named_text
named_at [] value h = refl
named_at (b ∷ name) value h =
    let apart : b ≢ 61 = h 0 (omega arith) in
    let other : (b == 61) ≡ false = ne_eqb b 61 apart in
    if_false (b == 61) ([], Some (name ++ (61 ∷ value))) (before_more b (named_text (name ++ (61 ∷ value)))) other
    ∙ ap (before_more b) (named_at name value (λ i lt. h (suc i) (omega arith)))

-- a name alone
pub named_alone : (name : Text) → ((i : ℕ) → i < length name → get_or name i 0 ≢ 61) → named_text name ≡ (name, None)
unfolding named_text
named_alone [] h = refl
named_alone (b ∷ name) h =
    let apart : b ≢ 61 = h 0 (omega arith) in
    let other : (b == 61) ≡ false = ne_eqb b 61 apart in
    if_false (b == 61) ([], Some name) (before_more b (named_text name)) other ∙ ap (before_more b) (named_alone name (λ i lt. h (suc i) (omega arith)))

-- what is wrong stays wrong
pub same_fault : {A : Type 0} (r s : Result A SplitFault) (found : SplitFault) → r ≡ s → IsFaultIn r found → IsFaultIn s found
same_fault r s found is h = subst (λ x. IsFaultIn x found) is h

pub settled_fault : (r : Result PlainWords SplitFault) (found : SplitFault) → IsFaultIn r found → IsFaultIn (settled r) found
settled_fault r fault.Memory h = tt
settled_fault r (fault.NoValue which) h = ap settled h
settled_fault r fault.SecondTop h = ap settled h
settled_fault r fault.NoEquals h = ap settled h

pub then_fault : (more : PlainWords × Awaited → Result PlainWords SplitFault) (r : Result (PlainWords × Awaited) SplitFault) (found : SplitFault) → IsFaultIn r found → IsFaultIn (then_taken more r) found
then_fault more r fault.Memory h = tt
then_fault more r (fault.NoValue which) h = ap (then_taken more) h
then_fault more r fault.SecondTop h = ap (then_taken more) h
then_fault more r fault.NoEquals h = ap (then_taken more) h

-- a fault that isn't want of memory is what is wrong
pub told_fault : {A : Type 0} (r : Result A SplitFault) (found : SplitFault) → found ≢ fault.Memory → IsFaultIn r found → r ≡ Err found
told_fault r fault.Memory apart h = absurd (apart refl)
told_fault r (fault.NoValue which) apart h = h
told_fault r fault.SecondTop apart h = h
told_fault r fault.NoEquals apart h = h

-- an option with no value in its word, and one with its value
pub own_alone : (w : PlainWords) (which : DesignOption) (value : Text) → (length value == 0) ≡ true → with_own w which value ≡ Ok (w, awaits.Said which)
own_alone w which [] h = refl
own_alone w which (b ∷ bs) h = let none : length (b ∷ bs) ≡ 0 = eqb-true (length (b ∷ bs)) 0 h in absurd (omega arith)

pub own_with : (w : PlainWords) (which : DesignOption) (value : Text) → (length value == 0) ≡ false → with_own w which value ≡ settled (with_said w which value)
own_with w which [] h = cc
own_with w which (b ∷ bs) h = refl

-- one word more
pub taken_more : (w : PlainWords) (awaited : Awaited) (word : Text) (rest : List Text) → ends_options awaited word ≡ false
    → words_taken w awaited (word ∷ rest) ≡ then_taken (λ now. words_taken now.0 now.1 rest) (word_taken w awaited word)
unfolding words_taken
taken_more w awaited word rest h = if_false (ends_options awaited word) (Ok (with_places w rest)) (then_taken (λ now. words_taken now.0 now.1 rest) (word_taken w awaited word)) h

pub taken_next : (w new : PlainWords) (awaited next : Awaited) (word : Text) (rest : List Text) → ends_options awaited word ≡ false → word_taken w awaited word ≡ Ok (new, next)
    → words_taken w awaited (word ∷ rest) ≡ words_taken new next rest
taken_next w new awaited next word rest h is = taken_more w awaited word rest h ∙ ap (then_taken (λ now. words_taken now.0 now.1 rest)) is

pub taken_fault : (w : PlainWords) (awaited : Awaited) (word : Text) (rest : List Text) (found : SplitFault) → ends_options awaited word ≡ false → IsFaultIn (word_taken w awaited word) found
    → IsFaultIn (words_taken w awaited (word ∷ rest)) found
taken_fault w awaited word rest found h is =
    same_fault (then_taken (λ now. words_taken now.0 now.1 rest) (word_taken w awaited word)) (words_taken w awaited (word ∷ rest)) found (sym (taken_more w awaited word rest h))
    (then_fault (λ now. words_taken now.0 now.1 rest) (word_taken w awaited word) found is)

-- and the words behind a `--`
pub taken_ended : (w : PlainWords) (awaited : Awaited) (word : Text) (rest : List Text) → ends_options awaited word ≡ true → words_taken w awaited (word ∷ rest) ≡ Ok (with_places w rest)
unfolding words_taken
taken_ended w awaited word rest h =
    ap (λ b. if b then Ok (with_places w rest) else then_taken (λ now. words_taken now.0 now.1 rest) (word_taken w awaited word)) h

-- the first of some words, and those behind it
pub words_front : {Z : Type 0} (words : List (String Z)) (word : String Z) → 1 ≤ length words → word ≡ get_or words 0 word → texts_of words ≡ string_bytes word ∷ texts_of (take (length words - 1) (drop 1 words))
words_front [] word h is = absurd (omega arith)
words_front (w ∷ ws) word h is =
    let count : length (w ∷ ws) - 1 ≡ length ws = omega arith in
    let rest : take (length (w ∷ ws) - 1) (drop 1 (w ∷ ws)) ≡ ws = ap (λ n. take n ws) count ∙ take_all (length ws) ws (omega arith) in
    ap (λ text. string_bytes text ∷ texts_of ws) (sym is) ∙ ap (λ others. string_bytes word ∷ texts_of others) (sym rest)

-- where no word is left
pub taken_at_end : {Z : Type 0} (w : PlainWords) (awaited : Awaited) (words : List (String Z)) → length words < 1 → words_taken w awaited (texts_of words) ≡ at_end w awaited
unfolding words_taken
taken_at_end w awaited [] h = refl
taken_at_end w awaited (word ∷ words) h = absurd (omega arith)

-- what follows of a call that didn't fail, and of a fault
pub on_ok : {A E P Q : Type 0} (r : Result A E) → (P → Q) → OnOk r P → OnOk r Q
on_ok (Ok x) f h = f h
on_ok (Err e) f h = tt

pub if_fault : {A E : Type 0} {P Q : E → Type 0} (r : Result A E) → ((e : E) → P e → Q e) → IfErr r P → IfErr r Q
if_fault (Ok x) f h = tt
if_fault (Err e) f h = f e h

-- a fault that comes back is what is wrong; and so is want of memory
pub fault_back : {T A : Type 0} (r : Result T SplitFault) (s : Result A SplitFault) (found : SplitFault) → IsErrAnd r (λ e. e ≡ found) → IsFaultIn s found → IfErr r (IsFaultIn s)
fault_back (Ok x) s found never h = absurd never
fault_back (Err e) s found is h = subst (IsFaultIn s) (sym is) h

pub memory_back : {T A : Type 0} (r : Result T SplitFault) (s : Result A SplitFault) → IsErrAnd r (λ e. e ≡ fault.Memory) → IfErr r (IsFaultIn s)
memory_back r s is = fault_back r s fault.Memory is tt

-- words of which a command line has none
pub too_short : {Z : Type 0} (words : List (String Z)) → length words < 2 → AskWhole (texts_of words) ≡ false
too_short [] h = refl
too_short (program ∷ []) h = refl
too_short (program ∷ command ∷ own) h = absurd (omega arith)

-- words that ask for a whole design are split by what those behind the command say
split_by_own : (program command : Text) (own : List Text) (r : Result PlainWords SplitFault) (made : SplitWords) → words_in own ≡ r → asks_whole command own ≡ true → IsSplitIn program command r made → SplitsWords (program ∷ command ∷ own) made
split_by_own program command own (Ok w) split.Profile is asks h = absurd h
split_by_own program command own (Ok w) (split.Whole d rest) is asks h = record {
  words = w;
  asks = asks;
  are_words = is;
  says = h.says;
  rest_is = h.rest_is;
}
split_by_own program command own (Err found) made is asks h = absurd h

pub split_words_of : {Z : Type 0} (words : List (String Z)) (program command : String Z) (made : SplitWords) (p q : Text) → 2 ≤ length words → program ≡ get_or words 0 program → command ≡ get_or words 1 command → p ≡ string_bytes program → q ≡ string_bytes command
    → asks_whole q (texts_of (take (length words - 2) (drop 2 words))) ≡ true → IsSplitIn p q (words_in (texts_of (take (length words - 2) (drop 2 words)))) made → SplitsWords (texts_of words) made
split_words_of [] program command made p q h one two is_p is_q asks split = absurd (omega arith)
split_words_of (w ∷ []) program command made p q h one two is_p is_q asks split = absurd (omega arith)
split_words_of (w ∷ v ∷ ws) program command made p q h one two is_p is_q asks split =
    let count : length (w ∷ v ∷ ws) - 2 ≡ length ws = omega arith in
    let rest : take (length (w ∷ v ∷ ws) - 2) (drop 2 (w ∷ v ∷ ws)) ≡ ws = ap (λ n. take n ws) count ∙ take_all (length ws) ws (omega arith) in
    let own = texts_of (take (length (w ∷ v ∷ ws) - 2) (drop 2 (w ∷ v ∷ ws))) in
    let all : p ∷ q ∷ own ≡ texts_of (w ∷ v ∷ ws) = ap (λ x. x ∷ q ∷ own) (is_p ∙ ap string_bytes one) ∙ ap (λ x. string_bytes w ∷ x ∷ own) (is_q ∙ ap string_bytes two) ∙ ap (λ others. string_bytes w ∷ string_bytes v ∷ texts_of others) rest in
    subst (λ (ts : List Text). SplitsWords ts made) all (split_by_own p q own (words_in own) made refl asks split)

-- parts of lists
map_take : {A B : Type 0} (f : A → B) (n : ℕ) (xs : List A) → map f (take n xs) ≡ take n (map f xs)
map_take f zero xs = refl
map_take f (suc n) [] = refl
map_take f (suc n) (x ∷ xs) = ap (λ ys. f x ∷ ys) (map_take f n xs)

map_drop : {A B : Type 0} (f : A → B) (n : ℕ) (xs : List A) → map f (drop n xs) ≡ drop n (map f xs)
map_drop f zero xs = refl
map_drop f (suc n) [] = refl
map_drop f (suc n) (x ∷ xs) = map_drop f n xs

-- the files among the places of a command line, and the line that is left
so_many : (command : Text) (places : List (Bor Text)) (count : ℕ) → count ≡ length places - journals_behind command → count ≡ files_among command (map (λ p. p.now) places)
so_many command places count is = is ∙ ap (λ n. n - journals_behind command) (sym (length-map places (λ (p : Bor Text). p.now)))

pub files_split : (command : Text) (places paths : List (Bor Text)) (files : List Text) (count : ℕ) → count ≡ length places - journals_behind command → paths ≡ take count places → files ≡ map (λ p. p.now) paths
    → files ≡ files_of command (map (λ p. p.now) places)
files_split command places paths files count is parts are =
    are ∙ ap (map (λ (p : Bor Text). p.now)) parts ∙ map_take (λ (p : Bor Text). p.now) count places ∙ ap (λ n. take n (map (λ (p : Bor Text). p.now) places)) (so_many command places count is)

pub line_split : (program command : Text) (w : PlainWords) (places paths first journals : List (Bor Text)) (rest : List Text) (count : ℕ) → w.places ≡ map (λ p. p.now) places → count ≡ length places - journals_behind command
    → paths ≡ take count places → journals ≡ drop count places → first ≡ take 1 paths
    → rest ≡ program ∷ command ∷ (w.options ++ (codes "--" ∷ (map (λ p. p.now) first ++ map (λ p. p.now) journals))) → rest ≡ line_left program command w
line_split program command w places paths first journals rest count all is parts behind one line =
    let heads : map (λ (p : Bor Text). p.now) first ≡ take 1 (files_of command (map (λ (p : Bor Text). p.now) places)) =
    ap (map (λ (p : Bor Text). p.now)) one ∙ map_take (λ (p : Bor Text). p.now) 1 paths ∙ ap (take 1) (files_split command places paths (map (λ p. p.now) paths) count is parts refl) in
    let tails : map (λ (p : Bor Text). p.now) journals ≡ drop (files_among command (map (λ (p : Bor Text). p.now) places)) (map (λ (p : Bor Text). p.now) places) =
    ap (map (λ (p : Bor Text). p.now)) behind ∙ map_drop (λ (p : Bor Text). p.now) count places ∙ ap (λ n. drop n (map (λ (p : Bor Text). p.now) places)) (so_many command places count is) in
    line
    ∙ ap (λ head. program ∷ command ∷ (w.options ++ (codes "--" ∷ (head ++ map (λ (p : Bor Text). p.now) journals)))) heads
    ∙ ap (λ tail. program ∷ command ∷ (w.options ++ (codes "--" ∷ (take 1 (files_of command (map (λ (p : Bor Text). p.now) places)) ++ tail)))) tails
    ∙ ap (λ ps. program ∷ command ∷ (w.options ++ (codes "--" ∷ (take 1 (files_of command ps) ++ drop (files_among command ps) ps)))) (sym all)
