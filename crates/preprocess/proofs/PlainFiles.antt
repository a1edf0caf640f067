-- Files without directives, one after another.
use Rattle.std.proofs.Common.{◌≡◌, ℕ, suc, ◌+◌, ◌<◌, take, get_or, List, [], ◌∷◌, ◌++◌, map, length, true, false, Result, OnOk, Ok, Err, refl, sym, ap, subst, ◌∙◌, append_assoc, append-nil, length-append, arith}
use Rattle.std.specs.List.{list_all}
use Rattle.std.proofs.lemmas.List.{take_more}
use Rattle.lexemes.specs.declared.token.VerilogLexeme.{VerilogLexeme}
use Rattle.lexemes.specs.declared.token.SourceFile.{SourceFile}
use Rattle.lexemes.specs.declared.token.VerilogToken.{VerilogToken}
use Rattle.lexemes.specs.Lexing.{IsCutInto, ended}
use Rattle.lexemes.proofs.Chain.{cut_once}
use Rattle.preprocess.specs.Plain.{is_token, token_of, ArePlain, none, more}

-- what was read of plain files is their beginning
abbrev pub PlainSoFar : List SourceFile → List SourceFile → List VerilogToken → Type 0
PlainSoFar yielded files tokens =
    (rest : List SourceFile) (ts : List VerilogToken) → ArePlain 1 (yielded ++ rest) ts → (us : List VerilogToken) × ArePlain (length files) rest us × (tokens ++ us ≡ ts)

-- what a plain file adds
abbrev pub AddsPlain : List SourceFile → SourceFile → List VerilogToken → List SourceFile → List VerilogToken → Type 0
AddsPlain files file tokens new_files new_tokens =
    (ls : List VerilogLexeme) → IsCutInto (length files) 0 false file.text.items ls → list_all is_token ls ≡ true → (new_tokens ≡ tokens ++ map token_of ls) × (length new_files ≡ length files + 1)

-- it is one file
pub adds_plain : (files : List SourceFile) (file : SourceFile) (tokens : List VerilogToken) (new_files : List SourceFile) (new_tokens : List VerilogToken)
    → ((ls : List VerilogLexeme) → IsCutInto (length files) 0 false file.text.items ls → list_all is_token ls ≡ true → (new_tokens ≡ tokens ++ map token_of ls) × (new_files ≡ files ++ file ∷ []))
    → AddsPlain files file tokens new_files new_tokens
adds_plain files file tokens new_files new_tokens adds ls d k =
    let w = adds ls d k in
    let more : length new_files ≡ length files + 1 = omega (arith, ap length w.1, length-append files (file ∷ [])) in
    (w.0, more)

pub one_file_more : {T E : Type 0} (result : Result T E) (old new : List SourceFile) (file : SourceFile) → OnOk result (new ≡ old ++ file ∷ []) → OnOk result (length new ≡ length old + 1)
one_file_more (Ok x) old new file h = omega (arith, ap length h, length-append old (file ∷ []))
one_file_more (Err x) old new file h = tt

after : (n : ℕ) (file : SourceFile) (rest : List SourceFile) (us : List VerilogToken) → ArePlain n (file ∷ rest) us
    → (ls : List VerilogLexeme) × (ts : List VerilogToken) × IsCutInto n 0 false file.text.items ls × (list_all is_token ls ≡ true) × ArePlain (suc n) rest ts × (us ≡ map token_of ls ++ ts)
after n file rest us (more {ts = ts} ls d t p) = (ls, ts, d, t, p, refl)

plain_more : (yielded : List SourceFile) (file : SourceFile) (files new_files : List SourceFile) (tokens new_tokens : List VerilogToken) → PlainSoFar yielded files tokens
    → AddsPlain files file tokens new_files new_tokens → PlainSoFar (yielded ++ file ∷ []) new_files new_tokens
plain_more yielded file files new_files tokens new_tokens sofar adds rest ts p =
    let q : ArePlain 1 (yielded ++ file ∷ rest) ts = subst (λ x. ArePlain 1 x ts) (append_assoc yielded (file ∷ []) rest) p in
    let a = sofar (file ∷ rest) ts q in
    let b = after (length files) file rest a.0 a.1 in
    let w = adds b.0 b.2 b.3 in
    let e : suc (length files) ≡ length new_files = omega (arith, w.1) in (
      b.1,
      subst (λ n. ArePlain n rest b.1) e b.4,
      ap (λ x. x ++ b.1) w.0 ∙ append_assoc tokens (map token_of b.0) b.1 ∙ ap (λ x. tokens ++ x) (sym b.5) ∙ a.2,
    )

-- and where the files are read one after another
pub plain_next : (all : List SourceFile) (i : ℕ) (file : SourceFile) (files new_files : List SourceFile) (tokens new_tokens : List VerilogToken) → i < length all → file ≡ get_or all i file
    → PlainSoFar (take i all) files tokens → AddsPlain files file tokens new_files new_tokens → PlainSoFar (take (i + 1) all) new_files new_tokens
plain_next all i file files new_files tokens new_tokens h is sofar adds =
    let taken : take (i + 1) all ≡ take i all ++ file ∷ [] = take_more all i file h ∙ ap (λ (f : SourceFile). take i all ++ f ∷ []) (sym is) in
    subst (λ (yielded : List SourceFile). PlainSoFar yielded new_files new_tokens) (sym taken) (plain_more (take i all) file files new_files tokens new_tokens sofar adds)

pub plain_none : (files : List SourceFile) (tokens : List VerilogToken) → length files ≡ 1 → tokens ≡ [] → PlainSoFar [] files tokens
plain_none files tokens one is rest ts p = (ts, subst (λ n. ArePlain n rest ts) (sym one) p, ap (λ x. x ++ ts) is)

no_more : (n : ℕ) (us : List VerilogToken) → ArePlain n [] us → us ≡ []
no_more n us none = refl

pub plain_all : (yielded files : List SourceFile) (tokens ts : List VerilogToken) → PlainSoFar yielded files tokens → ArePlain 1 yielded ts → tokens ≡ ts
plain_all yielded files tokens ts sofar p =
    let a = sofar [] ts (subst (λ x. ArePlain 1 x ts) (sym (append-nil yielded)) p) in
    sym (append-nil tokens) ∙ ap (λ x. tokens ++ x) (sym (no_more (length files) a.0 a.1)) ∙ a.2

pub first_adds : (file : SourceFile) (old files : List SourceFile) (before tokens : List VerilogToken) → old ≡ [] → before ≡ [] → file.text.items ≡ [] → AddsPlain old file before files tokens
    → (length files ≡ 1) × (tokens ≡ [])
first_adds file old files before tokens nothing no_tokens is adds =
    let d : IsCutInto (length old) 0 false file.text.items [] = subst (λ t. IsCutInto (length old) 0 false t []) (sym is) ended in
    let w = adds [] d refl in
    (w.1 ∙ ap (λ (x : List SourceFile). length x + 1) nothing, w.0 ∙ ap (λ x. x ++ []) no_tokens)

-- ---- the one cut of a file

pub cut_tokens : {T E : Type 0} (result : Result T E) (n : ℕ) (text : List ℕ) (old mid new : List VerilogToken) (found seen ls : List VerilogLexeme) → IsCutInto n 0 false text found → seen ≡ found → mid ≡ old
    → OnOk result (new ≡ mid ++ map token_of seen) → IsCutInto n 0 false text ls → OnOk result (new ≡ old ++ map token_of ls)
cut_tokens (Ok x) n text old mid new found seen ls d s m h e =
    let same : found ≡ ls = cut_once d refl e in
    h ∙ ap (λ x. x ++ map token_of seen) m ∙ ap (λ x. old ++ map token_of x) (s ∙ same)
cut_tokens (Err x) n text old mid new found seen ls d s m h e = tt

pub not_tokens : (n : ℕ) (text : List ℕ) (found seen ls : List VerilogLexeme) → IsCutInto n 0 false text found → seen ≡ found → list_all is_token seen ≡ false → IsCutInto n 0 false text ls → list_all is_token ls ≡ true → ⊥
not_tokens n text found seen ls d s h e k =
    let same : found ≡ ls = cut_once d refl e in
    let f : list_all is_token ls ≡ false = ap (list_all is_token) (sym (s ∙ same)) ∙ h in
    let g : true ≡ false = sym k ∙ f in
    cc
