-- An observed text that is read bit by bit.
use Rattle.std.proofs.Common.{◌≡◌, ◌∙◌, ap, refl, sym, ℕ, Bool, true, false, List, [], ◌∷◌, ◌++◌, append_assoc}
use Rattle.std.specs.Prelude.{◌==◌, if◌then◌else◌}
use Rattle.std.proofs.lemmas.List.{append-nil}
use Rattle.wavetexts.specs.AtTimes.{arranged, is_printed, left_after, lines_of, placed_line, with_byte}
use Rattle.wavetexts.specs.Reading.{ReadText, byte_read, last_taken, line_taken, read_on, tail_of, text_behind, unread, whole_text}
use Rattle.wavetexts.specs.ReadingLaws.{ReadInTwo, ReadsOneBehindAnother, ReadTextIsArranged, StaysBefore}
use Rattle.wavetexts.proofs.TextLines.{with_newline, with_other}

-- two texts, one behind the other

pub reads_on : ReadsOneBehindAnother
reads_on registers t [] other = refl
reads_on registers t (b ∷ bytes) other = reads_on registers (byte_read registers t b) bytes other

-- a byte behind what was read
pub reads_one : (registers : ℕ) (t u v : ReadText) (bytes : List ℕ) (b : ℕ) (more : List ℕ) → more ≡ bytes ++ b ∷ [] → u ≡ read_on registers t bytes → v ≡ byte_read registers u b → v ≡ read_on registers t more
reads_one registers t u v bytes b more longer before one =
    one ∙ (ap (λ (w : ReadText). byte_read registers w b) before ∙ (sym (reads_on registers t bytes (b ∷ [])) ∙ ap (read_on registers t) (sym longer)))

-- what is in order for good, before what is read

done_behind : (printed : Bool) (before done held line : List ℕ) → (if printed then (before ++ done) else (((before ++ done) ++ held) ++ line)) ≡ before ++ (if printed then done else ((done ++ held) ++ line))
done_behind true before done held line = refl
done_behind false before done held line = ap (λ l. l ++ line) (append_assoc before done held) ∙ append_assoc before (done ++ held) line

line_behind : (registers : ℕ) (before line : List ℕ) (t : ReadText) → line_taken registers line (text_behind before t) ≡ text_behind before (line_taken registers line t)
line_behind registers before line t =
    let u : ReadText = line_taken registers line t in
    ap (λ (done : List ℕ). record u { done = done }) (done_behind (is_printed t.left line) before t.done t.held line)

byte_by : (nl : Bool) (registers : ℕ) (before line : List ℕ) (t u : ReadText)
    → (if nl then line_taken registers line (text_behind before t) else text_behind before u) ≡ text_behind before (if nl then line_taken registers line t else u)
byte_by true registers before line t u = line_behind registers before line t
byte_by false registers before line t u = refl

byte_behind : (registers : ℕ) (before : List ℕ) (t : ReadText) (b : ℕ) → byte_read registers (text_behind before t) b ≡ text_behind before (byte_read registers t b)
byte_behind registers before t b =
    byte_by (b == 10) registers before (t.part ++ b ∷ []) (record t { part = [] }) (record t { part = t.part ++ b ∷ [] })

pub read_behind : (registers : ℕ) (before : List ℕ) (t : ReadText) (bytes : List ℕ) → read_on registers (text_behind before t) bytes ≡ text_behind before (read_on registers t bytes)
read_behind registers before t [] = refl
read_behind registers before t (b ∷ bytes) =
    ap (λ (u : ReadText). read_on registers u bytes) (byte_behind registers before t b) ∙ read_behind registers before (byte_read registers t b) bytes

last_behind : (registers : ℕ) (before part : List ℕ) (t : ReadText) → last_taken registers part (text_behind before t) ≡ text_behind before (last_taken registers part t)
last_behind registers before [] t = refl
last_behind registers before (b ∷ bytes) t = line_behind registers before (b ∷ bytes) (record t { part = [] })

pub whole_behind : (registers : ℕ) (before : List ℕ) (t : ReadText) → whole_text registers (text_behind before t) ≡ before ++ whole_text registers t
whole_behind registers before t =
    let u : ReadText = last_taken registers t.part t in
    ap (λ (v : ReadText). v.done ++ v.held) (last_behind registers before t.part t) ∙ append_assoc before u.done u.held

-- a text is what is in order for good, and what isn't behind that
pub split_text : (t : ReadText) → t ≡ text_behind t.done (tail_of t)
split_text t = ap (λ (done : List ℕ). record t { done = done }) (sym (append-nil t.done))

pub stays_before : StaysBefore
stays_before registers t bytes = (
  ap (λ (u : ReadText). read_on registers u bytes) (split_text t) ∙ read_behind registers t.done (tail_of t) bytes,
  ap (whole_text registers) (split_text t) ∙ whole_behind registers t.done (tail_of t),
)

-- a line of bytes that are no newline

abbrev HasNoNewline : List ℕ → Type 0
HasNoNewline [] = Unit {0}
HasNoNewline (b ∷ bytes) = ((b == 10) ≡ false) × HasNoNewline bytes

one_more : (part : List ℕ) (b : ℕ) → HasNoNewline part → (b == 10) ≡ false → HasNoNewline (part ++ b ∷ [])
one_more [] b none other = (other, tt)
one_more (c ∷ part) b (first, none) other = (first, one_more part b none other)

line_alone : (b : ℕ) (bytes : List ℕ) → HasNoNewline (b ∷ bytes) → lines_of (b ∷ bytes) ≡ (b ∷ bytes) ∷ []
line_alone b [] none = refl
line_alone b (c ∷ bytes) (first, none) = ap (with_byte b) (line_alone c bytes none) ∙ with_other b (c ∷ bytes) [] first

line_whole : (part : List ℕ) (b : ℕ) (rest : List ℕ) → HasNoNewline part → (b == 10) ≡ true → lines_of (part ++ b ∷ rest) ≡ (part ++ b ∷ []) ∷ lines_of rest
line_whole [] b rest none is = with_newline b (lines_of rest) is
line_whole (c ∷ part) b rest (first, none) is =
    ap (with_byte c) (line_whole part b rest none is) ∙ with_other c (part ++ b ∷ []) (lines_of rest) first

-- what is put in order line by line

line_by : (printed : Bool) (done held line rest : List ℕ) → done ++ ((if printed then [] else (held ++ line)) ++ rest) ≡ (if printed then done else ((done ++ held) ++ line)) ++ rest
line_by true done held line rest = refl
line_by false done held line rest =
    sym (append_assoc done (held ++ line) rest) ∙ ap (λ l. l ++ rest) (sym (append_assoc done held line))

-- a line that is taken is one of those that are put in order
line_on : (registers : ℕ) (line : List ℕ) (lines : List (List ℕ)) (t : ReadText)
    → t.done ++ arranged registers t.left t.held (line ∷ lines) ≡ (line_taken registers line t).done ++ arranged registers (line_taken registers line t).left (line_taken registers line t).held lines
line_on registers line lines t =
    line_by (is_printed t.left line) t.done t.held line (arranged registers (left_after registers line t.left) (if is_printed t.left line then placed_line line t.held else []) lines)

-- at the end of a text
ends_arranged : (registers : ℕ) (part : List ℕ) (t : ReadText) → HasNoNewline part
    → t.done ++ arranged registers t.left t.held (lines_of part) ≡ (last_taken registers part t).done ++ (last_taken registers part t).held
ends_arranged registers [] t none = refl
ends_arranged registers (b ∷ bytes) t none =
    ap (λ (ls : List (List ℕ)). t.done ++ arranged registers t.left t.held ls) (line_alone b bytes none) ∙ line_on registers (b ∷ bytes) [] t

-- the lines that are held and those that are left make the whole, once all bytes are read
abbrev IsReadWhole : ℕ → List ℕ → ReadText → Type 0
IsReadWhole registers bytes t = HasNoNewline t.part → t.done ++ arranged registers t.left t.held (lines_of (t.part ++ bytes)) ≡ whole_text registers (read_on registers t bytes)

-- so it is with a byte before
read_step : (registers : ℕ) (t : ReadText) (b : ℕ) (bytes : List ℕ) → ((u : ReadText) → IsReadWhole registers bytes u) → IsReadWhole registers (b ∷ bytes) t
read_step registers t b bytes later none = by_byte (b == 10) refl
  where
    by_byte : (nl : Bool) → (b == 10) ≡ nl → t.done ++ arranged registers t.left t.held (lines_of (t.part ++ b ∷ bytes)) ≡ whole_text registers (read_on registers (byte_read registers t b) bytes)
    by_byte true is =
        let line : List ℕ = t.part ++ b ∷ [] in
        let taken : ReadText = line_taken registers line (record t { part = [] }) in
        let more : ReadText = record t { part = line } in
        ap (λ (ls : List (List ℕ)). t.done ++ arranged registers t.left t.held ls) (line_whole t.part b bytes none is)
        ∙ (line_on registers line (lines_of bytes) (record t { part = [] })
        ∙ (later taken tt ∙ ap (λ (nl : Bool). whole_text registers (read_on registers (if nl then taken else more) bytes)) (sym is)))
    by_byte false is =
        let line : List ℕ = t.part ++ b ∷ [] in
        let taken : ReadText = line_taken registers line (record t { part = [] }) in
        let more : ReadText = record t { part = line } in
        ap (λ (l : List ℕ). t.done ++ arranged registers t.left t.held (lines_of l)) (sym (append_assoc t.part (b ∷ []) bytes))
        ∙ (later more (one_more t.part b none is) ∙ ap (λ (nl : Bool). whole_text registers (read_on registers (if nl then taken else more) bytes)) (sym is))

read_arranged : (registers : ℕ) (t : ReadText) (text : List ℕ) → IsReadWhole registers text t
read_arranged registers t [] none =
    ap (λ (l : List ℕ). t.done ++ arranged registers t.left t.held (lines_of l)) (append-nil t.part) ∙ ends_arranged registers t.part t none
read_arranged registers t (b ∷ bytes) none = read_step registers t b bytes (λ u. read_arranged registers u bytes) none

pub read_text_is_arranged : ReadTextIsArranged
read_text_is_arranged registers text = sym (read_arranged registers unread text tt)

-- a text that is read in two
pub read_in_two : ReadInTwo
read_in_two registers text rest =
    let t : ReadText = read_on registers unread text in
    let u : ReadText = read_on registers (tail_of t) rest in
    let on : read_on registers unread (text ++ rest) ≡ text_behind t.done u = reads_on registers unread text rest ∙ (stays_before registers t rest).0 in
    sym (whole_behind registers t.done u) ∙ (sym (ap (whole_text registers) on) ∙ read_text_is_arranged registers (text ++ rest))
