-- Spaces and comments before tokens, and tokens with their bytes.
use Rattle.std.proofs.Common.{◌≡◌, ◌==◌, ℕ, zero, suc, ◌+◌, ◌-◌, ◌<◌, ◌≤◌, List, [], ◌∷◌, ◌++◌, length, take, drop, Bool, true, false, ◌||◌, if◌then◌else◌, Option, Some, None, inl, inr, refl, sym, ap, subst, ◌∙◌, length-append, take-append-drop, arith}
use Rattle.std.proofs.Math.Seq.{take-append_seam, drop-append_seam}
use Rattle.tokens.specs.Tokens.{PlainToken, PlainTokens}
use Rattle.tokens.specs.ByteClasses.{is_space}
use Rattle.tokens.specs.Literals.{LiteralValue, literal_value_of}
use Rattle.tokens.specs.Lexing.{IsNext, is_skipped, kind_of, tokens_of_piece, Cut, ended, next}
use Rattle.tokens.specs.Lengths.{comment_len, piece_len}
use Rattle.tokens.proofs.Longest.{long, next_is, no_next}
use Rattle.tokens.proofs.Steps.{if-is, or-true, same_byte}
use Rattle.locations.specs.Spots.{PlainSpot, AreSpots, skip_len, Skips, here, behind}
use Rattle.locations.specs.Spots as s

-- a space is a piece
space_len : (b : ℕ) (bs : List ℕ) → is_space b ≡ true → piece_len (b ∷ bs) ≡ 1
unfolding piece_len
space_len b bs h =
    elim (or-true _ (b == 13) h) [
      | inl p ↦ elim (or-true _ (b == 10) p) [
        | inl q ↦ elim (or-true (b == 32) (b == 9) q) [
          | inl r ↦ ap (λ v. piece_len (v ∷ bs)) (same_byte b 32 r)
          | inr r ↦ ap (λ v. piece_len (v ∷ bs)) (same_byte b 9 r)
        ]
        | inr q ↦ ap (λ v. piece_len (v ∷ bs)) (same_byte b 10 q)
      ]
      | inr p ↦ ap (λ v. piece_len (v ∷ bs)) (same_byte b 13 p)
    ]

comment_at : (b : ℕ) (bs : List ℕ) → b ≡ 47 → piece_len (b ∷ bs) ≡ comment_len bs
unfolding piece_len
comment_at b bs e = ap (λ v. piece_len (v ∷ bs)) e

-- where a space or a `/` begins, the longest piece is the space or the comment
pub skip_is : (b : ℕ) (bs : List ℕ) → (is_space b || b == 47) ≡ true → piece_len (b ∷ bs) ≡ skip_len (b ∷ bs)
skip_is b bs h = by (is_space b) refl
  where
    by : (s : Bool) → is_space b ≡ s → piece_len (b ∷ bs) ≡ (if s then 1 else (if b == 47 then comment_len bs else 0))
    by true e = space_len b bs e
    by false e = let q : (b == 47) ≡ true = rw e at h in comment_at b bs (same_byte b 47 q) ∙ rw q refl

pub skipped_front : (left : List ℕ) (n : ℕ) → skip_len left ≡ n → 0 < n → is_skipped (take n left) ≡ true
skipped_front [] n e some = absurd (omega (arith, e))
skipped_front (b ∷ bs) zero e some = absurd (omega arith)
skipped_front (b ∷ bs) (suc n) e some =
    elim (if-is (is_space b) 1 _ _ e) [
      | inl p ↦ rw p.0 refl
      | inr p ↦ (elim (if-is (b == 47) (comment_len bs) 0 (suc n) p.1) [
        | inl q ↦ rw (p.0, q.0) refl
        | inr q ↦ absurd (let z : 0 ≡ suc n = q.1 in omega (arith, z))
      ])
    ]

pub front_is : (left : List ℕ) (n : ℕ) → skip_len left ≡ n → 0 < n → piece_len left ≡ n
front_is [] n e some = absurd (omega (arith, e))
front_is (b ∷ bs) n e some = skip_is b bs (first b bs n e some) ∙ e
  where
    first : (b : ℕ) (bs : List ℕ) (n : ℕ) → skip_len (b ∷ bs) ≡ n → 0 < n → (is_space b || b == 47) ≡ true
    first b bs n e some = elim (if-is (is_space b) 1 _ _ e) [
      | inl p ↦ rw p.0 refl
      | inr p ↦ (elim (if-is (b == 47) (comment_len bs) 0 n p.1) [
        | inl q ↦ rw (p.0, q.0) refl
        | inr q ↦ absurd (let z : 0 ≡ n = q.1 in omega (arith, z))
      ])
    ]

pub reading_skipped : (piece : List ℕ) → is_skipped piece ≡ true → tokens_of_piece piece ≡ Some []
unfolding tokens_of_piece
reading_skipped piece h = rw h refl

pub skips_more : (text left rest : List ℕ) (n : ℕ) → n ≡ skip_len left → 0 < n → n ≤ length left → rest ≡ drop n left
    → ((r : List ℕ) → Skips left r → Skips text r) → (r : List ℕ) → Skips rest r → Skips text r
skips_more text left rest n is some within e before r s =
    let one : Skips (take n left ++ drop n left) r =
    behind (next_is left n (front_is left n (sym is) some) some within) (reading_skipped (take n left) (skipped_front left n (sym is) some)) (subst (λ x. Skips x r) e s) in
    before r (subst (λ x. Skips x r) (take-append-drop n left) one)

-- ---- the cut behind spaces and comments

next_once : (p r q t : List ℕ) → IsNext p r → IsNext q t → p ++ r ≡ q ++ t → (p ≡ q) × (r ≡ t)
next_once p r q t np nq same =
    let a = nq.longest p r same np.is_piece in
    let b = np.longest q t (sym same) nq.is_piece in
    let e : length p ≡ length q = omega arith in (
      sym (take-append_seam p r) ∙ ap (take (length p)) same ∙ ap (λ n. take n (q ++ t)) e ∙ take-append_seam q t,
      sym (drop-append_seam p r) ∙ ap (drop (length p)) same ∙ ap (λ n. drop n (q ++ t)) e ∙ drop-append_seam q t,
    )

not_empty : (p r : List ℕ) → IsNext p r → [] ≡ p ++ r → ⊥
not_empty p r n same = let a = long n.is_piece in omega (arith, ap length same, length-append p r)

some_same : (us vs : PlainTokens) → Some us ≡ Some vs → us ≡ vs
some_same us vs h = cc

cut_one : {a : List ℕ} {ts : PlainTokens} (p r : List ℕ) → Cut a ts → a ≡ p ++ r → IsNext p r → tokens_of_piece p ≡ Some [] → Cut r ts
cut_one p r ended same m k = absurd (not_empty p r m same)
cut_one p r (next {piece = q} {rest = t} {us = us} {ts = ts} n h d) same m k =
    let w = next_once q t p r n m same in
    let u : us ≡ [] = some_same us [] (sym h ∙ ap tokens_of_piece w.0 ∙ k) in
    let e : us ++ ts ≡ ts = ap (λ v. v ++ ts) u in
    subst (λ v. Cut r v) (sym e) (subst (λ v. Cut v ts) w.1 d)

pub cut_behind : {text left : List ℕ} {ts : PlainTokens} → Skips text left → Cut text ts → Cut left ts
cut_behind here d = d
cut_behind (behind {piece = p} {rest = r} n h k) d = cut_behind k (cut_one p r d refl n h)

pub skips_within : {text left : List ℕ} → Skips text left → length left ≤ length text
skips_within here = omega arith
skips_within (behind {piece = p} {rest = r} n h k) = let w = skips_within k in omega (arith, length-append p r)

pub spots_behind : {text left : List ℕ} (at : ℕ) (ss : List PlainSpot) → Skips text left → AreSpots left (at + (length text - length left)) ss → AreSpots text at ss
spots_behind {text = text} at ss here d = let e : at + (length text - length text) ≡ at = omega arith in subst (λ n. AreSpots text n ss) e d
spots_behind {left = left} at ss (behind {piece = p} {rest = r} n h k) d =
    let w = skips_within k in
    let e : at + (length (p ++ r) - length left) ≡ (at + length p) + (length r - length left) = omega (arith, length-append p r) in
    s.skipped n h (spots_behind (at + length p) ss k (subst (λ m. AreSpots left m ss) e d))

-- ---- a token at the front

-- a text begins with a token, and what is behind it is cut into the others
pub record First (left : List ℕ) (t : PlainToken) (ts : PlainTokens) : Type 0 where
  pub rest : List ℕ
  pub whole : left ≡ t.text ++ rest
  pub is_next : IsNext t.text rest
  pub reads : tokens_of_piece t.text ≡ Some (t ∷ [])
  pub cut : Cut rest ts

read_one : (piece : List ℕ) (o : Option LiteralValue) (us : PlainTokens) → literal_value_of piece ≡ o → is_skipped piece ≡ false → tokens_of_piece piece ≡ Some us → (t : PlainToken) × (us ≡ t ∷ []) × (t.text ≡ piece)
unfolding tokens_of_piece
read_one piece None us is shown h = absurd (let e : tokens_of_piece piece ≡ None = rw (shown, is) refl in let x = sym e ∙ h in cc)
read_one piece (Some w) us is shown h =
    let t : PlainToken = record { kind = kind_of piece; text = piece; value = w.0; bits = w.1 } in
    let e : tokens_of_piece piece ≡ Some (t ∷ []) = rw (shown, is) refl in
    (t, some_same us (t ∷ []) (sym h ∙ e), refl)

not_skipped : (left p r : List ℕ) → skip_len left ≡ 0 → IsNext p r → left ≡ p ++ r → (b : Bool) → is_skipped p ≡ b → is_skipped p ≡ false
not_skipped left p r none n same false is = is
not_skipped left [] r none n same true is = absurd (cc)
not_skipped left (b ∷ bs) r none n same true is =
    let e : piece_len left ≡ 0 = ap piece_len same ∙ skip_is b (bs ++ r) is ∙ ap skip_len (sym same) ∙ none in
    absurd (no_next left e (b ∷ bs) r (sym same) n.is_piece)

first_is : {a : List ℕ} {us : PlainTokens} (t : PlainToken) (ts : PlainTokens) → skip_len a ≡ 0 → Cut a us → us ≡ t ∷ ts → First a t ts
first_is t ts none ended same = absurd (cc)
first_is t ts none (next {piece = p} {rest = r} {us = us} {ts = vs} n h d) same =
    let one = read_one p (literal_value_of p) us refl (not_skipped (p ++ r) p r none n refl (is_skipped p) refl) h in
    let e : one.0 ∷ vs ≡ t ∷ ts = sym (ap (λ x. x ++ vs) one.1) ∙ same in
    let head : one.0 ≡ t = cc in
    let tail : vs ≡ ts = cc in
    let p_is : p ≡ t.text = sym one.2 ∙ ap (λ x. x.text) head in
    let read : tokens_of_piece p ≡ Some (t ∷ []) = h ∙ ap Some (one.1 ∙ ap (λ x. x ∷ []) head) in
    record {
      rest = r;
      whole = ap (λ x. x ++ r) p_is;
      is_next = subst (λ x. IsNext x r) p_is n;
      reads = subst (λ x. tokens_of_piece x ≡ Some (t ∷ [])) p_is read;
      cut = subst (λ x. Cut r x) tail d;
    }

pub first_token : (a : List ℕ) (us : PlainTokens) (t : PlainToken) (ts : PlainTokens) → skip_len a ≡ 0 → Cut a us → us ≡ t ∷ ts → First a t ts
first_token a us t ts none d e = first_is t ts none d e

-- ---- the end

both_empty : (us ts : PlainTokens) → us ++ ts ≡ [] → (us ≡ []) × (ts ≡ [])
both_empty [] ts h = (refl, h)
both_empty (u ∷ us) ts h = absurd (cc)

none_left : {a : List ℕ} {us : PlainTokens} (at : ℕ) → Cut a us → us ≡ [] → AreSpots a at []
none_left at ended e = s.ended
none_left at (next {piece = p} {us = us} {ts = ts} n h d) e =
    let w = both_empty us ts e in s.skipped n (h ∙ ap Some w.0) (none_left (at + length p) d w.1)

pub all_spots : (a : List ℕ) (us : PlainTokens) (at : ℕ) → Cut a us → us ≡ [] → AreSpots a at []
all_spots a us at d e = none_left at d e
