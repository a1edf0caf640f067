-- A token of the program at the front of what is left.
use Rattle.std.proofs.Common.{◌≡◌, ℕ, suc, ◌+◌, ◌-◌, ◌<◌, ◌≤◌, List, [], ◌∷◌, ◌++◌, length, map, drop, sym, ap, subst, ◌∙◌, append_assoc, length-append, get_or, arith}
use Rattle.std.proofs.Math.Seq.{drop-append_seam, drop-cons}
use Rattle.tokens.specs.declared.token.Token.{Token}
use Rattle.tokens.specs.Tokens.{PlainToken, PlainTokens, plain_token}
use Rattle.tokens.specs.Lexing.{Cut}
use Rattle.locations.specs.Spots.{PlainSpot, AreSpots, skip_len, Skips}
use Rattle.locations.specs.Spots as s
use Rattle.locations.proofs.Skipped.{First, first_token, cut_behind, skips_within, spots_behind}

suc_index : (items : List Token) (i : ℕ) (d : Token) → i < length items → drop i items ≡ get_or items i d ∷ drop (i + 1) items
suc_index items i d h = let e : suc i ≡ i + 1 = omega arith in drop-cons items i d h ∙ ap (λ n. get_or items i d ∷ drop n items) e

pub token_at : (items : List Token) (i : ℕ) (d : Token) (left behind : List ℕ) → i < length items → skip_len behind ≡ 0 → Skips left behind → Cut left (map plain_token (drop i items))
    → First behind (plain_token (get_or items i d)) (map plain_token (drop (i + 1) items))
token_at items i d left behind more none skips cut =
    first_token behind (map plain_token (drop i items)) _ _ none (cut_behind skips cut) (ap (map plain_token) (suc_index items i d more))

pub fits : {left : List ℕ} {t : PlainToken} {ts : PlainTokens} → First left t ts → length t.text ≤ length left
fits {t = t} f = omega (arith, ap length f.whole, length-append t.text f.rest)

pub rest_is : {left : List ℕ} {t : PlainToken} {ts : PlainTokens} (r : List ℕ) (f : First left t ts) → r ≡ drop (length t.text) left → r ≡ f.rest
rest_is {t = t} r f e = e ∙ ap (drop (length t.text)) f.whole ∙ drop-append_seam t.text f.rest

pub cut_rest : {left : List ℕ} {t : PlainToken} {ts : PlainTokens} (r : List ℕ) → First left t ts → r ≡ drop (length t.text) left → Cut r ts
cut_rest {ts = ts} r f e = subst (λ x. Cut x ts) (sym (rest_is r f e)) f.cut

-- spots of what is left complete those that were found, and so they do behind one token more
pub spot_more : (source before left r : List ℕ) (t : PlainToken) (ts : PlainTokens) (old new : List PlainSpot)
    → Skips before left → First left t ts → r ≡ drop (length t.text) left → length before ≤ length source
    → new ≡ old ++ record { token = t; byte = length source - length left } ∷ []
    → ((ss : List PlainSpot) → AreSpots before (length source - length before) ss → AreSpots source 0 (old ++ ss))
    → (ss : List PlainSpot) → AreSpots r (length source - length r) ss → AreSpots source 0 (new ++ ss)
spot_more source before left r t ts old new skips f is within more whole ss d =
    let at = length source - length left in
    let spot : PlainSpot = record { token = t; byte = at } in
    let shorter = skips_within skips in
    let long : length left ≡ length t.text + length f.rest = ap length f.whole ∙ length-append t.text f.rest in
    let same : r ≡ f.rest = rest_is r f is in
    let short : length r ≡ length f.rest = ap length same in
    let location : length source - length r ≡ at + length t.text = omega arith in
    let behind : AreSpots f.rest (at + length t.text) ss = subst (λ x. AreSpots x (at + length t.text) ss) same (subst (λ n. AreSpots r n ss) location d) in
    let here : AreSpots left at (spot ∷ ss) = subst (λ x. AreSpots x at (spot ∷ ss)) (sym f.whole) (s.taken f.is_next f.reads behind) in
    let back : at ≡ (length source - length before) + (length before - length left) = omega arith in
    let all : AreSpots source 0 (old ++ (spot ∷ ss)) = whole (spot ∷ ss) (spots_behind (length source - length before) (spot ∷ ss) skips (subst (λ n. AreSpots left n (spot ∷ ss)) back here)) in
    let joined : old ++ (spot ∷ ss) ≡ new ++ ss = sym (append_assoc old (spot ∷ []) ss) ∙ ap (λ x. x ++ ss) (sym more) in
    subst (λ x. AreSpots source 0 x) joined all
