-- What was told in several calls.
use Rattle.std.proofs.Common.{Bool, true, false, ◌≡◌, ◌∙◌, inl, inr, refl, sym, ap, ℕ, List, [], ◌∷◌, ◌++◌, take, drop, get_or, length, zero, suc, ◌<◌, subst, arith, append_assoc, add-one, Option, Some, None}
use Rattle.std.specs.Io.KnownBytes.{Appends}
use Rattle.std.proofs.lemmas.List.{append-nil, length_push, take-append-drop, take_all}
use Rattle.journal.specs.Counted.{one_more_failure}
use Rattle.journal.specs.Written.{AppendsBeginning, IsWrittenUpTo}
use Rattle.journal.specs.declared.counted.Counted.{Counted}
use Rattle.std.proofs.lemmas.Iterator.{YieldsList}
use Rattle.std.proofs.lemmas.Iterator.Consumers.{YieldsList-from_shown}
use Rattle.std.specs.Char.Escape.{escape_default}
use Rattle.std.specs.Char.Iter.{escape_rest, escape_steps}
use Rattle.telling.specs.FaultLines.{IsBroken, IsWrittenWhole, Sends, Tells, spelled}

appends_then : (a b c : Option (List ℕ)) (xs ys : List ℕ) → Appends a b xs → Appends b c ys → Appends a c (xs ++ ys)
appends_then None b c xs ys h g = tt
appends_then (Some a) None c xs ys h g = absurd h
appends_then (Some a) (Some b) None xs ys h g = absurd g
appends_then (Some a) (Some b) (Some c) xs ys h g = g ∙ ap (λ t. t ++ ys) h ∙ append_assoc a xs ys

pub appends_none : (a : Option (List ℕ)) → Appends a a []
appends_none None = tt
appends_none (Some a) = sym (append-nil a)

-- nothing went out yet
pub passes_start : (a : Option (List ℕ)) (text : List ℕ) → IsWrittenUpTo a a text text
passes_start a text = ([], refl, appends_none a)

-- a call took some bytes
pub passes_taken : (a b c : Option (List ℕ)) (text rest others : List ℕ) (count : ℕ) → IsWrittenUpTo a b text rest → Appends b c (take count rest) → others ≡ drop count rest → IsWrittenUpTo a c text others
passes_taken a b c text rest others count (xs, is, went) took left =
    let ys : List ℕ = take count rest in
    let rest_is : rest ≡ ys ++ others = sym (take-append-drop count rest) ∙ ap (λ t. ys ++ t) (sym left) in
    (xs ++ ys, is ∙ ap (λ t. xs ++ t) rest_is ∙ sym (append_assoc xs ys others), appends_then a b c xs ys went took)

-- a beginning of one text, with nothing behind it
begins_more : (a b : Option (List ℕ)) (xs more : List ℕ) → AppendsBeginning a b xs → AppendsBeginning a b (xs ++ more)
begins_more a b xs more (rest, (sent, is, went)) = (rest ++ more, (sent, ap (λ t. t ++ more) is ∙ append_assoc sent rest more, went))

-- one text whole, and a beginning of the other
begins_then : (a b c : Option (List ℕ)) (xs ys : List ℕ) → Appends a b xs → AppendsBeginning b c ys → AppendsBeginning a c (xs ++ ys)
begins_then a b c xs ys h (rest, (sent, is, went)) =
    (rest, (xs ++ sent, ap (λ t. xs ++ t) is ∙ sym (append_assoc xs sent rest), appends_then a b c xs sent h went))

-- nothing is sent
pub sends_none : {E : Type 0} (contents : E → Option (List ℕ)) (a : Counted E) → Sends true contents a a []
sends_none contents a = (refl, appends_none (contents a.inner))

-- a text whole, and then another
pub sends_then : {E : Type 0} (contents : E → Option (List ℕ)) (a b c : Counted E) (xs ys : List ℕ) (whole next : Bool) → whole ≡ true
    → Sends whole contents a b xs → Sends next contents b c ys → Sends next contents a c (xs ++ ys)
sends_then contents a b c xs ys false next e h g = cc
sends_then contents a b c xs ys true true e (same, h) (still, g) =
    (still ∙ same, appends_then (contents a.inner) (contents b.inner) (contents c.inner) xs ys h g)
sends_then contents a b c xs ys true false e (same, h) (failed, g) =
    (failed ∙ ap one_more_failure same, begins_then (contents a.inner) (contents b.inner) (contents c.inner) xs ys h g)

-- a text that was broken off, and none behind it
pub sends_broken : {E : Type 0} (contents : E → Option (List ℕ)) (a b : Counted E) (xs more : List ℕ) (whole : Bool) → whole ≡ false
    → Sends whole contents a b xs → Sends whole contents a b (xs ++ more)
sends_broken contents a b xs more true e h = cc
sends_broken contents a b xs more false e (failed, h) = (failed, begins_more (contents a.inner) (contents b.inner) xs more h)

-- what was sent was told
pub tells_sent : {E : Type 0} (contents : E → Option (List ℕ)) (a b : Counted E) (xs : List ℕ) (whole : Bool) → Sends whole contents a b xs
    → Tells contents a b xs
tells_sent contents a b xs true h = inl h
tells_sent contents a b xs false h = inr h

-- characters, one behind another

pub spelled_more : (f : ℕ → List ℕ) (cs : List ℕ) (n d : ℕ) → n < length cs → spelled f (take n cs) ++ f (get_or cs n d) ≡ spelled f (take (suc n) cs)
spelled_more f [] n d lt = absurd (omega (arith, lt))
spelled_more f (c ∷ cs) zero d lt = sym (append-nil (f c))
spelled_more f (c ∷ cs) (suc n) d lt =
    append_assoc (f c) (spelled f (take n cs)) (f (get_or cs n d)) ∙ ap (λ t. f c ++ t) (spelled_more f cs n d (omega (arith, lt)))

spelled_split : (f : ℕ → List ℕ) (cs : List ℕ) (n : ℕ) → spelled f (take n cs) ++ spelled f (drop n cs) ≡ spelled f cs
spelled_split f [] zero = refl
spelled_split f [] (suc n) = refl
spelled_split f (c ∷ cs) zero = refl
spelled_split f (c ∷ cs) (suc n) = append_assoc (f c) (spelled f (take n cs)) (spelled f (drop n cs)) ∙ ap (λ t. f c ++ t) (spelled_split f cs n)

-- one more was sent
pub one_sent : {E : Type 0} (contents : E → Option (List ℕ)) (a b c : Counted E) (f : ℕ → List ℕ) (cs : List ℕ) (n x : ℕ) (whole : Bool) → n < length cs
    → x ≡ get_or cs n x → IsWrittenWhole contents a b (spelled f (take n cs)) → Sends whole contents b c (f x)
    → Sends whole contents a c (spelled f (take (suc n) cs))
one_sent contents a b c f cs n x whole lt is before now =
    subst (Sends whole contents a c) (ap (λ y. spelled f (take n cs) ++ f y) is ∙ spelled_more f cs n x lt)
    (sends_then contents a b c (spelled f (take n cs)) (f x) true whole refl before now)

-- one was broken off
pub one_broken : {E : Type 0} (contents : E → Option (List ℕ)) (a b c : Counted E) (f : ℕ → List ℕ) (cs : List ℕ) (n x : ℕ) (whole : Bool) → n < length cs
    → x ≡ get_or cs n x → IsWrittenWhole contents a b (spelled f (take n cs)) → Sends whole contents b c (f x) → whole ≡ false
    → IsBroken contents a c (spelled f cs)
one_broken contents a b c f cs n x true lt is before now e = cc
one_broken contents a b c f cs n x false lt is before now e =
    subst (IsBroken contents a c) (spelled_split f cs (suc n))
    (sends_broken contents a c (spelled f (take (suc n) cs)) (spelled f (drop (suc n) cs)) false refl (one_sent contents a b c f cs n x false lt is before now))

-- all were sent
pub all_sent : {E : Type 0} (contents : E → Option (List ℕ)) (a b : Counted E) (f : ℕ → List ℕ) (cs : List ℕ) (n : ℕ) → n ≡ length cs
    → IsWrittenWhole contents a b (spelled f (take n cs)) → IsWrittenWhole contents a b (spelled f cs)
all_sent contents a b f cs n e h = subst (λ (l : List ℕ). IsWrittenWhole contents a b (spelled f l)) (take_all n cs (omega (arith, e))) h

-- one more was sent, behind those before it
pub whole_sent : {E : Type 0} (contents : E → Option (List ℕ)) (a b c : Counted E) (f : ℕ → List ℕ) (cs ys : List ℕ) (x : ℕ) (whole : Bool) → length ys < length cs
    → x ≡ get_or cs (length ys) x → IsWrittenWhole contents a b (spelled f (take (length ys) cs)) → Sends whole contents b c (f x) → whole ≡ true
    → IsWrittenWhole contents a c (spelled f (take (length (ys ++ x ∷ [])) cs))
whole_sent contents a b c f cs ys x false lt is before now e = cc
whole_sent contents a b c f cs ys x true lt is before now e =
    subst (λ (n : ℕ). IsWrittenWhole contents a c (spelled f (take n cs))) (sym (length_push ys x ∙ add-one (length ys)))
    (one_sent contents a b c f cs (length ys) x true lt is before now)

-- the characters of an escape
pub escape_yields : {s : _} (c : ℕ) → escape_rest s ≡ escape_default c → YieldsList escape_steps (λ (x : ℕ). x) s (escape_default c)
escape_yields {s} c e =
    subst (YieldsList escape_steps (λ (x : ℕ). x) s) e (YieldsList-from_shown escape_steps (λ (x : ℕ). x) escape_rest
    (λ t u h. ap (λ n. length (take n (drop t.from t.chars))) h.1.0) (λ t x u h. h.1.0) s)
