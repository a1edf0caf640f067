-- Texts that part, and runs that are apart.
use Rattle.std.proofs.Common.{◌≡◌, ◌⊎◌, inl, inr, ℕ, ◌+◌, ◌<◌, List, ◌∷◌, ◌++◌, length, get_or, take, drop, Bool, true, false, refl, sym, ◌∙◌, ap, arith}
use Rattle.std.specs.Prelude.{◌↔◌, ◌≢◌, IsTrue, not, string_bytes}
use Rattle.std.proofs.lemmas.List.{ext_get_or, length-take-le, get_or-take, take-append-drop, drop_more, get_or_at, append_cancel_left, length-append}
use Rattle.model.specs.declared.end.Why.TheVariants.{Finish, Until, Entries, TooLong, Time, Memory}
use Rattle.model.specs.declared.end.End.{End}
use Rattle.model.specs.declared.end.End.TheVariants.{Quiet, Running, Stopped}
use Rattle.runs.specs.declared.run.RunRecord.{RunRecord}
use Rattle.runs.specs.Compared.{AreLike, IsWhole, HavePartedTexts, AreDifferentRuns}

-- two lists that are the same up to a place begin alike
same_front : (one other : List ℕ) (n : ℕ) → n < length one → n < length other → ((k : ℕ) → k < n → get_or one k 0 ≡ get_or other k 0) → take n one ≡ take n other
same_front one other n lt lt' same =
    let len : length (take n one) ≡ n = length-take-le n one (omega (arith, lt)) in
    let len' : length (take n other) ≡ n = length-take-le n other (omega (arith, lt')) in
    ext_get_or 0 (take n one) (take n other) (len ∙ sym len')
    (λ i below.
    let here : i < n = omega (arith, below, len) in
    get_or-take n one i 0 here ∙ (same i here ∙ sym (get_or-take n other i 0 here)))

-- texts that differ first at a place part there
pub parted_at : (one other : List ℕ) (n : ℕ) → n < length one → n < length other → ((k : ℕ) → k < n → get_or one k 0 ≡ get_or other k 0)
    → get_or one n 0 ≢ get_or other n 0 → HavePartedTexts one other
parted_at one other n lt lt' same differ = record {
  before = take n one;
  byte = get_or one n 0;
  behind = drop (n + 1) one;
  other_byte = get_or other n 0;
  other_behind = drop (n + 1) other;
  one_is = sym (take-append-drop n one) ∙ ap (λ (r : List ℕ). take n one ++ r) (drop_more one n 0 lt);
  other_is =
      sym (take-append-drop n other)
      ∙ (ap (λ (r : List ℕ). take n other ++ r) (drop_more other n 0 lt')
      ∙ ap (λ (f : List ℕ). f ++ get_or other n 0 ∷ drop (n + 1) other) (sym (same_front one other n lt lt' same)));
  differ = differ;
}

-- texts that are the same as far as both go don't part
pub none_parted : (one other : List ℕ) (n : ℕ) → ((m : ℕ) → m < length one → m < length other → m < n)
    → ((k : ℕ) → k < n → get_or one k 0 ≡ get_or other k 0) → HavePartedTexts one other → ⊥
none_parted one other n covers same parted =
    let m : ℕ = length parted.before in
    let long : length one ≡ m + length (parted.byte ∷ parted.behind) = ap length parted.one_is ∙ length-append parted.before (parted.byte ∷ parted.behind) in
    let long' : length other ≡ m + length (parted.other_byte ∷ parted.other_behind) =
    ap length parted.other_is ∙ length-append parted.before (parted.other_byte ∷ parted.other_behind) in
    let some : length (parted.byte ∷ parted.behind) ≡ 1 + length parted.behind = omega arith in
    let some' : length (parted.other_byte ∷ parted.other_behind) ≡ 1 + length parted.other_behind = omega arith in
    let here : m < n = covers m (omega (arith, long, some)) (omega (arith, long', some')) in
    parted.differ
    (sym (get_or_at parted.before parted.byte parted.behind 0 m refl)
    ∙ (ap (λ (xs : List ℕ). get_or xs m 0) (sym parted.one_is)
    ∙ (same m here
    ∙ (ap (λ (xs : List ℕ). get_or xs m 0) parted.other_is ∙ get_or_at parted.before parted.other_byte parted.other_behind 0 m refl))))

-- texts that part aren't equal
pub parted_differ : (one other : List ℕ) → HavePartedTexts one other → one ≡ other → ⊥
parted_differ one other parted same =
    let rests : parted.byte ∷ parted.behind ≡ parted.other_byte ∷ parted.other_behind =
    append_cancel_left parted.before (parted.byte ∷ parted.behind) (parted.other_byte ∷ parted.other_behind) (sym parted.one_is ∙ (same ∙ parted.other_is)) in
    let bytes : parted.byte ≡ parted.other_byte = cc in
    parted.differ bytes

-- runs that are apart aren't alike
pub apart_unlike : (a b : RunRecord) → AreDifferentRuns a b → AreLike a b → ⊥
apart_unlike a b (inl parted) like = parted_differ (string_bytes a.lines) (string_bytes b.lines) parted like.0
apart_unlike a b (inr differ) like = differ.2 like.0 like.1

-- runs that came to their ends are apart where they aren't alike
pub whole_apart : (a b : RunRecord) (r : Bool) → IsWhole a → IsWhole b → IsTrue r ↔ AreLike a b → IsTrue (not r) ↔ AreDifferentRuns a b
whole_apart a b true whole whole' same = ((λ no. cc), (λ apart. absurd (apart_unlike a b apart (same.0 refl))))
whole_apart a b false whole whole' same =
    ((λ yes. inr (whole, whole', λ lines ends. let clash : false ≡ true = same.1 (lines, ends) in cc)), (λ apart. refl))

end_decided : (e : End) → ((e ≢ Stopped Entries) × (e ≢ Stopped Memory)) ⊎ (((e ≢ Stopped Entries) × (e ≢ Stopped Memory)) → ⊥)
end_decided Quiet = inl ((λ is. cc), (λ is. cc))
end_decided Running = inl ((λ is. cc), (λ is. cc))
end_decided (Stopped Finish) = inl ((λ is. cc), (λ is. cc))
end_decided (Stopped Until) = inl ((λ is. cc), (λ is. cc))
end_decided (Stopped Entries) = inr (λ whole. whole.0 refl)
end_decided (Stopped (TooLong p)) = inl ((λ is. cc), (λ is. cc))
end_decided (Stopped Time) = inl ((λ is. cc), (λ is. cc))
end_decided (Stopped Memory) = inr (λ whole. whole.1 refl)

-- a run came to its end or it didn't
pub whole_decided : (a : RunRecord) → IsWhole a ⊎ (IsWhole a → ⊥)
whole_decided a = end_decided a.end
