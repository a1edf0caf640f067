-- Texts that were looked at before, and those behind them.
use Rattle.std.proofs.Common.{◌⊎◌, inl, inr, ℕ, ◌<◌, ◌≤◌, arith}
use Rattle.std.proofs.lemmas.Bool.{cases_lt}

-- where there are several texts, some of them stand behind so many, or there are as many of those
pub answered_all : (texts count from : ℕ) (Old New : Type 0) → (1 < count → texts < count → from < count) → (1 < texts → Old) → ((from < count) ⊎ Old → New) → 1 < count → New
answered_all texts count from Old New behind old new many = choose (cases_lt texts count)
  where
    choose : (texts < count) ⊎ (count ≤ texts) → New
    choose (inl less) = new (inl (behind many less))
    choose (inr more) = new (inr (old (omega (arith, many, more))))
