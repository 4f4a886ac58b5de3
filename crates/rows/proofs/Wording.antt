-- Sets in words of bits: words that are 0 hold no number.
use Rattle.std.proofs.Common.{◌≡◌, ℕ, zero, suc, ◌/◌, ◌%◌, false, get_or, replicate, refl, ap, ◌∙◌}
use Rattle.rows.specs.Choices.{stands, choices}
use Rattle.rows.specs.Words.{holds}
use Rattle.rows.proofs.Masks.{stands_zero}

pub zeros : (n i : ℕ) → get_or {A = ℕ} (replicate n 0) i 0 ≡ 0
zeros zero i = refl
zeros (suc n) zero = refl
zeros (suc n) (suc i) = zeros n i

pub holds_none : (n k : ℕ) → holds (replicate n 0) k ≡ false
holds_none n k = ap (λ m. stands m (k % choices)) (zeros n (k / choices)) ∙ stands_zero (k % choices)
