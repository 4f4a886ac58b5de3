-- Sets in words of bits, of which those that are not 0 are marked: the lowest number, and masks with fewer choices.
use Rattle.std.proofs.Common.{◌≡◌, ℕ, ◌+◌, ◌*◌, ◌/◌, ◌%◌, ◌^◌, ◌<◌, ◌≤◌, true, false, not, eqb, List, length, get_or, replicate, sym, ap, ◌∙◌, ⊎_elim, arith}
use Rattle.std.proofs.lemmas.List.{get_or_past}
use Rattle.std.proofs.lemmas.Bool.{cases_lt, cases_eq, eqb-true, eq-eqb, not-false, both_ways, and_parts}
use Rattle.rows.specs.Choices.{stands, choices, Without, Lowest}
use Rattle.rows.proofs.Wording.{zeros}
use Rattle.rows.proofs.Masks.{stands_zero, part_le}
use Rattle.waiting.specs.Waiting.{Empty}
use Rattle.rows.specs.Words.{holds}
use Rattle.waiting.specs.Sets.{LowestOf}

-- which words are marked
abbrev pub Marks : List ℕ → ℕ → Type 0
Marks words filled = (w : ℕ) → stands filled w ≡ not (eqb (get_or words w 0) 0)

pub none_marked : (n : ℕ) → Marks (replicate n 0) 0
none_marked n w = stands_zero w ∙ sym (ap (λ m. not (eqb m 0)) (zeros n w))

module _ (words : List ℕ) (filled : ℕ) (marks : Marks words filled) where
  -- a word that is not marked is 0, and one that is marked is not
  pub word_zero : (w : ℕ) → stands filled w ≡ false → get_or words w 0 ≡ 0
  word_zero w e = eqb-true (get_or words w 0) 0 (not-false (eqb (get_or words w 0) 0) (sym (marks w) ∙ e))

  pub word_some : (w : ℕ) → stands filled w ≡ true → 0 < get_or words w 0
  word_some w e =
      ⊎_elim (λ z. absurd (both_ways (stands filled w) (marks w ∙ ap not (eq-eqb (get_or words w 0) 0 z)) e)) (λ ne. omega arith) (cases_eq (get_or words w 0) 0)

  -- so a marked word is one of the words
  pub word_there : (w : ℕ) → stands filled w ≡ true → w < length words
  word_there w e = ⊎_elim (λ h. h) (λ h. absurd (past (get_or_past words w 0 h))) (cases_lt w (length words))
    where
      past : get_or words w 0 ≡ 0 → ⊥
      past z = omega (arith, word_some w e)

  pub none_filled : filled ≡ 0 → Empty (holds words)
  none_filled e k =
      ap (λ m. stands m (k % choices)) (word_zero (k / choices) (ap (λ f. stands f (k / choices)) e ∙ stands_zero (k / choices))) ∙ stands_zero (k % choices)

  module _ (w b : ℕ) (first : Lowest filled w) (low : Lowest (get_or words w 0) b) (small : b < choices) where
    -- the lowest bit of the lowest word is the lowest number
    pub lowest_number : LowestOf (holds words) (w * choices + b)
    lowest_number = record { here = at; below = under }
      where
        at : holds words (w * choices + b) ≡ true
        at =
            let q : (w * choices + b) / choices ≡ w = omega arith in
            let r : (w * choices + b) % choices ≡ b = omega arith in
            ap (λ i. stands (get_or words i 0) ((w * choices + b) % choices)) q ∙ ap (stands (get_or words w 0)) r ∙ low.here

        under : (k : ℕ) → k < w * choices + b → holds words k ≡ false
        under k h = ⊎_elim earlier (λ l. same l) (cases_lt (k / choices) w)
          where
            earlier : k / choices < w → holds words k ≡ false
            earlier l = ap (λ m. stands m (k % choices)) (word_zero (k / choices) (first.below (k / choices) l)) ∙ stands_zero (k % choices)

            same : w ≤ k / choices → holds words k ≡ false
            same l =
                let q : k / choices ≡ w = omega arith in
                let less : k % choices < b = omega arith in
                ap (λ i. stands (get_or words i 0) (k % choices)) q ∙ low.below (k % choices) less

-- where a mask without one choice has some, so has the mask
pub less_some : (m v r : ℕ) → m < 2 ^ 64 → r < 2 ^ 64 → Without v m r → (r ≡ 0 → ⊥) → 0 < m
less_some m v r fits fits' less ne =
    omega (arith, ne, part_le 64 r m fits' fits (λ w t. (and_parts (stands m w) (not (eqb w v)) (sym (less w) ∙ t)).0))
