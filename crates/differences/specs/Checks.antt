-- Which differences a bank may hold.
use Rattle.std.specs.Prelude.{◌≡◌, ℕ, Bool, true, not, ◌&&◌, List, [], ◌∷◌, map, ℤ, Option, MatchOption, nat_le, nat_lt, unsigned_abs}
use Rattle.rows.specs.Choices.{choices}
use Rattle.rows.specs.Refusals.{Refusal, fits, first}
use Rattle.banks.specs.Faults.{at_spot, bank_refusal}
use Rattle.banks.specs.Names.{may_name}
use Rattle.banks.specs.Rules.{Rule}
use Rattle.differences.specs.Differences.{meaning}
use Rattle.differences.specs.declared.difference.Difference.{Difference}
use Rattle.differences.specs.declared.difference.Relation.{Relation}
use Rattle.differences.specs.declared.difference.Relation.TheVariants.{Equal, Unequal, AtMost, Congruent}
use Rattle.differences.specs.declared.refusal.DifferenceFault.{DifferenceFault}
use Rattle.differences.specs.declared.refusal.DifferenceFault.TheVariants.{Rows, Bounds}

-- 12: the rows are the same, or one is not below the width. 13: the offset or the modulus is outside its bounds. The spot is 0.
abbrev pub fault_says : DifferenceFault → Refusal
fault_says Rows = at_spot 12 0
fault_says Bounds = at_spot 13 0

-- An offset is from -63 to 63.
abbrev pub offset_fits : ℤ → Bool
offset_fits c = nat_lt (unsigned_abs c) choices

-- A modulus is from 1 to 64.
abbrev pub modulus_fits : Relation → Bool
modulus_fits Equal = true
modulus_fits Unequal = true
modulus_fits AtMost = true
modulus_fits (Congruent m) = nat_le 1 m && nat_le m choices

abbrev pub in_bounds : Difference → Bool
in_bounds d = offset_fits d.offset && modulus_fits d.relation

-- The fault of a difference in a bank of width w, if any: 12 is tried before 13.
abbrev pub fault : ℕ → Difference → Option Refusal
fault w d =
    first (fits (not (may_name w (d.x ∷ d.y ∷ []))) (at_spot 12 0) ∷ fits (not (in_bounds d)) (at_spot 13 0) ∷ [])

-- The refusal of a bank of width w with the differences ds, if any.
abbrev pub refusal : ℕ → List Difference → Option Refusal
refusal w ds = bank_refusal w (fault w) ds

-- The meaning of the bank that is made: the given width and exactly the given rules in their order, or, where the check refuses, the
-- width 1 and no rules.
abbrev pub Made : ℕ → List Difference → ℕ → List Rule → Type 0
Made w ds width rules = MatchOption (refusal w ds) ((width ≡ w) × (rules ≡ map meaning ds)) (λ _. (width ≡ 1) × (rules ≡ []))
