-- The masks of named rows, as a list.
use Rattle.std.proofs.Common.{◌≡◌, ℕ, ◌<◌, ◌≤◌, List, map, length, get_or, take, sym, ◌∙◌, arith}
use Rattle.std.proofs.lemmas.List.{ext_get_or, get_or-map, get_or-take, length-map, length-take-le}
use Rattle.banks.specs.Names.{max_arity}
use Rattle.banks.specs.Rules.{Sheet, row}

pub picked : (names : List ℕ) (s : Sheet) (masks : List ℕ) → length names ≤ max_arity → length masks ≡ max_arity
    → ((p : ℕ) → p < length names → p < max_arity → get_or masks p 0 ≡ row s (get_or names p 0)) → take (length names) masks ≡ map (row s) names
picked names s masks few long each =
    let many = length-take-le (length names) masks (omega (arith, few, long)) in
    ext_get_or 0 (take (length names) masks) (map (row s) names) (many ∙ sym (length-map names (row s)))
    (λ p h. get_or-take (length names) masks p 0 (omega (arith, many)) ∙ each p (omega (arith, many)) (omega (arith, many, few)) ∙ sym (get_or-map (row s) names p 0 0 (omega (arith, many))))
