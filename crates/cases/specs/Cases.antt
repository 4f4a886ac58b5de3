-- Worked cases, as one table. Each says what a relation that the calls' contracts use holds of.
use Rattle.std.specs.Prelude.{ℕ, ◌^◌, List, [], ◌∷◌, replicate, ℤ, pos, negsuc, bit_or}
use Rattle.std.specs.List.{AllByRecursion}
use Rattle.banks.specs.Calls.{Shows}
use Rattle.banks.specs.Rules.{Sheet, Rule, arity}
use Rattle.diagrams.specs.Diagrams.{rule}
use Rattle.diagrams.specs.declared.diagram.Arc.{Arc}
use Rattle.differences.specs.Differences.{meaning}
use Rattle.differences.specs.declared.difference.Relation.{Relation}
use Rattle.differences.specs.declared.difference.Relation.TheVariants.{Equal, Unequal, AtMost, Congruent}
use Rattle.tables.specs.Tables.{star, table_rule}

-- The mask of some choices.
abbrev pub set : List ℕ → ℕ
set [] = 0
set (v ∷ vs) = bit_or (2 ^ v) (set vs)

-- The difference of a relation and an offset between the rows 0 and 1.
abbrev pub difference : Relation → ℤ → Rule
difference relation c = meaning (record { x = 0; y = 1; offset = c; relation = relation })

-- The table of some lines on the rows 0 and 1.
abbrev pub table_of : List (List ℕ) → Rule
table_of lines = table_rule (0 ∷ 1 ∷ []) lines

-- The diagram of four nodes with these arcs on the rows 0 and 1.
abbrev pub diagram_of : List Arc → Rule
diagram_of arcs = rule (0 ∷ 1 ∷ []) 4 arcs

-- An arc from a node by a choice to a target.
abbrev pub arc : ℕ → ℕ → ℕ → Arc
arc n v m = record { node = n; choice = v; target = m }

-- A worked case.
pub data Case : Type 0 where
  -- the support that a rule has on a sheet, by a mask for each of its places
  supports : Rule → Sheet → List ℕ → Case

-- A case holds: these masks, and no others, are written by a support over masks of 0.
abbrev pub Holds : Case → Type 0
Holds (supports R s masks) = Shows s R (replicate (arity R) 0) masks

abbrev pub table : List Case
table =
    -- y = x + 3 on {0,5} and {3,4}
    supports (difference Equal (pos 3)) (set (0 ∷ 5 ∷ []) ∷ set (3 ∷ 4 ∷ []) ∷ []) (set (0 ∷ []) ∷ set (3 ∷ []) ∷ [])
    -- y = x - 63 on {62} and {0}, and on {63} and {0}
    ∷ supports (difference Equal (negsuc 62)) (set (62 ∷ []) ∷ set (0 ∷ []) ∷ []) (set [] ∷ set [] ∷ [])
    ∷ supports (difference Equal (negsuc 62)) (set (63 ∷ []) ∷ set (0 ∷ []) ∷ []) (set (63 ∷ []) ∷ set (0 ∷ []) ∷ [])
    -- y ≠ x on {9} and {9,10}
    ∷ supports (difference Unequal (pos 0)) (set (9 ∷ []) ∷ set (9 ∷ 10 ∷ []) ∷ []) (set (9 ∷ []) ∷ set (10 ∷ []) ∷ [])
    -- x + 2 ≤ y on {1,4,6} and {3,5}
    ∷ supports (difference AtMost (pos 2)) (set (1 ∷ 4 ∷ 6 ∷ []) ∷ set (3 ∷ 5 ∷ []) ∷ []) (set (1 ∷ []) ∷ set (3 ∷ 5 ∷ []) ∷ [])
    -- x - 5 - y a multiple of 4 on {2} and {1,3}
    ∷ supports (difference (Congruent 4) (negsuc 4)) (set (2 ∷ []) ∷ set (1 ∷ 3 ∷ []) ∷ []) (set (2 ∷ []) ∷ set (1 ∷ []) ∷ [])
    -- the lines (0, star) and (3, 1) on {3} and {0,1}, and on {0,2} and {5}
    ∷ supports (table_of ((0 ∷ star ∷ []) ∷ (3 ∷ 1 ∷ []) ∷ [])) (set (3 ∷ []) ∷ set (0 ∷ 1 ∷ []) ∷ []) (set (3 ∷ []) ∷ set (1 ∷ []) ∷ [])
    ∷ supports (table_of ((0 ∷ star ∷ []) ∷ (3 ∷ 1 ∷ []) ∷ [])) (set (0 ∷ 2 ∷ []) ∷ set (5 ∷ []) ∷ []) (set (0 ∷ []) ∷ set (5 ∷ []) ∷ [])
    -- the paths 0, 5 and 1, 6 on {0,1} and {5}, and on {1} and {5}
    ∷ supports (diagram_of (arc 0 0 1 ∷ arc 0 1 2 ∷ arc 1 5 3 ∷ arc 2 6 3 ∷ [])) (set (0 ∷ 1 ∷ []) ∷ set (5 ∷ []) ∷ []) (set (0 ∷ []) ∷ set (5 ∷ []) ∷ [])
    ∷ supports (diagram_of (arc 0 0 1 ∷ arc 0 1 2 ∷ arc 1 5 3 ∷ arc 2 6 3 ∷ [])) (set (1 ∷ []) ∷ set (5 ∷ []) ∷ []) (set [] ∷ set [] ∷ [])
    ∷ []

-- Every case of the table holds.
abbrev pub CasesHold : Type 0
CasesHold = AllByRecursion Holds table
