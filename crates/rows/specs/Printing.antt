-- How a refusal is read and written.
use Rattle.std.specs.Prelude.{ℕ, List, [], ◌∷◌, ◌++◌, Some, None, codes, decimal, Option}
use Rattle.std.specs.List.{slice_get}
use Rattle.rows.specs.Refusals.{Refusal}
use Rattle.rows.specs.declared.refusal.At.{At}
use Rattle.rows.specs.declared.refusal.Refused.{Refused}

-- The values that a refusal carries: the rule and the spot, or none.
abbrev pub carried : Option At → List ℕ
carried None = []
carried (Some a) = a.rule ∷ a.spot ∷ []

-- The refusal that is read.
abbrev pub read : Refused → Refusal
read r = record { number = r.number; values = carried r.at }

-- A number of a refusal, with the rule and the spot where both are carried.
abbrev pub placed : ℕ → Option ℕ → Option ℕ → List ℕ
placed n (Some rule) (Some spot) = codes "refused by " ++ (decimal n ++ (codes " at rule " ++ (decimal rule ++ (codes ", spot " ++ decimal spot))))
placed n (Some rule) None = codes "refused by " ++ decimal n
placed n None (Some spot) = codes "refused by " ++ decimal n
placed n None None = codes "refused by " ++ decimal n

-- A refusal: its number, and where it lies in a rule.
abbrev pub refusal_text : Refusal → List ℕ
refusal_text f = placed f.number (slice_get f.values 0) (slice_get f.values 1)
