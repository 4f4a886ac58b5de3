-- The refusals of making a row.
use Rattle.rows.specs.Refusals.{Refusal, plain}
use Rattle.rows.specs.declared.refusal.RowError.{RowError}
use Rattle.rows.specs.declared.refusal.RowError.TheVariants.{Empty}

-- 1: the mask is 0, so that no choice would stand in the row.
abbrev pub row_says : RowError → Refusal
row_says Empty = plain 1
