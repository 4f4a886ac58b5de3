-- What a line of a table gives on the masks of the rows that the table names, a mask for each place.
use Rattle.std.specs.Prelude.{◌≡◌, ℕ, ◌<◌, true, ◌⊎◌, List, length, Decides, slice_index}
use Rattle.std.specs.List.{Contains}
use Rattle.rows.specs.Choices.{stands}
use Rattle.tables.specs.Tables.{takes}

-- The choice v stands in a mask and matches a byte.
abbrev pub Fits : ℕ → ℕ → ℕ → Type 0
Fits b m v = (stands m v ≡ true) × (takes b v ≡ true)

-- A line lives on masks: at each place some standing choice matches its byte.
pub record Lives (line masks : List ℕ) : Type 0 where
  pub long : length line ≡ length masks
  pub each : (p : ℕ) → p < length masks → (v : ℕ) × Fits (slice_index line p) (slice_index masks p) v

-- A line gives the choice v at a place: it lives, and v stands there and matches its byte.
abbrev pub Gives : List ℕ → List ℕ → ℕ → ℕ → Type 0
Gives line masks p v = Lives line masks × Fits (slice_index line p) (slice_index masks p) v

-- Some line of a list gives the choice v at a place.
abbrev pub Given : List (List ℕ) → List ℕ → ℕ → ℕ → Type 0
Given lines masks p v = (line : List ℕ) × Contains lines line × Gives line masks p v

-- The masks found are those of the choices that some line gives, place by place.
pub record Found (lines : List (List ℕ)) (masks found : List ℕ) : Type 0 where
  pub long : length found ≡ length masks
  pub exact : (p v : ℕ) → p < length masks → Decides (stands (slice_index found p) v) (Given lines masks p v)

-- The masks after a line is added: at each place, the choices that were there, and those that stand and match the line's byte.
pub record Added (line masks before after : List ℕ) : Type 0 where
  pub long : length after ≡ length before
  pub exact : (p v : ℕ) → p < length masks
      → Decides (stands (slice_index after p) v) ((stands (slice_index before p) v ≡ true) ⊎ Fits (slice_index line p) (slice_index masks p) v)
