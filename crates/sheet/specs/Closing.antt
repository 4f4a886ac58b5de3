-- How the open mark of a serial is found and closed.
use Rattle.std.specs.Prelude.{◌≡◌, ℕ, List, ◌∷◌, ◌++◌, length, Ok, Err, Option, Result, ◌≢◌, ◌<◌, MatchOption}
use Rattle.std.specs.List.{All, HoldsAt}
use Rattle.sheet.specs.declared.mark.OpenMark.{OpenMark}
use Rattle.sheet.specs.declared.refusal.SheetError.{SheetError}
use Rattle.sheet.specs.declared.refusal.SheetError.TheVariants.{NotOpen}

-- None of these marks has the serial.
abbrev pub NoneOf : ℕ → List OpenMark → Type 0
NoneOf k ms = All (λ m. m.serial ≢ k) ms

-- A mark of the serial stands after those before it and before the later ones.
pub record Splits (k : ℕ) (ms front : List OpenMark) (m : OpenMark) : Type 0 where
  pub later : List OpenMark
  pub serial : m.serial ≡ k
  pub whole : ms ≡ front ++ m ∷ later

-- The place of an open mark of the serial, if there is one.
abbrev pub Found : ℕ → List OpenMark → Option ℕ → Type 0
Found k ms r = MatchOption r (NoneOf k ms) (λ i. (i < length ms) × HoldsAt (λ m. m.serial ≡ k) ms i)

-- The open mark of the serial is closed, and all later ones. Refused, none of the open marks has the serial.
abbrev pub Closed : ℕ → List OpenMark → List OpenMark → Result OpenMark SheetError → Type 0
Closed k ms ms' (Ok m) = Splits k ms ms' m
Closed k ms ms' (Err e) = (e ≡ NotOpen) × NoneOf k ms × (ms' ≡ ms)
