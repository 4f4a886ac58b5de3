-- What settling comes to: the largest supported sheet, or a rule that cannot be met.
use Rattle.std.specs.Prelude.{◌≡◌, ℕ, ◌/◌, ◌%◌, ◌<◌, true, List, length, Decides}
use Rattle.rows.specs.Choices.{choices, stands, Without}
use Rattle.banks.specs.Calls.{rule_at}
use Rattle.banks.specs.Names.{among, apart}
use Rattle.banks.specs.Rules.{Sheet, Tuple, Rule, row, Live, SupportIn, Under, Supported}
use Rattle.trail.specs.Strokes.{Struck, Elsewhere}

-- A sheet that is supported for the rules and lies under another.
pub record Candidate (Rs : List Rule) (s c : Sheet) : Type 0 where
  pub supported : Supported c Rs
  pub under : Under c s

-- The largest of them: each of the others lies under it.
pub record Largest (Rs : List Rule) (s t : Sheet) : Type 0 where
  pub candidate : Candidate Rs s t
  pub above : (c : Sheet) → Candidate Rs s c → Under c t

-- One choice is struck that has no support in some rule and is not its row's last.
pub record StrikesUnsupported (Rs : List Rule) (s t : Sheet) : Type 0 where
  pub where_row : ℕ
  pub what : ℕ
  pub stood : stands (row s where_row) what ≡ true
  pub taken : Without what (row s where_row) (row t where_row)
  pub elsewhere : Elsewhere where_row s t
  pub not_last : 0 < row t where_row
  pub rule : ℕ
  pub listed : rule < length Rs
  pub unsupported : SupportIn s (rule_at Rs rule) where_row what → ⊥

-- Such strikes, one after another, lead from one sheet to another.
pub data Chain (Rs : List Rule) (s : Sheet) : Sheet → Type 0 where
  start : Chain Rs s s
  ◌then◌ : {t u : Sheet} → Chain Rs s t → StrikesUnsupported Rs t u → Chain Rs s u

-- A rule of the list that such strikes leave without a live tuple.
pub record DeadEnd (Rs : List Rule) (s : Sheet) (k : ℕ) : Type 0 where
  pub listed : k < length Rs
  pub sheet : Sheet
  pub reached : Chain Rs s sheet
  pub dead : (t : Tuple) → Live sheet (rule_at Rs k) t → ⊥

-- A sheet is wiped out, and a rule is named: there is no supported sheet under it.
pub record WipedOut (Rs : List Rule) (s : Sheet) (k : ℕ) : Type 0 where
  pub none : (c : Sheet) → Candidate Rs s c → ⊥
  pub named : DeadEnd Rs s k

-- A list has each choice that was struck between two sheets, as row × 64 + choice, exactly once, and nothing else.
pub record EachOnce (before after : Sheet) (es : List ℕ) : Type 0 where
  pub exact : (e : ℕ) → Decides (among e es) (Struck before after (e / choices) (e % choices))
  pub once : apart es ≡ true
