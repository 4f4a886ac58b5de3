-- The calls that are not gone back over, one after another, lead from the start to where the sheet is.
use Rattle.std.proofs.Common.{◌≡◌, ℕ, Bool, true, false, ◌||◌, ◌⊎◌, List, [], ◌∷◌, length, drop, ap, ◌∙◌, inl, inr, ⊎_elim}
use Rattle.std.specs.List.{AllByRecursion}
use Rattle.std.proofs.ByRecursion.{All-weaker}
use Rattle.banks.specs.Rules.{Sheet, Under}
use Rattle.histories.specs.States.{State}
use Rattle.histories.specs.Histories.{Event, History}
use Rattle.histories.proofs.Effects.{Narrows, undoes}

-- Nothing is struck, and nothing added to the record.
pub record Quiet (s t : State) : Type 0 where
  pub wider : Under s.rows t.rows
  pub none : drop (length s.strokes) t.strokes ≡ []

-- Which calls are gone back over, by the number of marks given before them: as `gone` has it for the calls before e, or by e itself.
abbrev pub gone_or : (ℕ → Bool) → Event → ℕ → Bool
gone_or gone e g = gone g || undoes e.call e.answer g

-- A call that is gone back over, or strikes nothing.
abbrev pub Idle : (ℕ → Bool) → Event → Type 0
Idle gone e = (gone e.before.given ≡ true) ⊎ Quiet e.before e.after

-- A call that strikes, is not gone back over and leaves these rows and this record.
pub record Adds (gone : ℕ → Bool) (e : Event) (rows : Sheet) (strokes : List ℕ) : Type 0 where
  pub stays : gone e.before.given ≡ false
  pub narrow : Narrows e.before e.after
  pub rows_are : rows ≡ e.after.rows
  pub strokes_are : strokes ≡ e.after.strokes

-- The calls of a history that are not gone back over lead from the rows of the start, with nothing recorded, to these rows and this record.
abbrev pub Chain : State → (ℕ → Bool) → History → Sheet → List ℕ → Type 0
Chain start gone [] rows strokes = (rows ≡ start.rows) × (strokes ≡ [])
Chain start gone (e ∷ earlier) rows strokes =
    (Idle gone e × Chain start (gone_or gone e) earlier rows strokes)
    ⊎ (Adds gone e rows strokes × Chain start (gone_or gone e) earlier e.before.rows e.before.strokes)

-- only what `gone` says of the history's calls counts
pub chain_like : (start : State) (gone gone' : ℕ → Bool) (h : History) (rows : Sheet) (strokes : List ℕ)
    → AllByRecursion (λ e. gone' e.before.given ≡ gone e.before.given) h → Chain start gone h rows strokes → Chain start gone' h rows strokes
chain_like start gone gone' [] rows strokes a c = c
chain_like start gone gone' (e ∷ earlier) rows strokes a c =
    let rest : AllByRecursion (λ b. gone_or gone' e b.before.given ≡ gone_or gone e b.before.given) earlier =
    All-weaker (λ b. gone' b.before.given ≡ gone b.before.given) _ (λ b q. ap (λ t. t || undoes e.call e.answer b.before.given) q) earlier a.1
    in
    ⊎_elim (λ i. inl (⊎_elim (λ g. inl (a.0 ∙ g)) inr i.0, chain_like start (gone_or gone e) (gone_or gone' e) earlier rows strokes rest i.1))
    (λ n. inr (
      record { stays = a.0 ∙ n.0.stays; narrow = n.0.narrow; rows_are = n.0.rows_are; strokes_are = n.0.strokes_are },
      chain_like start (gone_or gone e) (gone_or gone' e) earlier e.before.rows e.before.strokes rest n.1,
    ))
    c
