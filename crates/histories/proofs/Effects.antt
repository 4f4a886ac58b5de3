-- What each call does to a sheet: one of five effects.
use Rattle.std.proofs.Common.{◌≡◌, ℕ, ◌<◌, Bool, true, false, not, ◌&&◌, ltb, ◌⊎◌, List, [], ◌∷◌, ◌++◌, map, None, refl, inl, inr}
use Rattle.std.proofs.lemmas.Bool.{and_parts, ltb-true, not-false}
use Rattle.rows.specs.Choices.{choices, stands}
use Rattle.rows.specs.Refusals.{plain}
use Rattle.rows.proofs.Refusing.{first_none, fits_none}
use Rattle.trail.specs.Strokes.{stroke}
use Rattle.trail.specs.Trails.{no_such_row}
use Rattle.banks.specs.Rules.{Sheet, Rule, row, Under}
use Rattle.settling.specs.Settling.{EachOnce, Largest}
use Rattle.histories.specs.States.{State}
use Rattle.histories.specs.Moves.{not_standing, last_choice, Call, strike, hold, settle, Outcome, settled, why, SameMarks, GivesMark, GoesBack, KeepsRows, Accepted, strikes, holds, gives_mark, goes_back, keeps_rows, settles, wipes_out, Moves, refuses, accepts}
use Rattle.histories.specs.Histories.{accepted, back_below}
use Rattle.histories.specs.Laws.{by_hand}
use Rattle.histories.proofs.Striking.{others, strike_under, strike_each, hold_under, hold_each}

-- Choices are struck and recorded, each once, and the marks are as they were.
pub record Narrows (s t : State) : Type 0 where
  pub under : Under t.rows s.rows
  pub struck : List ℕ
  pub strokes : t.strokes ≡ s.strokes ++ struck
  pub each : EachOnce s.rows t.rows struck
  pub marks : SameMarks s t

-- The call is an accepted back by a mark of a serial below g.
abbrev pub undoes : Call → Outcome → ℕ → Bool
undoes call answer g = accepted answer && back_below g call

-- The call is no accepted back.
abbrev pub NoBack : Call → Outcome → Type 0
NoBack call answer = (g : ℕ) → undoes call answer g ≡ false

-- The call answered settled, and the rows are the largest supported under those it met.
pub record SettledBy (call : Call) (answer : Outcome) (s t : State) : Type 0 where
  pub width : ℕ
  pub rules : List Rule
  pub capacity : ℕ
  pub count : ℕ
  pub call_is : call ≡ settle width rules capacity
  pub answer_is : answer ≡ settled count
  pub rows : Largest rules s.rows t.rows

-- Only a strike, a hold and a settle strike choices.
abbrev pub Cause : Call → Outcome → State → State → Type 0
Cause call answer s t = (by_hand call ≡ true) ⊎ SettledBy call answer s t

pub data Effect (call : Call) (answer : Outcome) (s t : State) : Type 0 where
  stays : NoBack call answer → t ≡ s → Effect call answer s t
  narrows : NoBack call answer → Cause call answer s t → Narrows s t → Effect call answer s t
  marks : (k : ℕ) → NoBack call answer → GivesMark k s t → Effect call answer s t
  backs : (k : ℕ) → ((g : ℕ) → undoes call answer g ≡ ltb k g) → GoesBack k s t → Effect call answer s t
  keeps : (k : ℕ) → NoBack call answer → KeepsRows k s t → Effect call answer s t

-- what is not refused for it stands
stands_if : (s : Sheet) (r v : ℕ) → not_standing s r v ≡ None → (v < choices) × (stands (row s r) v ≡ true)
stands_if s r v e =
    let p = and_parts (ltb v choices) (stands (row s r) v) (not-false (ltb v choices && stands (row s r) v) (fits_none (not (ltb v choices && stands (row s r) v)) (plain 5) e)) in
    (ltb-true v choices p.0, p.1)

-- so the choice of an accepted strike or hold stands
may_strike : (r v : ℕ) (s : State) → why (strike r v) s ≡ None → (v < choices) × (stands (row s.rows r) v ≡ true)
may_strike r v s w =
    stands_if s.rows r v (first_none (not_standing s.rows r v) (last_choice s.rows r ∷ []) (first_none (no_such_row s.rows r) _ w).1).0

may_hold : (r v : ℕ) (s : State) → why (hold r v) s ≡ None → (v < choices) × (stands (row s.rows r) v ≡ true)
may_hold r v s w = stands_if s.rows r v (first_none (not_standing s.rows r v) [] (first_none (no_such_row s.rows r) _ w).1).0

accepted_effect : {call : Call} {answer : Outcome} {s t : State} → why call s ≡ None → Accepted call answer s t → Effect call answer s t
accepted_effect w (strikes {r} {v} {s} {t} a) =
    let fine = may_strike r v s w in
    narrows (λ g. refl) (inl refl) (record {
      under = strike_under s.rows t.rows r v a.elsewhere fine.0 fine.1 a.here;
      struck = stroke r v ∷ [];
      strokes = a.strokes;
      each = strike_each s.rows t.rows r v a.elsewhere fine.0 fine.1 a.here;
      marks = a.marks;
    })
accepted_effect w (holds {r} {v} {s} {t} a) =
    let fine = may_hold r v s w in
    narrows (λ g. refl) (inl refl) (record {
      under = hold_under s.rows t.rows r v a.elsewhere fine.0 fine.1 a.here;
      struck = map (stroke r) (others s.rows r v);
      strokes = a.strokes;
      each = hold_each s.rows t.rows r v a.elsewhere fine.0 fine.1 a.here;
      marks = a.marks;
    })
accepted_effect w (gives_mark {k} a) = marks k (λ g. refl) a
accepted_effect w (goes_back {k} a) = backs k (λ g. refl) a
accepted_effect w (keeps_rows {k} a) = keeps k (λ g. refl) a
accepted_effect w (settles {w = width} {n} {c} {Rs} a) =
    narrows (λ g. refl) (inr (record { width = width; rules = Rs; capacity = n; count = c; call_is = refl; answer_is = refl; rows = a.narrowed.rows }))
    (record { under = a.narrowed.rows.candidate.under; struck = a.narrowed.struck; strokes = a.narrowed.recorded; each = a.narrowed.each; marks = a.marks })
accepted_effect w (wipes_out a e) = stays (λ g. refl) e

pub effect : {call : Call} {answer : Outcome} {s t : State} → Moves call answer s t → Effect call answer s t
effect (refuses w e) = stays (λ g. refl) e
effect (accepts w a) = accepted_effect w a
