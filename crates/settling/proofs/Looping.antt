-- The rules that wait are revised one after another.
use Rattle.std.proofs.Common.{◌≡◌, ℕ, suc, ◌+◌, ◌*◌, ◌<◌, ◌≤◌, true, false, not, eqb, List, length, sym, ◌∙◌, subst, ⊎_elim, arith}
use Rattle.std.proofs.lemmas.Bool.{cases_eq, both_ways, and_parts, ltb-true, lt-ltb}
use Rattle.banks.specs.Calls.{rule_at}
use Rattle.banks.specs.Rules.{Sheet, Rule, SupportedBy}
use Rattle.trail.specs.Strokes.{standing}
use Rattle.waiting.specs.Waiting.{Numbers, But, how_many, max_capacity}
use Rattle.waiting.proofs.Changing.{but_other}
use Rattle.waiting.proofs.Measuring.{many_take, many_same, many_le}
use Rattle.settling.specs.Loop.{Filled, Strikes, RowsStay, Advance}
use Rattle.settling.specs.States.{State}
use Rattle.settling.proofs.Advancing.{strikes_none, strikes_more, strikes_falls}
use Rattle.settling.proofs.Ending.{Revised}
use Rattle.settling.proofs.Supporting.{supported_like}

-- before anything is revised, every rule waits
pub revised_none : (Rs : List Rule) (waits : Numbers) (s : Sheet) → ((k : ℕ) → k < length Rs → waits k ≡ true) → Revised Rs waits s
revised_none Rs waits s all k h e = absurd (both_ways (waits k) e (all k h))

-- a rule was revised, and of the others only those that did not wait and whose rows stayed do not wait
pub revised_more : (Rs : List Rule) (waits waits' : Numbers) (k : ℕ) (seen s : Sheet) → Revised Rs waits seen → SupportedBy s (rule_at Rs k)
    → ((j : ℕ) → j < length Rs → waits' j ≡ false → (j ≡ k → ⊥)
    → (waits j ≡ false) × RowsStay (rule_at Rs j) seen s) → Revised Rs waits' s
revised_more Rs waits waits' k seen s revised here others j h e =
    ⊎_elim (λ at. subst (λ i. SupportedBy s (rule_at Rs i)) (sym at) here)
    (λ ne. let o = others j h e ne in supported_like seen s (rule_at Rs j) o.1 (revised j h o.0)) (cases_eq j k)

-- strikes have led from x to y, every rule that does not wait supports the sheet, and only rules wait
pub record Looping (Rs : List Rule) (x y : State) : Type 0 where
  pub strikes : Strikes Rs x.rows y.rows x.strokes y.strokes
  pub revised : Revised Rs y.waits y.rows
  pub listed : (k : ℕ) → y.waits k ≡ true → k < length Rs

-- what is left to do: choices that can be struck, and rules that wait
abbrev pub work : State → ℕ → ℕ
work x room = standing x.rows * suc max_capacity + how_many x.waits room

module _ (Rs : List Rule) where
  pub looping_none : (x : State) → Filled (length Rs) x.waits → Looping Rs x x
  looping_none x filled = record {
    strikes = strikes_none Rs x.rows x.strokes;
    revised = revised_none Rs x.waits x.rows (λ k h. filled k ∙ lt-ltb k (length Rs) h);
    listed = λ k on. ltb-true k (length Rs) (sym (filled k) ∙ on);
  }

  -- a rule is taken and revised: from y, where it waits, to z
  module _ (y z : State) (waits : Numbers) (k : ℕ) (waited : y.waits k ≡ true) (taken : But k y.waits waits) (advance : Advance Rs k (record y { waits = waits }) z) where
    pub looping_more : (x : State) → SupportedBy z.rows (rule_at Rs k) → Looping Rs x y → Looping Rs x z
    looping_more x here l = record {
      strikes = strikes_more Rs x.rows y.rows z.rows x.strokes y.strokes z.strokes l.strikes advance.strikes;
      revised = revised_more Rs y.waits z.waits k y.rows z.rows l.revised here
          (λ j h off ne. let q = advance.quiet j ne off in (sym (but_other y.waits waits k taken j ne) ∙ q.0, q.1));
      listed = λ j on. ⊎_elim (λ early. l.listed j (and_parts (y.waits j) (not (eqb j k)) (sym (taken j) ∙ early)).0) (λ h. h) (advance.listed j on);
    }

    -- less is left to do
    pub work_less : (room : ℕ) → room ≤ max_capacity → k < room → work z room < work y room
    work_less room small below =
        let one : suc (how_many waits room) ≡ how_many y.waits room = many_take y.waits waits k room below waited taken in
        ⊎_elim (λ less. omega (arith, many_le z.waits room))
        (λ same. omega (arith, many_same waits z.waits room same, strikes_falls Rs y.rows z.rows y.strokes z.strokes advance.strikes)) advance.fewer
