-- What is told of a settle when its loop has ended.
use Rattle.std.proofs.Common.{◌≡◌, ℕ, ◌+◌, ◌≤◌, List, length, take, drop, Ok, Err, refl, ap, ◌∙◌, arith}
use lib.Seq.{take-append_seam, drop-append_seam}
use Rattle.rows.specs.Choices.{stands}
use Rattle.rows.proofs.Masks.{members_none}
use Rattle.banks.specs.Lawful.{Lawful}
use Rattle.banks.specs.Rules.{Sheet, Rule, row, NoRowEmpty}
use Rattle.waiting.specs.Waiting.{Empty}
use Rattle.trail.specs.Strokes.{standing, restored}
use Rattle.trail.specs.Trails.{SomeStand, Undoes}
use Rattle.settling.specs.Loop.{LoopAnswer, Ends}
use Rattle.settling.specs.Propagation.{Tells, Alike, SettlesOn}
use Rattle.settling.specs.Settling.{Largest}
use Rattle.settling.specs.States.{State}
use Rattle.settling.specs.declared.propagate.DeadRule.{DeadRule}
use Rattle.settling.specs.declared.outcome.Outcome.{Outcome}
use Rattle.settling.specs.declared.outcome.Outcome.TheVariants.{Settled, Wiped}
use Rattle.settling.proofs.Ending.{settled, wiped_out}
use Rattle.settling.proofs.Standing.{standing_under}

-- a row in which some choice stands is not empty
pub no_row_empty : (s : Sheet) → SomeStand s → NoRowEmpty s
no_row_empty s some r h = grind (arith, some r h, members_none)

module _ (Rs : List Rule) (x y : State) where
  -- no rule waits
  pub tells_settled : (n : ℕ) → SomeStand x.rows → LoopAnswer Rs x y (Ok tt) → n + standing y.rows ≡ standing x.rows → Tells Rs (Settled n) x.rows y.rows x.strokes y.strokes
  tells_settled n some end count = record {
    rows = settled Rs x.rows y.rows y.waits (no_row_empty x.rows some) end.0.chain (λ k h _. end.2 k h) end.1;
    struck = end.0.struck;
    recorded = end.0.recorded;
    each = end.0.each;
    undone = end.0.undone;
    count = count;
  }

  -- a rule has no live tuple, and what was struck is put back
  pub tells_wiped : (wide : ℕ) (dead : DeadRule) (z : State) → Lawful wide Rs → wide ≤ length x.rows → LoopAnswer Rs x y (Err dead)
      → Undoes (length x.strokes) y.rows z.rows y.strokes z.strokes → Tells Rs (Wiped dead.0) x.rows z.rows x.strokes z.strokes
  tells_wiped wide dead z lawful enough end undoes =
      let struck = end.0.struck in (
        wiped_out wide Rs x.rows y.rows dead.0 lawful enough end.1 end.0.chain end.2,
        undoes.rows ∙ ap (λ l. restored y.rows (drop (length x.strokes) l)) end.0.recorded ∙ ap (restored y.rows) (drop-append_seam x.strokes struck) ∙ end.0.undone,
        undoes.recorded ∙ ap (take (length x.strokes)) end.0.recorded ∙ take-append_seam x.strokes struck,
      )

-- two largest sheets have the same choices, and as many
module _ (Rs : List Rule) (s t u : Sheet) (x : Largest Rs s t) (y : Largest Rs s u) where
  largest_stands : (r v : ℕ) → stands (row t r) v ≡ stands (row u r) v
  largest_stands r v = grind (arith, (y.above t x.candidate).part r v, (x.above u y.candidate).part r v)

  largest_standing : standing t ≡ standing u
  largest_standing = omega (arith, standing_under t u (y.above t x.candidate), standing_under u t (x.above u y.candidate))

-- what can be told of the same rows and rules is alike
pub tells_alike : (Rs : List Rule) (o : Outcome) (s t : Sheet) (a b : List ℕ) → Tells Rs o s t a b → Alike Rs s t o
tells_alike Rs (Settled n) s t a b x (Settled m) u c d y =
    (omega (arith, x.count, y.count, largest_standing Rs s t u x.rows y.rows), largest_stands Rs s t u x.rows y.rows)
tells_alike Rs (Settled n) s t a b x (Wiped k) u c d y = y.0.none t x.rows.candidate
tells_alike Rs (Wiped j) s t a b x (Settled m) u c d y = x.0.none u y.rows.candidate
tells_alike Rs (Wiped j) s t a b x (Wiped k) u c d y = tt

-- and rows that have a supported sheet under them settle
pub tells_largest : (Rs : List Rule) (o : Outcome) (s t : Sheet) (a b : List ℕ) → Tells Rs o s t a b → SettlesOn Rs s t o
tells_largest Rs (Settled n) s t a b x c cand = ((n, refl), x.rows)
tells_largest Rs (Wiped k) s t a b x c cand = absurd (x.0.none c cand)

-- so what is told is all of how settling ends
pub ends_from : (Rs : List Rule) (o : Outcome) (x y : State) → Tells Rs o x.rows y.rows x.strokes y.strokes → Empty y.waits → Ends Rs x y o
ends_from Rs o x y tells empty = record {
  tells = tells;
  alike = tells_alike Rs o x.rows y.rows x.strokes y.strokes tells;
  largest = tells_largest Rs o x.rows y.rows x.strokes y.strokes tells;
  empty = empty;
}
