-- The search for an open mark, and the closing of it.
use Rattle.std.proofs.Common.{◌≡◌, ℕ, suc, ◌<◌, min, true, false, ◌||◌, eqb, List, [], ◌∷◌, ◌++◌, map, length, get_or, take, drop, Some, Option, sym, refl, ap, ◌∙◌, subst, arith, take-take}
use native.Mathlib.Nat.{min-eq_left}
use Rattle.std.specs.List.{HoldsAt}
use Rattle.std.proofs.Math.Seq.{drop-cons}
use Rattle.std.proofs.lemmas.List.{take-append-drop}
use Rattle.std.proofs.lemmas.Bool.{ne_eqb, eq-eqb, or_right}
use Rattle.banks.specs.Rules.{Sheet}
use Rattle.trail.specs.Stacks.{held}
use Rattle.trail.specs.declared.stack.Stack.{Stack}
use Rattle.trail.proofs.Stacked.{held_long}
use Rattle.histories.specs.States.{is_open}
use Rattle.sheet.specs.Closing.{NoneOf, Splits, Found}
use Rattle.sheet.specs.Sheets.{opened_as}
use Rattle.sheet.specs.declared.mark.OpenMark.{OpenMark}

-- whether a mark of a serial is open, by the entries
pub none_open : (s : Sheet) (strokes : List ℕ) (k : ℕ) (ms : List OpenMark) → NoneOf k ms → is_open k (map (opened_as s strokes) ms) ≡ false
none_open s strokes k [] none = refl
none_open s strokes k (m ∷ ms) none =
    ap (λ b. b || is_open k (map (opened_as s strokes) ms)) (ne_eqb k m.serial (λ e. none 0 m (omega arith) (sym e)))
    ∙ none_open s strokes k ms (λ i d h. none (suc i) d (omega arith))

pub some_open : (s : Sheet) (strokes : List ℕ) (k : ℕ) (front later : List OpenMark) (m : OpenMark) → m.serial ≡ k
    → is_open k (map (opened_as s strokes) (front ++ m ∷ later)) ≡ true
some_open s strokes k [] later m e = ap (λ b. b || is_open k (map (opened_as s strokes) later)) (eq-eqb k m.serial (sym e))
some_open s strokes k (x ∷ front) later m e = or_right (eqb k x.serial) _ (some_open s strokes k front later m e)

-- what is read where no mark lies
abbrev pub blank : OpenMark
blank = record { serial = 0; height = 0 }

-- what is left when the mark memory is cut at the place that was found
pub closed_at : (k at : ℕ) (s t : Stack OpenMark) (ms : List OpenMark) (r : Option ℕ) → ms ≡ held s → Found k (held s) r → r ≡ Some at → t.slots.now ≡ s.slots.now → t.top ≡ min at s.top
    → Splits k (held s) (held t) (get_or ms at blank)
closed_at k at s t ms r entries found is same cut =
    record { later = drop (suc at) (held s); serial = ap (λ l. (get_or l at blank).serial) entries ∙ here.1 blank; whole = whole }
  where
    here : (at < length (held s)) × HoldsAt (λ m. m.serial ≡ k) (held s) at
    here = subst (Found k (held s)) is found

    below : at < s.top
    below = omega (arith, here.0, held_long s)

    left : held t ≡ take at (held s)
    left = (λ i. take (cut i) (same i)) ∙ ap (λ n. take n s.slots.now) (min-eq_left (omega (arith, below))) ∙ sym (take-take at s.top s.slots.now (omega (arith, below)))

    whole : held s ≡ held t ++ get_or ms at blank ∷ drop (suc at) (held s)
    whole =
        sym (take-append-drop at (held s)) ∙ ap (λ l. take at (held s) ++ l) (drop-cons (held s) at blank here.0)
        ∙ (λ i. sym left i ++ get_or (sym entries i) at blank ∷ drop (suc at) (held s))
