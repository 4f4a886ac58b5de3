-- What a stack holds, and what a push or a pop leaves.
use Rattle.std.proofs.Common.{◌≡◌, ◌+◌, ◌<◌, eqb, leb, List, [], ◌∷◌, ◌++◌, length, Ok, Err, Some, None, Result, sym, refl, ap, ◌∙◌, arith}
use Rattle.std.specs.Result.{IsOk}
use Rattle.std.proofs.lemmas.List.{append-nil, append_assoc, length-take-le, length-append}
use Rattle.std.proofs.lemmas.Bool.{false≢true, ne_eqb, cond-false}
use Rattle.rows.specs.Refusals.{plain, fits}
use Rattle.rows.proofs.Refusing.{first_past, le_fits_not, some_not_none}
use Rattle.trail.specs.Stacks.{stack_says, held, Grows, PushAnswer, PopAnswer}
use Rattle.trail.specs.declared.refusal.StackError.{StackError}
use Rattle.trail.specs.declared.stack.Stack.{Stack}

module _ {T : Type 0} where
  pub held_long : (s : Stack T) → length (held s) ≡ s.top
  held_long s = length-take-le s.top s.slots.now s.within

  -- a stack that grows by nothing, and by some entries after others
  pub grows_none : (s : Stack T) → Grows [] s s
  grows_none s = (refl, sym (append-nil (held s)))

  pub grows_more : (new more : List T) (s t u : Stack T) → Grows new s t → Grows more t u → Grows (new ++ more) s u
  grows_more new more s t u a b = (b.0 ∙ a.0, b.1 ∙ ap (λ xs. xs ++ more) a.1 ∙ append_assoc (held s) new more)

  pub grows_top : (new : List T) (s t : Stack T) → Grows new s t → t.top ≡ s.top + length new
  grows_top new s t g = omega (arith, held_long s, held_long t, ap length g.1, length-append (held s) new)

  -- a push where a slot is free is accepted, and so is a pop where an entry lies
  pub pushed_ok : (s t : Stack T) (x : T) (r : Result (Unit {0}) StackError) → s.top < length s.slots.now → PushAnswer s t x r → IsOk r
  pushed_ok s t x (Ok u) free p = refl
  pushed_ok s t x (Err e) free p =
      absurd (some_not_none _ (stack_says e) p.0 (first_past (fits (leb (length s.slots.now) s.top) (plain 10)) [] (le_fits_not (length s.slots.now) s.top (plain 10) free)))

  pub popped_ok : (s t : Stack T) (r : Result T StackError) → 0 < s.top → PopAnswer s t r → IsOk r
  popped_ok s t (Ok x) some p = refl
  popped_ok s t (Err e) some p =
      absurd (some_not_none _ (stack_says e) p.0 (first_past _ [] (cond-false (eqb s.top 0) (Some (plain 10)) None (ne_eqb s.top 0 (λ z. omega arith)))))

  pub pushed_grows : (s t : Stack T) (x : T) (r : Result (Unit {0}) StackError) → s.top < length s.slots.now → PushAnswer s t x r → Grows (x ∷ []) s t
  pushed_grows s t x (Ok u) free p = p.1
  pushed_grows s t x (Err e) free p = absurd (false≢true (pushed_ok s t x (Err e) free p))
