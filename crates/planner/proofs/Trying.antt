-- Trying the choices of the next row one after another.
use Rattle.std.proofs.Common.{◌≡◌, ℕ, ◌+◌, ◌<◌, ◌≤◌, Bool, true, ltb, ◌⊎◌, List, [], ◌∷◌, ◌++◌, length, get_or, take, set, Ok, Err, Result, sym, refl, ap, ◌∙◌, subst, inl, inr, ⊎_elim, arith, below_more}
use Rattle.std.specs.List.{AllByRecursion}
use Rattle.std.proofs.lemmas.List.{take_more, take_more_set, take-set, take_all, take_at, take-take, length_push, get_or_push, get_or_past, get_or-take, get_or-set_same, get_or-set_other, length-take-le}
use Rattle.std.proofs.lemmas.Bool.{cases_eq, both_ways}
use Rattle.std.proofs.lemmas.Bool.Decides.{Decides-like}
use Rattle.rows.specs.Choices.{choices, stands, Without}
use Rattle.rows.proofs.Masks.{stands_zero, without_stood, without_stays}
use Rattle.rows.specs.Refusals.{first, fits, plain}
use Rattle.banks.specs.Calls.{MeetsAnswer}
use Rattle.banks.specs.declared.refusal.CallError.{CallError}
use Rattle.banks.specs.Rules.{Sheet, Plan, Rule, row, Meets}
use Rattle.planner.specs.Plans.{GoesOn, GoesOnAnswer, PlanExists, ExistsAnswer}

module _ (s : Sheet) (Rs : List Rule) (n : ℕ) (front : Plan) where
  -- one choice more goes on, so the front does
  pub goes_on_with : (w : ℕ) → stands (row s (length front)) w ≡ true → GoesOn s Rs n (front ++ w ∷ []) → GoesOn s Rs n front
  goes_on_with w st g = record {
    plan = g.plan;
    long = g.long;
    begins = shorter;
    standing = λ r h k. ⊎_elim (λ e. here r e) (λ ne. g.standing r (omega (arith, length_push front w)) k) (cases_eq r (length front));
    meets = g.meets;
  }
    where
      long' : length (front ++ w ∷ []) ≡ length front + 1
      long' = length_push front w

      shorter : take (length front) g.plan ≡ front
      shorter =
          sym (take-take (length front) (length (front ++ w ∷ [])) g.plan (omega (arith, long'))) ∙ ap (take (length front)) g.begins
          ∙ take_at front (w ∷ []) (length front) refl

      last : get_or g.plan (length front) 0 ≡ w
      last =
          sym (get_or-take (length (front ++ w ∷ [])) g.plan (length front) 0 (omega (arith, long'))) ∙ ap (λ t. get_or t (length front) 0) g.begins
          ∙ get_or_push front w 0 (length front) refl

      here : (r : ℕ) → r ≡ length front → stands (row s r) (get_or g.plan r 0) ≡ true
      here r e = ap (λ x. stands (row s x) (get_or g.plan x 0)) e ∙ ap (stands (row s (length front))) last ∙ st

  -- where the front goes on, it does so by some standing choice
  pub goes_on_by : length front < n → GoesOn s Rs n front → (w : ℕ) × (stands (row s (length front)) w ≡ true) × GoesOn s Rs n (front ++ w ∷ [])
  goes_on_by h g =
      let w = get_or g.plan (length front) 0 in
      let inside : length front < length g.plan = omega (arith, g.long) in
      let pushed : take (length (front ++ w ∷ [])) g.plan ≡ front ++ w ∷ [] =
      ap (λ k. take k g.plan) (length_push front w) ∙ take_more g.plan (length front) 0 inside ∙ ap (λ t. t ++ w ∷ []) g.begins
      in (
        w,
        g.standing (length front) (omega arith) h,
        record {
          plan = g.plan;
          long = g.long;
          begins = pushed;
          standing = λ r k l. g.standing r (omega (arith, length_push front w)) l;
          meets = g.meets;
        },
      )

  -- a choice of the next row is still to be tried, or does not go on
  pub record Trying (rest : ℕ) : Type 0 where
    pub part : (w : ℕ) → stands rest w ≡ true → stands (row s (length front)) w ≡ true
    pub tried : (w : ℕ) → stands (row s (length front)) w ≡ true → (stands rest w ≡ true) ⊎ (GoesOn s Rs n (front ++ w ∷ []) → ⊥)

  pub trying_none : (rest : ℕ) → rest ≡ row s (length front) → Trying rest
  trying_none rest e = record { part = λ w st. ap (λ m. stands m w) (sym e) ∙ st; tried = λ w st. inl (ap (λ m. stands m w) e ∙ st) }

  pub trying_more : (rest after v : ℕ) → Without v rest after → (GoesOn s Rs n (front ++ v ∷ []) → ⊥) → Trying rest → Trying after
  trying_more rest after v out fails t = record {
    part = λ w st. t.part w (without_stood rest v after w out st).0;
    tried = λ w st. ⊎_elim (λ r. ⊎_elim (λ e. inr (subst (λ x. GoesOn s Rs n (front ++ x ∷ []) → ⊥) (sym e) fails)) (λ ne. inl (without_stays rest v after w out r ne)) (cases_eq w v)) inr (t.tried w st);
  }

  pub trying_all : (rest : ℕ) → rest ≡ 0 → length front < n → Trying rest → GoesOn s Rs n front → ⊥
  trying_all rest e h t g =
      let by = goes_on_by h g in
      ⊎_elim (λ r. both_ways (stands 0 by.0) (stands_zero by.0) (ap (λ m. stands m by.0) (sym e) ∙ r)) (λ f. f by.2) (t.tried by.0 by.1)

-- a whole plan goes on exactly where it meets every rule
pub whole_goes_on : (s : Sheet) (Rs : List Rule) (plan : Plan) (n : ℕ) → n ≡ length plan → AllByRecursion (Meets plan) Rs → GoesOn s Rs (length plan) (take n plan)
whole_goes_on s Rs plan n e m = record {
  plan = plan;
  long = refl;
  begins = ap (λ k. take k plan) (length-take-le n plan (omega arith));
  standing = λ r h k. absurd (omega (arith, length-take-le n plan (omega arith)));
  meets = m;
}

pub whole_meets : (s : Sheet) (Rs : List Rule) (plan : Plan) (n : ℕ) → n ≡ length plan → GoesOn s Rs (length plan) (take n plan) → AllByRecursion (Meets plan) Rs
whole_meets s Rs plan n e g = subst (λ p. AllByRecursion (Meets p) Rs) same g.meets
  where
    long' : length (take n plan) ≡ n
    long' = length-take-le n plan (omega arith)

    same : g.plan ≡ plan
    same = sym (take_all n g.plan (omega (arith, g.long))) ∙ ap (λ k. take k g.plan) (sym long') ∙ g.begins ∙ take_all n plan (omega arith)

-- where the next row is not there, nothing goes on
pub no_row : (s : Sheet) (Rs : List Rule) (n : ℕ) (front : Plan) → length s ≤ length front → length front < n → GoesOn s Rs n front → ⊥
no_row s Rs n front h k g =
    let st = g.standing (length front) (omega arith) k in
    both_ways (stands (row s (length front)) (get_or g.plan (length front) 0)) (ap (λ m. stands m (get_or g.plan (length front) 0)) (get_or_past s (length front) 0 h) ∙ stands_zero _) st

-- what `meets` answers of a whole plan
pub after_meets : (w : ℕ) (Rs : List Rule) (s : Sheet) (from : ℕ) (plan : Plan) (r : Result Bool CallError) → from ≡ length plan
    → ((k : ℕ) → k < from → get_or plan k 0 < choices) → MeetsAnswer w Rs plan r → GoesOnAnswer w Rs s from plan r
after_meets w Rs s from plan (Ok b) e chosen a =
    (a.0, Decides-like b (λ m. whole_goes_on s Rs plan from e m.1) (λ g. ((λ k h. chosen k (omega arith)), whole_meets s Rs plan from e g)) a.1)
after_meets w Rs s from plan (Err x) e chosen a = a

-- one row further: a choice is written, and what was tried from there keeps the front
module _ (start plan : Plan) (from v : ℕ) (inside : from < length plan) (front : take from plan ≡ take from start) where
  pub next_front : take (from + 1) (set plan from v) ≡ take from start ++ v ∷ []
  next_front = take_more_set plan from v inside ∙ ap (λ t. t ++ v ∷ []) front

  pub front_stays : (after : Plan) → take (from + 1) after ≡ take (from + 1) (set plan from v) → take from after ≡ take from start
  front_stays after e =
      sym (take-take from (from + 1) after (omega arith)) ∙ ap (take from) e ∙ take-take from (from + 1) (set plan from v) (omega arith)
      ∙ take-set plan from v ∙ front

  pub next_chosen : v < choices → ((r : ℕ) → r < from → get_or start r 0 < choices) → (r : ℕ) → r < from + 1 → get_or (set plan from v) r 0 < choices
  next_chosen low chosen =
      below_more (λ r. get_or (set plan from v) r 0 < choices) from
      (λ r h. subst (λ x. x < choices) (sym (get_or-set_other plan from r v 0 (λ e. omega arith) ∙ same r h)) (chosen r h))
      (subst (λ x. x < choices) (sym (get_or-set_same plan from v 0 inside)) low)
    where
      same : (r : ℕ) → r < from → get_or plan r 0 ≡ get_or start r 0
      same r h = sym (get_or-take from plan r 0 h) ∙ ap (λ t. get_or t r 0) front ∙ get_or-take from start r 0 h

-- with no choice made yet, what goes on is a plan
pub plan_from_none : (s : Sheet) (Rs : List Rule) (n : ℕ) → n ≡ length s → GoesOn s Rs n [] → PlanExists s Rs
plan_from_none s Rs n e g = (g.plan, record { whole = g.long ∙ e; each = λ r h. g.standing r (omega arith) (omega arith) }, g.meets)

pub none_from_plan : (s : Sheet) (Rs : List Rule) (n : ℕ) → n ≡ length s → PlanExists s Rs → GoesOn s Rs n []
none_from_plan s Rs n e p = record { plan = p.0; long = p.1.whole ∙ sym e; begins = refl; standing = λ r h k. p.1.each r (omega arith); meets = p.2 }

pub exists_from : (w : ℕ) (Rs : List Rule) (s : Sheet) (memory : Plan) (r : Result Bool CallError) → length memory ≡ length s → GoesOnAnswer w Rs s 0 memory r → ExistsAnswer w Rs s r
exists_from w Rs s memory (Ok b) e a =
    (ap (λ n. first (fits (ltb n w) (plain 24) ∷ [])) (sym e) ∙ a.0, Decides-like b (plan_from_none s Rs (length memory) e) (none_from_plan s Rs (length memory) e) a.1)
exists_from w Rs s memory (Err x) e a = (ap (λ n. first (fits (ltb n w) (plain 24) ∷ [])) (sym e) ∙ a.0, tt)
