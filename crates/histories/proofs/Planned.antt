-- Plans after a history: one that meets the rules of each settle that is not gone back over is ended by strikes and holds alone.
use Rattle.std.proofs.Common.{◌≡◌, ℕ, zero, suc, ◌^◌, ◌<◌, Bool, true, false, ◌&&◌, ◌⊎◌, List, [], ◌∷◌, map, length, get_or, sym, refl, ap, ◌∙◌, subst, inl, inr, ⊎_elim, pow-suc, arith, pow_pos}
use Rattle.std.specs.List.{AllByRecursion}
use Rattle.std.proofs.ByRecursion.{All-weaker}
use Rattle.std.proofs.lemmas.List.{length-map, get_or-map, get_or_past}
use Rattle.std.proofs.lemmas.Bool.{cases_Bool, cases_lt, both_ways, and_parts, and_from, and_cases, eqb-true, eq-eqb, true≢false}
use Rattle.rows.specs.Choices.{stands}
use Rattle.rows.proofs.Masks.{stands_zero, stands_bit, some_stands}
use Rattle.banks.specs.Rules.{Sheet, Rule, Plan, PlanStands, row, named, arity, Meets, Live, SupportedBy, NoRowEmpty, Supported, Under}
use Rattle.settling.specs.Settling.{Candidate, Largest}
use Rattle.histories.specs.States.{State, Fresh}
use Rattle.histories.specs.Histories.{Event, History, Leads, Made, gone_back}
use Rattle.histories.specs.Laws.{StruckOf, by_hand, MeetsSettled, PlanLaw}
use Rattle.histories.proofs.Effects.{Narrows, SettledBy}
use Rattle.histories.proofs.Chains.{Quiet}
use Rattle.histories.proofs.Standing.{Ended, made_undone, undone_holds}
use Rattle.histories.proofs.Reaching.{chain}
use Rattle.histories.proofs.Ordering.{all_both}
use Rattle.histories.proofs.Making.{struck_or_not}
use Rattle.histories.proofs.Undoing.{undo_law}

-- a test for a plan that stands
abbrev pub all_stand : Plan → Sheet → Bool
all_stand [] [] = true
all_stand [] (m ∷ s) = false
all_stand (v ∷ plan) [] = false
all_stand (v ∷ plan) (m ∷ s) = stands m v && all_stand plan s

pub stands_all : (plan : Plan) (s : Sheet) → PlanStands s plan → all_stand plan s ≡ true
stands_all [] [] p = refl
stands_all [] (m ∷ s) p = absurd (omega (arith, p.whole))
stands_all (v ∷ plan) [] p = absurd (omega (arith, p.whole))
stands_all (v ∷ plan) (m ∷ s) p =
    and_from (stands m v) (all_stand plan s) (p.each 0 (omega arith)) (stands_all plan s (record { whole = omega (arith, p.whole); each = λ r h. p.each (suc r) (omega arith) }))

pub all_stands : (plan : Plan) (s : Sheet) → all_stand plan s ≡ true → PlanStands s plan
all_stands [] [] e = record { whole = refl; each = λ r h. absurd (omega arith) }
all_stands [] (m ∷ s) e = absurd (true≢false (sym e))
all_stands (v ∷ plan) [] e = absurd (true≢false (sym e))
all_stands (v ∷ plan) (m ∷ s) e =
    let p = and_parts (stands m v) (all_stand plan s) e in
    let rest = all_stands plan s p.1 in
    record { whole = omega (arith, rest.whole); each = further p.0 rest.each }
  where
    further : stands m v ≡ true → ((r : ℕ) → r < length s → stands (row s r) (get_or plan r 0) ≡ true) → (r : ℕ) → r < length (m ∷ s) → stands (row (m ∷ s) r) (get_or (v ∷ plan) r 0) ≡ true
    further here rest zero h = here
    further here rest (suc r) h = rest r (omega arith)

-- where it does not stand, some row has lost its choice
lost_at : (plan : Plan) (s : Sheet) → length plan ≡ length s → all_stand plan s ≡ false → (r : ℕ) × (r < length plan) × (stands (row s r) (get_or plan r 0) ≡ false)
lost_at [] [] long e = absurd (true≢false e)
lost_at [] (m ∷ s) long e = absurd (omega (arith, long))
lost_at (v ∷ plan) [] long e = absurd (omega (arith, long))
lost_at (v ∷ plan) (m ∷ s) long e =
    ⊎_elim (λ f. (0, omega arith, f)) (λ f. let r = lost_at plan s (omega (arith, long)) f in let low = r.1 in (suc r.0, omega arith, r.2)) (and_cases (stands m v) (all_stand plan s) e)

below_power : (n : ℕ) → n < 2 ^ n
below_power zero = omega arith
below_power (suc n) = omega (arith, below_power n, pow-suc 2 n)

-- a plan that stands on rows stands on wider ones
module _ (plan : Plan) where
  pub plan_wider : (s t : Sheet) → Under s t → all_stand plan s ≡ true → all_stand plan t ≡ true
  plan_wider s t u e =
      let p = all_stands plan s e in
      stands_all plan t (record { whole = p.whole ∙ u.same; each = λ r h. u.part r (get_or plan r 0) (p.each r (omega (arith, u.same))) })

  -- the rows in each of which only the plan's choice stands
  abbrev alone : Sheet
  alone = map (λ v. 2 ^ v) plan

  alone_long : length alone ≡ length plan
  alone_long = length-map plan (λ v. 2 ^ v)

  alone_at : (r : ℕ) → r < length plan → row alone r ≡ 2 ^ get_or plan r 0
  alone_at r h = get_or-map (λ v. 2 ^ v) plan r 0 0 h

  alone_stands : (r : ℕ) → r < length plan → stands (row alone r) (get_or plan r 0) ≡ true
  alone_stands r h = ap (λ m. stands m (get_or plan r 0)) (alone_at r h) ∙ stands_bit (get_or plan r 0) (get_or plan r 0) ∙ eq-eqb (get_or plan r 0) (get_or plan r 0) refl

  stands_alone : (r v : ℕ) → stands (row alone r) v ≡ true → (r < length plan) × (v ≡ get_or plan r 0)
  stands_alone r v e =
      ⊎_elim (λ h. (h, eqb-true v (get_or plan r 0) (sym (stands_bit (get_or plan r 0) v) ∙ ap (λ m. stands m v) (sym (alone_at r h)) ∙ e)))
      (λ h. absurd (both_ways (stands (row alone r) v) (ap (λ m. stands m v) (get_or_past alone r 0 (omega (arith, alone_long))) ∙ stands_zero v) e)) (cases_lt r (length plan))

  -- where some sheet is supported by a rule, it names only rows of the sheet, or none of them
  module _ (t : Sheet) (R : Rule) (full : NoRowEmpty t) (supported : SupportedBy t R) where
    named_below : (p : ℕ) → p < arity R → named R p < length t → (q : ℕ) → q < arity R → named R q < length t
    named_below p h low q k =
        let some = some_stands (row t (named R p)) (row t (named R p)) (full (named R p) low) (below_power (row t (named R p))) in
        let support = supported (named R p) some.0 some.1 p h refl in
        let v = get_or support.tuple q 0 in
        ⊎_elim (λ l. l)
        (λ past. absurd (both_ways (stands (row t (named R q)) v) (ap (λ m. stands m v) (get_or_past t (named R q) 0 past) ∙ stands_zero v) (support.live.standing q k)))
        (cases_lt (named R q) (length t))

    -- so a plan that meets it is supported alone
    alone_supported : length plan ≡ length t → Meets plan R → SupportedBy alone R
    alone_supported long meets r v e p h is =
        let here = stands_alone r v e in
        let low : named R p < length t = omega (arith, here.0) in
        record { placed = h; tuple = map (λ k. get_or plan k 0) R.names; live = live low; there = at p h ∙ ap (λ k. get_or plan k 0) is ∙ sym here.1 }
      where
        at : (q : ℕ) → q < arity R → get_or (map (λ k. get_or plan k 0) R.names) q 0 ≡ get_or plan (named R q) 0
        at q k = get_or-map (λ j. get_or plan j 0) R.names q 0 0 k

        live : named R p < length t → Live alone R (map (λ k. get_or plan k 0) R.names)
        live low = record {
          whole = length-map R.names (λ k. get_or plan k 0);
          permitted = meets;
          standing = λ q k. ap (stands (row alone (named R q))) (at q k) ∙ alone_stands (named R q) (omega (arith, named_below p h low q k));
        }

  -- a settle keeps a plan that meets its rules
  module _ (Rs : List Rule) (s t : Sheet) (largest : Largest Rs s t) (stood : PlanStands s plan) (meets : AllByRecursion (Meets plan) Rs) where
    candidate : Candidate Rs s alone
    candidate = record {
      supported = record {
        rows = λ r h. subst (λ m. 0 < m) (sym (alone_at r (omega (arith, alone_long)))) (pow_pos (get_or plan r 0));
        rules = All-weaker _ _ (λ R both. alone_supported t R supported.rows both.0 long both.1) Rs (all_both _ _ Rs supported.rules meets);
      };
      under = record { same = alone_long ∙ stood.whole; part = part };
    }
      where
        supported : Supported t Rs
        supported = largest.candidate.supported

        long : length plan ≡ length t
        long = stood.whole ∙ sym largest.candidate.under.same

        part : (r v : ℕ) → stands (row alone r) v ≡ true → stands (row s r) v ≡ true
        part r v e = let here = stands_alone r v e in ap (stands (row s r)) here.1 ∙ stood.each r (omega (arith, here.0, stood.whole))

    pub settle_keeps : all_stand plan t ≡ true
    settle_keeps = plan_wider alone t (largest.above alone candidate) (stands_all plan alone (record { whole = sym alone_long; each = λ r h. alone_stands r (omega (arith, alone_long)) }))

module _ (start : State) (h : History) (end : State) (fresh : Fresh start) (leads : Leads start h end) where
  -- a call that ended a plan struck one of its choices by hand, or is a settle that is gone back over
  ended_by : (plan : Plan) → MeetsSettled plan h → (later : History) (e : Event) → Made h later e → Ended (all_stand plan) (plan_wider plan) e
      → ((by_hand e.call ≡ true) × StruckOf plan e) ⊎ (gone_back later e.before.given ≡ true)
  ended_by plan meets later e made ended = ⊎_elim (λ n. ⊎_elim (λ by. inl (by, by_strike n.1)) (λ s. inr (by_settle s)) n.0) by_none (struck_or_not start h end leads later e made fresh)
    where
      stood : PlanStands e.before.rows plan
      stood = all_stands plan e.before.rows ended.0

      by_strike : Narrows e.before e.after → StruckOf plan e
      by_strike n =
          let at = lost_at plan e.after.rows (stood.whole ∙ sym n.under.same) ended.1 in
          let low = at.1 in
          (at.0, (low, (stood.each at.0 (omega (arith, stood.whole)), at.2)))

      by_settle : SettledBy e.call e.answer e.before e.after → gone_back later e.before.given ≡ true
      by_settle s = ⊎_elim (λ g. g)
          (λ f. absurd (both_ways (all_stand plan e.after.rows) ended.1 (settle_keeps plan s.rules e.before.rows e.after.rows s.rows stood
          (meets later e made s.width s.capacity s.count s.rules s.call_is s.answer_is (both_ways (gone_back later e.before.given) f)))))
          (cases_Bool (gone_back later e.before.given))

      by_none : Quiet e.before e.after → ((by_hand e.call ≡ true) × StruckOf plan e) ⊎ (gone_back later e.before.given ≡ true)
      by_none q = absurd (both_ways (all_stand plan e.after.rows) ended.1 (plan_wider plan e.before.rows e.after.rows q.wider ended.0))

  pub plan_law : PlanLaw start h end
  plan_law plan stood meets = (
    (λ p later e made by struck.
        let r = struck.0 in
        let low = struck.1.0 in
        ((undo_law start h end fresh leads r (get_or plan r 0)).0 (p.each r (omega (arith, p.whole)))).1 later e made struck.1.1),
    (λ undone.
        all_stands plan end.rows (undone_holds (all_stand plan) (plan_wider plan) start (λ _. false) h end.rows end.strokes (chain start h end fresh leads) (stands_all plan start.rows stood)
        (made_undone (Ended (all_stand plan) (plan_wider plan)) h
        (λ later e made ended. ⊎_elim (λ s. undone later e made s.0 s.1) (λ g. g) (ended_by plan meets later e made ended))))),
  )
