-- What every state that a history reaches has: the chain of calls that led to it, and for each open mark the chain to where it was given.
use Rattle.std.proofs.Common.{◌≡◌, ℕ, ◌≤◌, Bool, true, false, ◌||◌, ltb, ◌⊎◌, List, [], ◌∷◌, ◌++◌, length, take, drop, sym, refl, ap, ◌∙◌, subst, inl, inr, ⊎_elim, arith}
use Rattle.std.specs.List.{AllByRecursion}
use Rattle.std.proofs.ByRecursion.{All-weaker, All-push}
use Rattle.std.proofs.lemmas.List.{drop_all, take_all, take-take, take-append-le, length-append, length-take-le}
use Rattle.std.proofs.lemmas.Bool.{cases_lt, lt-ltb, le-ltb, or_left, or_right, or_from}
use Rattle.banks.specs.Rules.{Sheet, Under}
use Rattle.histories.specs.States.{State, Opened, Fresh}
use Rattle.histories.specs.Moves.{GivesMark, GoesBack}
use Rattle.histories.specs.Histories.{Event, History, Leads}
use Rattle.histories.proofs.Effects.{Narrows, undoes, NoBack, Cause, Effect, stays, narrows, marks, backs, keeps, effect}
use Rattle.histories.proofs.Chains.{Quiet, gone_or, Idle, Chain, chain_like}
use Rattle.histories.proofs.Ordering.{all_by, all_front, all_middle, all_both, under_refl, under_trans, Before, Ordered, ordered_push, ordered_front, ordered_middle}

-- A state as the mark that would be given next.
abbrev pub present : State → Opened
present s = record { serial = s.given; rows = s.rows; height = length s.strokes }

-- The calls that a back by the mark would leave lead to its rows and its part of the record.
abbrev pub Level : State → History → List ℕ → Opened → Type 0
Level start h strokes m = Chain start (ltb m.serial) h m.rows (take m.height strokes)

-- So of an open mark, which was given before the present.
abbrev pub Marked : State → History → State → Opened → Type 0
Marked start h s m = Level start h s.strokes m × Before m (present s)

-- The chains to the open marks and to the present; the marks are in the order in which they were given, and the calls met no more marks
-- given than there are now.
pub record Reached (start : State) (h : History) (s : State) : Type 0 where
  pub marks : AllByRecursion (Marked start h s) s.opened
  pub order : Ordered s.opened
  pub now : Chain start (ltb s.given) h s.rows s.strokes
  pub older : AllByRecursion (λ e. e.before.given ≤ s.given) h

-- of two thresholds the lower counts
lower : (a k g : ℕ) → k ≤ a → (ltb a g || ltb k g) ≡ ltb k g
lower a k g h =
    ⊎_elim (λ l. or_right (ltb a g) (ltb k g) (lt-ltb k g l) ∙ sym (lt-ltb k g l)) (λ l. or_from (ltb a g) (ltb k g) (le-ltb a g (omega arith)) (le-ltb k g l) ∙ sym (le-ltb k g l)) (cases_lt k g)

upper : (a k g : ℕ) → a ≤ k → (ltb a g || ltb k g) ≡ ltb a g
upper a k g h =
    ⊎_elim (λ l. or_left (ltb a g) (ltb k g) (lt-ltb a g l) ∙ sym (lt-ltb a g l)) (λ l. or_from (ltb a g) (ltb k g) (le-ltb a g l) (le-ltb k g (omega arith)) ∙ sym (le-ltb a g l)) (cases_lt a g)

or_false : (x y : Bool) → y ≡ false → (x || y) ≡ x
or_false true y e = refl
or_false false y e = e

module _ (start : State) (h : History) (e : Event) where
  -- one more call that adds nothing
  idle_chain : (gone gone' : ℕ → Bool) (rows : Sheet) (strokes : List ℕ) → ((g : ℕ) → gone_or gone' e g ≡ gone g) → Idle gone' e
      → Chain start gone h rows strokes → Chain start gone' (e ∷ h) rows strokes
  idle_chain gone gone' rows strokes same i c = inl (i, chain_like start gone (gone_or gone' e) h rows strokes (all_by _ (λ b. same b.before.given) h) c)

  -- a mark's chain, past a call after which its part of the record is the same
  level_on : (m : Opened) → ((g : ℕ) → gone_or (ltb m.serial) e g ≡ ltb m.serial g) → Idle (ltb m.serial) e
      → take m.height e.after.strokes ≡ take m.height e.before.strokes → Level start h e.before.strokes m → Level start (e ∷ h) e.after.strokes m
  level_on m same i q l =
      subst (Chain start (ltb m.serial) (e ∷ h) m.rows) (sym q)
      (idle_chain (ltb m.serial) (ltb m.serial) m.rows (take m.height e.before.strokes) same i l)

  older_on : e.before.given ≤ e.after.given → AllByRecursion (λ b. b.before.given ≤ e.before.given) h → AllByRecursion (λ b. b.before.given ≤ e.after.given) (e ∷ h)
  older_on more old = (more, All-weaker (λ b. b.before.given ≤ e.before.given) _ (λ b le. omega arith) h old)

  -- a mark before the state that a call left: it was before the one that the call met, and the call leaves no wider rows
  before_on : (m : Opened) → e.before.given ≤ e.after.given → length e.before.strokes ≤ length e.after.strokes → Under e.after.rows e.before.rows
      → Before m (present e.before) → Before m (present e.after)
  before_on m more long under b = record {
    serial = omega (arith, b.serial);
    height = omega (arith, b.height);
    wider = under_trans e.after.rows e.before.rows m.rows under b.wider;
  }

  -- the rows and the record stay, by a call that is no back
  module _ (reached : Reached start h e.before) (nb : NoBack e.call e.answer) (rows : e.after.rows ≡ e.before.rows) (strokes : e.after.strokes ≡ e.before.strokes)
      (more : e.before.given ≤ e.after.given) where
    same_quiet : Quiet e.before e.after
    same_quiet = record {
      wider = subst (Under e.before.rows) (sym rows) (under_refl e.before.rows);
      none = ap (drop (length e.before.strokes)) strokes ∙ drop_all (length e.before.strokes) e.before.strokes (omega arith);
    }

    same_now : Chain start (ltb e.after.given) (e ∷ h) e.after.rows e.after.strokes
    same_now =
        subst (λ r. Chain start (ltb e.after.given) (e ∷ h) r e.after.strokes) (sym rows)
        (subst (Chain start (ltb e.after.given) (e ∷ h) e.before.rows) (sym strokes)
        (inl (
          inr same_quiet,
          chain_like start (ltb e.before.given) (gone_or (ltb e.after.given) e) h e.before.rows e.before.strokes
              (All-weaker (λ b. b.before.given ≤ e.before.given) _ alike h reached.older) reached.now,
        )))
      where
        alike : (b : Event) → b.before.given ≤ e.before.given → gone_or (ltb e.after.given) e b.before.given ≡ ltb e.before.given b.before.given
        alike b old =
            or_false (ltb e.after.given b.before.given) (undoes e.call e.answer b.before.given) (nb b.before.given)
            ∙ le-ltb e.after.given b.before.given (omega arith) ∙ sym (le-ltb e.before.given b.before.given old)

    same_marks : (ms : List Opened) → AllByRecursion (Marked start h e.before) ms → AllByRecursion (Marked start (e ∷ h) e.after) ms
    same_marks ms = All-weaker (Marked start h e.before) _ one ms
      where
        one : (m : Opened) → Marked start h e.before m → Marked start (e ∷ h) e.after m
        one m l = (
          level_on m (λ g. or_false (ltb m.serial g) (undoes e.call e.answer g) (nb g)) (inr same_quiet) (ap (take m.height) strokes) l.0,
          before_on m more (omega (arith, ap length strokes)) (subst (λ r. Under r e.before.rows) (sym rows) (under_refl e.before.rows)) l.1,
        )

    -- with the same marks
    same_reached : e.after.opened ≡ e.before.opened → Reached start (e ∷ h) e.after
    same_reached opened = record {
      marks = subst (AllByRecursion _) (sym opened) (same_marks e.before.opened reached.marks);
      order = subst Ordered (sym opened) reached.order;
      now = same_now;
      older = older_on more reached.older;
    }

    -- with fewer
    fewer_reached : (m : Opened) (later : List Opened) → e.before.opened ≡ e.after.opened ++ m ∷ later → Reached start (e ∷ h) e.after
    fewer_reached m later opened = record {
      marks = same_marks e.after.opened (all_front _ e.after.opened (m ∷ later) (subst (AllByRecursion _) opened reached.marks));
      order = ordered_front e.after.opened (m ∷ later) (subst Ordered opened reached.order);
      now = same_now;
      older = older_on more reached.older;
    }

  module _ (reached : Reached start h e.before) where
    -- a mark is given
    marked_reached : (k : ℕ) → NoBack e.call e.answer → GivesMark k e.before e.after → Reached start (e ∷ h) e.after
    marked_reached k nb gives = record {
      marks = subst (AllByRecursion _) (sym gives.opened) (All-push _ e.before.opened new marked (level, before));
      order = subst Ordered (sym gives.opened) (ordered_push e.before.opened new above reached.order);
      now = same_now reached nb gives.rows gives.strokes more;
      older = older_on more reached.older;
    }
      where
        new : Opened
        new = record { serial = k; rows = e.before.rows; height = length e.before.strokes }

        is_present : new ≡ present e.before
        is_present = ap (λ x. record { serial = x; rows = e.before.rows; height = length e.before.strokes }) gives.serial

        more : e.before.given ≤ e.after.given
        more = omega (arith, gives.given)

        marked : AllByRecursion (Marked start (e ∷ h) e.after) e.before.opened
        marked = same_marks reached nb gives.rows gives.strokes more e.before.opened reached.marks

        above : AllByRecursion (λ m. Before m new) e.before.opened
        above = All-weaker (Marked start h e.before) _ (λ m l. subst (Before m) (sym is_present) l.1) e.before.opened reached.marks

        top : take (length e.before.strokes) e.after.strokes ≡ take (length e.before.strokes) e.before.strokes
        top = ap (take (length e.before.strokes)) gives.strokes

        level : Level start (e ∷ h) e.after.strokes new
        level =
            level_on new (λ g. or_false (ltb k g) (undoes e.call e.answer g) (nb g)) (inr (same_quiet reached nb gives.rows gives.strokes more)) top
            (subst (Level start h e.before.strokes) (sym is_present)
            (subst (Chain start (ltb e.before.given) h e.before.rows) (sym (take_all (length e.before.strokes) e.before.strokes (omega arith))) reached.now))

        before : Before new (present e.after)
        before = record {
          serial = omega (arith, gives.serial, gives.given);
          height = omega (arith, ap length gives.strokes);
          wider = subst (λ r. Under r e.before.rows) (sym gives.rows) (under_refl e.before.rows);
        }

    -- choices are struck
    narrowed_reached : NoBack e.call e.answer → Narrows e.before e.after → Reached start (e ∷ h) e.after
    narrowed_reached nb narrow = record {
      marks = subst (AllByRecursion _) (sym narrow.marks.opened) (All-weaker (Marked start h e.before) _ one e.before.opened reached.marks);
      order = subst Ordered (sym narrow.marks.opened) reached.order;
      now = inr (
        record { stays = le-ltb e.after.given e.before.given (omega (arith, narrow.marks.given)); narrow = narrow; rows_are = refl; strokes_are = refl },
        chain_like start (ltb e.before.given) (gone_or (ltb e.after.given) e) h e.before.rows e.before.strokes (all_by _ alike h) reached.now,
      );
      older = older_on (omega (arith, narrow.marks.given)) reached.older;
    }
      where
        long : length e.before.strokes ≤ length e.after.strokes
        long = omega (arith, ap length narrow.strokes, length-append e.before.strokes narrow.struck)

        alike : (b : Event) → gone_or (ltb e.after.given) e b.before.given ≡ ltb e.before.given b.before.given
        alike b =
            or_false (ltb e.after.given b.before.given) (undoes e.call e.answer b.before.given) (nb b.before.given)
            ∙ ap (λ x. ltb x b.before.given) narrow.marks.given

        one : (m : Opened) → Marked start h e.before m → Marked start (e ∷ h) e.after m
        one m l = (
          level_on m (λ g. or_false (ltb m.serial g) (undoes e.call e.answer g) (nb g)) (inl (lt-ltb m.serial e.before.given l.1.serial))
              (ap (take m.height) narrow.strokes ∙ take-append-le m.height e.before.strokes narrow.struck l.1.height) l.0,
          before_on m (omega (arith, narrow.marks.given)) long narrow.under l.1,
        )

    -- the sheet goes back to a mark
    module _ (k : ℕ) (undo : (g : ℕ) → undoes e.call e.answer g ≡ ltb k g) (goes : GoesBack k e.before e.after) where
      abbrev m : Opened
      m = goes.to

      at : Marked start h e.before m
      at = all_middle _ e.after.opened m goes.closes.later (subst (AllByRecursion _) goes.closes.opened reached.marks)

      long : length e.after.strokes ≡ m.height
      long = ap length goes.strokes ∙ length-take-le m.height e.before.strokes at.1.height

      pub back_quiet : Quiet e.before e.after
      back_quiet = record {
        wider = subst (Under e.before.rows) (sym goes.rows) at.1.wider;
        none = drop_all (length e.before.strokes) e.after.strokes (omega (arith, long, at.1.height));
      }

      back_now : Chain start (ltb e.after.given) (e ∷ h) e.after.rows e.after.strokes
      back_now =
          subst (λ r. Chain start (ltb e.after.given) (e ∷ h) r e.after.strokes) (sym goes.rows)
          (subst (Chain start (ltb e.after.given) (e ∷ h) m.rows) (sym goes.strokes)
          (idle_chain (ltb m.serial) (ltb e.after.given) m.rows (take m.height e.before.strokes) alike (inr back_quiet) at.0))
        where
          alike : (g : ℕ) → gone_or (ltb e.after.given) e g ≡ ltb m.serial g
          alike g =
              ap (λ t. ltb e.after.given g || t) (undo g) ∙ lower e.after.given k g (omega (arith, goes.closes.serial, goes.closes.given, at.1.serial))
              ∙ ap (λ x. ltb x g) (sym goes.closes.serial)

      back_mark : (x : Opened) → Marked start h e.before x × Before x m → Marked start (e ∷ h) e.after x
      back_mark x l = (
        level_on x (λ g. ap (λ t. ltb x.serial g || t) (undo g) ∙ upper x.serial k g (omega (arith, goes.closes.serial, l.1.serial))) (inr back_quiet)
            (ap (take x.height) goes.strokes ∙ take-take x.height m.height e.before.strokes l.1.height) l.0.0,
        record {
          serial = omega (arith, goes.closes.given, l.0.1.serial);
          height = omega (arith, long, l.1.height);
          wider = subst (λ r. Under r x.rows) (sym goes.rows) l.1.wider;
        },
      )

      back_reached : Reached start (e ∷ h) e.after
      back_reached = record {
        marks = All-weaker _ _ back_mark e.after.opened (all_both _ _ e.after.opened
            (all_front _ e.after.opened (m ∷ goes.closes.later) (subst (AllByRecursion _) goes.closes.opened reached.marks))
            (ordered_middle e.after.opened m goes.closes.later (subst Ordered goes.closes.opened reached.order)));
        order = ordered_front e.after.opened (m ∷ goes.closes.later) (subst Ordered goes.closes.opened reached.order);
        now = back_now;
        older = older_on (omega (arith, goes.closes.given)) reached.older;
      }

    -- every call keeps it
    reached_on : Effect e.call e.answer e.before e.after → Reached start (e ∷ h) e.after
    reached_on (stays nb same) =
        same_reached reached nb (ap (λ s. s.rows) same) (ap (λ s. s.strokes) same) (omega (arith, ap (λ s. s.given) same)) (ap (λ s. s.opened) same)
    reached_on (narrows nb cause n) = narrowed_reached nb n
    reached_on (marks k nb g) = marked_reached k nb g
    reached_on (backs k undo g) = back_reached k undo g
    reached_on (keeps k nb g) =
        fewer_reached reached nb g.rows g.strokes (omega (arith, g.closes.given)) g.to g.closes.later g.closes.opened

    -- and strikes, or changes nothing
    pub strikes_or_not : Effect e.call e.answer e.before e.after
        → (Cause e.call e.answer e.before e.after × Narrows e.before e.after) ⊎ Quiet e.before e.after
    strikes_or_not (stays nb same) = inr (same_quiet reached nb (ap (λ s. s.rows) same) (ap (λ s. s.strokes) same) (omega (arith, ap (λ s. s.given) same)))
    strikes_or_not (narrows nb cause n) = inl (cause, n)
    strikes_or_not (marks k nb g) = inr (same_quiet reached nb g.rows g.strokes (omega (arith, g.given)))
    strikes_or_not (backs k undo g) = inr (back_quiet k undo g)
    strikes_or_not (keeps k nb g) = inr (same_quiet reached nb g.rows g.strokes (omega (arith, g.closes.given)))

-- every state that a history reaches from a fresh one has it
pub reached : (start : State) (h : History) (end : State) → Fresh start → Leads start h end → Reached start h end
reached start [] end fresh leads = subst (Reached start []) (sym leads) (record {
  marks = subst (AllByRecursion _) (sym fresh.opened) tt;
  order = subst Ordered (sym fresh.opened) tt;
  now = (refl, fresh.strokes);
  older = tt;
})
reached start (e ∷ h) end fresh leads = subst (Reached start (e ∷ h)) (sym leads.2) (reached_on start h e (reached start h e.before fresh leads.0) (effect leads.1))

-- and so the calls that are not gone back over lead to it
pub chain : (start : State) (h : History) (end : State) → Fresh start → Leads start h end → Chain start (λ _. false) h end.rows end.strokes
chain start h end fresh leads =
    let r = reached start h end fresh leads in
    chain_like start (ltb end.given) (λ _. false) h end.rows end.strokes
    (All-weaker (λ e. e.before.given ≤ end.given) _ (λ e old. sym (le-ltb end.given e.before.given old)) h r.older) r.now
