-- What holds of the rows after a history: a property that striking may end and never begins holds exactly when it did at the start and
-- every call that ended it is gone back over.
use Rattle.std.proofs.Common.{◌≡◌, ℕ, Bool, true, false, ◌||◌, List, [], ◌∷◌, ◌++◌, sym, refl, ap, ◌∙◌, subst, ⊎_elim}
use Rattle.std.proofs.lemmas.Bool.{cases_Bool, both_ways}
use Rattle.banks.specs.Rules.{Sheet, Under}
use Rattle.histories.specs.States.{State}
use Rattle.histories.specs.Histories.{Event, History, Made, gone_back}
use Rattle.histories.proofs.Effects.{undoes}
use Rattle.histories.proofs.Chains.{Quiet, gone_or, Chain}

pub or_assoc : (x y z : Bool) → ((x || y) || z) ≡ (x || (y || z))
or_assoc true y z = refl
or_assoc false y z = refl

or_none : (x : Bool) → (x || false) ≡ x
or_none true = refl
or_none false = refl

-- one call more, the oldest of those that came later
pub gone_back_push : (later : History) (e : Event) (g : ℕ) → gone_back (later ++ e ∷ []) g ≡ (gone_back later g || undoes e.call e.answer g)
gone_back_push [] e g = or_none (undoes e.call e.answer g)
gone_back_push (b ∷ later) e g =
    ap (λ t. undoes b.call b.answer g || t) (gone_back_push later e g) ∙ sym (or_assoc (undoes b.call b.answer g) (gone_back later g) (undoes e.call e.answer g))

module _ (Q : Event → Type 0) where
  -- every call of a history that is so is gone back over
  abbrev pub Undone : (ℕ → Bool) → History → Type 0
  Undone gone [] = Unit {0}
  Undone gone (e ∷ earlier) = (Q e → gone e.before.given ≡ true) × Undone (gone_or gone e) earlier

  undone_at : (gone : ℕ → Bool) (later : History) (e : Event) (earlier : History) → Undone gone (later ++ e ∷ earlier) → Q e → (gone e.before.given || gone_back later e.before.given) ≡ true
  undone_at gone [] e earlier u q = or_none (gone e.before.given) ∙ u.0 q
  undone_at gone (b ∷ later) e earlier u q =
      sym (or_assoc (gone e.before.given) (undoes b.call b.answer e.before.given) (gone_back later e.before.given))
      ∙ undone_at (gone_or gone b) later e earlier u.1 q

  pub undone_made : (h : History) → Undone (λ _. false) h → (later : History) (e : Event) → Made h later e → Q e → gone_back later e.before.given ≡ true
  undone_made h u later e m q = undone_at (λ _. false) later e m.earlier (subst (Undone (λ _. false)) m.split u) q

  made_from : (gone : ℕ → Bool) (h : History)
      → ((later : History) (e : Event) → Made h later e → Q e → (gone e.before.given || gone_back later e.before.given) ≡ true) → Undone gone h
  made_from gone [] f = tt
  made_from gone (b ∷ h) f = (
    (λ q. sym (or_none (gone b.before.given)) ∙ f [] b (record { earlier = h; split = refl }) q),
    made_from (gone_or gone b) h
        (λ later e m q.
        or_assoc (gone e.before.given) (undoes b.call b.answer e.before.given) (gone_back later e.before.given)
        ∙ f (b ∷ later) e (record { earlier = m.earlier; split = ap (λ l. b ∷ l) m.split }) q),
  )

  pub made_undone : (h : History) → ((later : History) (e : Event) → Made h later e → Q e → gone_back later e.before.given ≡ true) → Undone (λ _. false) h
  made_undone h f = made_from (λ _. false) h f

-- a property of rows that wider rows have too
module _ (R : Sheet → Bool) (up : (s t : Sheet) → Under s t → R s ≡ true → R t ≡ true) where
  -- a call ended it
  abbrev pub Ended : Event → Type 0
  Ended e = (R e.before.rows ≡ true) × (R e.after.rows ≡ false)

  not_ended : (e : Event) → Quiet e.before e.after → Ended e → ⊥
  not_ended e q l = both_ways (R e.after.rows) l.1 (up e.before.rows e.after.rows q.wider l.0)

  module _ (start : State) where
    pub ended_undone : (gone : ℕ → Bool) (h : History) (rows : Sheet) (strokes : List ℕ)
        → Chain start gone h rows strokes → R rows ≡ true → (R start.rows ≡ true) × Undone Ended gone h
    ended_undone gone [] rows strokes c r = (ap R (sym c.0) ∙ r, tt)
    ended_undone gone (e ∷ h) rows strokes c r =
        ⊎_elim
        (λ i.
        let rest = ended_undone (gone_or gone e) h rows strokes i.1 r in
        (rest.0, ((λ l. ⊎_elim (λ g. g) (λ q. absurd (not_ended e q l)) i.0), rest.1)))
        (λ n.
        let held : R e.after.rows ≡ true = ap R (sym n.0.rows_are) ∙ r in
        let rest = ended_undone (gone_or gone e) h e.before.rows e.before.strokes n.1 (up e.after.rows e.before.rows n.0.narrow.under held) in
        (rest.0, ((λ l. absurd (both_ways (R e.after.rows) l.1 held)), rest.1)))
        c

    pub undone_holds : (gone : ℕ → Bool) (h : History) (rows : Sheet) (strokes : List ℕ)
        → Chain start gone h rows strokes → R start.rows ≡ true → Undone Ended gone h → R rows ≡ true
    undone_holds gone [] rows strokes c r u = ap R c.0 ∙ r
    undone_holds gone (e ∷ h) rows strokes c r u =
        ⊎_elim (λ i. undone_holds (gone_or gone e) h rows strokes i.1 r u.1)
        (λ n.
        let before = undone_holds (gone_or gone e) h e.before.rows e.before.strokes n.1 r u.1 in
        ap R n.0.rows_are
        ∙ ⊎_elim (λ t. t) (λ f. absurd (both_ways (gone e.before.given) n.0.stays (u.0 (before, f)))) (cases_Bool (R e.after.rows)))
        c
