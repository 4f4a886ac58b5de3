-- The record after a history: what the calls that are not gone back over added, each struck choice once.
use Rattle.std.proofs.Common.{◌≡◌, ℕ, ◌/◌, ◌%◌, Bool, true, false, cond, ◌||◌, List, [], ◌∷◌, ◌++◌, length, drop, sym, refl, ap, ◌∙◌, subst, ⊎_elim, append-nil, arith}
use Rattle.std.proofs.lemmas.List.{drop_all, drop_at}
use Rattle.std.proofs.lemmas.Bool.{cases_Bool, both_ways, cond-true, cond-false, true≢false}
use Rattle.rows.specs.Choices.{choices, stands}
use Rattle.banks.specs.Names.{among, apart}
use Rattle.banks.specs.Rules.{Sheet, row, Under}
use Rattle.trail.specs.Strokes.{stroke}
use Rattle.trail.proofs.Listing.{not_among, among_either, apart_append}
use Rattle.settling.specs.Settling.{EachOnce}
use Rattle.histories.specs.States.{State, Fresh}
use Rattle.histories.specs.Moves.{Call, Outcome, Accepted, strikes, holds, gives_mark, goes_back, keeps_rows, settles, wipes_out, Moves, refuses, accepts}
use Rattle.histories.specs.Histories.{Event, History, Leads, gone_back}
use Rattle.histories.specs.Laws.{by_hand, added, recorded, rising, RecordLaw}
use Rattle.histories.proofs.Striking.{others, others_rising, strokes_rising}
use Rattle.histories.proofs.Effects.{Narrows, undoes}
use Rattle.histories.proofs.Chains.{Quiet, gone_or, Idle, Chain}
use Rattle.histories.proofs.Standing.{gone_back_push}
use Rattle.histories.proofs.Reaching.{chain}
use Rattle.histories.proofs.Making.{moved, struck_or_not}

-- what is added at the end is what comes past the record as it was
added_is : (s t : State) (es : List ℕ) → t.strokes ≡ s.strokes ++ es → drop (length s.strokes) t.strokes ≡ es
added_is s t es e = ap (drop (length s.strokes)) e ∙ drop_at s.strokes es (length s.strokes) refl

-- the record is what the calls added that are not gone back over
module _ (start : State) where
  adds_none : (gone : ℕ → Bool) (e : Event) → Idle gone e → cond (gone e.before.given) [] (added e) ≡ []
  adds_none gone e i = ⊎_elim (λ g. cond-true (gone e.before.given) [] (added e) g) (λ q. none (gone e.before.given) (added e) q.none) i
    where
      none : (b : Bool) (es : List ℕ) → es ≡ [] → cond b [] es ≡ []
      none true es q = refl
      none false es q = q

  pub chain_recorded : (gone : ℕ → Bool) (later h : History) (rows : Sheet) (strokes : List ℕ) → ((g : ℕ) → gone_back later g ≡ gone g)
      → Chain start gone h rows strokes → strokes ≡ recorded later h
  chain_recorded gone later [] rows strokes same c = c.1
  chain_recorded gone later (e ∷ h) rows strokes same c =
      let g = e.before.given in
      let on : (k : ℕ) → gone_back (later ++ e ∷ []) k ≡ gone_or gone e k = λ k. gone_back_push later e k ∙ ap (λ t. t || undoes e.call e.answer k) (same k) in
      ⊎_elim
      (λ i.
      chain_recorded (gone_or gone e) (later ++ e ∷ []) h rows strokes on i.1
      ∙ sym (append-nil (recorded (later ++ e ∷ []) h)) ∙ ap (λ l. recorded (later ++ e ∷ []) h ++ l) (sym (ap (λ b. cond b [] (added e)) (same g) ∙ adds_none gone e i.0)))
      (λ n.
      n.0.strokes_are ∙ n.0.narrow.strokes
      ∙ ap (λ l. l ++ n.0.narrow.struck) (chain_recorded (gone_or gone e) (later ++ e ∷ []) h e.before.rows e.before.strokes on n.1)
      ∙ ap (λ l. recorded (later ++ e ∷ []) h ++ l)
      (sym (ap (λ b. cond b [] (added e)) (same g) ∙ cond-false (gone g) [] (added e) n.0.stays ∙ added_is e.before e.after n.0.narrow.struck n.0.narrow.strokes)))
      c

  -- what is in the record is there once, and does not stand
  abbrev Gone : Sheet → List ℕ → Type 0
  Gone rows strokes = (apart strokes ≡ true) × ((x : ℕ) → among x strokes ≡ true → stands (row rows (x / choices)) (x % choices) ≡ false)

  fewer : (s t : Sheet) (r v : ℕ) → Under t s → stands (row s r) v ≡ false → stands (row t r) v ≡ false
  fewer s t r v u f = ⊎_elim (λ e. absurd (both_ways (stands (row s r) v) f (u.part r v e))) (λ e. e) (cases_Bool (stands (row t r) v))

  gone_on : (s t : State) → Narrows s t → Gone s.rows s.strokes → Gone t.rows t.strokes
  gone_on s t n g = subst (Gone t.rows) (sym n.strokes) (
    apart_append s.strokes n.struck g.0 n.each.once
        (λ x a. not_among x n.struck (λ b. both_ways (stands (row s.rows (x / choices)) (x % choices)) (g.1 x a) ((n.each.exact x).0 b).0)),
    (λ x a. ⊎_elim (λ l. fewer s.rows t.rows (x / choices) (x % choices) n.under (g.1 x l)) (λ l. ((n.each.exact x).0 l).1) (among_either x s.strokes n.struck a)),
  )

  pub chain_gone : (gone : ℕ → Bool) (h : History) (rows : Sheet) (strokes : List ℕ) → Chain start gone h rows strokes → Gone rows strokes
  chain_gone gone [] rows strokes c = subst (Gone rows) (sym c.1) (refl, λ x m. absurd (true≢false (sym m)))
  chain_gone gone (e ∷ h) rows strokes c =
      ⊎_elim (λ i. chain_gone (gone_or gone e) h rows strokes i.1)
      (λ n.
      subst (λ r. Gone r strokes) (sym n.0.rows_are)
      (subst (Gone e.after.rows) (sym n.0.strokes_are)
      (gone_on e.before e.after n.0.narrow (chain_gone (gone_or gone e) h e.before.rows e.before.strokes n.1))))
      c

-- each call adds what it struck
quiet_each : (s t : State) → Quiet s t → EachOnce s.rows t.rows (drop (length s.strokes) t.strokes)
quiet_each s t q = subst (EachOnce s.rows t.rows) (sym q.none) (record {
  exact = λ e. ((λ m. absurd (true≢false (sym m))), (λ k. absurd (both_ways (stands (row t.rows (e / choices)) (e % choices)) k.1 (q.wider.part (e / choices) (e % choices) k.0))));
  once = refl;
})

narrows_each : (s t : State) → Narrows s t → EachOnce s.rows t.rows (drop (length s.strokes) t.strokes)
narrows_each s t n = subst (EachOnce s.rows t.rows) (sym (added_is s t n.struck n.strokes)) n.each

-- a strike or a hold adds in rising order
accepted_rising : {call : Call} {answer : Outcome} {s t : State} → Accepted call answer s t → by_hand call ≡ true → rising (drop (length s.strokes) t.strokes) ≡ true
accepted_rising (strikes {r} {v} {s} {t} a) e = ap rising (added_is s t (stroke r v ∷ []) a.strokes)
accepted_rising (holds {r} {v} {s} {t} a) e = ap rising (added_is s t _ a.strokes) ∙ strokes_rising r (others s.rows r v) (others_rising s.rows r v)
accepted_rising (gives_mark a) e = absurd (true≢false (sym e))
accepted_rising (goes_back a) e = absurd (true≢false (sym e))
accepted_rising (keeps_rows a) e = absurd (true≢false (sym e))
accepted_rising (settles a) e = absurd (true≢false (sym e))
accepted_rising (wipes_out a same) e = absurd (true≢false (sym e))

moves_rising : {call : Call} {answer : Outcome} {s t : State} → Moves call answer s t → by_hand call ≡ true → rising (drop (length s.strokes) t.strokes) ≡ true
moves_rising (refuses {s = s} {t} why same) e =
    ap rising (ap (λ x. drop (length s.strokes) x.strokes) same ∙ drop_all (length s.strokes) s.strokes (omega arith))
moves_rising (accepts why a) e = accepted_rising a e

pub record_law : (start : State) (h : History) (end : State) → Fresh start → Leads start h end → RecordLaw h end
record_law start h end fresh leads =
    let led = chain start h end fresh leads in record {
      whole = chain_recorded start (λ _. false) [] h end.rows end.strokes (λ g. refl) led;
      each = λ later e made. ⊎_elim (λ n. narrows_each e.before e.after n.1) (quiet_each e.before e.after) (struck_or_not start h end leads later e made fresh);
      once = (chain_gone start (λ _. false) h end.rows end.strokes led).0;
      held = λ later e made by. moves_rising (moved start h end leads later e made) by;
    }
