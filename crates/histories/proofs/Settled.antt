-- What each settle of a history left and told.
use Rattle.std.proofs.Common.{◌≡◌, ℕ, true, false, List, Decides, sym, refl, subst, arith}
use Rattle.std.proofs.lemmas.Bool.{true≢false}
use Rattle.banks.specs.Rules.{Sheet, Rule}
use Rattle.settling.specs.Settling.{Candidate}
use Rattle.histories.specs.States.{State}
use Rattle.histories.specs.Moves.{Call, settle, Outcome, settled, wiped, Accepted, strikes, holds, gives_mark, goes_back, keeps_rows, settles, wipes_out, Moves, refuses, accepts}
use Rattle.histories.specs.Histories.{History, Leads, accepted}
use Rattle.histories.specs.Laws.{is_settled, SettleTells, SettleLaw}
use Rattle.histories.proofs.Making.{moved}

module _ (Rs : List Rule) (w n : ℕ) where
  abbrev Told : Outcome → State → State → Type 0
  Told answer s t = Decides (is_settled answer) ((c : Sheet) × Candidate Rs s.rows c) × SettleTells Rs answer s t

  accepted_tells : {call : Call} {answer : Outcome} {s t : State} → Accepted call answer s t → call ≡ settle w Rs n → Told answer s t
  accepted_tells (strikes a) e = absurd (let z : ◌≡◌ {A = ℕ} 0 1 = cc in omega arith)
  accepted_tells (holds a) e = absurd (let z : ◌≡◌ {A = ℕ} 0 1 = cc in omega arith)
  accepted_tells (gives_mark a) e = absurd (let z : ◌≡◌ {A = ℕ} 0 1 = cc in omega arith)
  accepted_tells (goes_back a) e = absurd (let z : ◌≡◌ {A = ℕ} 0 1 = cc in omega arith)
  accepted_tells (keeps_rows a) e = absurd (let z : ◌≡◌ {A = ℕ} 0 1 = cc in omega arith)
  accepted_tells (settles {w = w'} {n = n'} {c} {Rs = Qs} {s} {t} a) e =
      subst (λ X. Decides true ((c : Sheet) × Candidate X s.rows c) × SettleTells X (settled c) s t) rules (((λ _. (t.rows, a.narrowed.rows.candidate)), (λ _. refl)), (a.narrowed.rows, a.narrowed.count))
    where
      rules : Qs ≡ Rs
      rules = cc
  accepted_tells (wipes_out {w = w'} {n = n'} {k} {Rs = Qs} {s} {t} a same) e =
      subst (λ X. Decides false ((c : Sheet) × Candidate X s.rows c) × SettleTells X (wiped k) s t) rules (((λ f. absurd (true≢false (sym f))), (λ c. absurd (a.none c.0 c.1))), (a, same))
    where
      rules : Qs ≡ Rs
      rules = cc

  moves_tell : {call : Call} {answer : Outcome} {s t : State} → Moves call answer s t → call ≡ settle w Rs n → accepted answer ≡ true → Told answer s t
  moves_tell (refuses why same) e a = absurd (true≢false (sym a))
  moves_tell (accepts why a) e _ = accepted_tells a e

pub settle_law : (start : State) (h : History) (end : State) → Leads start h end → SettleLaw h
settle_law start h end leads later e made w n Rs call a = moves_tell Rs w n (moved start h end leads later e made) call a
