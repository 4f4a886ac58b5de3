-- The largest supported sheet under another, as a sheet that can be computed: rows are cut to the choices with support, again and again.
use Rattle.std.proofs.Common.{◌≡◌, ℕ, zero, suc, ◌^◌, ◌<◌, ◌≤◌, Bool, true, ◌&&◌, eqb, ltb, List, [], ◌∷◌, length, set, sym, refl, ap, ◌∙◌, subst, ⊎_elim, arith}
use lib.Bits.{bit_and, and_le_l}
use Rattle.std.specs.List.{AllByRecursion}
use Rattle.std.proofs.lemmas.List.{get_or_past, get_or-set_same, get_or-set_other, length-set}
use Rattle.std.proofs.lemmas.Bool.{and_parts, and_from, eqb-true, ltb-true, cases_lt, cases_eq}
use Rattle.rows.specs.Choices.{choices, stands}
use Rattle.rows.proofs.Masks.{stands_and}
use Rattle.banks.specs.Rules.{Sheet, Rule, row, arity, named, Under, SupportedBy}
use Rattle.trail.specs.Strokes.{Elsewhere}
use Rattle.settling.specs.Settling.{Largest}
use Rattle.settling.proofs.Chaining.{elsewhere_under, elsewhere_above}
use Rattle.settling.proofs.Supporting.{under_self, under_trans, support_above}
use Rattle.cases.proofs.Tuples.{Small, live_tuples, at_place, support_decides}
use Rattle.history_cases.proofs.Small.{every, every_at}

-- a sheet lies under another, and above every sheet of a kind that lies under that one
pub record Closer (Kind : Sheet → Type 0) (s t : Sheet) : Type 0 where
  pub low : Small t
  pub under : Under t s
  pub above : (c : Sheet) → Kind c → Under c s → Under c t

closer_self : {Kind : Sheet → Type 0} {s : Sheet} → Small s → Closer Kind s s
closer_self {s = s} low = record { low = low; under = under_self s; above = λ c k u. u }

closer_trans : {Kind : Sheet → Type 0} {s t u : Sheet} → Closer Kind s t → Closer Kind t u → Closer Kind s u
closer_trans {s = s} {t} {u} a b = record { low = b.low; under = under_trans u t s b.under a.under; above = λ c k h. b.above c k (a.above c k h) }

closer_kind : {Kind Other : Sheet → Type 0} {s t : Sheet} → ((c : Sheet) → Other c → Kind c) → Closer Kind s t → Closer Other s t
closer_kind f a = record { low = a.low; under = a.under; above = λ c k h. a.above c (f c k) h }

-- a row is replaced
pub set_elsewhere : (s : Sheet) (r m : ℕ) → Elsewhere r s (set s r m)
set_elsewhere s r m = record { same = length-set s r m; other = λ k ne. get_or-set_other s r k m 0 ne }

-- the row at a place of a rule is cut to the choices that have support there
abbrev cut : Rule → ℕ → Sheet → Sheet
cut R p s = set s (named R p) (bit_and (row s (named R p)) (at_place p (live_tuples s R)))

module _ (R : Rule) (p : ℕ) (placed : p < arity R) (s : Sheet) (low : Small s) where
  abbrev r : ℕ
  r = named R p

  abbrev left : ℕ
  left = bit_and (row s r) (at_place p (live_tuples s R))

  cut_elsewhere : Elsewhere r s (cut R p s)
  cut_elsewhere = set_elsewhere s r left

  cut_here : row (cut R p s) r ≡ left
  cut_here =
      ⊎_elim (λ h. get_or-set_same s r left 0 h)
      (λ h. get_or_past (cut R p s) r 0 (omega (arith, length-set s r left)) ∙ sym (ap (λ m. bit_and m (at_place p (live_tuples s R))) (get_or_past s r 0 h)))
      (cases_lt r (length s))

  cut_low : Small (cut R p s)
  cut_low k =
      ⊎_elim (λ at. subst (λ x. row (cut R p s) x < 2 ^ choices) (sym at) (omega (arith, cut_here, and_le_l (row s r) (at_place p (live_tuples s R)), low r)))
      (λ ne. subst (λ m. m < 2 ^ choices) (sym (cut_elsewhere.other k ne)) (low k)) (cases_eq k r)

  cut_stands : (v : ℕ) → stands (row (cut R p s) r) v ≡ (stands (row s r) v && stands (at_place p (live_tuples s R)) v)
  cut_stands v = ap (λ m. stands m v) cut_here ∙ stands_and (row s r) (at_place p (live_tuples s R)) v

  cut_part : (v : ℕ) → stands (row (cut R p s) r) v ≡ true → stands (row s r) v ≡ true
  cut_part v on = (and_parts (stands (row s r) v) (stands (at_place p (live_tuples s R)) v) (sym (cut_stands v) ∙ on)).0

  cut_stays : (c : Sheet) → SupportedBy c R → Under c s → (v : ℕ) → stands (row c r) v ≡ true → stands (row (cut R p s) r) v ≡ true
  cut_stays c sup under v on =
      cut_stands v
      ∙ and_from (stands (row s r) v) (stands (at_place p (live_tuples s R)) v) (under.part r v on)
      ((support_decides s R low p v placed).1 (support_above c s R under p v (sup r v on p placed refl)))

  cut_closer : Closer (λ c. SupportedBy c R) s (cut R p s)
  cut_closer = record {
    low = cut_low;
    under = elsewhere_under r s (cut R p s) cut_elsewhere cut_part;
    above = λ c sup under. elsewhere_above r s (cut R p s) cut_elsewhere c under (cut_stays c sup under);
  }

-- at each place, by each rule, and so on
abbrev cuts : Rule → ℕ → Sheet → Sheet
cuts R zero s = s
cuts R (suc p) s = cut R p (cuts R p s)

abbrev sweep : List Rule → Sheet → Sheet
sweep [] s = s
sweep (R ∷ Rs) s = sweep Rs (cuts R (arity R) s)

abbrev pub sweeps : ℕ → List Rule → Sheet → Sheet
sweeps zero Rs s = s
sweeps (suc n) Rs s = sweeps n Rs (sweep Rs s)

cuts_closer : (R : Rule) (n : ℕ) → n ≤ arity R → (s : Sheet) → Small s → Closer (λ c. SupportedBy c R) s (cuts R n s)
cuts_closer R zero h s low = closer_self low
cuts_closer R (suc p) h s low = let rest = cuts_closer R p (omega arith) s low in closer_trans rest (cut_closer R p (omega arith) (cuts R p s) rest.low)

sweep_closer : (Rs : List Rule) (s : Sheet) → Small s → Closer (λ c. AllByRecursion (SupportedBy c) Rs) s (sweep Rs s)
sweep_closer [] s low = closer_self low
sweep_closer (R ∷ Rs) s low =
    let here = cuts_closer R (arity R) (omega arith) s low in
    closer_trans (closer_kind (λ c k. k.0) here) (closer_kind (λ c k. k.1) (sweep_closer Rs (cuts R (arity R) s) here.low))

sweeps_closer : (n : ℕ) (Rs : List Rule) (s : Sheet) → Small s → Closer (λ c. AllByRecursion (SupportedBy c) Rs) s (sweeps n Rs s)
sweeps_closer zero Rs s low = closer_self low
sweeps_closer (suc n) Rs s low = let once = sweep_closer Rs s low in closer_trans once (sweeps_closer n Rs (sweep Rs s) once.low)

-- a sheet that no cut changes is supported, if no row is empty
abbrev steady : Sheet → Rule → Bool
steady s R = every (λ p. eqb (at_place p (live_tuples s R)) (row s (named R p))) (arity R)

abbrev all_steady : Sheet → List Rule → Bool
all_steady s [] = true
all_steady s (R ∷ Rs) = steady s R && all_steady s Rs

abbrev pub supported : Sheet → List Rule → Bool
supported s Rs = every (λ r. ltb 0 (row s r)) (length s) && all_steady s Rs

steady_supported : (s : Sheet) (R : Rule) → Small s → steady s R ≡ true → SupportedBy s R
steady_supported s R low e r v on p h at =
    (support_decides s R low p v h).0
    (subst (λ m. stands m v ≡ true) (sym (eqb-true (at_place p (live_tuples s R)) (row s (named R p)) (every_at _ (arity R) p e h)))
    (subst (λ x. stands (row s x) v ≡ true) (sym at) on))

all_supported : (s : Sheet) (Rs : List Rule) → Small s → all_steady s Rs ≡ true → AllByRecursion (SupportedBy s) Rs
all_supported s [] low e = tt
all_supported s (R ∷ Rs) low e =
    let p = and_parts (steady s R) (all_steady s Rs) e in (steady_supported s R low p.0, all_supported s Rs low p.1)

pub largest : (n : ℕ) (Rs : List Rule) (s : Sheet) → Small s → supported (sweeps n Rs s) Rs ≡ true → Largest Rs s (sweeps n Rs s)
largest n Rs s low e =
    let t = sweeps n Rs s in
    let closer = sweeps_closer n Rs s low in
    let parts = and_parts (every (λ r. ltb 0 (row t r)) (length t)) (all_steady t Rs) e in
    record {
      candidate = record {
        supported = record { rows = λ r h. ltb-true 0 (row t r) (every_at _ (length t) r parts.0 h); rules = all_supported t Rs closer.low parts.1 };
        under = closer.under;
      };
      above = λ c k. closer.above c k.supported.rules k.under;
    }
