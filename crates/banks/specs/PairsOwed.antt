-- A pair keeps what every bank owes, since its two banks do.
use Rattle.std.specs.Prelude.{◌≡◌, ℕ, ◌≤◌, max, Bool, true, false, cond, ◌&&◌, leb, List, [], ◌∷◌, ◌++◌, length, nat_le, nat_lt, refl}
use Rattle.std.proofs.Common.{ap, ◌∙◌, arith}
use Rattle.std.proofs.ByRecursion.{All-append, All-weaker}
use Rattle.std.proofs.lemmas.List.{length-append}
use Rattle.std.proofs.lemmas.Bool.{and_parts, and_from, leb-true, le-leb, ltb-true, lt-ltb}
use Rattle.banks.specs.Lawful.{Lawful, may_hold, max_width, max_rules}
use Rattle.banks.specs.Names.{may_name, apart, below, max_arity}
use Rattle.banks.specs.Pairs.{fit_together, pair_width, pair_rules}
use Rattle.banks.specs.Rules.{Rule}

-- rows below a width are below a larger one
wider : (w u : ℕ) → w ≤ u → (rs : List ℕ) → below w rs ≡ true → below u rs ≡ true
wider w u h [] e = refl
wider w u h (r ∷ rs) e =
    let p = and_parts (nat_lt r w) (below w rs) e in
    and_from (nat_lt r u) (below u rs) (lt-ltb r u (omega (arith, ltb-true r w p.0))) (wider w u h rs p.1)

may_name_wider : (w u : ℕ) → w ≤ u → (rs : List ℕ) → may_name w rs ≡ true → may_name u rs ≡ true
may_name_wider w u h rs e =
    let p = and_parts (nat_le 1 (length rs) && nat_le (length rs) max_arity && apart rs) (below w rs) e in
    and_from (nat_le 1 (length rs) && nat_le (length rs) max_arity && apart rs) (below u rs) p.0 (wider w u h rs p.1)

held : (w n : ℕ) → may_hold w n ≡ true → (1 ≤ w) × (w ≤ max_width)
held w n e =
    let p = and_parts (nat_le 1 w && nat_le w max_width) (nat_le n max_rules) e in
    let q = and_parts (nat_le 1 w) (nat_le w max_width) p.0 in
    (leb-true 1 w q.0, leb-true w max_width q.1)

joined : (w : ℕ) (Rs : List Rule) (u : ℕ) (Ss : List Rule) → Lawful w Rs → Lawful u Ss → fit_together Rs Ss ≡ true → Lawful (max w u) (Rs ++ Ss)
joined w Rs u Ss l k f =
    let a = held w (length Rs) l.size in
    let b = held u (length Ss) k.size in
    record {
      size =
          and_from (nat_le 1 (max w u) && nat_le (max w u) max_width) (nat_le (length (Rs ++ Ss)) max_rules)
          (and_from (nat_le 1 (max w u)) (nat_le (max w u) max_width) (le-leb 1 (max w u) (omega arith)) (le-leb (max w u) max_width (omega arith)))
          (ap (λ n. leb n max_rules) (length-append Rs Ss) ∙ f);
      names =
          All-append (λ R. may_name (max w u) R.names ≡ true) Rs Ss
          (All-weaker _ _ (λ R e. may_name_wider w (max w u) (omega arith) R.names e) Rs l.names)
          (All-weaker _ _ (λ R e. may_name_wider u (max w u) (omega arith) R.names e) Ss k.names);
    }

by_fit : (b : Bool) (w : ℕ) (Rs : List Rule) → (b ≡ true → Lawful w Rs) → Lawful (cond b w 1) (cond b Rs [])
by_fit true w Rs l = l refl
by_fit false w Rs l = record { size = refl; names = tt }

pub pair_lawful : (w : ℕ) (Rs : List Rule) (u : ℕ) (Ss : List Rule) → Lawful w Rs → Lawful u Ss → Lawful (pair_width w Rs u Ss) (pair_rules Rs Ss)
pair_lawful w Rs u Ss l k = by_fit (fit_together Rs Ss) (max w u) (Rs ++ Ss) (joined w Rs u Ss l k)
