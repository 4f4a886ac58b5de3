-- Strikes one after another, and the rules that wait for them.
use Rattle.std.proofs.Common.{◌≡◌, ℕ, ◌+◌, ◌/◌, ◌^◌, ◌<◌, ◌≤◌, true, false, ◌⊎◌, List, [], ◌++◌, length, get_or, replicate, take, Decides, sym, refl, ap, ◌∙◌, subst, inl, inr, ⊎_elim, append_assoc, append-nil, arith}
use lib.Bits.{bit_and}
use Rattle.std.proofs.lemmas.List.{get_or-take, length-replicate}
use Rattle.std.proofs.lemmas.Bool.{cases_lt, cases_eq, ne_eqb}
use Rattle.rows.specs.Choices.{choices, stands}
use Rattle.rows.proofs.Masks.{same_mask, stands_and, stands_shr, stands_high, not_zero}
use Rattle.banks.specs.Calls.{rule_at, Shows}
use Rattle.banks.specs.Lawful.{Lawful}
use Rattle.banks.specs.Names.{among}
use Rattle.banks.specs.Rules.{Sheet, Rule, row, arity, named, SupportAt, SupportedBy, Under}
use Rattle.banks.proofs.Naming.{rule_named}
use Rattle.trail.specs.Strokes.{strokes_of, standing, restored}
use Rattle.trail.specs.Trails.{Narrows}
use Rattle.trail.proofs.Listing.{among_get_or}
use Rattle.trail.proofs.Restoring.{restored_append}
use Rattle.waiting.specs.Waiting.{Numbers}
use Rattle.settling.specs.Loop.{Strikes, LeftAs, NarrowedTo, Brought, Woken, Advance}
use Rattle.settling.specs.Settling.{Chain}
use Rattle.settling.specs.States.{State}
use Rattle.settling.specs.Settling.Chain.{start, ◌then◌}
use Rattle.settling.proofs.Chaining.{chain_under}
use Rattle.settling.proofs.Cutting.{cuts_from, chain_cut}
use Rattle.settling.proofs.Ending.{any_stands}
use Rattle.settling.proofs.Recording.{each_once_none, each_once_row, each_once_more}
use Rattle.settling.proofs.Revising.{Revising, revising_none, revising_same, shown_part, revising_narrowed, some_left, revising_all, shows_first}
use Rattle.settling.proofs.Standing.{standing_falls, standing_under}
use Rattle.settling.proofs.Waking.{none_named}

-- a mask of which nothing stands past the choices fits
pub low_mask : (m : ℕ) → ((v : ℕ) → choices ≤ v → stands m v ≡ false) → m < 2 ^ choices
low_mask m out = ⊎_elim (λ e. omega arith) (λ ne. absurd (high (any_stands (m / 2 ^ choices) (omega arith)))) (cases_eq (m / 2 ^ choices) 0)
  where
    high : (v : ℕ) × (stands (m / 2 ^ choices) v ≡ true) → ⊥
    high v = grind (arith, out (choices + v.0), stands_shr m choices v.0, v.1)

-- so a narrowed row fits
pub narrowed_fits : (r wanted : ℕ) (s t : Sheet) (strokes strokes' : List ℕ) → Narrows r wanted s t strokes strokes' → row s r < 2 ^ choices → row t r < 2 ^ choices
narrowed_fits r wanted s t strokes strokes' n h =
    low_mask (row t r) (λ v l. grind (arith, n.here v, stands_high choices (row s r) v h l))

-- and where it stays as it was, it was the mask already, if that has no other choices
narrowed_same : (r wanted : ℕ) (s t : Sheet) (strokes strokes' : List ℕ) → Narrows r wanted s t strokes strokes' → row s r < 2 ^ choices
    → ((v : ℕ) → stands wanted v ≡ true → stands (row s r) v ≡ true) → row s r ≡ row t r → row s r ≡ wanted
narrowed_same r wanted s t strokes strokes' n h within e = same_mask choices (row s r) wanted h (low_mask wanted low) both
  where
    low : (v : ℕ) → choices ≤ v → stands wanted v ≡ false
    low v l = grind (arith, stands_high choices (row s r) v h l, within v)

    both : (v : ℕ) → stands (row s r) v ≡ stands wanted v
    both v = grind (arith, n.here v, e, within v)

-- a narrowing that leaves something
pub narrowed_some : (r wanted : ℕ) (s t : Sheet) (strokes strokes' : List ℕ) → Narrows r wanted s t strokes strokes' → 0 < bit_and (row s r) wanted → 0 < row t r
narrowed_some r wanted s t strokes strokes' n some =
    let v = any_stands (bit_and (row s r) wanted) some in not_zero (row t r) v.0 (grind (arith, n.here v.0, stands_and (row s r) wanted v.0, v.1))

-- one chain after another
chain_more : (Rs : List Rule) (s t u : Sheet) → Chain Rs s t → Chain Rs t u → Chain Rs s u
chain_more Rs s t u first start = first
chain_more Rs s t u first (◌then◌ {t = v} rest strike) = ◌then◌ (chain_more Rs s t v first rest) strike

module _ (Rs : List Rule) where
  pub strikes_none : (s : Sheet) (strokes : List ℕ) → Strikes Rs s s strokes strokes
  strikes_none s strokes = record { chain = start; struck = []; recorded = sym (append-nil strokes); each = each_once_none s; undone = refl }

  pub strikes_more : (s t u : Sheet) (a b c : List ℕ) → Strikes Rs s t a b → Strikes Rs t u b c → Strikes Rs s u a c
  strikes_more s t u a b c x y = record {
    chain = chain_more Rs s t u x.chain y.chain;
    struck = x.struck ++ y.struck;
    recorded = y.recorded ∙ ap (λ l. l ++ y.struck) x.recorded ∙ append_assoc a x.struck y.struck;
    each = each_once_more s t u x.struck y.struck (chain_under Rs s t x.chain) (chain_under Rs t u y.chain) x.each y.each;
    undone = restored_append u x.struck y.struck ∙ ap (λ l. restored l x.struck) y.undone ∙ x.undone;
  }

  pub strikes_falls : (s t : Sheet) (a b : List ℕ) → Strikes Rs s t a b → standing t ≤ standing s
  strikes_falls s t a b x = standing_under t s (chain_under Rs s t x.chain)

-- while the rule k is revised
module _ (Rs : List Rule) (k : ℕ) where
  -- nothing is done
  pub advance_none : (x : State) → Advance Rs k x x
  advance_none x = record {
    strikes = strikes_none Rs x.rows x.strokes;
    quiet = λ j ne off. (off, λ p h. refl);
    listed = λ j on. inl on;
    fewer = inr (λ j. refl);
  }

  -- one thing after another
  pub advance_more : (x y z : State) → Advance Rs k x y → Advance Rs k y z → Advance Rs k x z
  advance_more x y z a b = record {
    strikes = strikes_more Rs x.rows y.rows z.rows x.strokes y.strokes z.strokes a.strikes b.strikes;
    quiet = λ j ne off. let later = b.quiet j ne off in let early = a.quiet j ne later.0 in (early.0, λ p h. later.1 p h ∙ early.1 p h);
    listed = λ j on. ⊎_elim (a.listed j) inr (b.listed j on);
    fewer = ⊎_elim (λ less. inl (omega (arith, strikes_falls Rs y.rows z.rows y.strokes z.strokes b.strikes)))
        (λ same. ⊎_elim (λ less. inl (omega (arith, strikes_falls Rs x.rows y.rows x.strokes y.strokes a.strikes))) (λ same'. inr (λ j. same' j ∙ same j)) b.fewer) a.fewer;
  }

  -- the rules but k that name a row wait, and only that row changes
  module _ (r : ℕ) (waits waits' : Numbers) (woken : Woken Rs k r waits waits') where
    woken_quiet : (j : ℕ) → (j ≡ k → ⊥) → waits' j ≡ false → (waits j ≡ false) × (among r (rule_at Rs j).names ≡ false)
    woken_quiet j ne off =
        (grind (arith, woken j, off), grind (arith, woken j, off, ne_eqb j k ne))

    woken_listed : (j : ℕ) → waits' j ≡ true → (waits j ≡ true) ⊎ (j < length Rs)
    woken_listed j on = ⊎_elim inr (λ h. inl (grind (arith, woken j, on, none_named Rs k r j h))) (cases_lt j (length Rs))

  -- a row that is as it should be
  advance_left : (r wanted : ℕ) (x y : State) → LeftAs r wanted x y → Advance Rs k x y
  advance_left r wanted x y left =
      subst (λ s. Advance Rs k x (record y { rows = s })) (sym left.rows) (subst (λ a. Advance Rs k x (record y { rows = x.rows; strokes = a })) (sym left.recorded) (record {
        strikes = strikes_none Rs x.rows x.strokes;
        quiet = λ j ne off. (sym (left.waiting j) ∙ off, λ p h. refl);
        listed = λ j on. inl (sym (left.waiting j) ∙ on);
        fewer = inr left.waiting;
      }))

  -- the row at a place of a rule is narrowed to the choices with support there
  module _ (listed : k < length Rs) (seen : Sheet) (p wanted : ℕ) (placed : p < arity (rule_at Rs k))
      (shown : (v : ℕ) → Decides (stands wanted v) (SupportAt seen (rule_at Rs k) p v)) where
    abbrev at : ℕ
    at = named (rule_at Rs k) p

    advance_narrowed : (x y : State) → NarrowedTo Rs k at wanted x y → at < length x.rows → Under x.rows seen → 0 < bit_and (row x.rows at) wanted
        → ((v : ℕ) → stands wanted v ≡ true → stands (row x.rows at) v ≡ true) → Advance Rs k x y
    advance_narrowed x y to inside below some within =
        let n = to.narrows in
        let kept = narrowed_fits at wanted x.rows y.rows x.strokes y.strokes n to.fits in
        let cut = cuts_from seen (rule_at Rs k) p wanted x.rows y.rows x.strokes y.strokes placed shown n in
        let left = narrowed_some at wanted x.rows y.rows x.strokes y.strokes n some in
        let differs : row x.rows at ≡ row y.rows at → ⊥ = λ e. to.differs (narrowed_same at wanted x.rows y.rows x.strokes y.strokes n to.fits within e) in
        record {
          strikes = record {
            chain = chain_cut Rs k listed seen p y.rows kept left x.rows x.rows cut below inside to.fits start;
            struck = strokes_of at (row x.rows at) (row y.rows at);
            recorded = n.recorded;
            each = each_once_row at x.rows y.rows n.elsewhere;
            undone = n.undone;
          };
          quiet = λ j ne off. let q = woken_quiet at x.waits y.waits to.waiting j ne off in (q.0, λ i h. n.elsewhere.other (named (rule_at Rs j) i) (met j i h q.1));
          listed = woken_listed at x.waits y.waits to.waiting;
          fewer = inl (standing_falls at x.rows y.rows inside n.elsewhere cut.part to.fits kept differs);
        }
      where
        met : (j i : ℕ) → i < arity (rule_at Rs j) → among at (rule_at Rs j).names ≡ false → named (rule_at Rs j) i ≡ at → ⊥
        met j i h out e = grind (arith, out, e, among_get_or (rule_at Rs j).names i h)

-- what is kept while a rule that has a live tuple is revised place by place: x was seen first, and y has come of it
pub record Bringing (Rs : List Rule) (k : ℕ) (masks : List ℕ) (i : ℕ) (x y : State) : Type 0 where
  pub shows : Shows x.rows (rule_at Rs k) (replicate (arity (rule_at Rs k)) 0) masks
  pub some : 0 < get_or masks 0 0
  pub revising : Revising x.rows (rule_at Rs k) masks i y.rows
  pub advance : Advance Rs k x y

pub bringing_none : (Rs : List Rule) (k : ℕ) (before masks : List ℕ) (n : ℕ) (x : State) → Shows x.rows (rule_at Rs k) before masks → n ≡ arity (rule_at Rs k) → 0 < n → n ≤ length masks
    → 0 < get_or masks 0 0 → Bringing Rs k (take n masks) 0 x x
bringing_none Rs k before masks n x shows whole any enough some =
    let first = shows_first x.rows (rule_at Rs k) before masks n shows whole enough in
    record {
      shows = first;
      some = omega (arith, some, get_or-take n masks 0 0 any);
      revising = revising_none x.rows (rule_at Rs k) _ (take n masks) first;
      advance = advance_none Rs k x;
    }

-- each mask is of a place
pub bringing_placed : (Rs : List Rule) (k : ℕ) (masks : List ℕ) (i : ℕ) (x y : State) → Bringing Rs k masks i x y → length masks ≡ arity (rule_at Rs k)
bringing_placed Rs k masks i x y b = b.shows.long ∙ length-replicate (arity (rule_at Rs k)) 0

-- all places
pub bringing_all : (Rs : List Rule) (k : ℕ) (masks : List ℕ) (i : ℕ) (x y : State) → length masks ≡ i → Bringing Rs k masks i x y
    → Advance Rs k x y × SupportedBy y.rows (rule_at Rs k)
bringing_all Rs k masks i x y all b =
    let whole : i ≡ arity (rule_at Rs k) = sym all ∙ bringing_placed Rs k masks i x y b in
    (b.advance, revising_all x.rows (rule_at Rs k) _ masks b.shows y.rows (subst (λ j. Revising x.rows (rule_at Rs k) masks j y.rows) whole b.revising))

-- the row at a place of a rule of a bank
module _ (wide : ℕ) (Rs : List Rule) (lawful : Lawful wide Rs) (k : ℕ) (listed : k < length Rs) (masks : List ℕ) (i r : ℕ)
    (placed : i < arity (rule_at Rs k)) (here : r ≡ named (rule_at Rs k) i) (x y : State) (enough : wide ≤ length x.rows) (b : Bringing Rs k masks i x y) where
  abbrev R : Rule
  R = rule_at Rs k

  -- it is one of the rows, and some choice of it is left
  pub bringing_ready : (r < length y.rows) × (0 < bit_and (row y.rows r) (get_or masks i 0))
  bringing_ready = (
    omega (arith, here, b.revising.below.same, (rule_named wide Rs k lawful listed).within i placed),
    subst (λ q. 0 < bit_and (row y.rows q) (get_or masks i 0)) (sym here) (some_left x.rows R _ masks b.shows i y.rows placed b.some b.revising),
  )

  -- brought to its mask, it is done
  pub bringing_more : (z : State) → Brought Rs k r (get_or masks i 0) y z → Bringing Rs k masks (i + 1) x z
  bringing_more z = subst (λ q. Brought Rs k q m y z → Bringing Rs k masks (i + 1) x z) (sym here) (⊎_elim left narrowed)
    where
      m : ℕ
      m = get_or masks i 0

      next : Revising x.rows R masks (i + 1) z.rows → Advance Rs k y z → Bringing Rs k masks (i + 1) x z
      next revising advance = record { shows = b.shows; some = b.some; revising = revising; advance = advance_more Rs k x y z b.advance advance }

      left : LeftAs (named R i) m y z → Bringing Rs k masks (i + 1) x z
      left stays =
          next (subst (Revising x.rows R masks (i + 1)) (sym stays.rows) (revising_same x.rows R _ masks b.shows i y.rows stays.is b.revising))
          (advance_left Rs k (named R i) m y z stays)

      narrowed : NarrowedTo Rs k (named R i) m y z → Bringing Rs k masks (i + 1) x z
      narrowed to =
          next (revising_narrowed x.rows R _ masks b.shows i y.rows z.rows y.strokes z.strokes (rule_named wide Rs k lawful listed).distinct placed to.narrows b.revising)
          (advance_narrowed Rs k listed x.rows i m placed (λ v. b.shows.exact i v placed) y z to
          (omega (arith, here, bringing_ready.0)) b.revising.below (subst (λ q. 0 < bit_and (row y.rows q) m) here bringing_ready.1)
          (shown_part x.rows R _ masks b.shows i y.rows placed b.revising))
