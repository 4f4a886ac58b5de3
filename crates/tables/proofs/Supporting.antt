-- The choices that the lines of a table give are those that have support: a live tuple is built from a line that lives by a choice at each
-- place, and a live tuple has a line that it matches.
use Rattle.std.proofs.Common.{◌≡◌, ℕ, zero, suc, ◌-◌, ◌<◌, ◌≤◌, true, List, [], ◌∷◌, ◌++◌, map, length, get_or, drop, Decides, sym, refl, ap, ◌∙◌, subst, ⊎_elim, arith}
use Rattle.std.specs.List.{Contains, HoldsAt}
use Rattle.std.proofs.lemmas.List.Elements.{Contains-get_or, at_from_Contains}
use Rattle.std.proofs.lemmas.List.{get_or-map, length-map, get_or_append_left, get_or-append_right, get_or-drop, length-append, length-drop}
use Rattle.std.proofs.lemmas.Bool.{and_parts, and_from, cases_eq, false≢true}
use Rattle.std.proofs.lemmas.Bool.Decides.{Decides-by_or, Decides-like}
use Rattle.rows.specs.Choices.{stands}
use Rattle.banks.specs.Calls.{Shows}
use Rattle.banks.specs.Rules.{Sheet, row, SupportAt}
use Rattle.tables.specs.Lines.{Fits, Given, Found}
use Rattle.tables.specs.Tables.{takes, matches, some_match, table_rule}

-- a line that a tuple matches
pub matches_long : (line t : List ℕ) → matches line t ≡ true → length line ≡ length t
matches_long [] [] e = refl
matches_long [] (v ∷ t) e = absurd (false≢true e)
matches_long (b ∷ line) [] e = absurd (false≢true e)
matches_long (b ∷ line) (v ∷ t) e = ap suc (matches_long line t (and_parts (takes b v) (matches line t) e).1)

pub matches_at : (line t : List ℕ) (p : ℕ) → matches line t ≡ true → p < length t → takes (get_or line p 0) (get_or t p 0) ≡ true
matches_at [] [] p e h = absurd (omega arith)
matches_at [] (v ∷ t) p e h = absurd (false≢true e)
matches_at (b ∷ line) [] p e h = absurd (false≢true e)
matches_at (b ∷ line) (v ∷ t) zero e h = (and_parts (takes b v) (matches line t) e).0
matches_at (b ∷ line) (v ∷ t) (suc p) e h = matches_at line t p (and_parts (takes b v) (matches line t) e).1 (omega arith)

pub matches_from : (line t : List ℕ) → length line ≡ length t → ((p : ℕ) → p < length t → takes (get_or line p 0) (get_or t p 0) ≡ true) → matches line t ≡ true
matches_from [] [] e each = refl
matches_from [] (v ∷ t) e each = absurd (omega arith)
matches_from (b ∷ line) [] e each = absurd (omega arith)
matches_from (b ∷ line) (v ∷ t) e each = and_from (takes b v) (matches line t) (each 0 (omega arith)) (matches_from line t (omega arith) (λ p h. each (suc p) (omega arith)))

-- that some line is matched
some_decides_match : (t : List ℕ) (lines : List (List ℕ))
    → Decides (some_match lines t) ((k : ℕ) × (k < length lines) × HoldsAt (λ line. matches line t ≡ true) lines k)
some_decides_match t lines =
    Decides-by_or (λ line. matches line t) (λ line. matches line t ≡ true) (λ ls. some_match ls t) (λ line. ((λ e. e), (λ e. e))) refl (λ _ _. refl) lines

pub some_matched : (lines : List (List ℕ)) (t line : List ℕ) → Contains lines line → matches line t ≡ true → some_match lines t ≡ true
some_matched lines t line h e =
    let at = at_from_Contains lines line h in (some_decides_match t lines).1 (at.0, at.1, λ d. subst (λ l. matches l t ≡ true) (sym (at.2 d)) e)

pub match_found : (lines : List (List ℕ)) (t : List ℕ) → some_match lines t ≡ true → (line : List ℕ) × Contains lines line × (matches line t ≡ true)
match_found lines t e =
    let k = (some_decides_match t lines).0 e in (get_or lines k.0 [], Contains-get_or lines k.0 [] k.1, k.2 [])

-- a tuple of one choice for each place
pub chosen : (n : ℕ) (P : ℕ → ℕ → Type 0) → ((p : ℕ) → p < n → (v : ℕ) × P p v)
    → (t : List ℕ) × (length t ≡ n) × ((p : ℕ) → p < n → P p (get_or t p 0))
chosen zero P each = ([], refl, λ p h. absurd (omega arith))
chosen (suc n) P each =
    let here = each 0 (omega arith) in
    let rest = chosen n (λ p. P (suc p)) (λ p h. each (suc p) (omega arith)) in
    (here.0 ∷ rest.0, ap suc rest.1, placed here.0 rest.0 here.1 rest.2)
  where
    placed : (v : ℕ) (t : List ℕ) → P 0 v → ((p : ℕ) → p < n → P (suc p) (get_or t p 0)) → (p : ℕ) → p < suc n → P p (get_or (v ∷ t) p 0)
    placed v t first later zero h = first
    placed v t first later (suc p) h = later p (omega arith)

-- the rule of some rows and lines, on a sheet
module _ (s : Sheet) (names : List ℕ) (lines : List (List ℕ)) where
  abbrev pub masks_of : List ℕ
  masks_of = map (row s) names

  mask_at : (p : ℕ) → p < length names → get_or masks_of p 0 ≡ row s (get_or names p 0)
  mask_at p h = get_or-map (row s) names p 0 0 h

  many : length masks_of ≡ length names
  many = length-map names (row s)

  pub support_from : (p v : ℕ) → p < length names → Given lines masks_of p v → SupportAt s (table_rule names lines) p v
  support_from p v h g = record {
    placed = h;
    tuple = tuple'.0;
    live = record { whole = tuple'.1; permitted = permitted'; standing = λ q k. subst (λ m. stands m (get_or tuple'.0 q 0) ≡ true) (mask_at q k) (tuple'.2 q k).0.0 };
    there = (tuple'.2 p h).1 refl;
  }
    where
      line : List ℕ
      line = g.0

      Chosen : ℕ → ℕ → Type 0
      Chosen q w = Fits (get_or line q 0) (get_or masks_of q 0) w × (q ≡ p → w ≡ v)

      each : (q : ℕ) → q < length names → (w : ℕ) × Chosen q w
      each q k =
          ⊎_elim (λ e. (v, (subst (λ x. Fits (get_or line x 0) (get_or masks_of x 0) v) (sym e) g.2.1, λ _. refl)))
          (λ ne. let w = g.2.0.each q (omega (arith, many)) in (w.0, (w.1, λ e. absurd (ne e))))
          (cases_eq q p)

      tuple' : (t : List ℕ) × (length t ≡ length names) × ((q : ℕ) → q < length names → Chosen q (get_or t q 0))
      tuple' = chosen (length names) Chosen each

      permitted' : some_match lines tuple'.0 ≡ true
      permitted' =
          some_matched lines tuple'.0 line g.1
          (matches_from line tuple'.0 (g.2.0.long ∙ many ∙ sym tuple'.1) (λ q k. (tuple'.2 q (omega (arith, tuple'.1))).0.1))

  pub given_from : (p v : ℕ) → SupportAt s (table_rule names lines) p v → Given lines masks_of p v
  given_from p v sup =
      let t = sup.tuple in
      let m = match_found lines t sup.live.permitted in
      let fit : (q : ℕ) → q < length names → Fits (get_or m.0 q 0) (get_or masks_of q 0) (get_or t q 0) =
      λ q k. (subst (λ x. stands x (get_or t q 0) ≡ true) (sym (mask_at q k)) (sup.live.standing q k), matches_at m.0 t q m.2 (omega (arith, sup.live.whole)))
      in (
        m.0,
        m.1,
        (
          record { long = matches_long m.0 t m.2 ∙ sup.live.whole ∙ sym many; each = λ q k. (get_or t q 0, fit q (omega (arith, many))) },
          subst (Fits (get_or m.0 p 0) (get_or masks_of p 0)) sup.there (fit p sup.placed),
        ),
      )

  -- so the masks found show the support of the rule
  pub lines_show : (before found : List ℕ) → length names ≤ length before → Found lines masks_of found
      → Shows s (table_rule names lines) before (found ++ drop (length names) before)
  lines_show before found h f = record {
    long = length-append found (drop (length names) before) ∙ omega (arith, f.long, many, length-drop (length names) before);
    exact = λ p v k. subst (λ m. Decides (stands m v) (SupportAt s (table_rule names lines) p v)) (sym (front p k))
        (Decides-like (stands (get_or found p 0) v) (support_from p v k) (given_from p v) (f.exact p v (omega (arith, many))));
    beyond = λ p k. get_or-append_right found (drop (length names) before) (length names) p 0 (f.long ∙ many) k
        ∙ get_or-drop (length names) before (p - length names) 0 ∙ ap (λ i. get_or before i 0) (omega arith);
  }
    where
      front : (p : ℕ) → p < length names → get_or (found ++ drop (length names) before) p 0 ≡ get_or found p 0
      front p k = get_or_append_left found (drop (length names) before) 0 p (omega (arith, f.long, many))
