-- The lines of a list of bytes, taken from its front one after another.
use Rattle.std.proofs.Common.{◌≡◌, ℕ, ◌<◌, List, [], ◌∷◌, ◌++◌, length, replicate, sym, ap, ◌∙◌, subst, append_assoc, append-nil, arith}
use Rattle.tables.specs.Checks.{TableBytes}
use Rattle.tables.specs.Lines.{Lives, Found, Added}
use Rattle.tables.proofs.Bytes.{front_fine, rest_fine}
use Rattle.tables.proofs.Cutting.{all_lines, no_line, first_line}
use Rattle.tables.proofs.Finding.{found_none, found_skipped, found_added, found_full}

module _ (bytes masks : List ℕ) where
  -- the lines so far and those of the bytes that are left are all of them, and what is found is what the lines so far give
  pub record Scanning (size : ℕ) (rest found : List ℕ) : Type 0 where
    pub some : 0 < length masks
    pub wide : size ≡ length masks
    pub fine : TableBytes rest
    pub done : List (List ℕ)
    pub whole : all_lines (length masks) bytes ≡ done ++ all_lines (length masks) rest
    pub finds : Found done masks found

  pub scanning_none : (size : ℕ) (rest found : List ℕ) → 0 < length masks → TableBytes bytes → size ≡ length masks → rest ≡ bytes
      → found ≡ replicate (length masks) 0 → Scanning size rest found
  scanning_none size rest found pos fine e r z = record {
    some = pos;
    wide = e;
    fine = subst TableBytes (sym r) fine;
    done = [];
    whole = ap (all_lines (length masks)) (sym r);
    finds = subst (Found [] masks) (sym z) (found_none masks);
  }

  -- a line is taken from the front
  module _ (size : ℕ) (rest found line : List ℕ) (size' : ℕ) (after : List ℕ) (s : Scanning size rest found)
      (same : size' ≡ size) (taken : (rest ≡ line ++ after) × (length line ≡ size)) where
    pub line_long : length line ≡ length masks
    line_long = taken.1 ∙ s.wide

    apart : TableBytes (line ++ after)
    apart = subst TableBytes taken.0 s.fine

    pub line_fine : TableBytes line
    line_fine = front_fine line after apart

    -- whatever it adds
    onwards : (more : List ℕ) → Found (s.done ++ line ∷ []) masks more → Scanning size' after more
    onwards more finds = record {
      some = s.some;
      wide = same ∙ s.wide;
      fine = rest_fine line after apart;
      done = s.done ++ line ∷ [];
      whole = s.whole ∙ ap (λ ls. s.done ++ ls) (first_line (length masks) rest line after s.some taken.0 line_long)
          ∙ sym (append_assoc s.done (line ∷ []) (all_lines (length masks) after));
      finds = finds;
    }

    pub scanning_skipped : (Lives line masks → ⊥) → Scanning size' after found
    scanning_skipped dead = onwards found (found_skipped masks s.done line found s.finds dead)

    pub scanning_added : (more : List ℕ) → Lives line masks → Added line masks found more → Scanning size' after more
    scanning_added more lives a = onwards more (found_added masks s.done line found s.finds more lives a)

  pub scanning_all : (size : ℕ) (rest found : List ℕ) → length rest < size → Scanning size rest found → Found (all_lines (length masks) bytes) masks found
  scanning_all size rest found h s = subst (λ ls. Found ls masks found) (sym (s.whole ∙ last)) s.finds
    where
      last : s.done ++ all_lines (length masks) rest ≡ s.done
      last = ap (λ ls. s.done ++ ls) (no_line (length masks) rest (omega (arith, s.wide))) ∙ append-nil s.done

  pub scanning_full : (size : ℕ) (rest found : List ℕ) → found ≡ masks → Scanning size rest found → Found (all_lines (length masks) bytes) masks found
  scanning_full size rest found e s =
      subst (λ ls. Found ls masks found) (sym s.whole) (found_full masks s.done (all_lines (length masks) rest) found e s.finds)
