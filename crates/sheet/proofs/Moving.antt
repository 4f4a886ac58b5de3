-- Each call moves the state as written out for it.
use Rattle.std.proofs.Common.{◌≡◌, ℕ, ◌+◌, ◌<◌, ◌≤◌, true, not, leb, List, [], ◌∷◌, ◌++◌, map, length, take, drop, Some, None, sym, refl, ap, ◌∙◌, add-one, arith}
use Rattle.std.proofs.lemmas.List.{map-append, drop_all, length-map}
use Rattle.rows.specs.Refusals.{plain, fits, first}
use Rattle.rows.proofs.Refusing.{first_none, not_le_from}
use Rattle.banks.specs.Rules.{Sheet, row}
use Rattle.trail.specs.Strokes.{restored}
use Rattle.trail.specs.Trails.{SomeStand}
use Rattle.trail.specs.Stacks.{held}
use Rattle.trail.specs.declared.stack.Stack.{Stack}
use Rattle.trail.proofs.Members.{member_not_zero}
use Rattle.trail.proofs.Stacked.{held_long}
use Rattle.histories.specs.States.{Fresh, is_open}
use Rattle.histories.specs.Moves.{mark, back, keep, done, gave, why, not_open, gives_mark, goes_back, keeps_rows, Moves, accepts}
use Rattle.sheet.specs.Closing.{NoneOf, Splits}
use Rattle.sheet.specs.Sheets.{opened_as, state, heights_rise, new_state}
use Rattle.sheet.specs.declared.mark.OpenMark.{OpenMark}
use Rattle.sheet.proofs.Closing.{none_open, some_open}
use Rattle.sheet.proofs.Heights.{heights_closed, stored_cut}

module _ (s : Sheet) (xs : List ℕ) (given room : ℕ) where
  -- no mark of the serial is open
  pub not_open_fits : (k : ℕ) (ms : List OpenMark) → NoneOf k ms → first (not_open (map (opened_as s xs) ms) k ∷ []) ≡ Some (plain 9)
  not_open_fits k ms none = ap (λ b. first (fits (not b) (plain 9) ∷ [])) (none_open s xs k ms none)

  open_fits_not : (k : ℕ) (ms front : List OpenMark) (m : OpenMark) → Splits k ms front m → first (not_open (map (opened_as s xs) ms) k ∷ []) ≡ None
  open_fits_not k ms front m split =
      ap (λ b. first (fits (not b) (plain 9) ∷ [])) (ap (λ l. is_open k (map (opened_as s xs) l)) split.whole ∙ some_open s xs k front split.later m split.serial)

  parted : (k : ℕ) (ms front : List OpenMark) (m : OpenMark) (split : Splits k ms front m)
      → map (opened_as s xs) ms ≡ map (opened_as s xs) front ++ opened_as s xs m ∷ map (opened_as s xs) split.later
  parted k ms front m split = ap (map (opened_as s xs)) split.whole ∙ map-append (opened_as s xs) front (m ∷ split.later)

  pub keep_moves : (k : ℕ) (ms front : List OpenMark) (m : OpenMark) → Splits k ms front m
      → Moves (keep k) done (state s xs ms given room) (state s xs front given room)
  keep_moves k ms front m split = accepts (open_fits_not k ms front m split) (keeps_rows (record {
    to = opened_as s xs m;
    closes = record { later = map (opened_as s xs) split.later; serial = split.serial; opened = parted k ms front m split; given = refl; room = refl };
    rows = refl;
    strokes = refl;
  }))

  pub back_moves : (k : ℕ) (ms front : List OpenMark) (m : OpenMark) (s' : Sheet) (xs' : List ℕ) → Splits k ms front m → heights_rise 0 ms (length xs) ≡ true
      → s' ≡ restored s (drop m.height xs) → xs' ≡ take m.height xs → Moves (back k) done (state s xs ms given room) (state s' xs' front given room)
  back_moves k ms front m s' xs' split rise e f = accepts (open_fits_not k ms front m split) (goes_back (record {
    to = opened_as s xs m;
    closes = record {
      later = map (opened_as s xs) split.later;
      serial = split.serial;
      opened = parted k ms front m split ∙ ap (λ l. l ++ opened_as s xs m ∷ map (opened_as s xs) split.later) (sym stored);
      given = refl;
      room = refl;
    };
    rows = e;
    strokes = f;
  }))
    where
      stored : map (opened_as s' xs') front ≡ map (opened_as s xs) front
      stored =
          let p = heights_closed k (length xs) ms front m rise split in
          ap (λ l. map (opened_as s' l) front) f ∙ stored_cut s s' xs 0 m.height front p.1 e p.0

  pub mark_moves : (ms ms' : List OpenMark) (given' : ℕ) → why mark (state s xs ms given room) ≡ None → ms' ≡ ms ++ record { serial = given; height = length xs } ∷ []
      → given' ≡ given + 1 → Moves mark (gave given) (state s xs ms given room) (state s xs ms' given' room)
  mark_moves ms ms' given' w e n = accepts w (gives_mark (record {
    serial = refl;
    rows = refl;
    opened = ap (map (opened_as s xs)) e ∙ map-append (opened_as s xs) ms (record { serial = given; height = length xs } ∷ []) ∙ ap (λ t. map (opened_as s xs) ms ++ record { serial = given; rows = t; height = length xs } ∷ []) (ap (restored s) (drop_all (length xs) xs (omega arith)));
    given = n ∙ add-one given;
    room = refl;
    strokes = refl;
  }))

  -- where a mark is not refused, its memory has a free entry
  pub mark_room : (marks : Stack OpenMark) → room ≤ length marks.slots.now → why mark (state s xs (held marks) given room) ≡ None → marks.top < length marks.slots.now
  mark_room marks within w =
      let past = first_none (fits (leb room (length (map (opened_as s xs) (held marks)))) (plain 7)) _ w in
      omega (arith, not_le_from room (length (map (opened_as s xs) (held marks))) (plain 7) past.0, length-map (held marks) (opened_as s xs), held_long marks)

-- a sheet just made
pub new_fresh : (s : Sheet) (entries : ℕ) → SomeStand s → Fresh (new_state s entries)
new_fresh s entries some = record { rows = λ r h. member_not_zero (row s r) (some r h); opened = refl; given = refl; strokes = refl }
